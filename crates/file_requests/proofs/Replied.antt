-- Lines that tell of no node and of no message, one after another.
use Rattle.std.proofs.Common.{List, [], ◌∷◌, ◌++◌}
use Rattle.std.specs.List.{AllByRecursion}
use Rattle.emitter_model.specs.Emitting.{Shown, Emits, Since}
use Rattle.emitter_model.proofs.EmittingLemmas.{emits_on, since_puts}
use Rattle.emitter_model.specs.transcript_model.Lines.{Line}
use Rattle.file_requests.specs.Replying.{IsPlain, IsQuiet, Replies, ShowsQuietly}

pub since_emits : (a b : Shown) (lines : List Line) → Emits a lines b → Since a b
since_emits a b lines m = since_puts a b _ m.puts

pub quiet_none : (a b : Shown) → Emits a [] b → ShowsQuietly a b
quiet_none a b m = record { lines = []; shows = m; quiet = tt }

all_behind : (P : Line → Type 0) (ls ks : List Line) → AllByRecursion P ls → AllByRecursion P ks → AllByRecursion P (ls ++ ks)
all_behind P [] ks h k = k
all_behind P (l ∷ ls) ks h k = (h.0, all_behind P ls ks h.1 k)

pub quiet_on : (a b c : Shown) → ShowsQuietly a b → ShowsQuietly b c → ShowsQuietly a c
quiet_on a b c f g = record { lines = f.lines ++ g.lines; shows = emits_on a b c _ _ f.shows g.shows; quiet = all_behind IsQuiet f.lines g.lines f.quiet g.quiet }

-- one more
pub quiet_more : (a b c : Shown) (l : Line) → ShowsQuietly a b → Emits b (l ∷ []) c → IsQuiet l → ShowsQuietly a c
quiet_more a b c l s m e = quiet_on a b c s (record { lines = l ∷ []; shows = m; quiet = (e, tt) })

-- an answer behind them
pub replies_after : (a b c : Shown) (l : Line) → ShowsQuietly a b → Emits b (l ∷ []) c → IsPlain l → Replies a c
replies_after a b c l s m plain = record { lines = s.lines; answer = l; shows = emits_on a b c _ _ s.shows m; quiet = s.quiet; plain = plain }

pub replies_one : (a b : Shown) (l : Line) → Emits a (l ∷ []) b → IsPlain l → Replies a b
replies_one a b l m plain = record { lines = []; answer = l; shows = m; quiet = tt; plain = plain }
