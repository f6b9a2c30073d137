-- What a day tells of the disks, line after line, whatever they have.
use Rattle.std.proofs.Common.{◌≡◌, ◌≤◌, ℕ, List, [], ◌∷◌, ◌++◌, true, false, Some, refl, sym, ◌∙◌, ap, subst}
use Rattle.block_disk.specs.Disk.{DiskState}
use Rattle.emitter_model.specs.transcript_model.Lines.{Line}
use Rattle.emitter_model.specs.Emitting.{Shown}
use Rattle.emitter_model.specs.Tally.{Tally, tallied_by}
use Rattle.script_lang.specs.script_model.Statements.{Says, Statement}
use Rattle.script_lang.specs.script_model.Grammar.{reading}
use Rattle.run_laws.specs.run_said.Said.{Said, nothing_said, said_here, said_of}
use Rattle.world_laws.specs.run_model.Transcript.{Entry}
use Rattle.run_shared.specs.Sharing.{SharedState}
use Rattle.run_nodes.specs.node_standing.Standing.{NodeState}
use Rattle.run_nodes.specs.Calls.{DisksFollowLine, LineFollows}
use Rattle.day_run.specs.Tells.{EntriesTell}
use Rattle.run_nodes.specs.Together.{AnswersTogether, disks_of, said_together}
use Rattle.day_model.specs.Pieces.{Piece, day, words_of, written}
use Rattle.day_model.specs.Days.{DayReached, counted, stops, tally_of}
use Rattle.day_run.specs.Serving.{AreLarge, DayTells}
use Rattle.day_tally.specs.declared.counts.Ended.TheVariants as ended
use Rattle.day_run.proofs.Going.{counted_on, goes_on, stops_here, tally_on}

pub record Telling (names : List (List ℕ)) (before : List DiskState) (count start : ℕ) (left : List Piece) (t : Tally) (counts : List ℕ) (ds : List DiskState) (said : Said) : Type 0 where
  pub entries : List Entry
  pub tell : EntriesTell names before entries ds
  pub says : said ≡ said_of names entries
  pub tallied : t ≡ tally_of entries
  pub goes : DayReached (day count start) entries left counts

pub telling_first : (names : List (List ℕ)) (before : List DiskState) (count start : ℕ) (left : List Piece) (t : Tally) (counts : List ℕ) (said : Said) → left ≡ day count start → t ≡ tally_of [] → counts ≡ [] → said ≡ nothing_said names → Telling names before count start left t counts before said
telling_first names before count start left t counts said all none empty unsaid = record { entries = []; tell = refl; says = unsaid; tallied = none; goes = (all, empty) }

module _ (names : List (List ℕ)) (before : List DiskState) (count start : ℕ) (p : Piece) (left : List Piece) (t u : Tally) (counts : List ℕ) (ks ls : List NodeState) (s after : SharedState) (g : Telling names before count start (p ∷ left) t counts (disks_of ks) (said_together ks s))
    (statement : Statement) (says : reading (words_of t.sent p) ≡ Says statement) (a b : Shown) (at : a.tally ≡ Some t) (bt : b.tally ≡ Some u) (h : AnswersTogether names statement a b ks s ls after) where
  abbrev entry : Entry
  entry = record { source = written t.sent p; lines = h.lines }

  count_is : u ≡ tallied_by entry.lines t
  count_is = tally_on a b h.lines t u h.emits at bt

  told : EntriesTell names before (entry ∷ g.entries) (disks_of ls)
  told = (
    disks_of ks,
    g.tell,
    subst (λ (z : Said). DisksFollowLine names z (reading (words_of t.sent p)) h.lines (disks_of ks) (disks_of ls)) g.says (subst (λ r. DisksFollowLine names (said_together ks s) r h.lines (disks_of ks) (disks_of ls)) (sym says) h.tells),
    subst (λ r. LineFollows (said_of names g.entries) r h.lines) (sym says) (subst (λ (z : Said). LineFollows z (Says statement) h.lines) g.says h.follows),
  )

  pub telling_stops : stops p u.last ≡ true → (more : List ℕ) → DayTells names before (disks_of ls) count start u ended.Stopped more
  telling_stops stop more = record {
    entries = entry ∷ g.entries;
    tell = told;
    counted = counted_on (day count start) left p g.entries counts t u g.goes g.tallied entry refl count_is;
    ends = stops_here (day count start) left p g.entries counts t u g.goes g.tallied entry refl count_is stop;
  }

  pub telling_on : stops p u.last ≡ false → (more : List ℕ) → more ≡ counts ++ counted p u.last → Telling names before count start left u more (disks_of ls) (said_together ls after)
  telling_on stop more is = record {
    entries = entry ∷ g.entries;
    tell = told;
    says = h.says ∙ ap (said_here (Says statement) h.lines) g.says ∙ sym (ap (λ r. said_here r h.lines (said_of names g.entries)) says);
    tallied = counted_on (day count start) left p g.entries counts t u g.goes g.tallied entry refl count_is;
    goes = goes_on (day count start) left p g.entries counts t u g.goes g.tallied entry refl count_is more stop is;
  }

pub telling_whole : (names : List (List ℕ)) (before after : List DiskState) (count start : ℕ) (left : List Piece) (t : Tally) (counts : List ℕ) (said : Said) → left ≡ [] → Telling names before count start left t counts after said → DayTells names before after count start t ended.Whole counts
telling_whole names before after count start left t counts said none g = record { entries = g.entries; tell = g.tell; counted = g.tallied; ends = subst (λ ps. DayReached (day count start) g.entries ps counts) none g.goes }

-- Disks that were large stay so.
pub large_on : (names : List (List ℕ)) (said : Said) (s : Statement) (olds news : List DiskState) (lines : List Line) → DisksFollowLine names said (Says s) lines olds news → AreLarge olds → AreLarge news
large_on [] said s [] [] lines h large = tt
large_on [] said s [] (new ∷ news) lines h large = absurd h
large_on [] said s (old ∷ olds) news lines h large = absurd h
large_on (name ∷ names) said s [] news lines h large = absurd h
large_on (name ∷ names) said s (old ∷ olds) [] lines h large = absurd h
large_on (name ∷ names) said s (old ∷ olds) (new ∷ news) lines h large = (subst (λ (size : ℕ). 4096 ≤ size) (sym h.0.passes.size) large.0, large_on names said s olds news lines h.1 large.1)
