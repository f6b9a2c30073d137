-- The lines of a script, one after another.
use Rattle.std.proofs.Common.{◌≡◌, ℕ, ◌+◌, ◌<◌, List, [], ◌∷◌, Bool, true, false, Some, None, Result, IfOk, sym, ◌∙◌, ap, arith, length, take, drop}
use Rattle.std.proofs.lemmas.Result.{IfOk-weaker}
use Rattle.world_laws.specs.transcript_model.Script.{ScriptLine, lines_of}
use Rattle.world_laws.specs.run_model.Transcript.{Entry, Done}
use Rattle.reference_run.specs.declared.script.Reading.{Reading}
use Rattle.reference_run.specs.declared.script.Ending.{Ending}
use Rattle.reference_run.specs.declared.script.Ending.TheVariants as ending
use Rattle.reference_run.specs.Served.{world_of}
use Rattle.reference_run.specs.Scripts.{Feeds, unended, Stands, GoesOn, RunsTo}
use Rattle.reference_law.specs.Whole.{run_from, entry}

abbrev line_with : List ℕ → Bool → ScriptLine
line_with text ended = record { text = text; ended = ended }

fed_is : (rest text : List ℕ) (n : ℕ) → Feeds rest (Some n) → text ≡ take n rest → line_with text true ∷ lines_of (drop (n + 1) rest) ≡ lines_of rest
fed_is rest text n feeds t = ap (λ x. line_with x true ∷ lines_of (drop (n + 1) rest)) t ∙ sym feeds.1

pub fed_on : {E : Type 0} (old mid new : Reading) (es : List Entry) (rest text behind : List ℕ) (n : ℕ) (r : Result Ending E) → Feeds rest (Some n) →
    ((more : List ScriptLine) → GoesOn old es (line_with text true) more mid) → ((fs : List Entry) → Stands mid fs → IfOk r (λ e. RunsTo mid fs (lines_of behind) e new)) →
    text ≡ take n rest → behind ≡ drop (n + 1) rest → IfOk r (λ e. RunsTo old es (lines_of rest) e new)
fed_on {E} old mid new es rest text behind n r feeds goes runs t b =
    let g = goes (lines_of (drop (n + 1) rest)) in
    IfOk-weaker r _ _ (λ e p. record {
      ended = p.ended ∙ ap (λ x. run_from (world_of mid.rack) (entry (line_with text true) g.lines ∷ es) (lines_of x)) b ∙ sym g.runs
          ∙ ap (run_from (world_of old.rack) es) (fed_is rest text n feeds t);
    }) (runs (entry (line_with text true) g.lines ∷ es) g.stands)

pub fed_end : (old new : Reading) (es : List Entry) (rest text : List ℕ) (n : ℕ) (e : Ending) → Feeds rest (Some n) →
    ((more : List ScriptLine) → RunsTo old es (line_with text true ∷ more) e new) → text ≡ take n rest → RunsTo old es (lines_of rest) e new
fed_end old new es rest text n e feeds runs t = let p = runs (lines_of (drop (n + 1) rest)) in
    record { ended = p.ended ∙ ap (run_from (world_of old.rack) es) (fed_is rest text n feeds t) }

unfed_is : (rest : List ℕ) → 0 < length rest → lines_of rest ≡ unended rest → line_with rest false ∷ [] ≡ lines_of rest
unfed_is [] some feeds = absurd (omega arith)
unfed_is (b ∷ rest) some feeds = sym feeds

pub unfed_on : (old new : Reading) (es : List Entry) (rest : List ℕ) → Feeds rest None → ((more : List ScriptLine) → GoesOn old es (line_with rest false) more new) → 0 < length rest →
    RunsTo old es (lines_of rest) ending.Done new
unfed_on old new es rest feeds goes some = let g = goes [] in
    record { ended = ap (λ x. record { exit = Done; text = x }) g.stands.text ∙ sym g.runs ∙ ap (run_from (world_of old.rack) es) (unfed_is rest some feeds) }

pub unfed_end : (old new : Reading) (es : List Entry) (rest : List ℕ) (e : Ending) → Feeds rest None → ((more : List ScriptLine) → RunsTo old es (line_with rest false ∷ more) e new) → 0 < length rest →
    RunsTo old es (lines_of rest) e new
unfed_end old new es rest e feeds runs some = let p = runs [] in record { ended = p.ended ∙ ap (run_from (world_of old.rack) es) (unfed_is rest some feeds) }
