-- Steps of a run of which each statement is whole.
use Rattle.std.proofs.Common.{◌≡◌, refl, List, ◌∷◌, ℕ, true}
use Rattle.run_model.specs.transcript_model.Lines.{Line}
use Rattle.run_model.specs.transcript_model.Script.{ScriptLine}
use Rattle.run_model.specs.script_model.Statements.{Statement, Says}
use Rattle.run_model.specs.script_model.Grammar.{reading}
use Rattle.run_model.specs.World.{World}
use Rattle.run_model.specs.Transcript.{Entry}
use Rattle.reference_law.specs.Whole.{run_from, entry, is_in_limits, shown_whole}

-- a statement that shows these lines and leads to this world
pub says : (w : World) (es : List Entry) (source : ScriptLine) (more : List ScriptLine) (s : Statement) (lines : List Line) (new : World) →
    is_in_limits es source ≡ true → reading source.text ≡ Says s → shown_whole w s ≡ record { lines = lines; world = new } →
    run_from w es (source ∷ more) ≡ run_from new (entry source lines ∷ es) more
says w es source more s lines new limits reads is = rw (limits, reads, is) refl

-- one more line with a line feed, and what it shows
abbrev pub told : List ℕ → List Line → List Entry → List Entry
told text lines es = entry (record { text = text; ended = true }) lines ∷ es
