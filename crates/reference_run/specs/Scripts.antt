-- What is kept of the lines of a script, and what a line does.
use Rattle.std.specs.Prelude.{◌≡◌, ℕ, ◌+◌, ◌<◌, List, [], ◌∷◌, Bool, true, false, Option, Some, None, length, take, drop}
use Rattle.world_laws.specs.transcript_model.Lines as model
use Rattle.world_laws.specs.transcript_model.Script.{ScriptLine, lines_of}
use Rattle.world_laws.specs.run_model.Transcript.{Entry, Exit, Done, BadLine, TooLong, number_after, size_before, text_of}
use Rattle.reference_run.specs.declared.script.Reading.{Reading}
use Rattle.reference_run.specs.declared.script.Ending.{Ending}
use Rattle.reference_run.specs.declared.script.Ending.TheVariants as ending
use Rattle.reference_run.specs.Served.{world_of}
use Rattle.reference_law.specs.Whole.{run_from, entry}

-- bytes without a line feed are one line, unless there are none
abbrev pub unended : List ℕ → List ScriptLine
unended [] = []
unended (b ∷ bytes) = record { text = b ∷ bytes; ended = false } ∷ []

-- the first line feed stands behind so many bytes, or there is none
abbrev pub Feeds : List ℕ → Option ℕ → Type 0
Feeds bytes None = lines_of bytes ≡ unended bytes
Feeds bytes (Some n) = (n < length bytes) × (lines_of bytes ≡ record { text = take n bytes; ended = true } ∷ lines_of (drop (n + 1) bytes))

-- what is kept of these lines
pub record Stands (r : Reading) (es : List Entry) : Type 0 where
  pub number : r.number ≡ number_after es
  pub size : r.size ≡ size_before es
  pub text : r.text.items ≡ text_of es

-- a line shows some lines and the script goes on behind it
pub record GoesOn (old : Reading) (es : List Entry) (source : ScriptLine) (more : List ScriptLine) (new : Reading) : Type 0 where
  pub lines : List model.Line
  pub stands : Stands new (entry source lines ∷ es)
  pub runs : run_from (world_of old.rack) es (source ∷ more) ≡ run_from (world_of new.rack) (entry source lines ∷ es) more

-- a line was served, and the script goes on behind it or ends with it
abbrev pub Turns : Reading → List Entry → ScriptLine → List ScriptLine → Bool → Reading → Type 0
Turns old es source more true new = GoesOn old es source more new
Turns old es source more false new = run_from (world_of old.rack) es (source ∷ more) ≡ record { exit = BadLine; text = new.text.items }

abbrev pub exit_of : Ending → Exit
exit_of ending.Done = Done
exit_of ending.BadLine = BadLine
exit_of ending.TooLong = TooLong

-- these lines of a script led to this end
pub record RunsTo (old : Reading) (es : List Entry) (lines : List ScriptLine) (ending : Ending) (new : Reading) : Type 0 where
  pub ended : record { exit = exit_of ending; text = new.text.items } ≡ run_from (world_of old.rack) es lines

-- a line that may be past the limits was served, and the script goes on behind it or ends with it
abbrev pub Steps : Reading → List Entry → ScriptLine → List ScriptLine → Option Ending → Reading → Type 0
Steps old es source more None new = GoesOn old es source more new
Steps old es source more (Some e) new = RunsTo old es (source ∷ more) e new
