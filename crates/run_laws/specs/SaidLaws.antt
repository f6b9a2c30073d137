-- What the lines of a run say of its refusals is so.
use Rattle.std.specs.Prelude.{◌≡◌, List, [], ◌∷◌, ◌++◌, true, Some, map}
use Rattle.run_said.specs.transcript_model.Lines.{Line}
use Rattle.run_said.specs.script_model.Statements.{Statement, Says}
use Rattle.run_said.specs.script_model.Grammar.{reading}
use Rattle.run_said.specs.run_model.World.{World, Node, DiskCounts, opened}
use Rattle.run_said.specs.run_model.Transcript.{Entry, Legal, AreOpening}
use Rattle.run_said.specs.Said.{is_by_lines, refused_by_said, said_of}

-- an entry of a transcript, between those after it and those before it, said this statement, and these lines were shown, the last of which is its answer
pub record SaidThere (es : List Entry) (before : List Entry) (s : Statement) (events : List Line) (answer : Line) : Type 0 where
  pub after : List Entry
  pub entry : Entry
  pub stands : es ≡ after ++ entry ∷ before
  pub said : reading entry.source.text ≡ Says s
  pub shown : entry.lines ≡ events ++ answer ∷ []

-- Some refusals follow from the lines before the statement alone. One whose answer is such a refusal was refused so by what these lines said; and where they
-- said that it is refused, it was refused so, and showed nothing besides.
abbrev pub SaidIsSo : Type 0
SaidIsSo = (nodes : List Node) (disks : List DiskCounts) (es : List Entry) (closing : World) → AreOpening nodes → Legal (opened nodes disks) es closing →
    (before : List Entry) (s : Statement) (events : List Line) (answer : Line) → SaidThere es before s events answer →
    (is_by_lines s answer ≡ true → refused_by_said (said_of (map (λ n. n.name) nodes) before) s ≡ Some answer)
    × ((refusal : Line) → refused_by_said (said_of (map (λ n. n.name) nodes) before) s ≡ Some refusal → (events ≡ []) × (answer ≡ refusal) × (is_by_lines s refusal ≡ true))
