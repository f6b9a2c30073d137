-- What lines say of all nodes that tell of one node alone.
use Rattle.std.specs.Prelude.{◌≡◌, ℕ, List, [], ◌∷◌, ◌++◌, Some}
use Rattle.std.specs.List.{AllByRecursion}
use Rattle.run_said.specs.transcript_model.Lines as line
use Rattle.run_said.specs.transcript_model.Lines.{Line}
use Rattle.run_said.specs.script_model.Statements.{At, Request, Says}
use Rattle.run_said.specs.Said.{Said, SaidNode, SaidShared, lines_said, line_said, node_in, request_said, said_here, with_said}

-- a line that tells of a node tells of this one
abbrev pub IsOwn : List ℕ → Line → Type 0
IsOwn name (line.Down node cause) = node ≡ name
IsOwn name (line.Crashed node) = node ≡ name
IsOwn name (line.Booted node boot) = node ≡ name
IsOwn name l = Unit {0}

-- what was said where there is one node alone, and what was said of all where one of them is this
abbrev pub alone : SaidNode → SaidShared → Said
alone n s = record { nodes = n ∷ []; shared = s }

abbrev pub among : List ℕ → List SaidNode → SaidNode → SaidShared → Said
among name ns m s = record { nodes = with_said name (λ k. m) ns; shared = s }

-- Lines that tell of the node of this name alone say of it among all what they say of it alone, and leave the others;
abbrev pub OwnLinesSay : Type 0
OwnLinesSay = (name : List ℕ) (ns : List SaidNode) (lines : List Line) (n m : SaidNode) (s t : SaidShared) → AllByRecursion (IsOwn name) lines → node_in name ns ≡ Some n →
    lines_said lines (alone n s) ≡ alone m t → lines_said lines (record { nodes = ns; shared = s }) ≡ among name ns m t

-- and so does a request with its answer.
abbrev pub OwnRequestsSay : Type 0
OwnRequestsSay = (name : List ℕ) (request : Request) (answer : Line) (ns : List SaidNode) (lines : List Line) (n m : SaidNode) (s t : SaidShared) → AllByRecursion (IsOwn name) lines → node_in name ns ≡ Some n →
    ((said : Said) → line_said answer said ≡ said) → request_said name request answer (lines_said lines (alone n s)) ≡ alone m t → said_here (Says (At name request)) (lines ++ answer ∷ []) (record { nodes = ns; shared = s }) ≡ among name ns m t
