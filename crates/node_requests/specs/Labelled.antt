-- What a label names at a node.
use Rattle.std.specs.Prelude.{◌≡◌, ℕ, List, Option, Some, None}
use Rattle.std.specs.Option.{option_and_then}
use Rattle.emitter_model.specs.commit_protocol.Table.{Branch, find_serial}
use Rattle.emitter_model.specs.transcript_model.Lines as line
use Rattle.emitter_model.specs.transcript_model.Lines.{Line}
use Rattle.vms_model.specs.Ids.{Id}
use Rattle.world_laws.specs.run_model.Answers.{unsettled}
use Rattle.world_laws.specs.run_model.Operations.{first_of}
use Rattle.world_laws.specs.run_model.World.{Label, labelled, serial_labelled}

-- the branch of a serial, where there is one
abbrev pub branch_at : Option Id → List Branch → Option Branch
branch_at serial bs = option_and_then (λ s. find_serial s bs) serial

-- the branch that a label names at the node of a name, which has these branches
abbrev pub branch_in : (node label : List ℕ) → List Label → List Branch → Option Branch
branch_in node label ls bs = branch_at (serial_labelled node label ls) bs

-- what refuses a statement that asks for a label of this node, and for a branch that it names
abbrev pub made_in : (node label : List ℕ) → List Label → Option Line
made_in node label ls = elim (labelled node label ls) [ Some l ↦ None | None ↦ Some line.BadLabel ]

abbrev pub unsettled_in : (node label : List ℕ) → List Label → List Branch → Option Line
unsettled_in node label ls bs = first_of (made_in node label ls) (unsettled (branch_in node label ls bs))
