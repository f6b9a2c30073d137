-- What the lines of a run tell of labels: the transaction and the branch that each names; and which ids were drawn.
use Rattle.std.specs.Prelude.{◌≡◌, ℕ, List, [], ◌∷◌, ◌++◌, Option, Some, None, if◌then◌else◌}
use Rattle.std.specs.List.{last_or}
use Rattle.std.specs.Str.{bytes_eq}
use Rattle.vms_model.specs.Ids.{Id}
use Rattle.run_said.specs.transcript_model.Lines as line
use Rattle.run_said.specs.transcript_model.Lines.{Line}
use Rattle.run_said.specs.script_model.Statements.{At, StartTrans, AddBranch, StartBranch, Direct, Reading, Says}
use Rattle.run_said.specs.script_model.Grammar.{reading}
use Rattle.commit_protocol.specs.World.{In}
use Rattle.run_said.specs.run_model.Transcript.{Entry}

-- Labels.

-- a label that was made: the node that it was made for, its transaction, and the branch that it names, once there is one
pub record ToldLabel : Type 0 where
  pub name : List ℕ
  pub node : List ℕ
  pub tid : Id
  pub serial : Option Id

-- the label of this name, where there is one
abbrev pub find_told : List ℕ → List ToldLabel → Option ToldLabel
find_told name [] = None
find_told name (l ∷ ls) = if bytes_eq name l.name then Some l else find_told name ls

-- the labels, of which the one of this name names this branch from now on
abbrev pub numbered : List ℕ → Id → List ToldLabel → List ToldLabel
numbered name serial [] = []
numbered name serial (l ∷ ls) = if bytes_eq name l.name then record l { serial = Some serial } ∷ ls else l ∷ numbered name serial ls

-- What an answer tells: START_TRANS makes a label of a new transaction, which names its first branch; ADD_BRANCH one of the same transaction for the other node,
-- which names no branch yet; and with START_BRANCH a label names the branch that began.
abbrev pub labels_here : Reading → Option Line → List ToldLabel → List ToldLabel
labels_here (Says (At node (StartTrans label seconds))) (Some (line.NormalId id)) ls = record { name = label; node = node; tid = id; serial = Some id } ∷ ls
labels_here (Says (At node (AddBranch label other new))) (Some (line.NormalId id)) ls = elim (find_told label ls) [ Some l ↦ record { name = new; node = other; tid = l.tid; serial = None } ∷ ls | None ↦ ls ]
labels_here (Says (At node (StartBranch label))) (Some (line.Pending (serial ∷ []) [])) ls = numbered label serial ls
labels_here said answer ls = ls

-- the labels that these entries tell, the newest first
abbrev pub labels_told : List Entry → List ToldLabel
labels_told [] = []
labels_told (e ∷ es) = labels_here (reading e.source.text) (last_or None e.lines) (labels_told es)

-- a label of a node names this branch of this transaction
abbrev pub IsNamed : List Entry → List ℕ → List ℕ → (tid serial : Id) → Type 0
IsNamed es node label tid serial = (l : ToldLabel) × (find_told label (labels_told es) ≡ Some l) × (l.node ≡ node) × (l.tid ≡ tid) × (l.serial ≡ Some serial)

-- Ids.

-- the ids of the branches whose commitment these lines show
abbrev pub committed_ids : List Line → List Id
committed_ids [] = []
committed_ids (line.Committed tid serial moment ∷ lines) = serial ∷ committed_ids lines
committed_ids (other ∷ lines) = committed_ids lines

-- an id that an answer gives, and the serial of a branch that it tells to have begun
abbrev pub id_given : Option Line → List Id
id_given (Some (line.NormalId id)) = id ∷ []
id_given answer = []

abbrev pub serial_begun : Option Line → List Id
serial_begun (Some (line.Pending (serial ∷ []) [])) = serial ∷ []
serial_begun answer = []

-- The ids that these lines tell to be drawn: that of a transaction, of an identifier for a branch, of a branch that began, and of a change without a label.
abbrev pub ids_here : Reading → List Line → List Id
ids_here (Says (At node (StartTrans label seconds))) lines = id_given (last_or None lines)
ids_here (Says (At node (AddBranch label other new))) lines = id_given (last_or None lines)
ids_here (Says (At node (StartBranch label))) lines = serial_begun (last_or None lines)
ids_here (Says (At node (Direct file op))) lines = committed_ids lines
ids_here said lines = []

-- all ids that these entries tell to be drawn
abbrev pub ids_told : List Entry → List Id
ids_told [] = []
ids_told (e ∷ es) = ids_here (reading e.source.text) e.lines ++ ids_told es

-- no id stands twice
abbrev pub IdsDiffer : List Id → Type 0
IdsDiffer [] = Unit {0}
IdsDiffer (id ∷ ids) = (In id ids → ⊥) × IdsDiffer ids
