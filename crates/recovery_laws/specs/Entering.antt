-- Operations that nothing refuses, at a node that is up: what they change may be entered in the images of their file.
use Rattle.std.specs.Prelude.{◌≡◌, ℕ, List, [], ◌∷◌, true, Option, Some, None}
use Rattle.std.specs.FinMap.{empty}
use Rattle.vms_model.specs.Ids.{Id}
use Rattle.world_laws.specs.script_model.Statements.{Direct, Operation, Records}
use Rattle.unit_laws.specs.records_model.Records.{Change}
use Rattle.unit_laws.specs.Units.{has_changes}
use Rattle.world_laws.specs.commit_protocol.Table.{Branch}
use Rattle.world_laws.specs.recovery_model.File as recovery
use Rattle.world_laws.specs.run_model.World.{Act, Changes, Creates, Directs, File, Marks, Node, Recovers, Saves, Shared, find_file, free_place, next_id, state_of}
use Rattle.world_laws.specs.run_model.Operations.{changes_of}
use Rattle.world_laws.specs.run_model.Answers.{Row, branch_labelled, direct_refused, operation_refused, refused_before_reading, service}
use Rattle.world_laws.specs.run_model.Steps.{node_after}
use Rattle.world_laws.specs.Entering.{MayEnterImages}
use Rattle.world_laws.specs.Nodes.{IsKeptNode}
use Rattle.recovery_laws.specs.Gaps.{LeavesNoGap}
use Rattle.recovery_laws.specs.Loading.{HasNoGap}

-- changes may be entered in the images of a file, and leave no gap in it
pub record MayEnterFile (serial : Id) (cs : List Change) (f : File) : Type 0 where
  pub images : MayEnterImages serial cs f
  pub gaps : LeavesNoGap serial cs f

-- what a branch changes by it, and what is changed without a label
pub record MayEnter (s : Shared) (n : Node) (file : List ℕ) (op : Operation) (f : File) : Type 0 where
  pub labelled : (label : List ℕ) (b : Branch) → branch_labelled s n label ≡ Some b → refused_before_reading s n (service (Records label file op)) ≡ None → operation_refused s n label file op ≡ None → MayEnterFile b.key.serial (changes_of f op) f
  pub direct : refused_before_reading s n (service (Direct file op)) ≡ None → direct_refused n file op ≡ None → MayEnterFile (next_id n) (changes_of f op) f

-- so it is of those that change something
abbrev pub OperationsEnter : Type 0
OperationsEnter = (s : Shared) (n : Node) (file : List ℕ) (op : Operation) (f : File) → IsKeptNode s n → n.up ≡ true → find_file file n.durable.directory ≡ Some f → has_changes (changes_of f op) ≡ true → MayEnter s n file op f

-- What an act finds of the files that it changes, as far as their journals of images, their saves and their positions matter: changes may be entered in the images, and
-- leave no gap; a file that is marked, saved or recovered has no unsettled branch, and the records that it is recovered to have no gap; and one that is made has a new
-- name and a free place, no journal and no save, and nothing has ever been in it.
abbrev pub FindsImages : Option Act → Node → Type 0
FindsImages (Some (Changes tid serial file cs keys)) n = (f : File) → find_file file n.durable.directory ≡ Some f → MayEnterFile serial cs f
FindsImages (Some (Directs file cs s)) n = (f : File) → find_file file n.durable.directory ≡ Some f → MayEnterFile s.serial cs f
FindsImages (Some (Marks file mark)) n = (f : File) → find_file file n.durable.directory ≡ Some f → f.history.live ≡ []
FindsImages (Some (Saves file start)) n = (f : File) → find_file file n.durable.directory ≡ Some f → f.history.live ≡ []
FindsImages (Some (Recovers file start buckets m)) n = (f : File) → find_file file n.durable.directory ≡ Some f → (f.history.live ≡ []) × HasNoGap f.organization m
FindsImages (Some (Creates place f)) n = (find_file f.name n.durable.directory ≡ None) × (free_place n.durable.directory ≡ Some place) × (state_of f ≡ recovery.created n.durable.greatest (λ u. empty))
FindsImages _ n = Unit {0}

-- so does each of these rows
abbrev pub AllFind : List Row → Node → Type 0
AllFind [] n = Unit {0}
AllFind (r ∷ rs) n = FindsImages r.act n × AllFind rs (node_after r.act n)
