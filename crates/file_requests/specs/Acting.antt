-- What operations on records come to.
use Rattle.std.specs.Prelude.{◌≡◌, ℕ, List, [], ◌∷◌, Bool, true, false, None, Result, IfOk, OnOk}
use Rattle.careful_write.specs.declared.down.Down.{Down}
use Rattle.emitter_model.specs.Emitting.{Shown}
use Rattle.script_lang.specs.script_model.Statements.{Operation}
use Rattle.vms_model.specs.Ids.{Id}
use Rattle.emitter_model.specs.commit_protocol.Table.{Branch}
use Rattle.file_images.specs.run_model.Answers.{directed, silent}
use Rattle.file_images.specs.run_model.Operations.{changes_of, first_of, operation_answer}
use Rattle.file_images.specs.run_model.World.{File, Node, Shared, next_id}
use Rattle.recovery_units.specs.world_laws.Nodes.{AreUp}
use Rattle.recovery_units.specs.Calls.{IsAsked, IsAskedAlone, alone_refused_after_reading, alone_refused_before_reading, unit_act, unit_refused_after_reading, unit_refused_before_reading}
use Rattle.recovery_units.specs.State.{IsKept, WorksFor}
use Rattle.node_standing.specs.node_table.Serving.{DoesService, ServiceAt}
use Rattle.node_standing.specs.node_table.Standing.{Stored}
use Rattle.file_requests.specs.Serving.{DoesThere, KeepsStored, SameStored, disk_of}

-- what an operation of a branch on a file is at a node, behind what refuses it by label, file and branch
abbrev pub branch_service : Node → Branch → (name : List ℕ) → File → Operation → ServiceAt
branch_service n b name f op = record { early = unit_refused_before_reading n b name f op; late = unit_refused_after_reading n b name f op; rows = silent (unit_act b name f op) ∷ []; answer = operation_answer f op }

-- what one without a branch is, behind what refuses it by the file
abbrev pub alone_service : Node → (name : List ℕ) → File → Operation → ServiceAt
alone_service n name f op = record { early = alone_refused_before_reading n name f op; late = alone_refused_after_reading n name f op; rows = directed n name (changes_of f op); answer = operation_answer f op }

-- where nothing refuses it the node is up behind each row too
abbrev pub StaysUp : ServiceAt → Node → Type 0
StaysUp q n = first_of q.early q.late ≡ None → AreUp q.rows n

-- The branch of this serial was asked for an operation on the file of this number: nothing was done for another branch, and what it had changed stays.
pub record ActsFor {T : Type 0} (r : Result T Down) (serial : Id) (f : ℕ) (op : Operation) (old new : Stored) (a b : Shown) : Type 0 where
  pub keeps : KeepsStored 0 0 r old new a b
  pub works : WorksFor serial old.units new.units
  pub acts : (s : Shared) (n : Node) (name : List ℕ) (file : File) (branch : Branch) → IsAsked serial f old.units old.volume n name file branch → StaysUp (branch_service n branch name file op) n → DoesThere r (branch_service n branch name file op) s n old new a b

-- A change was asked for by no branch, under this id at this clock. The call tells whether it was made.
pub record ActsAlone (r : Result Bool Down) (id : Id) (clock f : ℕ) (op : Operation) (old new : Stored) (a b : Shown) : Type 0 where
  pub keeps : KeepsStored 1 clock r old new a b
  pub units : new.units ≡ old.units
  pub acts : (s : Shared) (n : Node) (name : List ℕ) (file : File) → IsAskedAlone f old.units old.volume n name file → next_id n ≡ id → n.clock ≡ clock → StaysUp (alone_service n name file op) n →
      DoesService r (alone_service n name file op) s n a b (SameStored old new × IfOk r (λ made. made ≡ false)) (λ t. t ≡ s) (λ m. IsKept new.units new.volume m × IfOk r (λ made. made ≡ true)) (disk_of new)

-- A read was asked for by no branch.
pub record LooksAlone {T : Type 0} (r : Result T Down) (f : ℕ) (op : Operation) (old new : Stored) (a b : Shown) : Type 0 where
  pub keeps : KeepsStored 0 0 r old new a b
  pub same : OnOk r (SameStored old new)
  pub units : new.units ≡ old.units
  pub acts : (s : Shared) (n : Node) (name : List ℕ) (file : File) → IsAskedAlone f old.units old.volume n name file → DoesThere r (alone_service n name file op) s n old new a b
