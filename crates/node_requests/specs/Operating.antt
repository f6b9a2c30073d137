-- What operations on records come to at a node that is up.
use Rattle.std.specs.Prelude.{◌≡◌, ℕ, List, true, Option, Some, Result}
use Rattle.careful_write.specs.declared.down.Down.{Down}
use Rattle.emitter_model.specs.commit_protocol.Allowed.{is_working}
use Rattle.emitter_model.specs.commit_protocol.Table.{Branch, find_serial}
use Rattle.emitter_model.specs.Emitting.{Shown}
use Rattle.script_lang.specs.script_model.Statements.{Operation}
use Rattle.vms_model.specs.Ids.{Id}
use Rattle.world_laws.specs.run_model.World.{File, Node, Shared}
use Rattle.node_table.specs.recovery_units.Calls.{IsAsked, IsAskedAlone}
use Rattle.file_requests.specs.Acting.{StaysUp, alone_service, branch_service}
use Rattle.file_requests.specs.Replying.{RepliesIf}
use Rattle.node_table.specs.Serving.{DoesService, ServiceAt}
use Rattle.node_table.specs.Standing.{Up, UpRepresents}
use Rattle.node_requests.specs.Requests.{KeepsRequest}
use Rattle.file_requests.specs.node_standing.Standing.{disk_of}

-- this is the serial that is told, and its branch may change records
abbrev pub IsWorkingAt : Option Id → (serial : Id) → List Branch → Type 0
IsWorkingAt told serial bs = (told ≡ Some serial) × ((b : Branch) × (find_serial serial bs ≡ Some b) × (is_working b ≡ true))

-- a service was done at a node of the world, which leaves what nodes share
abbrev pub DoesUp : {T : Type 0} → Result T Down → ServiceAt → (clock : ℕ) → Shared → Node → (old new : Up) → (a b : Shown) → Type 0
DoesUp r q clock s n old new a b = DoesService r q s n a b (UpRepresents clock new n) (λ t. t ≡ s) (UpRepresents clock new) (disk_of new)

-- The branch of this serial was asked for an operation on the file of this number.
pub record OperatesFor {T : Type 0} (r : Result T Down) (serial : Id) (f : ℕ) (op : Operation) (clock : ℕ) (old new : Up) (a b : Shown) : Type 0 where
  pub keeps : KeepsRequest r clock old new a b
  pub replies : RepliesIf r a b
  pub acts : (s : Shared) (n : Node) (name : List ℕ) (file : File) (branch : Branch) → UpRepresents clock old n → IsAsked serial f old.stored.units old.stored.volume n name file branch → StaysUp (branch_service n branch name file op) n → DoesUp r (branch_service n branch name file op) clock s n old new a b

-- No branch was asked for it.
pub record OperatesAlone {T : Type 0} (r : Result T Down) (f : ℕ) (op : Operation) (clock : ℕ) (old new : Up) (a b : Shown) : Type 0 where
  pub keeps : KeepsRequest r clock old new a b
  pub replies : RepliesIf r a b
  pub acts : (s : Shared) (n : Node) (name : List ℕ) (file : File) → UpRepresents clock old n → IsAskedAlone f old.stored.units old.stored.volume n name file → StaysUp (alone_service n name file op) n → DoesUp r (alone_service n name file op) clock s n old new a b
