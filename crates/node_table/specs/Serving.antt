-- What a service that a node which is up was asked for came to.
use Rattle.std.specs.Prelude.{◌≡◌, ◌⊎◌, ◌≤◌, ℕ, List, [], ◌∷◌, ◌++◌, Bool, Option, Some, None, Result, Ok, Err, length, take, drop}
use Rattle.block_disk.specs.Disk.{DiskState}
use Rattle.careful_write.specs.declared.down.Down.{Down}
use Rattle.emitter_model.specs.Emitting.{Shown, Emits}
use Rattle.emitter_model.specs.transcript_model.Lines.{Line}
use Rattle.row_laws.specs.run_model.World.{Node, Shared, fallen}
use Rattle.row_laws.specs.run_model.Operations.{first_of}
use Rattle.row_laws.specs.run_model.Answers.{Row, Service}
use Rattle.row_laws.specs.run_model.Steps.{act_begun, lines_of_rows, node_after_rows, rows_if, shared_after_rows}
use Rattle.recovery_units.specs.volume_model.Volumes.{HasDisk}

-- What a service is at a node, by what nodes share: what refuses it before the disk is read, and after that; and where nothing refuses it its rows and its answer.
pub record ServiceAt : Type 0 where
  pub early : Option Line
  pub late : Option Line
  pub rows : List Row
  pub answer : Line

abbrev pub service_at : Service → Shared → Node → ServiceAt
service_at e s n = record { early = e.refused_before_reading s n; late = e.refused_after_reading s n; rows = e.rows s n; answer = e.answer s n }

-- the rows that a failure of the disk may cut
abbrev pub rows_at_risk : ServiceAt → List Row
rows_at_risk q = rows_if q.late q.rows

-- It was refused, and that line alone was shown; what is kept is so then.
pub record WasRefused (q : ServiceAt) (a b : Shown) (kept : Type 0) : Type 0 where
  pub refusal : Line
  pub is : first_of q.early q.late ≡ Some refusal
  pub shows : Emits a (refusal ∷ []) b
  pub same : kept

-- Nothing refused it: its rows were done and shown, and then its answer. Behind them what is kept stands for the node, and for what nodes share.
pub record WasServed (q : ServiceAt) (s : Shared) (n : Node) (a b : Shown) (shares : Shared → Type 0) (stands : Node → Type 0) : Type 0 where
  pub allowed : first_of q.early q.late ≡ None
  pub shows : Emits a (lines_of_rows q.rows ++ q.answer ∷ []) b
  pub shared : shares (shared_after_rows q.rows s)
  pub node : stands (node_after_rows q.rows n)

-- Its node's disk went down in it, where nothing refuses it before the disk is read: so many rows were done and shown, and perhaps the act of the next was under
-- way, if it is one step of the disk.
pub record WasCut (q : ServiceAt) (s : Shared) (n : Node) (a b : Shown) (shares : Shared → Type 0) (d : DiskState) : Type 0 where
  pub unrefused : q.early ≡ None
  pub done : ℕ
  pub begun : Bool
  pub within : done ≤ length (rows_at_risk q)
  pub shows : Emits a (lines_of_rows (take done (rows_at_risk q))) b
  pub shared : shares (shared_after_rows (take done (rows_at_risk q)) s)
  pub disk : HasDisk (fallen (act_begun begun (drop done (rows_at_risk q))) (node_after_rows (take done (rows_at_risk q)) n)) d

-- One of the three, by how the call ended. Where it was refused this is kept; else what is kept stands so for the node and for what nodes share, or the node's disk
-- is this.
abbrev pub DoesService : {T : Type 0} → Result T Down → ServiceAt → Shared → Node → (a b : Shown) → (kept : Type 0) → (shares : Shared → Type 0) → (stands : Node → Type 0) → DiskState → Type 0
DoesService (Ok x) q s n a b kept shares stands d = WasRefused q a b kept ⊎ WasServed q s n a b shares stands
DoesService (Err e) q s n a b kept shares stands d = WasCut q s n a b shares d
