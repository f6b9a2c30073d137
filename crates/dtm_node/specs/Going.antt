-- What each task of a node keeps, whatever it does.
use Rattle.std.specs.Prelude.{◌≡◌, ℕ, true}
use Rattle.block_disk.specs.Disk.{DiskState}
use Rattle.emitter_model.specs.Emitting.{Shown, Since}
use Rattle.recovery_units.specs.State.{UnitsState}
use Rattle.run_shared.specs.Sharing.{SharedState}
use Rattle.dtm_node.specs.declared.node.Node.{Node}
use Rattle.dtm_node.specs.Nodes.{IsNode}

-- An emitter shows more than before: it writes to the same place, its count of faults does not fall, and a failed write has its cause.
pub record ShowsOn {E P : Type 0} (shows : E → Shown) (sink : E → P) (old new : E) : Type 0 where
  pub since : Since (shows old) (shows new)
  pub place : sink new ≡ sink old

-- A node keeps its name and its clock, and what nodes share stays in use. If the node was as one has to be after so many statements, it is so after as many as
-- `later` says: the same where a statement goes on, and one more where it was answered.
pub record KeepsNode {D U : Type 0} (state : D → DiskState) (units : U → UnitsState) (later : ℕ → ℕ) (s t : SharedState) (old new : Node D U) : Type 0 where
  pub name : new.name ≡ old.name
  pub clock : new.clock ≡ old.clock
  pub in_use : s.in_use ≡ true → t.in_use ≡ true
  pub node : (count : ℕ) → IsNode state units count s old → IsNode state units (later count) t new
