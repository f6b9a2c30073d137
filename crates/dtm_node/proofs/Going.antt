-- A node that a task left as it was, or changed before the statement ended.
use Rattle.std.proofs.Common.{◌≡◌, ◌+◌, ℕ, refl}
use Rattle.block_disk.specs.Disk.{DiskState}
use Rattle.recovery_units.specs.State.{UnitsState}
use Rattle.run_shared.specs.Sharing.{SharedState}
use Rattle.vms_base.specs.declared.moments.Moment.{Moment}
use Rattle.dtm_node.specs.declared.node.Node.{Node}
use Rattle.dtm_node.specs.Going.{KeepsNode}
use Rattle.dtm_node.proofs.NodeRequests.{node_more}

pub same_moment : (a b : Moment) → a.0 ≡ b.0 → a ≡ b
same_moment a b e = λ i. record { 0 = e i }

module _ {D U : Type 0} (state : D → DiskState) (units : U → UnitsState) where
  -- a statement that left it
  pub same_keeps : (s : SharedState) (n : Node D U) → KeepsNode state units (λ count. count + 1) s s n n
  same_keeps s n = record { name = refl; clock = refl; in_use = λ used. used; node = λ count h. node_more state units count s n h }

  -- one that ended behind the task
  pub later_keeps : (s t : SharedState) (n m : Node D U) → KeepsNode state units (λ count. count) s t n m → KeepsNode state units (λ count. count + 1) s t n m
  later_keeps s t n m k = record { name = k.name; clock = k.clock; in_use = k.in_use; node = λ count h. node_more state units count t m (k.node count h) }
