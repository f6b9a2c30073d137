-- What holds of a node after so many statements holds after more, and where nodes share more.
use Rattle.std.proofs.Common.{◌≡◌, ℕ, ◌+◌, true, arith}
use Rattle.block_disk.specs.Disk.{DiskState}
use Rattle.dtm_node.specs.recovery_units.State.{UnitsState}
use Rattle.dtm_node.specs.run_shared.Sharing.{SharedState}
use Rattle.dtm_node.specs.Nodes.{IsNode, IsPlaceOf}
use Rattle.dtm_node.specs.declared.node.Node.{Node}
use Rattle.dtm_node.specs.declared.node.Place as code
use Rattle.dtm_node.specs.declared.node.Place.TheVariants as code_place

pub node_more : {D U : Type 0} (state : D → DiskState) (units : U → UnitsState) (count : ℕ) (s : SharedState) (n : Node D U) → IsNode state units count s n → IsNode state units (count + 1) s n
node_more {D} {U} state units count s n h = record { place = by n.place h.place; clock = h.clock }
  where
    by : (p : code.Place D U) → IsPlaceOf state units count s n p → IsPlaceOf state units (count + 1) s n p
    by (code_place.Down disk parts) k = k
    by (code_place.Up r) k = (k.0, k.1, k.2, k.3, (let g = k.4 in record { moment = (let m = g.moment in omega arith); end = (let e = g.end in omega arith); drawn = (let d = g.drawn in omega arith) }))

pub node_shared : {D U : Type 0} (state : D → DiskState) (units : U → UnitsState) (count : ℕ) (s t : SharedState) (n : Node D U) → (s.in_use ≡ true → t.in_use ≡ true) → IsNode state units count s n → IsNode state units count t n
node_shared {D} {U} state units count s t n given h = record { place = by n.place h.place; clock = h.clock }
  where
    by : (p : code.Place D U) → IsPlaceOf state units count s n p → IsPlaceOf state units count t n p
    by (code_place.Down disk parts) k = k
    by (code_place.Up r) k = (k.0, k.1, given k.2, k.3, k.4)
