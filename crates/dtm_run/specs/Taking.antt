-- Nodes that were taken out of a rack, and were not booted yet.
use Rattle.std.specs.Prelude.{◌≡◌, ℕ, List, [], ◌∷◌, false}
use Rattle.block_disk.specs.Disk.{DiskState}
use Rattle.recovery_units.specs.State.{UnitsState}
use Rattle.day_run.specs.run_shared.Sharing.{SharedState}
use Rattle.day_run.specs.dtm_node.Nodes.{IsNode, kept_of}
use Rattle.day_run.specs.node_standing.Standing.{IsDown, NodeState}
use Rattle.day_run.specs.dtm_node.declared.node.Node.{Node}

-- what is kept of a node that was not booted yet
abbrev pub new_kept : List ℕ → DiskState → NodeState
new_kept name d = record { name = name; unmade = false; clock = 0; place = IsDown false d }

-- such nodes, each of the name and over the disk at its place
abbrev pub AreNew : {D U : Type 0} → (D → DiskState) → (U → UnitsState) → List (List ℕ × D) → List (List ℕ × Node D U) → Type 0
AreNew state units [] [] = Unit {0}
AreNew state units (p ∷ ps) (e ∷ es) = (e.0 ≡ p.0) × (kept_of state units e.1 ≡ new_kept p.0 (state p.1)) × ((s : SharedState) → IsNode state units 0 s e.1) × AreNew state units ps es
AreNew state units ps es = ⊥

-- each clock is at zero
abbrev pub AreAtZero : List NodeState → Type 0
AreAtZero [] = Unit {0}
AreAtZero (k ∷ ks) = (k.clock ≡ 0) × AreAtZero ks
