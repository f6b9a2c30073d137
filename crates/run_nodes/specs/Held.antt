-- The nodes of a run as the code has them.
use Rattle.std.specs.Prelude.{◌≡◌, ◌<◌, ℕ, List, [], ◌∷◌, map}
use Rattle.block_disk.specs.Disk.{DiskState}
use Rattle.vms_model.specs.Limits.{statement_bound}
use Rattle.dtm_node.specs.run_shared.Sharing.{SharedState}
use Rattle.dtm_node.specs.Nodes.{IsNode, kept_of}
use Rattle.dtm_node.specs.node_standing.Standing.{NodeState}
use Rattle.dtm_node.specs.declared.node.Node as code
use Rattle.dtm_node.specs.recovery_units.State.{UnitsState}
use Rattle.run_nodes.specs.declared.nodes.Nodes.{Nodes}

-- the names of nodes, and what is kept of each, in the rack's order
abbrev pub names_of : {D U : Type 0} → Nodes D U → List (List ℕ)
names_of nodes = map (λ e. e.0) nodes.nodes.entries

abbrev pub kept_all : {D U : Type 0} → (D → DiskState) → (U → UnitsState) → Nodes D U → List NodeState
kept_all state units nodes = map (λ e. kept_of state units e.1) nodes.nodes.entries

-- their clocks
abbrev pub clocks_of : List NodeState → List ℕ
clocks_of ks = map (λ (k : NodeState). k.clock) ks

-- each node has the name by which it is found, and is as a node is after so many statements
abbrev pub AreNodesIn : {D U : Type 0} → (D → DiskState) → (U → UnitsState) → ℕ → SharedState → List (List ℕ × code.Node D U) → Type 0
AreNodesIn state units count s [] = Unit {0}
AreNodesIn state units count s (e ∷ es) = (e.1.name ≡ e.0) × IsNode state units count s e.1 × AreNodesIn state units count s es

-- so are all nodes
abbrev pub AreNodes : {D U : Type 0} → (D → DiskState) → (U → UnitsState) → ℕ → SharedState → Nodes D U → Type 0
AreNodes state units count s nodes = AreNodesIn state units count s nodes.nodes.entries

-- so after fewer statements than a script may have
abbrev pub AreNodesInScript : {D U : Type 0} → (D → DiskState) → (U → UnitsState) → SharedState → Nodes D U → Type 0
AreNodesInScript state units s nodes = (count : ℕ) × (count < statement_bound) × AreNodes state units count s nodes
