-- What a task comes to at a node.
use Rattle.std.specs.Prelude.{◌≡◌, ℕ, List, [], ◌∷◌, ◌++◌, Bool, true, false, if◌then◌else◌}
use Rattle.block_disk.specs.Disk.{CallLog}
use Rattle.emitter_model.specs.Emitting.{Emits, Shown}
use Rattle.emitter_model.specs.transcript_model.Lines.{Line}
use Rattle.said_steps.specs.script_model.Statements as said
use Rattle.node_table.specs.world_laws.Nodes.{IsKeptNode}
use Rattle.said_steps.specs.run_model.World as world
use Rattle.said_steps.specs.run_model.World.{DiskCounts, Node, Unknown}
use Rattle.said_steps.specs.run_model.Answers.{Restarts, Serves, Task}
use Rattle.said_steps.specs.run_model.Steps.{NodeStep}
use Rattle.node_table.specs.run_shared.Sharing.{IsShared, SharedState}
use Rattle.node_standing.specs.Standing.{NodeState, RepresentsNode, counts_of, disk_in}

-- What a node does for a task is promised, but for a boot over a disk of which nothing is known, unless the last INIT failed: then it is refused.
abbrev pub IsPromised : Task → Node → Type 0
IsPromised (Serves said.Boot) n = n.durable.volume ≡ Unknown → n.unmade ≡ true
IsPromised Restarts n = n.durable.volume ≡ Unknown → n.unmade ≡ true
IsPromised task n = Unit {0}

-- what is shown of a task: its lines, and the answer where its statement ends with it
abbrev pub all_shown : Bool → List Line → Line → List Line
all_shown answers lines answer = if answers then lines ++ answer ∷ [] else lines

-- A task was done at a node, whose disk had these counts, from what nodes share on: its lines were shown, with the answer where this says so, by a step to a node
-- for which what is kept then stands, and to what is shared then. Its statement ends with it, or not.
pub record Performs (before : CallLog) (s : world.Shared) (n : Node) (old : DiskCounts) (task : Task) (answers ends : Bool) (a b : Shown) (k : NodeState) (after : SharedState) : Type 0 where
  pub lines : List Line
  pub answer : Line
  pub node : Node
  pub shared : world.Shared
  pub step : NodeStep s n old task lines answer ends node shared (counts_of (disk_in k.place))
  pub emits : Emits a (all_shown answers lines answer) b
  pub alike : IsShared after shared
  pub stands : RepresentsNode before k node

-- so for each node of the world that what was kept stands for, and all that nodes share that is so
abbrev pub PerformsTask : Task → (answers ends : Bool) → (k : NodeState) → (s : SharedState) → (a b : Shown) → (l : NodeState) → (t : SharedState) → Type 0
PerformsTask task answers ends k s a b l t = (log : CallLog) (n : Node) (w : world.Shared) → RepresentsNode log k n → IsShared s w → IsKeptNode w n → IsPromised task n →
    Performs log w n (counts_of (disk_in k.place)) task answers ends a b l t

-- a request, which the node itself answers in any case
abbrev pub PerformsRequest : said.Request → (k : NodeState) → (s : SharedState) → (a b : Shown) → (l : NodeState) → (t : SharedState) → Type 0
PerformsRequest request k s a b l t = (log : CallLog) (n : Node) (w : world.Shared) → RepresentsNode log k n → IsShared s w → IsKeptNode w n → IsPromised (Serves request) n →
    (ends : Bool) × Performs log w n (counts_of (disk_in k.place)) (Serves request) true ends a b l t
