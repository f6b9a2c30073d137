-- The nodes of a run together, by what is kept of each, and the world that they stand for.
use Rattle.std.specs.Prelude.{◌≡◌, ℕ, List, [], ◌∷◌, map}
use Rattle.block_disk.specs.Disk.{CallLog, DiskState}
use Rattle.emitter_model.specs.transcript_model.Lines.{Line}
use Rattle.emitter_model.specs.Emitting.{Emits, Shown}
use Rattle.script_lang.specs.script_model.Statements.{Says, Statement}
use Rattle.said_steps.specs.run_said.Said.{Said, said_here}
use Rattle.said_steps.specs.run_model.Statements.{Step}
use Rattle.said_steps.specs.run_model.World.{Node, World}
use Rattle.dtm_node.specs.run_shared.Sharing.{IsShared, SharedState}
use Rattle.dtm_node.specs.node_standing.Standing.{NodeState, RepresentsNode, counts_of, disk_in}
use Rattle.dtm_node.specs.node_standing.Telling.{said_node, said_shared}
use Rattle.run_nodes.specs.Calls.{DisksFollowLine, LineFollows}

-- the disks of nodes, by what is kept of each
abbrev pub disks_of : List NodeState → List DiskState
disks_of ks = map (λ (k : NodeState). disk_in k.place) ks

-- what the lines so far said of them
abbrev pub said_together : List NodeState → SharedState → Said
said_together ks s = record { nodes = map said_node ks; shared = said_shared s }

-- what is kept of each stands for the node of the world at its place, whose disk noted these calls before the run
abbrev pub StandAll : List CallLog → List NodeState → List Node → Type 0
StandAll [] [] [] = Unit {0}
StandAll (log ∷ logs) (k ∷ ks) (n ∷ ns) = RepresentsNode log k n × StandAll logs ks ns
StandAll logs ks ns = ⊥

-- The nodes of the world are those that are kept, and the world has their disks' counts and what they share.
pub record StandsTogether (before : List CallLog) (ks : List NodeState) (s : SharedState) (w : World) : Type 0 where
  pub nodes : StandAll before ks w.nodes
  pub disks : w.disks ≡ map counts_of (disks_of ks)
  pub shared : IsShared s w.shared

-- a statement was served: these lines were shown, by a step to a world that is again that of the kept nodes
pub record ServesTogether (before : List CallLog) (w : World) (s : Statement) (a b : Shown) (ks : List NodeState) (after : SharedState) : Type 0 where
  pub lines : List Line
  pub world : World
  pub step : Step w s lines world
  pub emits : Emits a lines b
  pub stands : StandsTogether before ks after world

-- A statement was served, whatever the disks have: lines were shown that tell this of each disk and follow what was said before, and they say what is kept then.
pub record AnswersTogether (names : List (List ℕ)) (s : Statement) (a b : Shown) (ks : List NodeState) (old : SharedState) (ls : List NodeState) (new : SharedState) : Type 0 where
  pub lines : List Line
  pub emits : Emits a lines b
  pub tells : DisksFollowLine names (said_together ks old) (Says s) lines (disks_of ks) (disks_of ls)
  pub follows : LineFollows (said_together ks old) (Says s) lines
  pub says : said_together ls new ≡ said_here (Says s) lines (said_together ks old)
