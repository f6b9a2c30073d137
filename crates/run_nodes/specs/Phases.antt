-- The phases of a settling in the world of the kept nodes.
use Rattle.std.specs.Prelude.{◌≡◌, ℕ, suc, ◌+◌, List, [], ◌∷◌, ◌++◌, true, false, Some, take, drop, length, slice_get}
use Rattle.vms_model.specs.Ids.{Id}
use Rattle.block_disk.specs.Disk.{CallLog}
use Rattle.emitter_model.specs.transcript_model.Lines.{Line, Normal}
use Rattle.emitter_model.specs.Emitting.{Emits, Shown}
use Rattle.said_steps.specs.run_model.World.{Node, World, find_node}
use Rattle.said_steps.specs.run_model.Statements.{Part}
use Rattle.dtm_node.specs.run_shared.Sharing.{SharedState}
use Rattle.dtm_node.specs.node_standing.Standing.{NodeState}
use Rattle.statement_steps.specs.Doing.{DoesParts, IsWithin}
use Rattle.statement_steps.specs.Settling.{AreUp, Asking, Through, asks, doubts_of, each_node}
use Rattle.run_nodes.specs.Together.{StandsTogether}
use Rattle.run_nodes.specs.Untold.{IsUntold}

-- A phase begins in the world u, in a settling that began in the world w.
pub record Enters (logs : List CallLog) (w u : World) (ks : List NodeState) (s : SharedState) : Type 0 where
  pub stands : StandsTogether logs ks s u
  pub within : IsWithin w.disks u

-- something is known of each disk that is to be booted
abbrev pub AreTold : World → Type 0
AreTold u = (node : List ℕ) (n : Node) → find_node node u.nodes ≡ Some n → IsUntold n → ⊥

-- The nodes before this place did their parts, which were shown so.
pub record PartsDone (parts : Node → List Part) (logs : List CallLog) (w u : World) (place : ℕ) (a b : Shown) (ks : List NodeState) (s : SharedState) : Type 0 where
  pub lines : List Line
  pub world : World
  pub through : Through w.disks parts u place lines world
  pub stands : StandsTogether logs ks s world
  pub within : IsWithin w.disks world
  pub emits : Emits a lines b

-- so they did, and each is up that is before this place
pub record GoesUp (parts : Node → List Part) (logs : List CallLog) (w u : World) (place ups : ℕ) (a b : Shown) (ks : List NodeState) (s : SharedState) : Type 0 where
  pub goes : PartsDone parts logs w u place a b ks s
  pub up : AreUp (take ups goes.world.nodes)

-- All nodes did their parts, and are up;
pub record Done (parts : Node → List Part) (logs : List CallLog) (w u : World) (a b : Shown) (ks : List NodeState) (s : SharedState) : Type 0 where
  pub lines : List Line
  pub world : World
  pub does : DoesParts w.disks (each_node parts u.nodes) u false lines Normal world
  pub stands : StandsTogether logs ks s world
  pub within : IsWithin w.disks world
  pub up : AreUp world.nodes
  pub emits : Emits a lines b

-- or the statement ended with one of them.
pub record Ended (parts : Node → List Part) (logs : List CallLog) (w u : World) (a b : Shown) (ks : List NodeState) (s : SharedState) : Type 0 where
  pub lines : List Line
  pub answer : Line
  pub world : World
  pub does : DoesParts w.disks (each_node parts u.nodes) u true lines answer world
  pub stands : StandsTogether logs ks s world
  pub emits : Emits a (lines ++ answer ∷ []) b

-- Of the branches of these serials, which were in doubt at the node of this name when it began to ask in the world v, so many have asked, and so many of them got no
-- answer; they were shown so.
pub record AskingAt (logs : List CallLog) (w v : World) (place : ℕ) (name : List ℕ) (serials : List Id) (many unanswered : ℕ) (a b : Shown) (ks : List NodeState) (s : SharedState) : Type 0 where
  pub lines : List Line
  pub world : World
  pub node : Node
  pub at : slice_get world.nodes place ≡ Some node
  pub named : node.name ≡ name
  pub asking : Asking w.disks name serials v unanswered (doubts_of node) lines world
  pub count : length serials + unanswered ≡ many + length (doubts_of node)
  pub nodes : drop (suc place) world.nodes ≡ drop (suc place) v.nodes
  pub disks : drop (suc place) world.disks ≡ drop (suc place) v.disks
  pub stands : StandsTogether logs ks s world
  pub within : IsWithin w.disks world
  pub up : AreUp world.nodes
  pub emits : Emits a lines b

-- One more has asked: it is in doubt still, at its number, or it is not.
pub data AskedOne (logs : List CallLog) (w v : World) (place : ℕ) (name : List ℕ) (serials : List Id) (many unanswered : ℕ) (serial : Id) (a b : Shown) (ks : List NodeState) (s : SharedState) : Type 0 where
  Stays : (h : AskingAt logs w v place name serials (many + 1) (unanswered + 1) a b ks s) → slice_get (doubts_of h.node) unanswered ≡ Some serial → AskedOne logs w v place name serials many unanswered serial a b ks s
  Leaves : (h : AskingAt logs w v place name serials (many + 1) unanswered a b ks s) → (slice_get (doubts_of h.node) unanswered ≡ Some serial → ⊥) → AskedOne logs w v place name serials many unanswered serial a b ks s

-- The statement ended with the question of one.
pub record EndedAsking (logs : List CallLog) (w v : World) (name : List ℕ) (serials : List Id) (a b : Shown) (ks : List NodeState) (s : SharedState) : Type 0 where
  pub lines : List Line
  pub answer : Line
  pub world : World
  pub does : DoesParts w.disks (asks name serials) v true lines answer world
  pub stands : StandsTogether logs ks s world
  pub emits : Emits a (lines ++ answer ∷ []) b
