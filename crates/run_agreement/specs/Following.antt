-- What it is for a run to follow the commit protocol.
use Rattle.std.specs.Prelude.{◌≡◌, List, [], ◌∷◌, ◌++◌, true, false, Option, Some, None, is_some, ◌⊎◌, if◌then◌else◌}
use Rattle.vms_model.specs.Ids.{Id}
use Rattle.vms_model.specs.Transactions.{Outcome}
use Rattle.commit_protocol.specs.Messages.{Name, Message}
use Rattle.commit_protocol.specs.Table.{Key}
use Rattle.commit_protocol.specs.World as protocol
use Rattle.commit_protocol.specs.World.{In}
use Rattle.commit_protocol.specs.Opening.{Opening, Image, settled_in, accepted_in}
use Rattle.run_model.specs.World.{Settlement, Label, Node, Shared, World, find_node}
use Rattle.run_agreement.specs.Seen.{Resolution, Face, IsFace, outcome_of, IsBarred, has_volume, image_of}

-- what the protocol has of the node of each name
abbrev pub Faces : Type 0
Faces = Name → Option Face

-- it has something of each node with a volume; another is down, and it has nothing of that
pub record AreFaces (r : Resolution) (nodes : List Node) (fs : Faces) : Type 0 where
  pub there : (n : Name) (x : Node) → find_node n nodes ≡ Some x → has_volume x ≡ true → (f : Face) × (fs n ≡ Some f) × IsFace (r n) x f
  pub without : (n : Name) (x : Node) → find_node n nodes ≡ Some x → has_volume x ≡ false → (fs n ≡ None) × IsBarred x
  pub absent : (n : Name) → find_node n nodes ≡ None → fs n ≡ None

-- a branch was settled so at one of the nodes
abbrev pub Settled : Faces → Key → Outcome → Type 0
Settled fs k o = (n : Name) × (f : Face) × (fs n ≡ Some f) × ((s : Settlement) × In s f.settled × (outcome_of s ≡ (k, o)))

-- A world of the protocol has what these nodes and what they share show. Its list of messages has besides those that were not numbered; its settlements are those
-- of the nodes and those that the opening images showed, and so are the branches that it has accepted.
pub record Follows (o : Opening) (fs : Faces) (s : Shared) (p : protocol.World) : Type 0 where
  pub rack : (n : Name) → p.rack n ≡ is_some (fs n)
  pub nodes : (n : Name) (f : Face) → fs n ≡ Some f → p.nodes n ≡ f.node
  pub sent : (m : Message) → In m s.wire → In m p.sent
  pub accepted : p.accepted ≡ s.accepted ++ accepted_in o
  pub read_only : p.read_only ≡ s.read_only
  pub labels : (l : Label) (bid : Id) → In l s.labels → l.bid ≡ Some bid → In (l.tid, bid) p.labels
  pub settled : (n : Name) (f : Face) (t : Settlement) → fs n ≡ Some f → In t f.settled → In (outcome_of t) p.settled
  pub given : (k : Key) (out : Outcome) → In (k, out) (settled_in o) → In (k, out) p.settled
  pub back : (k : Key) (out : Outcome) → In (k, out) p.settled → In (k, out) (settled_in o) ⊎ Settled fs k out

-- the images of the volumes of a rack
abbrev pub images_of : List Node → List (Name × Image)
images_of [] = []
images_of (n ∷ ns) = if has_volume n then (n.name, image_of n) ∷ images_of ns else images_of ns

-- the opening that a world is to the protocol
abbrev pub opening_of : World → Opening
opening_of w = record { images = images_of w.nodes }

-- A world of the protocol shows this one, where the acts under way turn out so.
pub record Shows (o : Opening) (r : Resolution) (w : World) (p : protocol.World) : Type 0 where
  pub faces : Faces
  pub are : AreFaces r w.nodes faces
  pub follows : Follows o faces w.shared p
