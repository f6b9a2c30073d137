-- What one run leaves to the next, and any number of runs, each from what the one before it left.
use Rattle.std.specs.Prelude.{◌≡◌, ◌⊎◌, ℕ, if◌then◌else◌, Bool, true, false, List, [], ◌∷◌, Option, Some, None}
use Rattle.std.specs.List.{AllByRecursion, last_or}
use Rattle.std.specs.Str.{bytes_eq}
use Rattle.vms_model.specs.Transactions.{Outcome}
use Rattle.world_laws.specs.transcript_model.Lines.{Line, Normal, Broken}
use Rattle.world_laws.specs.script_model.Statements.{At, Init, Reading, Says}
use Rattle.world_laws.specs.script_model.Grammar.{reading}
use Rattle.commit_protocol.specs.Messages.{Name, LogRecord}
use Rattle.commit_protocol.specs.Table.{Key, record_key}
use Rattle.commit_protocol.specs.World.{In}
use Rattle.commit_protocol.specs.Opening.{IsAgreeing, LastIn, Opening, WaitedFor, image_at, no_image}
use Rattle.world_laws.specs.run_model.World.{World, Node, DiskCounts, Act, Unknown, acted, find_node, opened}
use Rattle.world_laws.specs.run_model.Transcript.{AreOpening, Entry, Legal}
use Rattle.run_laws.specs.run_agreement.Seen.{IsKnown, has_volume, image_of}
use Rattle.run_laws.specs.run_agreement.Laws.{IsReplaced, NamesApart, opening_told}
use Rattle.run_laws.specs.Anew.{AreKnownOrAnew}
use Rattle.run_laws.specs.Promises.{AreLastApart, IsLastApart}
use Rattle.run_laws.specs.Laws.{AgreedPromises}
use Rattle.run_chains.specs.Reopenings.{IsReopened}

-- The last settlement.

-- Where no last settlement is of a branch that stands unsettled at the opening, so it is in each world of the run, whatever turns out of an act under way.
abbrev pub LastsStayApart : Type 0
LastsStayApart = (nodes : List Node) (disks : List DiskCounts) (es : List Entry) (closing : World) → AreOpening nodes → AreLastApart nodes → Legal (opened nodes disks) es closing →
    (name : List ℕ) (n : Node) → find_node name closing.nodes ≡ Some n → IsLastApart n × ((act : Act) → n.under_way ≡ Some act → IsLastApart (acted act n))

-- Volumes that are made anew.

-- the branch's two ids are of other nodes than this one
abbrev pub IsOfOthers : Name → Key → Type 0
IsOfOthers n k = (k.tid.node ≡ n → ⊥) × (k.serial.node ≡ n → ⊥)

-- An image tells a branch: it has a prepared or a committed record of it or a committed record that waits for it, or the branch is its last settlement or one of its units.
pub data TellsBranch (o : Opening) (k : Key) : Type 0 where
  Prepared : (n : Name) (r : LogRecord) → In r (image_at o n).prepared → record_key r ≡ k → TellsBranch o k
  Committed : (n : Name) (r : LogRecord) → In r (image_at o n).committed → record_key r ≡ k → TellsBranch o k
  Waited : WaitedFor o k → TellsBranch o k
  Last : (out : Outcome) → LastIn o k out → TellsBranch o k
  Active : (n : Name) → In k (image_at o n).units → TellsBranch o k

-- no image tells an id of this node
abbrev pub TellsNoneOf : Name → Opening → Type 0
TellsNoneOf n o = (k : Key) → TellsBranch o k → IsOfOthers n k

-- Whether entries make the volume of a node: of the INITs of it that were answered with their success or ended by a failure, the last was answered with its success.
abbrev pub made_by : Option Line → Bool → Bool
made_by (Some Normal) made = true
made_by (Some (Broken cause)) made = false
made_by answer made = made

abbrev pub made_here : Name → Reading → Option Line → Bool → Bool
made_here n (Says (At m (Init slots journal))) answer made = if bytes_eq m n then made_by answer made else made
made_here n said answer made = made

abbrev pub is_made : Name → List Entry → Bool
is_made n [] = false
is_made n (e ∷ es) = made_here n (reading e.source.text) (last_or None e.lines) (is_made n es)

-- no image with which a run begins tells an id of a node whose volume the run makes
abbrev pub MadeAreNew : List Node → List Entry → Type 0
MadeAreNew nodes es = (n : Name) → is_made n es ≡ true → TellsNoneOf n (opening_told nodes es)

-- And they must not: where the images agree, an id of such a node that one tells is of boot 0, the count of a volume that was never booted.
abbrev pub AgreeingAreNew : Type 0
AgreeingAreNew = (nodes : List Node) (es : List Entry) → NamesApart nodes → IsAgreeing (opening_told nodes es) → (name : Name) (n : Node) → find_node name nodes ≡ Some n → is_made name es ≡ true →
    (k : Key) → TellsBranch (opening_told nodes es) k → (k.tid.node ≡ name → k.tid.boot ≡ 0) × (k.serial.node ≡ name → k.serial.boot ≡ 0)

-- The next run.

-- A node of the next run: it has the name of the one that was left, and what that one left on its disk. Where the disk has no volume, the node has no last settlement of a
-- branch that stands unsettled either.
pub record IsNext (n m : Node) : Type 0 where
  pub named : m.name ≡ n.name
  pub reopened : IsReopened n m
  pub bare : has_volume m ≡ false → IsLastApart m

-- so do the nodes of a rack, each at its place
abbrev pub AreNext : List Node → List Node → Type 0
AreNext [] [] = Unit {0}
AreNext (n ∷ ns) (m ∷ ms) = IsNext n m × AreNext ns ms
AreNext [] (m ∷ ms) = ⊥
AreNext (n ∷ ns) [] = ⊥

-- The premises under which more is promised of a run (AgreedPromises): of the nodes that it begins with, that something is known of each disk, or that an INIT of the run
-- replaces what it had; and of the images with which it begins, as its lines tell them.
pub record MayAgree (nodes : List Node) (es : List Entry) : Type 0 where
  pub opening : AreOpening nodes
  pub names : NamesApart nodes
  pub disks : AreKnownOrAnew es nodes
  pub agree : IsAgreeing (opening_told nodes es)

-- What such a run leaves, the next run begins with: no two nodes have one name, no last settlement is of a branch that stands unsettled, and the images agree, as any
-- lines tell them that make volumes only of nodes of which no image tells an id. So they do where no line makes a volume, and where an INIT was ended by a failure.
-- Something is known of each disk, where the run left none of which nothing is known, as a failed INIT does.
pub record LeftSo (closing : World) (next : List Node) : Type 0 where
  pub names : NamesApart next
  pub lasts : AreLastApart next
  pub agree : IsAgreeing (opening_told next [])
  pub told : (es : List Entry) → MadeAreNew next es → IsAgreeing (opening_told next es)
  pub known : ((name : List ℕ) (n : Node) → find_node name closing.nodes ≡ Some n → n.durable.volume ≡ Unknown → ⊥) → (name : List ℕ) (m : Node) → find_node name next ≡ Some m → IsKnown m

abbrev pub NextRunsAgree : Type 0
NextRunsAgree = (nodes : List Node) (disks : List DiskCounts) (es : List Entry) (closing : World) → MayAgree nodes es → Legal (opened nodes disks) es closing → (next : List Node) → AreNext closing.nodes next → LeftSo closing next

-- Any number of runs.

-- one run: the nodes that it begins with, the counts of their disks, its entries, and the world that these lead to
pub record RunOf : Type 0 where
  pub nodes : List Node
  pub disks : List DiskCounts
  pub entries : List Entry
  pub closing : World

-- A node that was in no run yet: its disk has no volume, or one on which nothing ever happened.
pub record IsNew (n : Node) : Type 0 where
  pub image : has_volume n ≡ true → image_of n ≡ no_image
  pub bare : has_volume n ≡ false → IsLastApart n

-- What a run begins with behind these, the newest first: the first, of nodes of different names, with disks on which nothing ever happened; each other with what the run
-- before it left, and no image tells an id of a node whose volume it makes. Something is known of each disk, or an INIT of the run replaces what it had, whatever that
-- was.
abbrev pub Begins : List RunOf → RunOf → Type 0
Begins [] r = NamesApart r.nodes × AllByRecursion (λ (n : Node). (IsNew n × IsKnown n) ⊎ IsReplaced n.name r.entries) r.nodes
Begins (before ∷ rs) r = AreNext before.closing.nodes r.nodes × MadeAreNew r.nodes r.entries × AllByRecursion (λ (n : Node). IsKnown n ⊎ IsReplaced n.name r.entries) r.nodes

-- Runs one after another, the newest first, each of a legal transcript.
abbrev pub Follow : List RunOf → Type 0
Follow [] = Unit {0}
Follow (r ∷ rs) = Follow rs × Begins rs r × AreOpening r.nodes × Legal (opened r.nodes r.disks) r.entries r.closing

-- Of each all is promised that is promised where images agree.
abbrev pub ChainsAgree : Type 0
ChainsAgree = (r : RunOf) (rs : List RunOf) → Follow (r ∷ rs) → MayAgree r.nodes r.entries × AgreedPromises (opened r.nodes r.disks) r.entries r.closing
