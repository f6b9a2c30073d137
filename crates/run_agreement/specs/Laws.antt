-- What holds of each legal transcript of several nodes, from images that agree.
use Rattle.std.specs.List.{last_or}
use Rattle.std.specs.Option.{option_map}
use Rattle.std.specs.Str.{bytes_eq}
use Rattle.std.specs.Prelude.{◌≡◌, ◌==◌, ℕ, true, false, if◌then◌else◌, nat_lt, List, [], ◌∷◌, ◌++◌, Bool, Option, Some, None, ◌⊎◌}
use Rattle.vms_model.specs.Ids.{Id}
use Rattle.vms_model.specs.Transactions.{Outcome, Commit as ToCommit, Abort as ToAbort}
use Rattle.vms_model.specs.Limits.{boot_limit, moment_limit, position_limit}
use Rattle.run_model.specs.transcript_model.Lines.{Line, Cause, Down, Normal, Broken, NoMemory, QuotaExceeded, Boots, Moments, Positions, NotInitializedAt, NoVolume, InDoubt}
use Rattle.run_model.specs.script_model.Statements.{At, Settle, Init, EndTrans, Reading, Blank, Says, Bad}
use Rattle.run_model.specs.script_model.Grammar.{reading}
use Rattle.commit_protocol.specs.Messages.{Name}
use Rattle.commit_protocol.specs.Table.{Key, Branch, first, coordinator_of}
use Rattle.commit_protocol.specs.Allowed.{is_prepared}
use Rattle.commit_protocol.specs.World as protocol
use Rattle.commit_protocol.specs.World.{In, run}
use Rattle.commit_protocol.specs.Agreement.{view, Agrees}
use Rattle.commit_protocol.specs.Opening.{Opening, Image, IsAgreeing, no_image, opened, settled_in, accepted_in, commits_in}
use Rattle.run_model.specs.World as world
use Rattle.run_model.specs.World.{World, DiskCounts, Node, Settlement, Sound, Faulty, Barred, NoRing, NoIndex, AllBoots, LateMoment, FarPosition, IsLogInOrder, find_node}
use Rattle.run_model.specs.Answers.{branch_labelled, last_position}
use Rattle.run_model.specs.Statements.{RoseAt, Step}
use Rattle.run_model.specs.Transcript.{Entry, Turn, Legal, AreOpening}
use Rattle.run_agreement.specs.Seen.{Resolution, IsKnown, has_volume, outcome_of, landed, image_of}
use Rattle.run_agreement.specs.Following.{Shows, opening_of}

-- Runs.

-- A node that was in no use yet: it is down, nothing is under way or was settled, something is known of its disk, and where this has a volume, log and journal are
-- in order.
pub record IsUnused (n : Node) : Type 0 where
  pub down : n.up ≡ false
  pub quiet : n.under_way ≡ None
  pub settled : n.settled ≡ []
  pub known : IsKnown n
  pub log : n.durable.volume ≡ Sound → IsLogInOrder n

-- no two nodes have one name
abbrev pub NamesApart : List Node → Type 0
NamesApart [] = Unit {0}
NamesApart (n ∷ ns) = (find_node n.name ns ≡ None) × NamesApart ns

-- a rack whose nodes are in no use yet
pub record IsBase (w : World) : Type 0 where
  pub nodes : (n : Name) (x : Node) → find_node n w.nodes ≡ Some x → IsUnused x
  pub apart : NamesApart w.nodes
  pub labels : w.shared.labels ≡ []
  pub wire : w.shared.wire ≡ []
  pub accepted : w.shared.accepted ≡ []
  pub read_only : w.shared.read_only ≡ []

-- an INIT is asked only where a node may have been in use, so that it makes no volume
abbrev pub MakesNoVolume : World → Reading → Type 0
MakesNoVolume w (Says s) = (node : List ℕ) (slots journal : ℕ) → s ≡ At node (Init slots journal) → w.shared.in_use ≡ true
MakesNoVolume w Blank = Unit {0}
MakesNoVolume w (Bad column) = Unit {0}

-- these entries, the newest first, lead from a base to this world, and make no volume
abbrev pub RunsFrom : World → List Entry → World → Type 0
RunsFrom base [] v = v ≡ base
RunsFrom base (e ∷ es) v = (mid : World) × RunsFrom base es mid × MakesNoVolume mid (reading e.source.text) × Turn mid (reading e.source.text) e.lines v

-- a run from images that agree
pub record IsRun (base : World) (es : List Entry) (v : World) : Type 0 where
  pub base_is : IsBase base
  pub agrees : IsAgreeing (opening_of base)
  pub runs : RunsFrom base es v

-- The tie.

-- there are steps of the protocol by which it comes from the opening to a world that shows this one
pub record IsReachedBy (base : World) (r : Resolution) (v : World) : Type 0 where
  pub steps : List protocol.Step
  pub shows : Shows (opening_of base) r v (run steps (opened (opening_of base)))

-- however the acts under way turn out
abbrev pub AreRuns : Type 0
AreRuns = (base v : World) (es : List Entry) → IsRun base es v → (r : Resolution) → IsReachedBy base r v

-- that world of the protocol agrees in all its parts
abbrev pub Agree : Type 0
Agree = (base v : World) (es : List Entry) → IsRun base es v → (r : Resolution) → (x : IsReachedBy base r v) × Agrees (view (run x.steps (opened (opening_of base))))

-- Outcomes.

-- a branch was settled so at its node in this run, where the acts under way turn out so
abbrev pub IsSettled : Resolution → World → Key → Outcome → Type 0
IsSettled r v k out = (n : Name) × (x : Node) × (find_node n v.nodes ≡ Some x) × ((s : Settlement) × In s (landed (r n) x).settled × (outcome_of s ≡ (k, out)))

-- a branch of its transaction: the first, one that was told to be accepted, or one that an opening image shows accepted
abbrev pub IsBranch : World → World → Key → Type 0
IsBranch base v k = (k ≡ first k.tid) ⊎ (In k v.shared.accepted ⊎ In k (accepted_in (opening_of base)))

-- a branch is settled so: at its node in this run, or before it, as the opening images show
abbrev pub HasOutcome : World → Resolution → World → Key → Outcome → Type 0
HasOutcome base r v k out = In (k, out) (settled_in (opening_of base)) ⊎ IsSettled r v k out

-- the transaction is committed: its first branch is, or an opening image shows a commit of it
abbrev pub IsCommitted : World → Resolution → World → Id → Type 0
IsCommitted base r v t = HasOutcome base r v (first t) ToCommit ⊎ In t (commits_in (opening_of base))

-- No transaction has a committed branch and an aborted one, and no branch of a committed transaction is aborted, whether they were settled in this run or before it.
abbrev pub SettleAlike : Type 0
SettleAlike = (base v : World) (es : List Entry) → IsRun base es v → (r : Resolution) (k : Key) → IsBranch base v k → HasOutcome base r v k ToAbort →
    ((j : Key) → j.tid ≡ k.tid → HasOutcome base r v j ToCommit → ⊥) × (IsCommitted base r v k.tid → ⊥)

-- A branch that is committed is of a committed transaction.
abbrev pub CommittedAreOfCommitted : Type 0
CommittedAreOfCommitted = (base v : World) (es : List Entry) → IsRun base es v → (r : Resolution) (k : Key) → HasOutcome base r v k ToCommit → IsCommitted base r v k.tid

-- What is settled stays so: whatever turns out of the acts under way later, there is what turned out of them before by which it was so.
abbrev pub StaySettled : Type 0
StaySettled = (base v u : World) (es fs : List Entry) → IsRun base es v → RunsFrom v fs u → (r : Resolution) →
    (q : Resolution) × ((k : Key) (out : Outcome) → HasOutcome base q v k out → HasOutcome base r u k out)

-- each node of the rack is up, and no branch is unsettled
abbrev pub IsAtRest : World → Type 0
IsAtRest v = (n : Name) (x : Node) → find_node n v.nodes ≡ Some x → (x.up ≡ true) × (x.volatile.branches ≡ [])

-- A settling that is answered with its success leaves none.
abbrev pub SettlingLeavesNone : Type 0
SettlingLeavesNone = (base v u : World) (es : List Entry) (events : List Line) → IsRun base es v → Step v Settle (events ++ Normal ∷ []) u → IsAtRest u

-- a node of the rack is so
abbrev pub HasNode : World → (Node → Type 0) → Type 0
HasNode u P = (n : Name) × (x : Node) × (find_node n u.nodes ≡ Some x) × P x

-- the first of these nodes that is down
abbrev pub first_down : List Node → Option Node
first_down [] = None
first_down (n ∷ ns) = if n.up then first_down ns else Some n

-- A settling boots the nodes that are down, one after another in the order of the rack. It ended at the boot of the node of this name, and did not boot it: of the nodes
-- behind it, this is the first that is down.
pub record EndedAtBoot (behind : List Node) (n : Name) (x : Node) : Type 0 where
  pub there : find_node n behind ≡ Some x
  pub first : first_down behind ≡ Some x

-- A failure of a disk ended a settling: last before its answer stands that a node is down, with that cause; the count of the cause rose at the node's disk, from
-- the world before the settling to that behind it; and there the node is down.
pub record HasFailed (w u : World) (events : List Line) (cause : Cause) : Type 0 where
  pub node : Name
  pub shown : List Line
  pub told : events ≡ shown ++ Down node cause ∷ []
  pub rose : RoseAt w node cause u.disks
  pub down : option_map (λ n. n.up) (find_node node u.nodes) ≡ Some false

-- How a settling ends that does not succeed, from one world to another and with these lines before its answer: a disk failed or was stopped in it; it ended at the boot of
-- a node that was never up, and memory is missing; of one that was booted as often as may be, or whose greatest moment or a position is too late; of one whose INIT failed; or
-- of one that has no volume; or the coordinator of a prepared branch is not in the rack.
abbrev pub EndsFor : World → World → List Line → Line → Type 0
EndsFor w u events (Broken cause) = HasFailed w u events cause
EndsFor w u events NoMemory = (n : Name) × (x : Node) × EndedAtBoot u.nodes n x × (x.was_up ≡ false)
EndsFor w u events (QuotaExceeded Boots limit) = (limit ≡ boot_limit) × ((n : Name) × (x : Node) × EndedAtBoot u.nodes n x × (((x.durable.boot == limit) ≡ true) ⊎ (x.durable.volume ≡ Barred AllBoots)))
EndsFor w u events (QuotaExceeded Moments limit) = (limit ≡ moment_limit) × ((n : Name) × (x : Node) × EndedAtBoot u.nodes n x × ((nat_lt limit x.durable.greatest ≡ true) ⊎ (x.durable.volume ≡ Barred LateMoment)))
EndsFor w u events (QuotaExceeded Positions limit) = (limit ≡ position_limit) × ((n : Name) × (x : Node) × EndedAtBoot u.nodes n x × ((nat_lt limit (last_position x) ≡ true) ⊎ (x.durable.volume ≡ Barred FarPosition)))
EndsFor w u events (NotInitializedAt n) = (x : Node) × EndedAtBoot u.nodes n x × (x.unmade ≡ true)
EndsFor w u events (NoVolume n condition block) =
    (x : Node) × EndedAtBoot u.nodes n x
    × ((x.durable.volume ≡ Faulty condition block) ⊎ (((condition ≡ 6) × (x.durable.volume ≡ Barred (NoRing block))) ⊎ ((condition ≡ 11) × (x.durable.volume ≡ Barred (NoIndex block)))))
EndsFor w u events (InDoubt serial n) =
    (find_node n u.nodes ≡ None) × HasNode u (λ x. (b : Branch) × In b x.volatile.branches × (b.key.serial ≡ serial) × (coordinator_of b.key ≡ n) × (is_prepared b.state ≡ true))
EndsFor w u events _ = ⊥

-- A settling is answered with its success, or ends so.
abbrev pub SettlingEnds : Type 0
SettlingEnds = (base v u : World) (es : List Entry) (events : List Line) (answer : Line) → IsRun base es v → NamesApart v.nodes → Step v Settle (events ++ answer ∷ []) u → (answer ≡ Normal) ⊎ EndsFor v u events answer

-- In a world at rest each accepted branch of a committed transaction is committed or read-only.
abbrev pub RestingAreWhole : Type 0
RestingAreWhole = (base v : World) (es : List Entry) → IsRun base es v → IsAtRest v → (r : Resolution) (k : Key) →
    IsBranch base v k → (k ≡ first k.tid → ⊥) → IsCommitted base r v k.tid → HasOutcome base r v k ToCommit ⊎ In k v.shared.read_only

-- An END_TRANS that is answered SS$_NORMAL committed the transaction that its label names, and it is so from then on, whatever turns out of the acts under way.
abbrev pub EndsCommit : Type 0
EndsCommit = (base v mid u : World) (es fs : List Entry) (n : Name) (label : List ℕ) (events : List Line) → IsRun base es v → Step v (At n (EndTrans label)) (events ++ Normal ∷ []) mid → RunsFrom mid fs u →
    (x : Node) × (b : Branch) × (find_node n v.nodes ≡ Some x) × (branch_labelled v.shared x label ≡ Some b) × ((r : Resolution) → HasOutcome base r u (first b.key.tid) ToCommit)

-- The images that a run leaves.

-- the image that a node leaves, where its act under way turned out so
abbrev pub image_after : Bool → Option Node → Image
image_after taken (Some x) = image_of (landed taken x)
image_after taken None = no_image

-- of the nodes of these names
abbrev pub images_after : Resolution → World → List (Name × Image) → List (Name × Image)
images_after r v [] = []
images_after r v (i ∷ is) = (i.0, image_after (r i.0) (find_node i.0 v.nodes)) ∷ images_after r v is

-- the opening of the next run: of all nodes with volumes
abbrev pub next_opening : World → Resolution → World → Opening
next_opening base r v = record { images = images_after r v (opening_of base).images }

-- They agree again, however the acts under way turn out.
abbrev pub LeaveAgreement : Type 0
LeaveAgreement = (base v : World) (es : List Entry) → IsRun base es v → (r : Resolution) → IsAgreeing (next_opening base r v)

-- The images with which a run begins, as its lines tell them.

-- the image of a node's volume, where it has one
abbrev pub volume_image : Node → Option Image
volume_image n = if has_volume n then Some (image_of n) else None

-- An INIT that is answered with its success leaves a new volume, and one that a failure ended none; a refused one leaves what there was.
abbrev pub image_after_init : Option Line → Option Image → Option Image
image_after_init (Some Normal) i = Some no_image
image_after_init (Some (Broken cause)) i = None
image_after_init answer i = i

abbrev pub image_here : Name → Reading → Option Line → Option Image → Option Image
image_here n (Says (At m (Init slots journal))) answer i = if bytes_eq m n then image_after_init answer i else i
image_here n said answer i = i

abbrev pub image_told : Name → Option Image → List Entry → Option Image
image_told n first [] = first
image_told n first (e ∷ es) = image_here n (reading e.source.text) (last_or None e.lines) (image_told n first es)

abbrev pub with_image : Name → Option Image → List (Name × Image) → List (Name × Image)
with_image n None is = is
with_image n (Some i) is = (n, i) ∷ is

-- of the nodes that a run was opened with
abbrev pub images_told : List Node → List Entry → List (Name × Image)
images_told [] es = []
images_told (n ∷ ns) es = with_image n.name (image_told n.name (volume_image n) es) (images_told ns es)

abbrev pub opening_told : List Node → List Entry → Opening
opening_told ns es = record { images = images_told ns es }

-- An entry replaces what the disk of this node had: it is an INIT of it that succeeded, or that a failure ended.
pub record Replaces (node : Name) (e : Entry) : Type 0 where
  pub slots : ℕ
  pub journal : ℕ
  pub says : reading e.source.text ≡ Says (At node (Init slots journal))
  pub answered : (last_or None e.lines ≡ Some Normal) ⊎ ((cause : Cause) × (last_or None e.lines ≡ Some (Broken cause)))

-- one of these entries does
abbrev pub IsReplaced : Name → List Entry → Type 0
IsReplaced node [] = ⊥
IsReplaced node (e ∷ es) = Replaces node e ⊎ IsReplaced node es

-- Of each of these nodes something is known of its disk, or these entries replace what that had.
abbrev pub AreKnownOrReplaced : List Entry → List Node → Type 0
AreKnownOrReplaced es nodes = (n : Name) (x : Node) → find_node n nodes ≡ Some x → IsKnown x ⊎ IsReplaced n es

-- As long as no node may be in use, the world is a base, and its images are those that the lines tell;
abbrev pub UnusedAreTold : Type 0
UnusedAreTold = (nodes : List Node) (disks : List DiskCounts) (es : List Entry) (w : World) → AreOpening nodes → NamesApart nodes → AreKnownOrReplaced es nodes →
    Legal (world.opened nodes disks) es w → w.shared.in_use ≡ false → IsBase w × (opening_of w ≡ opening_told nodes es)

-- and from then on no line tells of others.
abbrev pub UsedTellNoMore : Type 0
UsedTellNoMore = (w v : World) (said : Reading) (lines : List Line) → Turn w said lines v → w.shared.in_use ≡ true → (v.shared.in_use ≡ true) × ((n : Name) (i : Option Image) → image_here n said (last_or None lines) i ≡ i)

-- Entries that lead from a base on tell of no others either.
abbrev pub RunsTellNoMore : Type 0
RunsTellNoMore = (nodes : List Node) (base v : World) (before since : List Entry) → RunsFrom base since v → opening_told nodes (since ++ before) ≡ opening_told nodes before

-- Each legal transcript is a run.

-- Each legal transcript from a rack before its first line, of nodes of different names, has a base, and is a run from there on: where something is known of each disk, or
-- the transcript replaces what that had.
abbrev pub RunsBegin : Type 0
RunsBegin = (nodes : List Node) (disks : List DiskCounts) (es : List Entry) (v : World) → AreOpening nodes → NamesApart nodes → AreKnownOrReplaced es nodes →
    Legal (world.opened nodes disks) es v → (base : World) × (before : List Entry) × (since : List Entry) × (es ≡ since ++ before) × Legal (world.opened nodes disks) before base × IsBase base × RunsFrom base since v × (base.shared.in_use ≡ false)
