-- What holds of all legal transcripts.
use Rattle.std.specs.Prelude.{◌≡◌, ℕ, ◌⊎◌, List, [], ◌∷◌, ◌++◌, map, true, false, Some}
use Rattle.std.specs.Option.{option_map}
use Rattle.vms_model.specs.Ids.{Id}
use Rattle.vms_model.specs.Transactions.{Reason}
use Rattle.run_said.specs.transcript_model.Lines.{Line, Cause, Aborted, Down, NotInitializedAt}
use Rattle.run_said.specs.script_model.Statements.{Statement, Settle, Reading}
use Rattle.commit_protocol.specs.World.{In}
use Rattle.unit_laws.specs.Journal.{RecoveryUnit, find_unit, units_in}
use Rattle.run_said.specs.log_laws.Slots.{records_in}
use Rattle.run_said.specs.run_model.World.{World, Node, DiskCounts, IsOpening, Settlement, find_node, opened}
use Rattle.run_said.specs.run_model.Answers.{last_line}
use Rattle.run_said.specs.run_model.Statements.{Step, RoseAt}
use Rattle.run_said.specs.run_model.Transcript.{Entry, Legal, AreOpening, InAllRuns}
use Rattle.commit_protocol.specs.Opening.{IsAgreeing}
use Rattle.run_agreement.specs.Seen.{IsKnown}
use Rattle.run_agreement.specs.Following.{opening_of}
use Rattle.run_agreement.specs.Laws.{AreKnownOrReplaced, IsBase, NamesApart, RunsFrom, opening_told}
use Rattle.run_said.specs.Said.{SaidNode, node_in, said_of}
use Rattle.run_laws.specs.SaidLaws.{SaidThere}
use Rattle.run_laws.specs.Anew.{AreKnownOrAnew}
use Rattle.run_laws.specs.Agreed.{AgreedRun, EndedHoldAll, EndsHoldAll, SettlesWhole}
use Rattle.run_laws.specs.Showing.{AbortsShow, DirectsShow, EndsShow}
use Rattle.run_laws.specs.Promises.{ShownThere, ReasonFits, WasLast, shown_in, last_in, Descends, SettledOnce, KeptPromises, EndsCommit, EndsAbort, EndedComes, EndedSo, FailsAreMissing, PendingIsExact, WaitsAreWhole, AbortsAbort, DirectsCommit, IdsAreNew, CommitsAreKept, AbortsAreKept, FailuresAreDecided, RestartsDecide, AllAreShown, IsLastApart, LastsAreKept, LastsFirst, FallsWereBegun, LastFallsWereBegun, BootsShowLast, LastsWereAsked, LastsWereCaused, BootsShowPrepared, OthersWerePrepared, PreparedAreTold, VotesWereCaused, LeavesWereCaused, ReadOnlyChangedNothing, AbortsStand, AreLastApart, DumpPromises, settlements_of}

-- Each such transcript keeps the promises,
abbrev pub PromisesAreKept : Type 0
PromisesAreKept = InAllRuns KeptPromises

-- and of these each alone
abbrev pub EndsHold : Type 0
EndsHold = InAllRuns (λ opening es closing. EndsCommit es closing)

abbrev pub FailsHold : Type 0
FailsHold = InAllRuns (λ opening es closing. EndsAbort es closing)

abbrev pub MissingHold : Type 0
MissingHold = InAllRuns (λ opening es closing. FailsAreMissing es)

abbrev pub WaitsHold : Type 0
WaitsHold = InAllRuns (λ opening es closing. WaitsAreWhole es)

abbrev pub PendingHold : Type 0
PendingHold = InAllRuns (λ opening es closing. PendingIsExact es)

abbrev pub EndedHold : Type 0
EndedHold = InAllRuns (λ opening es closing. EndedSo es closing)

abbrev pub EndedComesHold : Type 0
EndedComesHold = InAllRuns (λ opening es closing. EndedComes es)

abbrev pub AbortsHold : Type 0
AbortsHold = InAllRuns (λ opening es closing. AbortsAbort es closing)

abbrev pub EndsShowHold : Type 0
EndsShowHold = InAllRuns (λ opening es closing. EndsShow es)

abbrev pub AbortsShowHold : Type 0
AbortsShowHold = InAllRuns (λ opening es closing. AbortsShow es)

abbrev pub DirectsShowHold : Type 0
DirectsShowHold = InAllRuns (λ opening es closing. DirectsShow es)

abbrev pub DirectsHold : Type 0
DirectsHold = InAllRuns (λ opening es closing. DirectsCommit es closing)

abbrev pub NewHold : Type 0
NewHold = InAllRuns (λ opening es closing. IdsAreNew es)

abbrev pub CommitmentsHold : Type 0
CommitmentsHold = InAllRuns (λ opening es closing. CommitsAreKept es closing)

abbrev pub AbortedHold : Type 0
AbortedHold = InAllRuns (λ opening es closing. AbortsAreKept es closing)

abbrev pub FallsBegunHold : Type 0
FallsBegunHold = InAllRuns (λ opening es closing. FallsWereBegun opening es)

abbrev pub LastFallsBegunHold : Type 0
LastFallsBegunHold = InAllRuns (λ opening es closing. LastFallsWereBegun opening es)

abbrev pub InterruptedHold : Type 0
InterruptedHold = InAllRuns (λ opening es closing. FailuresAreDecided es closing)

abbrev pub RestartsHold : Type 0
RestartsHold = InAllRuns (λ opening es closing. RestartsDecide es closing)

abbrev pub ShownHold : Type 0
ShownHold = InAllRuns (λ opening es closing. AllAreShown es closing)

abbrev pub LastsHold : Type 0
LastsHold = InAllRuns LastsAreKept

abbrev pub LastsFirstHold : Type 0
LastsFirstHold = InAllRuns (λ opening es closing. LastsFirst es)

abbrev pub BootsShowLastHold : Type 0
BootsShowLastHold = InAllRuns (λ opening es closing. BootsShowLast es)

abbrev pub AskedHold : Type 0
AskedHold = InAllRuns (λ opening es closing. LastsWereAsked opening es)

abbrev pub CausedHold : Type 0
CausedHold = InAllRuns (λ opening es closing. LastsWereCaused opening es)

abbrev pub PreparedHold : Type 0
PreparedHold = InAllRuns (λ opening es closing. PreparedAreTold opening es)

abbrev pub OthersHold : Type 0
OthersHold = InAllRuns (λ opening es closing. OthersWerePrepared opening es)

abbrev pub VotesCausedHold : Type 0
VotesCausedHold = InAllRuns (λ opening es closing. VotesWereCaused es)

abbrev pub LeavesCausedHold : Type 0
LeavesCausedHold = InAllRuns (λ opening es closing. LeavesWereCaused es)

abbrev pub BootedHold : Type 0
BootedHold = InAllRuns (λ opening es closing. BootsShowPrepared opening es)

abbrev pub ReadOnlyHold : Type 0
ReadOnlyHold = InAllRuns (λ opening es closing. ReadOnlyChangedNothing es)

-- Where no last settlement at the opening is of a branch that stands unsettled there, and aborts stand, dumps show what was committed.
abbrev pub DumpsHold : Type 0
DumpsHold = (nodes : List Node) (disks : List DiskCounts) (es : List Entry) (closing : World) → AreOpening nodes → AreLastApart nodes → Legal (opened nodes disks) es closing → AbortsStand (opened nodes disks) es → DumpPromises (opened nodes disks) es

-- Wherever a node may have come into use, the images agree with which the run began: those of the base from which its entries lead there, by whatever worlds, and in
-- which none could be in use yet.
abbrev pub AllAgree : List Node → List DiskCounts → List Entry → Type 0
AllAgree nodes disks es = (later since before : List Entry) (base v : World) → es ≡ later ++ (since ++ before) → Legal (opened nodes disks) before base → IsBase base → base.shared.in_use ≡ false → RunsFrom base since v → v.shared.in_use ≡ true → IsAgreeing (opening_of base)

-- So it is in a legal transcript where the images agree that its lines tell.
abbrev pub ToldAgree : Type 0
ToldAgree = (nodes : List Node) (disks : List DiskCounts) (es : List Entry) (closing : World) → AreOpening nodes → NamesApart nodes → AreKnownOrReplaced es nodes →
    Legal (opened nodes disks) es closing → IsAgreeing (opening_told nodes es) → AllAgree nodes disks es

-- So aborts stand, in racks of nodes of different names of whose disks something is known;
abbrev pub AgreedAbortsStand : Type 0
AgreedAbortsStand = (nodes : List Node) (disks : List DiskCounts) (es : List Entry) → AreOpening nodes → NamesApart nodes → ((name : List ℕ) (n : Node) → find_node name nodes ≡ Some n → IsKnown n) → AllAgree nodes disks es → AbortsStand (opened nodes disks) es

-- and dumps show what was committed.
abbrev pub AgreedDumpsHold : Type 0
AgreedDumpsHold = (nodes : List Node) (disks : List DiskCounts) (es : List Entry) (closing : World) → AreOpening nodes → NamesApart nodes → ((name : List ℕ) (n : Node) → find_node name nodes ≡ Some n → IsKnown n) → AreLastApart nodes → AllAgree nodes disks es →
    Legal (opened nodes disks) es closing → DumpPromises (opened nodes disks) es

-- All that is proved of a run where the images agree with which it begins, as its lines tell them.
pub record AgreedPromises (opening : World) (es : List Entry) (closing : World) : Type 0 where
  pub kept : KeptPromises opening es closing
  -- the base from which the run leads on, and the entries before it and since: those before it lead there from the opening, up to there no node may be in use, and it has
  -- the images that the lines tell
  pub base : World
  pub before : List Entry
  pub since : List Entry
  pub parts : es ≡ since ++ before
  pub begins : Legal opening before base
  pub unused : base.shared.in_use ≡ false
  pub told : opening_of base ≡ opening_told opening.nodes es
  pub run : AgreedRun base since closing
  pub ends : EndsHoldAll base es closing
  pub ended : EndedHoldAll base es closing
  pub settles : SettlesWhole base opening es closing
  pub dumps : DumpPromises opening es
  pub stand : AbortsStand opening es

-- So it is of nodes of different names of whose disks something is known, or whose disks an INIT replaces, whatever they had.
abbrev pub AgreedPromisesAreKept : Type 0
AgreedPromisesAreKept = (nodes : List Node) (disks : List DiskCounts) (es : List Entry) (closing : World) → AreOpening nodes → NamesApart nodes → AreKnownOrAnew es nodes → IsAgreeing (opening_told nodes es) →
    Legal (opened nodes disks) es closing → AgreedPromises (opened nodes disks) es closing

-- A disk of which no transaction of another node was part: its log is empty, its units and its last settlement are of first branches, and this is of no unit.
pub record IsOfOneNode (n : Node) : Type 0 where
  pub log : records_in n.durable.log ≡ []
  pub units : (x : Id) (u : RecoveryUnit) → find_unit x (units_in n.durable.units.entries) ≡ Some u → u.tid ≡ u.serial
  pub last : (s : Settlement) → n.durable.last ≡ Some s → s.tid ≡ s.serial
  pub apart : IsLastApart n

-- Of one node alone with such a disk the images agree, whatever its lines tell.
abbrev pub OneNodeAgrees : Type 0
OneNodeAgrees = (n : Node) (es : List Entry) → IsOpening n → IsOfOneNode n → IsAgreeing (opening_told (n ∷ []) es)

-- In every legal transcript no branch of a node is settled twice, so none is both committed and aborted, and moments ascend.
abbrev pub SettlesOnce : Type 0
SettlesOnce = InAllRuns (λ opening es closing. (node : List ℕ) → SettledOnce (settlements_of node closing) × Descends (settlements_of node closing))

-- What was settled in a world to which some entries lead is settled so in each to which later ones lead from there.
abbrev pub SettlementsStay : Type 0
SettlementsStay = (nodes : List Node) (disks : List DiskCounts) (after before : List Entry) (w closing : World) → AreOpening nodes → Legal (opened nodes disks) before w → Legal w after closing →
    (node : List ℕ) (s : Settlement) → In s (settlements_of node w) → In s (settlements_of node closing)

-- What a line shows to be settled in its statement is settled so by a node, with its transaction, branch, outcome, reason and moment, from then on and for good.
abbrev pub ShownAreSettled : Type 0
ShownAreSettled = (nodes : List Node) (disks : List DiskCounts) (es : List Entry) (closing : World) → AreOpening nodes → Legal (opened nodes disks) es closing →
    (before : List Entry) (said : Reading) (front behind : List Line) (this : Line) (s : Settlement) → ShownThere es before said front this behind → shown_in this ≡ Some s → (node : List ℕ) × In s (settlements_of node closing)

-- What a line shows as the last settlement of a disk is shown of one that a node settled, from then on and for good, or of the last one that its disk had at the
-- opening, where no INIT made its volume anew before.
abbrev pub LastsAreSettled : Type 0
LastsAreSettled = (nodes : List Node) (disks : List DiskCounts) (es : List Entry) (closing : World) → AreOpening nodes → Legal (opened nodes disks) es closing →
    (before : List Entry) (said : Reading) (front behind : List Line) (this : Line) (s : Settlement) → ShownThere es before said front this behind → last_in this ≡ Some s →
    (node : List ℕ) × (((t : Settlement) × In t (settlements_of node closing) × (last_line t ≡ this ∷ [])) ⊎ WasLast node this (opened nodes disks) before)

-- The reason of an abort that a line shows comes only with a statement that it names.
abbrev pub ReasonsComeSo : Type 0
ReasonsComeSo = InAllRuns (λ opening es closing. (before : List Entry) (said : Reading) (front behind : List Line) (tid serial : Id) (reason : Reason) (moment : ℕ) → ShownThere es before said front (Aborted tid serial reason moment) behind → ReasonFits reason said)

-- Whichever statement shows that a node went down, its disk failed or was stopped in that statement, and the node is down behind it.
abbrev pub DownsAreFailures : Type 0
DownsAreFailures = (w v : World) (s : Statement) (lines : List Line) (node : List ℕ) (cause : Cause) → Step w s lines v → In (Down node cause) lines → RoseAt w node cause v.disks × (option_map (λ n. n.up) (find_node node v.nodes) ≡ Some false)

-- A settling that is refused for the volume of a node was said to be: the last INIT of that node which made its disk run failed.
abbrev pub UnmadeAreSaid : Type 0
UnmadeAreSaid = (nodes : List Node) (disks : List DiskCounts) (es : List Entry) (closing : World) → AreOpening nodes → Legal (opened nodes disks) es closing →
    (before : List Entry) (events : List Line) (node : List ℕ) → SaidThere es before Settle events (NotInitializedAt node) → (x : SaidNode) × (node_in node (said_of (map (λ n. n.name) nodes) before).nodes ≡ Some x) × (x.unmade ≡ true)
