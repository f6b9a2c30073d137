-- For which branches resource managers reply, and of which they are told something: those that they joined.
use Rattle.std.specs.Prelude.{◌≡◌, ◌⊎◌, ℕ, List, Some}
use Rattle.vms_model.specs.Ids.{Id}
use Rattle.world_laws.specs.transcript_model.Lines as line
use Rattle.world_laws.specs.transcript_model.Lines.{Line}
use Rattle.world_laws.specs.script_model.Statements.{At, AckEvent, BySerial, ByLabel, Named, Reading}
use Rattle.commit_protocol.specs.Messages.{LogRecord, Name, Reply, RmEvent}
use Rattle.commit_protocol.specs.World.{In}
use Rattle.world_laws.specs.log_laws.Slots.{records_in}
use Rattle.world_laws.specs.run_model.World.{Durable, Node, World, find_node}
use Rattle.world_laws.specs.run_model.Transcript.{Entry, InAllRuns}
use Rattle.run_laws.specs.Naming.{ToldLabel, find_told, labels_told}
use Rattle.run_laws.specs.Promises.{ShownThere}
use Rattle.run_laws.specs.SaidLaws.{SaidThere}
use Rattle.manager_laws.specs.Joining.{ManagerJoined}
use Rattle.manager_laws.specs.Replying.{IsTaken}
use Rattle.manager_laws.specs.Telling.{NoneMade}

-- a record of this branch stands in a log, prepared or committed, and names this manager
abbrev pub Recorded : (tid serial : Id) → (rm : Name) → Durable → Type 0
Recorded tid serial rm d = (r : LogRecord) × In r (records_in d.log) × (r.serial ≡ serial) × (r.tid ≡ tid) × In rm r.rms

-- such a record stood on its node's disk before the first line, and none of these entries made that volume anew
abbrev pub WasRecorded : (tid serial : Id) → (rm : Name) → World → List Entry → Type 0
WasRecorded tid serial rm opening es = (n : Node) × (find_node serial.node opening.nodes ≡ Some n) × Recorded tid serial rm n.durable × NoneMade serial.node es

-- the manager joined the branch, by a JOIN_RM that succeeded; or it had before the first line, as such a record told
abbrev pub IsMember : World → List Entry → (tid serial : Id) → (rm : Name) → Type 0
IsMember opening es tid serial rm = ManagerJoined es tid serial rm ⊎ WasRecorded tid serial rm opening es

-- a label or a serial names the branch of this serial
abbrev pub NamesSerial : List Entry → Named → Id → Type 0
NamesSerial es (ByLabel label) serial = (l : ToldLabel) × (find_told label (labels_told es) ≡ Some l) × (l.node ≡ serial.node) × (l.serial ≡ Some serial)
NamesSerial es (BySerial named) serial = named ≡ serial

-- A reply of a resource manager is taken only for a branch that it joined.
abbrev pub RepliesAreOfMembers : World → List Entry → Type 0
RepliesAreOfMembers opening es = (before : List Entry) (node : List ℕ) (who : Named) (rm : Name) (reply : Reply) (events : List Line) (answer : Line) → SaidThere es before (At node (AckEvent who rm reply)) events answer → IsTaken answer →
    (tid : Id) × (serial : Id) × (serial.node ≡ node) × NamesSerial before who serial × IsMember opening before tid serial rm

-- A resource manager is told something, whatever event it is, only of a branch that it joined.
abbrev pub EventsAreOfMembers : World → List Entry → Type 0
EventsAreOfMembers opening es = (before : List Entry) (said : Reading) (front behind : List Line) (event : RmEvent) (tid serial : Id) (rm : Name) → ShownThere es before said front (line.ManagerTold event tid serial rm) behind → IsMember opening before tid serial rm

abbrev pub EventsOfMembersHold : Type 0
EventsOfMembersHold = InAllRuns (λ opening es closing. EventsAreOfMembers opening es)

abbrev pub RepliesOfMembersHold : Type 0
RepliesOfMembersHold = InAllRuns (λ opening es closing. RepliesAreOfMembers opening es)
