-- What holds of each step of a node and of the world.
use Rattle.std.specs.Prelude.{◌≡◌, ℕ, ◌+◌, ◌<◌, ◌^◌, ◌⊎◌, List, [], ◌∷◌, ◌++◌, Bool, true, false, Option, Some, None, map, length, option_map}
use Rattle.std.specs.List.{last_or}
use Rattle.transcript_model.specs.vms_model.Ids.{Id}
use Rattle.transcript_model.specs.Lines.{Line, Cause, Down, NoSuchNode, NodeDown, NodeUp, VolumeInUse, NotInitialized, NotInitializedAt, NoSuchMessage, BadLabel, FileNotFound, FileExists, BadParameter, BadOperation, BadRecordNumber, BadRecordSize, NoSuchTransaction, NoSuchBranchId, NoSuchManager, WrongState, InDoubt, NotForUnits, NeedsUnit, RecordLocked, FileLocked, NoVolume, RecordExists, KeyExists, RecordNotFound, EndOfFile, KeyChanged, QuotaExceeded, VolumeFull, FileFull, JournalFull, NoJournal, NoSave, TooEarly, PositionsMissing, MomentsMissing, AftersFull, BeforesFull, NoMemory, Broken}
use Rattle.script_model.specs.Statements.{Statement, At, Deliver, LinkDown, Settle, Clock}
use Rattle.transcript_model.specs.commit_protocol.Table.{Branch, coordinator_of}
use Rattle.run_model.specs.World.{World, Shared, Node, DiskCounts, Outturn, MayTurnOut, opened, find_node, with_node, disk_of, with_counts}
use Rattle.run_model.specs.Answers.{Task, Serves, Takes, Hears, task_service, refused_before_reading, powers}
use Rattle.run_model.specs.Steps.{Choice, NodeStep, ready_node, succeeded}
use Rattle.run_model.specs.Statements.{Part, Does, Asks, PartEffect, Allowed, Question, Heard, Unanswered, Doubtful, part_effect, put_into, question, asking, message_at, stops_at, refused_at_once, RoseAt, Step}
use Rattle.run_model.specs.Transcript.{Entry, Legal, AreOpening}

-- Parts and statements as tasks.

-- a task at the node of this name
pub record TaskAt : Type 0 where
  pub node : List ℕ
  pub task : Task

-- what a part asks of which node: a question asks it of the node to which its answer is sent, where there is an answer
abbrev pub asked_by : Question → Option TaskAt
asked_by (Heard m) = Some (record { node = m.to; task = Hears m })
asked_by Unanswered = None
asked_by (Doubtful k) = None

abbrev pub task_of_part : World → Part → Option TaskAt
task_of_part w (Does node t) = Some (record { node = node; task = t })
task_of_part w (Asks node serial) = asked_by (question w node serial)

-- a statement that is one task of one node: a request, but for that of a clock, or a delivery
abbrev pub task_of : World → Statement → Option TaskAt
task_of w (At node (Clock now)) = None
task_of w (At node request) = Some (record { node = node; task = Serves request })
task_of w (Deliver number) = option_map (λ m. record { node = m.to; task = Takes m }) (message_at number w.shared.wire)
task_of w (LinkDown a b) = None
task_of w Settle = None

-- it is this one, of a node that is there
pub record IsTask (w : World) (s : Statement) (node : List ℕ) (t : Task) (n : Node) : Type 0 where
  pub begins : refused_at_once w s ≡ None
  pub task : task_of w s ≡ Some (record { node = node; task = t })
  pub found : find_node node w.nodes ≡ Some n

-- a part may show these lines and this answer, end its statement or not, and lead to this world, where these are the counts of the disks after the statement
abbrev pub PartStep : World → Part → List DiskCounts → PartEffect → Type 0
PartStep w p after e = (c : Choice) × Allowed w p after c × (part_effect w p c ≡ e)

-- What a task may show and make at its node is what a statement may show and make of the world that is this task alone, where the counts of the other disks
-- stay; and it may nothing else. It is also what a part may that is this task. What refuses a statement at once it may be told, and leave the world.
abbrev pub NodeStepsAreSteps : Type 0
NodeStepsAreSteps =
    ((w : World) (s : Statement) (node : List ℕ) (t : Task) (n m : Node) (old new : DiskCounts) (lines : List Line) (answer : Line) (ends : Bool) (after : Shared) → IsTask w s node t n → disk_of node w.nodes w.disks ≡ Some old →
    NodeStep w.shared n old t lines answer ends m after new →
    Step w s (lines ++ answer ∷ []) (record { nodes = with_node node (λ n. m) w.nodes; disks = with_counts node new w.nodes w.disks; shared = after }))
    × ((w v : World) (s : Statement) (node : List ℕ) (t : Task) (n : Node) (old new : DiskCounts) (lines : List Line) (answer : Line) → IsTask w s node t n → disk_of node w.nodes w.disks ≡ Some old → disk_of node w.nodes v.disks ≡ Some new →
    Step w s (lines ++ answer ∷ []) v → (m : Node) × (ends : Bool) × (v.nodes ≡ with_node node (λ n. m) w.nodes) × NodeStep w.shared n old t lines answer ends m v.shared new)
    × ((w : World) (p : Part) (node : List ℕ) (t : Task) (n m : Node) (old new : DiskCounts) (disks : List DiskCounts) (lines : List Line) (answer : Line) (ends : Bool) (after : Shared) → task_of_part w p ≡ Some (record { node = node; task = t }) →
    find_node node w.nodes ≡ Some n → disk_of node w.nodes w.disks ≡ Some old → disk_of node w.nodes disks ≡ Some new → NodeStep w.shared n old t lines answer ends m after new →
    PartStep w p disks (record { lines = lines; answer = answer; ends = ends; world = record w { nodes = with_node node (λ n. m) w.nodes; shared = after } }))
    × ((w : World) (s : Statement) (refusal : Line) → refused_at_once w s ≡ Some refusal → Step w s (refusal ∷ []) w)

-- an answer that refuses a statement, but for a failure of a disk
abbrev pub is_refusal : Line → Bool
is_refusal NoSuchNode = true
is_refusal NodeDown = true
is_refusal NodeUp = true
is_refusal VolumeInUse = true
is_refusal NotInitialized = true
is_refusal (NotInitializedAt node) = true
is_refusal NoSuchMessage = true
is_refusal BadLabel = true
is_refusal FileNotFound = true
is_refusal FileExists = true
is_refusal BadParameter = true
is_refusal BadOperation = true
is_refusal BadRecordNumber = true
is_refusal BadRecordSize = true
is_refusal NoSuchTransaction = true
is_refusal NoSuchBranchId = true
is_refusal NoSuchManager = true
is_refusal WrongState = true
is_refusal (InDoubt serial node) = true
is_refusal NotForUnits = true
is_refusal NeedsUnit = true
is_refusal (RecordLocked serial) = true
is_refusal (FileLocked serial) = true
is_refusal (NoVolume node condition block) = true
is_refusal RecordExists = true
is_refusal KeyExists = true
is_refusal RecordNotFound = true
is_refusal EndOfFile = true
is_refusal KeyChanged = true
is_refusal (QuotaExceeded quota limit) = true
is_refusal (VolumeFull free need) = true
is_refusal (FileFull free need) = true
is_refusal (JournalFull free need) = true
is_refusal NoJournal = true
is_refusal NoSave = true
is_refusal (TooEarly until saved) = true
is_refusal (PositionsMissing needed first) = true
is_refusal (MomentsMissing until since) = true
is_refusal (AftersFull free need) = true
is_refusal (BeforesFull free need) = true
is_refusal NoMemory = true
is_refusal _ = false

-- a statement whose parts nothing refuses: its nodes are only asked where they are up, and so that no task of theirs is refused
abbrev pub is_sweep : Statement → Bool
is_sweep (At node (Clock now)) = true
is_sweep (At node request) = false
is_sweep (Deliver number) = false
is_sweep (LinkDown a b) = true
is_sweep Settle = false

-- a node once its disk runs again, where the task makes it do so, and the world with it
abbrev pub ready_in_world : Outturn → World → List ℕ → Task → Node → Node
ready_in_world outturn w node t n = ready_node outturn (stops_at node w) (task_service t) n

abbrev pub with_ready : World → List ℕ → Node → World
with_ready w node ready = record w { nodes = with_node node (λ n. ready) w.nodes }

-- what the task of a node says of the world: what refuses it before its disk is read, and by what its disk has or by a quota; and whether it takes memory
abbrev pub refused_first : World → Node → Task → Option Line
refused_first w n t = refused_before_reading w.shared n (task_service t)

abbrev pub refused_then : World → Node → Task → Option Line
refused_then w n t = (task_service t).refused_after_reading w.shared n

abbrev pub may_lack_memory : Node → Task → Bool
may_lack_memory n t = (task_service t).takes_memory n

-- A task was refused so: by the first cause that applies before its disk is read; for memory was missing, where it may be; or by what its disk has or by a
-- quota. Only in the last case, and where the task makes its disk run again, does it leave the world that there is from then on; else it leaves the world but
-- for the counts of its disks.
abbrev pub IsRefusedSo : World → List ℕ → Task → Node → Line → World → Type 0
IsRefusedSo w node t n answer v =
    ((refused_first w n t ≡ Some answer) × (v ≡ record w { disks = v.disks }))
    ⊎ ((refused_first w n t ≡ None) × (answer ≡ NoMemory) × (may_lack_memory n t ≡ true) × (v ≡ record w { disks = v.disks }))
    ⊎ ((refused_first w n t ≡ None) × (outturn : Outturn) × MayTurnOut n outturn × (refused_then w (ready_in_world outturn w node t n) t ≡ Some answer)
    × (v ≡ record (with_ready w node (ready_in_world outturn w node t n)) { disks = v.disks }) × (powers (task_service t) ≡ false → ready_in_world outturn w node t n ≡ n))

-- a node in this world refuses a task so, or lacks memory for it
abbrev pub RefusesIn : World → Node → Task → Line → Type 0
RefusesIn v n t answer = (refused_first v n t ≡ Some answer) ⊎ (refused_then v n t ≡ Some answer) ⊎ ((answer ≡ NoMemory) × (may_lack_memory n t ≡ true))

-- So a settling may be refused, by what is so in the world that it leaves: a node refuses a task, or is not there; or a prepared branch has a coordinator that is
-- not there.
abbrev pub EndsSettling : World → Line → Type 0
EndsSettling v answer =
    ((node : List ℕ) × (t : Task) × (n : Node) × (find_node node v.nodes ≡ Some n) × RefusesIn v n t answer)
    ⊎ ((node : List ℕ) × (find_node node v.nodes ≡ None) × (answer ≡ NoSuchNode))
    ⊎ ((node : List ℕ) × (serial : Id) × (b : Branch) × (asking v node serial ≡ Some b) × (find_node (coordinator_of b.key) v.nodes ≡ None) × (answer ≡ InDoubt b.key.serial (coordinator_of b.key)))

-- What refuses a statement at once it is told alone, and it leaves the world but for the counts of its disks. One that is one task and is refused, other than by a
-- failure of a disk, shows nothing besides, and is refused as its task may be. A clock that is set and a link that fails are refused at once or not at all. A
-- settling is refused as one may be.
abbrev pub RefusalsLeaveWorld : Type 0
RefusalsLeaveWorld =
    ((w v : World) (s : Statement) (lines : List Line) (refusal : Line) → Step w s lines v → refused_at_once w s ≡ Some refusal → (lines ≡ refusal ∷ []) × (v ≡ record w { disks = v.disks }))
    × ((w v : World) (s : Statement) (node : List ℕ) (t : Task) (n : Node) (events : List Line) (answer : Line) → IsTask w s node t n → Step w s (events ++ answer ∷ []) v → is_refusal answer ≡ true → (events ≡ []) × IsRefusedSo w node t n answer v)
    × ((w v : World) (s : Statement) (events : List Line) (answer : Line) → is_sweep s ≡ true → refused_at_once w s ≡ None → Step w s (events ++ answer ∷ []) v → is_refusal answer ≡ false)
    × ((w v : World) (events : List Line) (answer : Line) → Step w Settle (events ++ answer ∷ []) v → is_refusal answer ≡ true → EndsSettling v answer)

-- counts that are below the greatest number of 64 bits, so that a failure raises them
abbrev pub CanRise : List DiskCounts → Type 0
CanRise [] = Unit {0}
CanRise (d ∷ ds) = (d.faults + 1 < 2 ^ 64) × (d.stops + 1 < 2 ^ 64) × CanRise ds

-- A disk that failed or was stopped in a statement which that ended is told last, its node is told to be down before that, and is down; and the count of the cause
-- rose. It is the node of a statement that is one task.
abbrev pub FailurePutsDown : Type 0
FailurePutsDown = (w v : World) (s : Statement) (events : List Line) (cause : Cause) → Step w s (events ++ Broken cause ∷ []) v →
    (node : List ℕ) × (shown : List Line) × (events ≡ shown ++ Down node cause ∷ []) × (option_map (λ n. n.up) (find_node node v.nodes) ≡ Some false) × RoseAt w node cause v.disks
    × ((here : List ℕ) (t : Task) (n : Node) → IsTask w s here t n → node ≡ here)

-- what a task shows and makes of a world whose disk runs again, where no disk fails: its refusal alone, where this refuses it, else its success
abbrev pub EndsWhole : World → List ℕ → Task → Node → Option Line → List Line → World → Type 0
EndsWhole w node t ready (Some refusal) lines v = (lines ≡ refusal ∷ []) × (v ≡ record (with_ready w node ready) { disks = v.disks })
EndsWhole w node t ready None lines v = let e = put_into w node (succeeded w.shared ready (task_service t)) in (lines ≡ e.lines ++ e.answer ∷ []) × (v ≡ record e.world { disks = v.disks })

-- Where no count rises, a task that no cause refuses before its disk is read is refused by what its disk has or by a quota, or is answered with its success and
-- does it; or memory is missing where it may be. How an act turns out that was under way where the node's disk runs again is the same for the cause and for
-- the success. Then no statement is ended by a failure of a disk.
abbrev pub SuccessIsGiven : Type 0
SuccessIsGiven =
    ((w v : World) (s : Statement) (node : List ℕ) (t : Task) (n : Node) (lines : List Line) → IsTask w s node t n → Step w s lines v →
    ((refusal : Line) → refused_first w n t ≡ Some refusal → (lines ≡ refusal ∷ []) × (v ≡ record w { disks = v.disks }))
    × (v.disks ≡ w.disks → CanRise w.disks → refused_first w n t ≡ None →
    ((outturn : Outturn) × MayTurnOut n outturn × EndsWhole w node t (ready_in_world outturn w node t n) (refused_then w (ready_in_world outturn w node t n) t) lines v)
    ⊎ ((lines ≡ NoMemory ∷ []) × (may_lack_memory n t ≡ true) × (v ≡ record w { disks = v.disks }))))
    × ((w v : World) (s : Statement) (events : List Line) (cause : Cause) → Step w s (events ++ Broken cause ∷ []) v → v.disks ≡ w.disks → CanRise w.disks → ⊥)

-- where memory was missing: the number of the lines, where the last says that
abbrev pub lacking : Line → ℕ → Option ℕ
lacking NoMemory count = Some count
lacking _ count = None

abbrev pub lacked_memory : List Line → Option ℕ
lacked_memory lines = elim (last_or None lines) [ Some answer ↦ lacking answer (length lines) | None ↦ None ]

-- where no count rises, what is shown is a function of the script, the opening, and of where memory was missing
abbrev pub IsDetermined : Type 0
IsDetermined = (nodes : List Node) (disks : List DiskCounts) (v u : World) (es fs : List Entry) → AreOpening nodes → Legal (opened nodes disks) es v → Legal (opened nodes disks) fs u → v.disks ≡ disks → u.disks ≡ disks → CanRise disks →
    map (λ e. e.source) es ≡ map (λ e. e.source) fs → map (λ e. lacked_memory e.lines) es ≡ map (λ e. lacked_memory e.lines) fs → es ≡ fs
