-- Which lines answer a statement, which of them each statement may be answered by, and how an answer tells that a disk failed or was stopped.
use Rattle.std.specs.Prelude.{◌≡◌, ◌||◌, ◌&&◌, ℕ, List, [], ◌∷◌, Bool, true, false, Option, Some, None, if◌then◌else◌}
use Rattle.std.specs.List.{last_or}
use Rattle.std.specs.Str.{bytes_eq}
use Rattle.commit_protocol.specs.World.{In}
use Rattle.run_said.specs.transcript_model.Lines as line
use Rattle.run_said.specs.transcript_model.Lines.{Cause, Line}
use Rattle.run_said.specs.script_model.Statements.{At, Boot, Clock, Crash, Deliver, Fuse, Init, LinkDown, Recover, Request, Settle, Statement}
use Rattle.run_said.specs.Said.{Said, SaidNode}
use Rattle.run_said.specs.run_model.Answers.{service, touches}
use Rattle.said_steps.specs.Calls.{is_named, shows_boot}

-- whether a line answers a statement
abbrev pub is_answer : Line → Bool
is_answer (line.Sent number m) = false
is_answer (line.Unsent m) = false
is_answer (line.Joined tid serial) = false
is_answer (line.Started tid serial) = false
is_answer (line.Prepared tid serial) = false
is_answer (line.ReadOnly tid serial) = false
is_answer (line.Ended tid reason) = false
is_answer (line.Forgot tid serial) = false
is_answer (line.Asked tid serial outcome) = false
is_answer (line.Booted node boot) = false
is_answer (line.Record key bytes) = false
is_answer (line.Committed tid serial moment) = false
is_answer (line.Aborted tid serial reason moment) = false
is_answer (line.LastCommitted tid serial moment) = false
is_answer (line.LastAborted tid serial reason moment) = false
is_answer (line.ChangeEntry position tid serial file key image) = false
is_answer (line.PreparedEntry position tid serial) = false
is_answer (line.SettledEntry position tid serial outcome moment) = false
is_answer (line.ManagerTold event tid serial rm) = false
is_answer (line.LogEntry slot r) = false
is_answer (line.Down node cause) = false
is_answer (line.Crashed node) = false
is_answer (line.BadLine column) = false
is_answer line.TooLong = false
is_answer answer = true

-- Whether a request may be answered so by a node that is up, where the lines before do not refuse it and the disk does not fail: by none of the refusals that follow
-- from those lines, and by none that is of a boot or of a settling alone.
abbrev pub is_served : Line → Bool
is_served line.NoSuchNode = false
is_served line.NodeDown = false
is_served line.NodeUp = false
is_served line.VolumeInUse = false
is_served line.NotInitialized = false
is_served (line.NotInitializedAt node) = false
is_served line.NoSuchMessage = false
is_served line.BadLabel = false
is_served (line.InDoubt serial node) = false
is_served (line.NoVolume node condition block) = false
is_served line.NoMemory = false
is_served (line.Broken cause) = false
is_served answer = is_answer answer

-- whether a boot that was begun may end so, by which the node does not come up
abbrev pub ends_boot : Line → Bool
ends_boot line.NoMemory = true
ends_boot (line.NoVolume node condition block) = true
ends_boot (line.QuotaExceeded quota limit) = true
ends_boot (line.Broken cause) = true
ends_boot answer = false

-- whether an answer is that of a success without a value, or of a disk that went down; and whether it is one of these
abbrev pub is_normal : Line → Bool
is_normal line.Normal = true
is_normal answer = false

abbrev pub is_broken : Line → Bool
is_broken (line.Broken cause) = true
is_broken answer = false

abbrev pub is_turn : Line → Bool
is_turn answer = is_normal answer || is_broken answer

-- whether it says that memory was missing
abbrev pub is_lacking : Line → Bool
is_lacking line.NoMemory = true
is_lacking answer = false

-- whether a request may be answered so where the lines before do not refuse it
abbrev pub may_answer : Request → Line → Bool
may_answer (Init slots journal) line.BadParameter = true
may_answer (Init slots journal) answer = is_turn answer
may_answer Boot (line.NormalCount boot) = true
may_answer Boot answer = ends_boot answer
may_answer (Fuse writes choice) answer = is_normal answer
may_answer Crash answer = is_normal answer
may_answer (Clock now) answer = is_normal answer
may_answer (Recover file way) answer = is_lacking answer || (is_served answer || (is_broken answer && touches (service (Recover file way))))
may_answer request answer = is_served answer || (is_broken answer && touches (service request))

-- the node at which the boots of a settling ended, where they did: the first that was down and did not come up
abbrev pub stuck_at : List SaidNode → List Line → Option SaidNode
stuck_at [] lines = None
stuck_at (n ∷ ns) lines = if n.up then stuck_at ns lines else (if shows_boot n.name lines then stuck_at ns lines else Some n)

-- whether a settling may be answered so that ended with the boot of this node: by its INIT that failed, just where it did
abbrev pub is_unmade_at : List ℕ → Line → Bool
is_unmade_at name (line.NotInitializedAt node) = bytes_eq name node
is_unmade_at name answer = false

abbrev pub ends_at : SaidNode → Line → Bool
ends_at n answer = if n.unmade then is_unmade_at n.name answer else ends_boot answer

-- whether one may be answered so by which each node came up
abbrev pub ends_turns : Line → Bool
ends_turns (line.InDoubt serial node) = true
ends_turns answer = is_turn answer

-- whether a link that fails is answered so
abbrev pub ends_link : Line → Bool
ends_link line.BadParameter = true
ends_link answer = is_normal answer

-- Whether a statement may be answered so, by what was said before and by its lines, where the lines before do not refuse it.
abbrev pub answers_so : Said → Statement → List Line → Line → Bool
answers_so said (At node request) lines answer = may_answer request answer
answers_so said (Deliver number) lines answer = is_turn answer
answers_so said (LinkDown a b) lines answer = ends_link answer
answers_so said Settle lines answer = elim (stuck_at said.nodes lines) [ Some n ↦ ends_at n answer | None ↦ ends_turns answer ]

-- whether a statement goes on where the disk of a node goes down in it
abbrev pub goes_on : Statement → Bool
goes_on (At node (Clock now)) = true
goes_on (LinkDown a b) = true
goes_on s = false

-- one of these nodes went down by this cause, which the last of these lines shows
abbrev pub FellLast : List (List ℕ) → Cause → List Line → Type 0
FellLast names cause lines = (node : List ℕ) × (is_named node names ≡ true) × (last_or None lines ≡ Some (line.Down node cause))

-- An answer FAULT or STOPPED stands directly behind the line that one of these nodes went down by that cause; and such a line, of whichever node, is the last before the
-- answer, which is that one.
pub record FallsTold (names : List (List ℕ)) (lines : List Line) (answer : Line) : Type 0 where
  pub caused : (cause : Cause) → answer ≡ line.Broken cause → FellLast names cause lines
  pub answered : (node : List ℕ) (cause : Cause) → In (line.Down node cause) lines → (last_or None lines ≡ Some (line.Down node cause)) × (answer ≡ line.Broken cause)

-- no node goes down by these lines, by a failure or by itself
pub record IsSteady (lines : List Line) : Type 0 where
  pub down : (node : List ℕ) (cause : Cause) → In (line.Down node cause) lines → ⊥
  pub crash : (node : List ℕ) → In (line.Crashed node) lines → ⊥
