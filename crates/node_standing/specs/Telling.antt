-- What the lines of a task tell of its node, of the node's disk and of what nodes share, whether or not the disk tells its content.
use Rattle.std.specs.Prelude.{◌≡◌, ◌≤◌, ℕ, List, [], ◌∷◌, ◌++◌, Bool, true, false, not, ◌&&◌, Option, Some, None, if◌then◌else◌, is_some, map}
use Rattle.std.specs.List.{AllByRecursion}
use Rattle.block_disk.specs.Disk.{CallLog, DiskState, noted}
use Rattle.block_disk.specs.declared.disk.DiskCall.TheVariants as disk_call
use Rattle.emitter_model.specs.commit_protocol.World.{In}
use Rattle.emitter_model.specs.Emitting.{Emits, Shown}
use Rattle.emitter_model.specs.transcript_model.Lines as line
use Rattle.emitter_model.specs.transcript_model.Lines.{Cause, Line}
use Rattle.emitter_model.specs.transcript_model.Outside.{Rose}
use Rattle.said_steps.specs.script_model.Statements.{Crash, Fuse, Request}
use Rattle.said_steps.specs.run_said.Said.{Said, SaidLabel, SaidNode, SaidShared, down_said, is_of_lines, line_said, lines_said, refused_by_lines, request_said}
use Rattle.said_steps.specs.Answers.{FallsTold, ends_boot, is_broken, is_normal, may_answer}
use Rattle.said_steps.specs.Calls.{has_powered, is_boot_refusal, shows_boot}
use Rattle.said_steps.specs.Own.{IsOwn}
use Rattle.said_steps.specs.run_model.Answers.{Hears, LosesLink, Restarts, RunsDown, Serves, Takes, Task, Ticks, task_service}
use Rattle.said_steps.specs.run_model.Steps.{count_of}
use Rattle.said_steps.specs.run_model.World.{Label}
use Rattle.node_table.specs.recovery_units.Uses.{IsCounted}
use Rattle.node_table.specs.run_shared.Sharing.{SharedState}
use Rattle.node_standing.specs.Holding.{HoldsAs}
use Rattle.node_standing.specs.Keeping.{all_shown}
use Rattle.node_standing.specs.Standing.{NodeState, counts_of, disk_in, is_up}

-- What was said so far, by what is kept.

abbrev pub said_node : NodeState → SaidNode
said_node k = record { name = k.name; up = is_up k.place; unmade = k.unmade }

abbrev pub said_label : Label → SaidLabel
said_label l = record { name = l.name; node = l.node }

abbrev pub said_shared : SharedState → SaidShared
said_shared s = record { labels = map said_label s.labels; in_use = s.in_use; wire = s.wire }

-- what was said of one node alone
abbrev pub said_alone : NodeState → SharedState → Said
said_alone k s = record { nodes = said_node k ∷ []; shared = said_shared s }

-- From one state of a disk to a later one: it has as many blocks, no count falls, and what is told stays told.
pub record DiskAdvancesOverCalls (old new : DiskState) : Type 0 where
  pub size : new.size ≡ old.size
  pub faults : IsCounted old → old.faults ≤ new.faults
  pub stops : IsCounted old → old.stops ≤ new.stops
  pub counted : IsCounted old → IsCounted new
  pub told : is_some new.seen ≡ is_some old.seen

-- What the lines so far refuse a task by: a request by what refuses it; else a node that is down, but for a boot.
abbrev pub refused_task : SaidShared → SaidNode → Task → Option Line
refused_task s n (Serves request) = refused_by_lines s n request
refused_task s n Restarts = None
refused_task s n task = down_said n

-- what is said once a task showed these lines, and, of a request, was answered so
abbrev pub task_said : Task → List Line → Line → NodeState → SharedState → Said
task_said (Serves request) lines answer k s = request_said k.name request answer (lines_said lines (said_alone k s))
task_said task lines answer k s = lines_said lines (said_alone k s)

-- whether a boot in a settling was ended so before its disk was made to run again
abbrev pub is_unpowered : Bool → Line → Bool
is_unpowered true (line.NotInitializedAt node) = true
is_unpowered true line.NoMemory = true
is_unpowered ends answer = false

-- whether a task that was answered so, or ended its statement with that, made its disk run again
abbrev pub powered_task : Task → Bool → Line → Bool
powered_task (Serves request) ends answer = has_powered request answer
powered_task Restarts ends answer = not (is_unpowered ends answer)
powered_task task ends answer = false

-- the calls of a disk with one that arms it, where a task does
abbrev pub armed_task : Task → CallLog → CallLog
armed_task (Serves (Fuse writes choice)) calls = noted (disk_call.Arm writes choice) calls
armed_task task calls = calls

-- the calls of a disk after a task, which began with so many stops of the disk
abbrev pub calls_after_task : Task → Bool → Line → ℕ → CallLog → CallLog
calls_after_task task ends answer stops calls = if powered_task task ends answer then noted (disk_call.Power stops) calls else armed_task task calls

-- What the lines of a boot in a settling tell: that the node came up, just where the settling goes on, and is up then; and it is refused for want of a volume just where an INIT
-- failed.
pub record RestartTold (k l : NodeState) (lines : List Line) (answer : Line) (ends : Bool) : Type 0 where
  pub shown : shows_boot k.name lines ≡ not ends
  pub up : ends ≡ false → is_up l.place ≡ true
  pub unmade : k.unmade ≡ true → (lines ≡ []) × (answer ≡ line.NotInitializedAt k.name) × (ends ≡ true)
  pub made : k.unmade ≡ false → (node : List ℕ) → answer ≡ line.NotInitializedAt node → ⊥

-- whether a task may be answered so, or end its statement with that, or not, where the lines before do not refuse it
abbrev pub may_answer_task : Task → (ends : Bool) → Line → Bool
may_answer_task (Serves request) ends answer = may_answer request answer
may_answer_task Restarts true (line.NotInitializedAt node) = true
may_answer_task Restarts true answer = ends_boot answer
may_answer_task Ticks ends answer = is_normal answer
may_answer_task (LosesLink other) ends answer = is_normal answer
may_answer_task task true answer = is_broken answer
may_answer_task task false answer = is_normal answer

-- What its lines and its answer tell: which answer it may be, where nothing refuses it; that FAULT and STOPPED have their cause, unless its statement goes on where
-- the disk goes down; and that the node goes down by itself where, and only where, it is asked to.
pub record AnswersTask (task : Task) (name : List ℕ) (refusal : Option Line) (lines : List Line) (answer : Line) (ends : Bool) : Type 0 where
  pub may : refusal ≡ None → may_answer_task task ends answer ≡ true
  pub falls : (task_service task).goes_on ≡ false → FallsTold (name ∷ []) lines answer
  pub crashes : (node : List ℕ) → In (line.Crashed node) lines → task ≡ Serves Crash
  pub crash : task ≡ Serves Crash → refusal ≡ None → lines ≡ line.Crashed name ∷ []

-- whether a task made its disk run again, and was not refused then by what that has or by a quota
abbrev pub task_used : Task → (ends : Bool) → Line → Bool
task_used task ends answer = powered_task task ends answer && not (is_boot_refusal answer)

-- A task was done at a node, with its lines shown, and the answer where this says so. They tell of that node alone; what was said before refuses the task just
-- where they show that refusal, which leaves the disk; what is kept then is what they say; and they tell which calls armed or powered its disk, of which each failure
-- that they show raised a count. A node that was down, and whose disk is used neither for a new volume nor to bring it up, is down still, and nothing on that is lost.
pub record TellsTask (task : Task) (answers ends : Bool) (k : NodeState) (s : SharedState) (a b : Shown) (l : NodeState) (t : SharedState) : Type 0 where
  pub lines : List Line
  pub answer : Line
  pub emits : Emits a (all_shown answers lines answer) b
  pub own : AllByRecursion (IsOwn k.name) lines
  pub refused : (refusal : Line) → refused_task (said_shared s) (said_node k) task ≡ Some refusal → (lines ≡ []) × (answer ≡ refusal) × (ends ≡ true) × (disk_in l.place ≡ disk_in k.place)
  pub others : refused_task (said_shared s) (said_node k) task ≡ None → is_of_lines answer ≡ false
  pub says : task_said task lines answer k s ≡ said_alone l t
  pub calls : (disk_in l.place).calls ≡ calls_after_task task ends answer (disk_in k.place).stops (disk_in k.place).calls
  pub failures : (cause : Cause) → In (line.Down k.name cause) lines → IsCounted (disk_in k.place) → Rose (count_of cause (counts_of (disk_in k.place))) (count_of cause (counts_of (disk_in l.place)))
  pub passes : DiskAdvancesOverCalls (disk_in k.place) (disk_in l.place)
  pub quiet : (s : Said) → line_said answer s ≡ s
  pub fused : (writes choice : ℕ) → task ≡ Serves (Fuse writes choice) → answer ≡ line.Normal
  pub boots : task ≡ Restarts → RestartTold k l lines answer ends
  pub answered : AnswersTask task k.name (refused_task (said_shared s) (said_node k) task) lines answer ends
  pub held : is_up k.place ≡ false → task_used task ends answer ≡ false → (is_up l.place ≡ false) × HoldsAs (disk_in k.place) (disk_in l.place)
