-- What is asked of a node besides requests.
use Rattle.std.specs.Prelude.{◌≡◌, List, [], ◌++◌, true, false, None, map}
use Rattle.reference_index.specs.transcript_model.Lines as line
use Rattle.log_laws.specs.commit_protocol.Rows.{Event, Clock, Got, LinkDown, RunDown, Start, Authorise, Begin, JoinRm, Changed, EndTrans, EndBranch, AbortBranch, Replied, InquireBranch, row}
use Rattle.reference_index.specs.run_model.Answers as answers
use Rattle.reference_index.specs.run_model.Answers.{Service, occupies, powers, refused_before_reading, table_rows}
use Rattle.reference_index.specs.run_model.Operations.{refused_if}
use Rattle.reference_index.specs.run_model.Steps.{Whole, lines_of_rows, node_after_rows, service_effect, shared_after_rows}
use Rattle.reference_index.specs.run_model.World.{Lost, Node, Shared, tm_of}
use Rattle.net_wire.specs.Messages.{message_of}
use Rattle.reference_world.specs.Standing.{line_of}
use Rattle.reference_tasks.specs.declared.tasks.Task.{Task}
use Rattle.reference_tasks.specs.declared.tasks.Task.TheVariants as task
use Rattle.reference_tasks.specs.declared.tasks.TaskShown.{TaskShown}

abbrev pub task_of : Task → answers.Task
task_of task.Tick = answers.Ticks
task_of (task.Take m) = answers.Takes (message_of m)
task_of (task.Hear m) = answers.Hears (message_of m)
task_of (task.LoseLink other) = answers.LosesLink other
task_of task.RunDown = answers.RunsDown
task_of task.Restart = answers.Restarts

-- A task was done whole, where no act was under way and no disk was stopped: so it showed its lines, so it was answered, and so the node is then, and what nodes share.
pub record Performs (s : Shared) (n : Node) (e : Service) (shown : TaskShown) (m : Node) (t : Shared) : Type 0 where
  pub lines : map line_of shown.lines.items ≡ (service_effect s 0 n e (Whole Lost)).lines
  pub answer : line_of shown.answer ≡ (service_effect s 0 n e (Whole Lost)).answer
  pub ends : shown.ends ≡ (service_effect s 0 n e (Whole Lost)).ends
  pub node : m ≡ (service_effect s 0 n e (Whole Lost)).node
  pub shared : t ≡ (service_effect s 0 n e (Whole Lost)).shared

-- an event that any table may be told
abbrev pub IsSwept : Event → Type 0
IsSwept (Got m) = Unit {0}
IsSwept (Clock now) = Unit {0}
IsSwept (LinkDown other) = Unit {0}
IsSwept RunDown = Unit {0}
IsSwept (Start tid due) = ⊥
IsSwept (Authorise tid bid) = ⊥
IsSwept (Begin tid serial bid) = ⊥
IsSwept (JoinRm serial rm) = ⊥
IsSwept (Changed serial) = ⊥
IsSwept (EndTrans tid) = ⊥
IsSwept (EndBranch serial) = ⊥
IsSwept (AbortBranch serial reason) = ⊥
IsSwept (Replied serial rm reply) = ⊥
IsSwept (InquireBranch serial) = ⊥

-- The task shows these lines and tells the table this event, at a node that is up, and nothing refuses it there.
pub record IsTelling (event : Event) (lines : List line.Line) (n : Node) (e : Service) : Type 0 where
  pub powers : powers e ≡ false
  pub occupies : occupies e ≡ false
  pub down : (s : Shared) → n.up ≡ false → refused_before_reading s n e ≡ refused_if true line.NodeDown
  pub up : (s : Shared) → n.up ≡ true → refused_before_reading s n e ≡ None
  pub late : (s : Shared) → e.refused_after_reading s n ≡ None
  pub closing : e.closing ≡ None
  pub closing_lines : e.closing_lines n ≡ []
  pub answer : (s : Shared) → e.answer s n ≡ line.Normal
  pub shows : (s : Shared) → lines_of_rows (e.rows s n) ≡ lines ++ lines_of_rows (table_rows (row (tm_of n) event) s n)
  pub node : (s : Shared) → node_after_rows (e.rows s n) n ≡ node_after_rows (table_rows (row (tm_of n) event) s n) n
  pub shared : (s : Shared) → shared_after_rows (e.rows s n) s ≡ shared_after_rows (table_rows (row (tm_of n) event) s n) s
