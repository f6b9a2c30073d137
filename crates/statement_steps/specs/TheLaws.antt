-- How the steps of single nodes make the step of a statement.
use Rattle.std.specs.Prelude.{◌≡◌, ℕ, List, [], ◌∷◌, ◌++◌, Bool, true, false, Some, None}
use Rattle.vms_model.specs.Ids.{Id}
use Rattle.world_laws.specs.transcript_model.Lines.{InDoubt, Line, NoSuchNode, Normal}
use Rattle.world_laws.specs.script_model.Statements.{Settle, Statement}
use Rattle.commit_protocol.specs.Messages.{Message}
use Rattle.commit_protocol.specs.Rows.{Got, row}
use Rattle.commit_protocol.specs.Table.{without}
use Rattle.run_agreement.specs.Laws.{NamesApart}
use Rattle.world_laws.specs.run_model.World.{DiskCounts, Node, Shared, World, disk_of, find_node, tm_of}
use Rattle.world_laws.specs.run_model.Answers.{Hears, Task, powers, task_service}
use Rattle.world_laws.specs.run_model.Steps.{NodeStep}
use Rattle.world_laws.specs.run_model.Statements.{Asks, NoneFalls, Part, Step, answer_in, begun_with, phases_of, refused_at_once}
use Rattle.world_laws.specs.run_model.StepLaws.{task_of_part}
use Rattle.world_laws.specs.Nodes.{IsKeptNode}
use Rattle.statement_steps.specs.Doing.{AllKept, DoesParts, DoesPhases, IsPlain, IsWithin, moved}
use Rattle.statement_steps.specs.Settling.{asks_of, doubts_of, each_node, question_in, restart_of, run_down_of}

-- A step of the node whose task a part is does that part, where no count has fallen since the statement began. Where the task makes a disk run again, that was not
-- used in the statement before.
abbrev pub TasksAreDone : Type 0
TasksAreDone = (begun : List DiskCounts) (w : World) (p : Part) (node : List ℕ) (t : Task) (n m : Node) (mid new : DiskCounts) (lines : List Line) (answer : Line) (ends : Bool) (after : Shared) → NoneFalls begun w.disks →
    task_of_part w p ≡ Some (record { node = node; task = t }) → IsPlain t → find_node node w.nodes ≡ Some n → disk_of node w.nodes w.disks ≡ Some mid → (powers (task_service t) ≡ true → disk_of node w.nodes begun ≡ Some mid) →
    NodeStep w.shared n mid t lines answer ends m after new → DoesParts begun (p ∷ []) w ends lines answer (moved w node m new after)

-- The question of the branch of a serial at a node that is there: no such branch asks; its coordinator is not there; or does not answer; or its answer is heard, where
-- a node is there to hear it.
pub record QuestionIsDone (begun : List DiskCounts) (w : World) (node : List ℕ) (serial : Id) (n : Node) : Type 0 where
  pub none : question_in serial n.volatile.branches ≡ None → DoesParts begun (Asks node serial ∷ []) w false [] Normal w
  pub nobody : (q : Message) → question_in serial n.volatile.branches ≡ Some q → find_node q.to w.nodes ≡ None → DoesParts begun (Asks node serial ∷ []) w true [] (InDoubt serial q.to) w
  pub vain : (q : Message) (c : Node) → question_in serial n.volatile.branches ≡ Some q → find_node q.to w.nodes ≡ Some c → answer_in (row (tm_of c) (Got q)) ≡ None → DoesParts begun (Asks node serial ∷ []) w false [] Normal w
  pub hears : (q : Message) (c : Node) (m : Message) → question_in serial n.volatile.branches ≡ Some q → find_node q.to w.nodes ≡ Some c → answer_in (row (tm_of c) (Got q)) ≡ Some m →
      (x y : Node) (mid new : DiskCounts) (lines : List Line) (last : Line) (ends : Bool) (after : Shared) → NoneFalls begun w.disks → find_node m.to w.nodes ≡ Some x → disk_of m.to w.nodes w.disks ≡ Some mid →
      NodeStep w.shared x mid (Hears m) lines last ends y after new → DoesParts begun (Asks node serial ∷ []) w ends lines last (moved w m.to y new after)
  pub lost : (q : Message) (c : Node) (m : Message) → question_in serial n.volatile.branches ≡ Some q → find_node q.to w.nodes ≡ Some c → answer_in (row (tm_of c) (Got q)) ≡ Some m → find_node m.to w.nodes ≡ None →
      DoesParts begun (Asks node serial ∷ []) w true [] NoSuchNode w

abbrev pub QuestionsAreDone : Type 0
QuestionsAreDone = (begun : List DiskCounts) (w : World) (node : List ℕ) (serial : Id) (n : Node) → find_node node w.nodes ≡ Some n → QuestionIsDone begun w node serial n

-- The answer to the question of a branch of a kept node that is up comes to that node. Once it is heard, and the statement goes on, the branch is in doubt no more, and
-- all others are, in the same order.
pub record AnswerLeavesOthers (s : Shared) (n : Node) (serial : Id) (m : Message) : Type 0 where
  pub home : m.to ≡ n.name
  pub left : (old new : DiskCounts) (lines : List Line) (last : Line) (y : Node) (after : Shared) → NodeStep s n old (Hears m) lines last false y after new → doubts_of y ≡ without serial (doubts_of n)

abbrev pub AnswersLeaveOthers : Type 0
AnswersLeaveOthers = (s : Shared) (n c : Node) (serial : Id) (q m : Message) → IsKeptNode s n → n.up ≡ true → question_in serial n.volatile.branches ≡ Some q → answer_in (row (tm_of c) (Got q)) ≡ Some m → AnswerLeavesOthers s n serial m

-- What was done in the phases of a statement that nothing refuses at once is a step of it.
abbrev pub PhasesAreSteps : Type 0
PhasesAreSteps = (w v : World) (s : Statement) (ends : Bool) (lines : List Line) (answer : Line) → refused_at_once w s ≡ None → DoesPhases w.disks (phases_of s) (begun_with s w) ends lines answer v → Step w s (lines ++ answer ∷ []) v

-- A settling goes from node to node: it boots each, then each aborts what is not prepared, and then the branches of each ask that are prepared. It is a step, in
-- whichever of these it ended.
pub record SettlingIsStep (w : World) : Type 0 where
  pub restarting : (v : World) (lines : List Line) (answer : Line) → DoesParts w.disks (each_node restart_of w.nodes) (begun_with Settle w) true lines answer v → Step w Settle (lines ++ answer ∷ []) v
  pub running_down : (u v : World) (front lines : List Line) (answer : Line) → DoesParts w.disks (each_node restart_of w.nodes) (begun_with Settle w) false front Normal u → DoesParts w.disks (each_node run_down_of u.nodes) u true lines answer v →
      Step w Settle ((front ++ lines) ++ answer ∷ []) v
  pub asking : (u x v : World) (front middle lines : List Line) (ends : Bool) (answer : Line) → DoesParts w.disks (each_node restart_of w.nodes) (begun_with Settle w) false front Normal u → DoesParts w.disks (each_node run_down_of u.nodes) u false middle Normal x →
      DoesParts w.disks (each_node asks_of x.nodes) x ends lines answer v → Step w Settle ((front ++ (middle ++ lines)) ++ answer ∷ []) v

abbrev pub SettlingsAreSteps : Type 0
SettlingsAreSteps = (w : World) → SettlingIsStep w

-- Within a statement no count falls, no two nodes have one name, and each node is as nodes are in the worlds of runs: so it begins, and each step of a node leaves it so.
abbrev pub BeginsWithin : Type 0
BeginsWithin = (s : Statement) (w : World) → NamesApart w.nodes → AllKept w.shared w.nodes → IsWithin w.disks (begun_with s w)

abbrev pub StaysWithin : Type 0
StaysWithin = (begun : List DiskCounts) (w : World) (node : List ℕ) (n m : Node) (mid new : DiskCounts) (t : Task) (lines : List Line) (answer : Line) (ends : Bool) (after : Shared) → IsWithin begun w → find_node node w.nodes ≡ Some n →
    disk_of node w.nodes w.disks ≡ Some mid → NodeStep w.shared n mid t lines answer ends m after new → IsWithin begun (moved w node m new after)
