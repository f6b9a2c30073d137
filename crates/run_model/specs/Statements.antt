-- One statement in a world: its parts, phase after phase, each read at the world that those before it reached.
use Rattle.std.specs.Prelude.{◌≡◌, ℕ, zero, suc, ◌≤◌, List, [], ◌∷◌, ◌++◌, Bool, true, false, Option, Some, None, if◌then◌else◌, slice_get}
use Rattle.std.specs.Option.{option_and_then}
use Rattle.std.specs.Str.{bytes_eq}
use Rattle.transcript_model.specs.vms_model.Ids.{Id}
use Rattle.transcript_model.specs.Outside.{Rose}
use Rattle.transcript_model.specs.Lines as line
use Rattle.transcript_model.specs.Lines.{Line, Cause}
use Rattle.script_model.specs.Statements.{Statement, At, Deliver, LinkDown, Settle, Request, AddBranch, Clock}
use Rattle.transcript_model.specs.commit_protocol.Messages.{Message, Inquire}
use Rattle.transcript_model.specs.commit_protocol.Table as table
use Rattle.transcript_model.specs.commit_protocol.Table.{Branch, Sends, Key as BranchKey, coordinator_of}
use Rattle.transcript_model.specs.commit_protocol.Rows.{row, up, Got}
use Rattle.transcript_model.specs.commit_protocol.Allowed.{is_prepared}
use Rattle.transcript_model.specs.commit_protocol.World.{arranged}
use Rattle.run_model.specs.World.{World, Node, DiskCounts, find_node, find_branch, with_node, disk_of, tm_of}
use Rattle.run_model.specs.Operations.{first_of, refused_if}
use Rattle.run_model.specs.Answers.{Task, Serves, Ticks, Takes, Hears, LosesLink, RunsDown, Restarts}
use Rattle.run_model.specs.Steps.{Choice, TaskEffect, task_effect, TaskAllowed, count_of}

-- a part of a statement: a task of the node of this name; or the question of a prepared branch of it to its coordinator, and the answer, both at once
pub data Part : Type 0 where
  Does : (node : List ℕ) → Task → Part
  Asks : (node : List ℕ) → (serial : Id) → Part

-- What a part shows before an answer; the answer, where the statement ends with the part, and whether it ends with it in any case; and the world after it.
pub record PartEffect : Type 0 where
  pub lines : List Line
  pub answer : Line
  pub ends : Bool
  pub world : World

-- how often the disk of a node was stopped
abbrev pub stops_at : List ℕ → World → ℕ
stops_at node w = elim (disk_of node w.nodes w.disks) [ Some d ↦ d.stops | None ↦ 0 ]

-- what was done at the node of this name, in its world
abbrev pub put_into : World → List ℕ → TaskEffect → PartEffect
put_into w node e = record { lines = e.lines; answer = e.answer; ends = e.ends; world = record w { nodes = with_node node (λ n. e.node) w.nodes; shared = e.shared } }

-- there is no node of this name
abbrev pub no_node : World → PartEffect
no_node w = record { lines = []; answer = line.NoSuchNode; ends = true; world = w }

-- nothing is done
abbrev pub nothing_done : World → PartEffect
nothing_done w = record { lines = []; answer = line.Normal; ends = false; world = w }

-- a refusal of the statement by what nodes are there, or by their state
abbrev pub ended_by : World → Line → PartEffect
ended_by w refusal = record { lines = []; answer = refusal; ends = true; world = w }

-- a task of the node of this name
abbrev pub done_at : World → List ℕ → Task → Choice → PartEffect
done_at w node t c = elim (find_node node w.nodes) [ Some n ↦ put_into w node (task_effect w.shared (stops_at node w) n t c) | None ↦ no_node w ]

-- The question of a branch.

-- the message that a coordinator's row sends as its answer
abbrev pub answer_in : List table.Act → Option Message
answer_in (Sends m ∷ []) = Some m
answer_in _ = None

-- what a coordinator answers a branch
abbrev pub answer_of : Node → BranchKey → Option Message
answer_of n k = answer_in (row (tm_of n) (Got (up Inquire k)))

-- the branch of this serial, where it is prepared at a node
abbrev pub in_doubt : Id → Node → Option Branch
in_doubt serial n = option_and_then (λ (b : Branch). if is_prepared b.state then Some b else None) (find_branch serial n.volatile.branches)

-- the branch of this serial that asks, where there is one at the node of this name
abbrev pub asking : World → List ℕ → Id → Option Branch
asking w node serial = option_and_then (in_doubt serial) (find_node node w.nodes)

-- what becomes of a question: the answer is heard where it is sent; the coordinator does not answer; or it is not there
pub data Question : Type 0 where
  Heard : Message → Question
  Unanswered : Question
  Doubtful : BranchKey → Question

-- of the question of this branch
abbrev pub asked : World → BranchKey → Question
asked w k = elim (find_node (coordinator_of k) w.nodes) [ Some n ↦ elim (answer_of n k) [ Some m ↦ Heard m | None ↦ Unanswered ] | None ↦ Doubtful k ]

abbrev pub question : World → List ℕ → Id → Question
question w node serial = elim (asking w node serial) [ Some b ↦ asked w b.key | None ↦ Unanswered ]

-- what it shows and makes of a world
abbrev pub question_effect : World → Choice → Question → PartEffect
question_effect w c (Heard m) = done_at w m.to (Hears m) c
question_effect w c Unanswered = nothing_done w
question_effect w c (Doubtful k) = ended_by w (line.InDoubt k.serial (coordinator_of k))

-- what a part shows and makes of a world by this choice
abbrev pub part_effect : World → Part → Choice → PartEffect
part_effect w (Does node t) c = done_at w node t c
part_effect w (Asks node serial) c = question_effect w c (question w node serial)

-- the count of a cause rose at the disk of this node
abbrev pub RoseAt : World → List ℕ → Cause → List DiskCounts → Type 0
RoseAt w node cause after = elim (disk_of node w.nodes w.disks) [ Some old ↦ elim (disk_of node w.nodes after) [ Some new ↦ Rose (count_of cause old) (count_of cause new) | None ↦ ⊥ ] | None ↦ ⊥ ]

-- no count falls
abbrev pub NoneFalls : List DiskCounts → List DiskCounts → Type 0
NoneFalls [] [] = Unit {0}
NoneFalls [] (new ∷ news) = ⊥
NoneFalls (old ∷ olds) [] = ⊥
NoneFalls (old ∷ olds) (new ∷ news) = (old.faults ≤ new.faults) × (old.stops ≤ new.stops) × NoneFalls olds news

-- a choice is allowed as its task allows it, by the counts after the statement
abbrev pub AllowedAt : World → List ℕ → Task → List DiskCounts → Choice → Type 0
AllowedAt w node t after c = elim (find_node node w.nodes) [ Some n ↦ TaskAllowed w.shared (stops_at node w) n t (λ cause. RoseAt w node cause after) c | None ↦ Unit {0} ]

abbrev pub AllowedOf : World → List DiskCounts → Choice → Question → Type 0
AllowedOf w after c (Heard m) = AllowedAt w m.to (Hears m) after c
AllowedOf w after c Unanswered = Unit {0}
AllowedOf w after c (Doubtful k) = Unit {0}

abbrev pub Allowed : World → Part → List DiskCounts → Choice → Type 0
Allowed w (Does node t) after c = AllowedAt w node t after c
Allowed w (Asks node serial) after c = AllowedOf w after c (question w node serial)

-- what is to come in a statement: from this world on, with this answer so far, it may show these lines, be answered so and lead to that world
abbrev pub Onward : Type 1
Onward = World → Line → List Line → Line → World → Type 0

-- what follows a part: nothing, where the statement ends with it; else what is to come
abbrev pub Then : PartEffect → Onward → List Line → Line → World → Type 0
Then e more lines answer v = elim e.ends [
  | true ↦ (lines ≡ e.lines) × (answer ≡ e.answer) × (v ≡ e.world)
  | false ↦ (rest : List Line) × (lines ≡ e.lines ++ rest) × more e.world e.answer rest answer v
]

-- These parts are done one after another, up to the first with which the statement ends; where it ends with none, what is to come follows.
abbrev pub Parts : List Part → List DiskCounts → Onward → Onward
Parts [] after more w given lines answer v = more w given lines answer v
Parts (p ∷ ps) after more w given lines answer v = (c : Choice) × Allowed w p after c × Then (part_effect w p c) (Parts ps after more) lines answer v

-- a phase of a statement: its parts, by the world in which it begins
abbrev pub Phase : Type 0
Phase = World → List Part

-- nothing is to come, and the statement has its answer
abbrev pub Finished : Onward
Finished w given lines answer v = (lines ≡ []) × (answer ≡ given) × (v ≡ w)

-- the phases of a statement one after another
abbrev pub Phases : List Phase → List DiskCounts → Onward
Phases [] after w given lines answer v = Finished w given lines answer v
Phases (p ∷ ps) after w given lines answer v = Parts (p w) after (Phases ps after) w given lines answer v

-- The phases of each statement.

-- whether the node of this name is up
abbrev pub is_up : List ℕ → World → Bool
is_up node w = elim (find_node node w.nodes) [ Some n ↦ n.up | None ↦ false ]

-- a task of the node of this name, where it is up
abbrev pub where_up : List ℕ → Task → Phase
where_up node t w = if is_up node w then Does node t ∷ [] else []

-- the message of this number comes to its receiver, where there is one; the first has the number 1
abbrev pub message_at : ℕ → List Message → Option Message
message_at zero ms = None
message_at (suc k) ms = slice_get ms k

abbrev pub delivery : ℕ → Phase
delivery number w = elim (message_at number w.shared.wire) [ Some m ↦ Does m.to (Takes m) ∷ [] | None ↦ [] ]

-- each node that is down is booted,
abbrev pub restarts_of : List Node → List Part
restarts_of [] = []
restarts_of (n ∷ ns) = if n.up then restarts_of ns else Does n.name Restarts ∷ restarts_of ns

-- each node aborts what is not prepared,
abbrev pub run_downs_of : List Node → List Part
run_downs_of [] = []
run_downs_of (n ∷ ns) = Does n.name RunsDown ∷ run_downs_of ns

-- and each branch of each node asks that is prepared, in the order of its preparation
abbrev pub questions_of : List ℕ → List Branch → List Part
questions_of node [] = []
questions_of node (b ∷ bs) = if is_prepared b.state then Asks node b.key.serial ∷ questions_of node bs else questions_of node bs

abbrev pub all_questions : List Node → List Part
all_questions [] = []
all_questions (n ∷ ns) = questions_of n.name (arranged n.volatile.preparation n.volatile.branches) ++ all_questions ns

-- the phases of a request to a node: where its clock is set, it aborts what is due then
abbrev pub phases_at : List ℕ → Request → List Phase
phases_at node (Clock now) = (λ w. Does node (Serves (Clock now)) ∷ []) ∷ where_up node Ticks ∷ []
phases_at node request = (λ w. Does node (Serves request) ∷ []) ∷ []

-- the phases of a statement
abbrev pub phases_of : Statement → List Phase
phases_of (At node request) = phases_at node request
phases_of (Deliver number) = delivery number ∷ []
phases_of (LinkDown a b) = where_up a (LosesLink b) ∷ where_up b (LosesLink a) ∷ []
phases_of Settle = (λ w. restarts_of w.nodes) ∷ (λ w. run_downs_of w.nodes) ∷ (λ w. all_questions w.nodes) ∷ []

-- a node of this name is not there
abbrev pub named_node : World → List ℕ → Option Line
named_node w node = elim (find_node node w.nodes) [ Some n ↦ None | None ↦ Some line.NoSuchNode ]

-- the other node that a request names
abbrev pub other_node : World → Request → Option Line
other_node w (AddBranch label other new) = named_node w other
other_node w request = None

-- What refuses a statement before any of its parts, whatever nodes are asked: no message has the number; a node that is named is not there; or the link of a
-- node is to itself.
abbrev pub refused_at_once : World → Statement → Option Line
refused_at_once w (At node request) = first_of (named_node w node) (other_node w request)
refused_at_once w (Deliver number) = elim (message_at number w.shared.wire) [ Some m ↦ named_node w m.to | None ↦ Some line.NoSuchMessage ]
refused_at_once w (LinkDown a b) = first_of (named_node w a) (first_of (named_node w b) (refused_if (bytes_eq a b) line.BadParameter))
refused_at_once w Settle = None

-- once all nodes were asked to settle, no volume is made any more
abbrev pub begun_with : Statement → World → World
begun_with Settle w = record w { shared = record w.shared { in_use = true } }
begun_with (At node request) w = w
begun_with (Deliver number) w = w
begun_with (LinkDown a b) w = w

-- where a statement is refused at once it shows nothing else, and leaves what there is; else its parts are done
abbrev pub Begins : Option Line → (List Line → Line → World → Type 0) → World → List Line → Line → World → Type 0
Begins (Some refusal) does w lines answer v = (lines ≡ []) × (answer ≡ refusal) × (v ≡ w)
Begins None does w lines answer v = does lines answer v

-- From w on, the statement may show these lines, the last of which is its answer, and lead to new. No count of a disk falls.
pub record Step (w : World) (s : Statement) (lines : List Line) (new : World) : Type 0 where
  pub events : List Line
  pub answer : Line
  pub world : World
  pub does : Begins (refused_at_once w s) (Phases (phases_of s) new.disks (begun_with s w) line.Normal) w events answer world
  pub counts : NoneFalls w.disks new.disks
  pub shows : lines ≡ events ++ answer ∷ []
  pub goes : new ≡ record world { disks = new.disks }
