-- A step of a node is one of its part and of its statement.
use Rattle.std.proofs.Common.{◌≡◌, ℕ, List, [], ◌∷◌, ◌++◌, Bool, Some, None, refl, sym, ◌∙◌, ap, subst}
use Rattle.transcript_model.specs.Outside.{Rose}
use Rattle.transcript_model.specs.Lines as line
use Rattle.transcript_model.specs.Lines.{Line, Cause}
use Rattle.script_model.specs.Statements.{Statement}
use Rattle.run_model.specs.World.{World, Shared, Node, DiskCounts, find_node, with_node, disk_of, with_counts}
use Rattle.run_model.specs.Answers.{Task}
use Rattle.run_model.specs.Steps.{Choice, Whole, WithoutMemory, Unpowered, Cut, TaskAllowed, task_effect, NodeStep, count_of}
use Rattle.run_model.specs.Statements.{Part, Does, Asks, PartEffect, Question, Heard, Unanswered, Doubtful, Parts, Phases, Then, Allowed, AllowedAt, AllowedOf, Begins, Step, part_effect, put_into, done_at, question, question_effect, stops_at, RoseAt, phases_of, refused_at_once, begun_with}
use Rattle.run_model.specs.StepLaws.{IsTask, NodeStepsAreSteps, PartStep, TaskAt, asked_by, task_of_part}
use Rattle.run_model.proofs.NodeLists.{some_is, none_falls_same, counts_put, none_falls_put, none_falls_at}
use Rattle.run_model.proofs.PartLemmas.{turn, of_part, ends_so, begins_so, done_here, here_allowed}
use Rattle.run_model.proofs.Refusing.{same_last}

-- a choice is allowed where causes rise that rose
allowed_as : (s : Shared) (stops : ℕ) (n : Node) (t : Task) (P Q : Cause → Type 0) → ((cause : Cause) → P cause → Q cause) → (c : Choice) → TaskAllowed s stops n t P c → TaskAllowed s stops n t Q c
allowed_as s stops n t P Q gives (Whole outturn) h = h
allowed_as s stops n t P Q gives WithoutMemory h = h
allowed_as s stops n t P Q gives Unpowered h = (h.0, h.1, gives line.Failed h.2)
allowed_as s stops n t P Q gives (Cut outturn done begun cause) h = (h.0, h.1, h.2, h.3, gives cause h.4)

-- a part that is a task does it
record IsSo (w : World) (p : Part) (a : TaskAt) : Type 0 where
  does : (c : Choice) → part_effect w p c ≡ done_at w a.node a.task c
  may : (after : List DiskCounts) (c : Choice) → AllowedAt w a.node a.task after c → Allowed w p after c

is_so : (w : World) (p : Part) (a : TaskAt) → task_of_part w p ≡ Some a → IsSo w p a
is_so w (Does node t) a e = let same = some_is _ a e in subst (IsSo w (Does node t)) same (record { does = λ c. refl; may = λ after c h. h })
is_so w (Asks node serial) a e = go (question w node serial) refl e
  where
    go : (q : Question) → question w node serial ≡ q → asked_by q ≡ Some a → IsSo w (Asks node serial) a
    go (Heard m) is k = subst (IsSo w (Asks node serial)) (some_is _ a k) (record { does = λ c. ap (question_effect w c) is; may = λ after c h. subst (AllowedOf w after c) (sym is) h })
    go Unanswered is k = let none : ⊥ = cc in absurd none
    go (Doubtful j) is k = let none : ⊥ = cc in absurd none

-- the count of a cause rose at the disk of this node
rose_at : (w : World) (node : List ℕ) (old new : DiskCounts) (after : List DiskCounts) → disk_of node w.nodes w.disks ≡ Some old → disk_of node w.nodes after ≡ Some new → (cause : Cause) → Rose (count_of cause old) (count_of cause new) → RoseAt w node cause after
rose_at w node old new after was now cause rose = rw (was, now, RoseAt) rose

rose : (w : World) (node : List ℕ) (old new : DiskCounts) (after : List DiskCounts) → disk_of node w.nodes w.disks ≡ Some old → disk_of node w.nodes after ≡ Some new → (cause : Cause) → RoseAt w node cause after → Rose (count_of cause old) (count_of cause new)
rose w node old new after was now cause risen = subst (λ o. elim o as (λ x. Type 0) [ Some new ↦ Rose (count_of cause old) (count_of cause new) | None ↦ ⊥ ]) now
    (subst (λ o. elim o as (λ x. Type 0) [ Some old ↦ elim (disk_of node w.nodes after) as (λ x. Type 0) [ Some new ↦ Rose (count_of cause old) (count_of cause new) | None ↦ ⊥ ] | None ↦ ⊥ ]) was risen)

part_of_node_step : (w : World) (p : Part) (node : List ℕ) (t : Task) (n m : Node) (old new : DiskCounts) (disks : List DiskCounts) (lines : List Line) (answer : Line) (ends : Bool) (after : Shared) → task_of_part w p ≡ Some (record { node = node; task = t }) →
    find_node node w.nodes ≡ Some n → disk_of node w.nodes w.disks ≡ Some old → disk_of node w.nodes disks ≡ Some new → NodeStep w.shared n old t lines answer ends m after new →
    PartStep w p disks (record { lines = lines; answer = answer; ends = ends; world = record w { nodes = with_node node (λ n. m) w.nodes; shared = after } })
part_of_node_step w p node t n m old new disks lines answer ends after is found was now step =
    let so = is_so w p (record { node = node; task = t }) is in
    let c = step.choice in
    let stopped : stops_at node w ≡ old.stops = rw (was, stops_at) refl in
    let here : TaskAllowed w.shared (stops_at node w) n t (λ cause. RoseAt w node cause disks) c = subst (λ stops. TaskAllowed w.shared stops n t (λ cause. RoseAt w node cause disks) c) (sym stopped)
    (allowed_as w.shared old.stops n t (λ cause. Rose (count_of cause old) (count_of cause new)) (λ cause. RoseAt w node cause disks) (rose_at w node old new disks was now) c step.allowed) in (
      c,
      so.may disks c (here_allowed w node t n disks c found here),
      so.does c ∙ done_here w node t n c found ∙ ap (λ stops. put_into w node (task_effect w.shared stops n t c)) stopped
          ∙ (λ i. record { lines = sym step.shows i; answer = sym step.answers i; ends = sym step.over i; world = record w { nodes = with_node node (λ n. sym step.node i) w.nodes; shared = sym step.shared i } }),
    )

step_of_node_step : (w : World) (s : Statement) (node : List ℕ) (t : Task) (n m : Node) (old new : DiskCounts) (lines : List Line) (answer : Line) (ends : Bool) (after : Shared) → IsTask w s node t n → disk_of node w.nodes w.disks ≡ Some old →
    NodeStep w.shared n old t lines answer ends m after new → Step w s (lines ++ answer ∷ []) (record { nodes = with_node node (λ n. m) w.nodes; disks = with_counts node new w.nodes w.disks; shared = after })
step_of_node_step w s node t n m old new lines answer ends after task was step =
    let disks = with_counts node new w.nodes w.disks in
    let v = record w { nodes = with_node node (λ n. m) w.nodes; shared = after } in
    let d = part_of_node_step w (Does node t) node t n m old new disks lines answer ends after refl task.found was (counts_put node old new w.nodes w.disks was) step in
    record {
      events = lines;
      answer = answer;
      world = v;
      does = begins_so (refused_at_once w s) (Phases (phases_of s) disks (begun_with s w) line.Normal) w lines answer v task.begins
          (of_part w s (record { node = node; task = t }) task.task disks line.Normal lines answer v
          (d.0, d.1, subst (λ (p : PartEffect). Then p (Parts [] disks (Phases [] disks)) lines answer v) (sym d.2) (ends_so (record { lines = lines; answer = answer; ends = ends; world = v }) disks)));
      counts = none_falls_put node old new w.nodes w.disks was step.faults step.stops;
      shows = refl;
      goes = refl;
    }

node_step_of_step : (w v : World) (s : Statement) (node : List ℕ) (t : Task) (n : Node) (old new : DiskCounts) (lines : List Line) (answer : Line) → IsTask w s node t n → disk_of node w.nodes w.disks ≡ Some old → disk_of node w.nodes v.disks ≡ Some new →
    Step w s (lines ++ answer ∷ []) v → (m : Node) × (ends : Bool) × (v.nodes ≡ with_node node (λ n. m) w.nodes) × NodeStep w.shared n old t lines answer ends m v.shared new
node_step_of_step w v s node t n old new lines answer task was now step =
    let u = turn w v s node t n (lines ++ answer ∷ []) task step in
    let c = u.choice in
    let e = task_effect w.shared old.stops n t c in
    let stopped : stops_at node w ≡ old.stops = rw (was, stops_at) refl in
    let is : task_effect w.shared (stops_at node w) n t c ≡ e = ap (λ stops. task_effect w.shared stops n t c) stopped in
    let parts = same_last lines step.events answer step.answer step.shows in
    let goes : v ≡ record (put_into w node e).world { disks = v.disks } = u.goes ∙ ap (λ x. record (put_into w node x).world { disks = v.disks }) is in
    let here = subst (λ stops. TaskAllowed w.shared stops n t (λ cause. RoseAt w node cause v.disks) c) stopped u.allowed in
    let falls = none_falls_at node old new w.nodes w.disks v.disks step.counts was now in (
      e.node,
      e.ends,
      ap (λ (x : World). x.nodes) goes,
      record {
        choice = c;
        allowed = allowed_as w.shared old.stops n t (λ cause. RoseAt w node cause v.disks) (λ cause. Rose (count_of cause old) (count_of cause new)) (rose w node old new v.disks was now) c here;
        faults = falls.0;
        stops = falls.1;
        shows = parts.0 ∙ u.shows ∙ ap (λ x. x.lines) is;
        answers = parts.1 ∙ u.answers ∙ ap (λ x. x.answer) is;
        over = refl;
        node = refl;
        shared = ap (λ (x : World). x.shared) goes;
      },
    )

told_at_once : (w : World) (s : Statement) (refusal : Line) → refused_at_once w s ≡ Some refusal → Step w s (refusal ∷ []) w
told_at_once w s refusal e = record {
  events = [];
  answer = refusal;
  world = w;
  does = subst (λ o. Begins o (Phases (phases_of s) w.disks (begun_with s w) line.Normal) w [] refusal w) (sym e) (refl, refl, refl);
  counts = none_falls_same w.disks;
  shows = refl;
  goes = refl;
}

pub node_steps : NodeStepsAreSteps
node_steps = (step_of_node_step, node_step_of_step, part_of_node_step, told_at_once)
