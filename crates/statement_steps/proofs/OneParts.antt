-- One part: a step of its node, or nothing.
use Rattle.std.specs.Prelude.{not}
use Rattle.std.proofs.Common.{◌≡◌, ℕ, List, [], ◌∷◌, Bool, true, false, Option, Some, None, if◌then◌else◌, refl, sym, ◌∙◌, ap, subst, append-nil, arith}
use Rattle.world_laws.specs.transcript_model.Outside.{Rose}
use Rattle.world_laws.specs.transcript_model.Lines as line
use Rattle.world_laws.specs.transcript_model.Lines.{Cause, Line, Normal}
use Rattle.world_laws.specs.run_model.World.{DiskCounts, Node, Shared, World, disk_of, find_node, with_counts}
use Rattle.world_laws.specs.run_model.Answers.{Service, Task, powers, refused_before_reading, task_service}
use Rattle.world_laws.specs.run_model.Steps.{Choice, Cut, NodeStep, Unpowered, Whole, WithoutMemory, begun, count_of, ready_node, service_effect, task_effect, whole}
use Rattle.world_laws.specs.run_model.Statements.{Asks, Does, NoneFalls, Part, PartEffect}
use Rattle.world_laws.specs.run_model.StepLaws.{PartStep, task_of_part}
use Rattle.world_laws.proofs.run_model.Lifting.{node_steps}
use Rattle.world_laws.proofs.run_model.NodeLists.{counts_put, none_falls_at, none_falls_put, some_is}
use Rattle.statement_steps.specs.Doing.{Behind, DoesParts, IsPlain, Walked, as_begun, moved}
use Rattle.statement_steps.proofs.Counting.{Grows, allowed_as, count_grows, counts_before, rose_over, same_effect}

-- Where its statement goes on, it has that answer.
effect_on : (s : Shared) (stops : ℕ) (n : Node) (e : Service) (c : Choice) → ((s : Shared) (n : Node) → e.answer s n ≡ Normal) → (service_effect s stops n e c).ends ≡ false → (service_effect s stops n e c).answer ≡ Normal
effect_on s stops n e (Whole outturn) plain h = go (refused_before_reading s n e) h
  where
    later : (o : Option Line) → (begun s (ready_node outturn stops e n) e o).ends ≡ false → (begun s (ready_node outturn stops e n) e o).answer ≡ Normal
    later (Some refusal) k = let none : ⊥ = cc (k) in absurd none
    later None k = plain s (ready_node outturn stops e n)

    go : (o : Option Line) → (whole s n (ready_node outturn stops e n) e o).ends ≡ false → (whole s n (ready_node outturn stops e n) e o).answer ≡ Normal
    go (Some refusal) k = let none : ⊥ = cc (k) in absurd none
    go None k = later (e.refused_after_reading s (ready_node outturn stops e n)) k
effect_on s stops n e WithoutMemory plain h = let same : true ≡ false = h in let none : ⊥ = cc in absurd none
effect_on s stops n e Unpowered plain h = let same : true ≡ false = h in let none : ⊥ = cc in absurd none
effect_on s stops n e (Cut outturn done begun cause) plain h = go e.goes_on h
  where
    go : (b : Bool) → not b ≡ false → ◌≡◌ {A = Line} (if b then Normal else line.Broken cause) Normal
    go true k = refl
    go false k = let none : ⊥ = cc (k) in absurd none

pub step_on : (s : Shared) (n : Node) (old : DiskCounts) (t : Task) (lines : List Line) (answer : Line) (ends : Bool) (m : Node) (after : Shared) (new : DiskCounts) → IsPlain t → NodeStep s n old t lines answer ends m after new → ends ≡ false → answer ≡ Normal
step_on s n old t lines answer ends m after new plain step e = step.answers ∙ effect_on s old.stops n (task_service t) step.choice plain (sym step.over ∙ e)

-- A step from some counts of the disk is one from earlier ones, unless the task makes the disk run again; then it was stopped no more often.
pub step_since : (s : Shared) (n : Node) (old mid new : DiskCounts) (t : Task) (lines : List Line) (answer : Line) (ends : Bool) (m : Node) (after : Shared) → Grows old mid → (powers (task_service t) ≡ true → mid.stops ≡ old.stops) →
    NodeStep s n mid t lines answer ends m after new → NodeStep s n old t lines answer ends m after new
step_since s n old mid new t lines answer ends m after grows same step =
    let is : task_effect s mid.stops n t step.choice ≡ task_effect s old.stops n t step.choice = same_effect s mid.stops old.stops n t (λ cause. Rose (count_of cause mid) (count_of cause new)) same step.choice step.allowed in
    record {
      choice = step.choice;
      allowed = allowed_as s mid.stops old.stops n t (λ cause. Rose (count_of cause mid) (count_of cause new)) (λ cause. Rose (count_of cause old) (count_of cause new))
          (λ cause r. rose_over (count_of cause old) (count_of cause mid) (count_of cause new) (count_of cause new) (count_grows old mid grows cause) (omega arith) r) same step.choice step.allowed;
      faults = (let g = grows.0 in let f = step.faults in omega arith);
      stops = (let g = grows.1 in let f = step.stops in omega arith);
      shows = step.shows ∙ ap (λ e. e.lines) is;
      answers = step.answers ∙ ap (λ e. e.answer) is;
      over = step.over ∙ ap (λ e. e.ends) is;
      node = step.node ∙ ap (λ e. e.node) is;
      shared = step.shared ∙ ap (λ e. e.shared) is;
    }

-- A part that is what this effect says.
one_part : (begun after : List DiskCounts) (w v : World) (p : Part) (ends : Bool) (lines : List Line) (answer : Line) → (ends ≡ false → answer ≡ Normal) →
    PartStep (as_begun begun w) p after (record { lines = lines; answer = answer; ends = ends; world = as_begun begun v }) → Walked after (p ∷ []) (as_begun begun w) ends lines answer (as_begun begun v)
one_part begun after w v p ends lines answer on d =
    (d.0, d.1, subst (λ (e : PartEffect). Behind e (Walked after []) ends lines answer (as_begun begun v)) (sym d.2) (go ends on))
  where
    go : (b : Bool) → (b ≡ false → answer ≡ Normal) → Behind (record { lines = lines; answer = answer; ends = b; world = as_begun begun v }) (Walked after []) b lines answer (as_begun begun v)
    go true f = (refl, refl, refl, refl)
    go false f = (f refl, [], sym (append-nil lines), (refl, refl, f refl, refl))

-- it reads no counts which node does what
same_task : (begun : List DiskCounts) (w : World) (p : Part) → task_of_part (as_begun begun w) p ≡ task_of_part w p
same_task begun w (Does node t) = refl
same_task begun w (Asks node serial) = refl

-- A step of the node whose task the part is.
pub does_task : (begun : List DiskCounts) (w : World) (p : Part) (node : List ℕ) (t : Task) (n m : Node) (mid new : DiskCounts) (lines : List Line) (answer : Line) (ends : Bool) (after : Shared) → NoneFalls begun w.disks →
    task_of_part w p ≡ Some (record { node = node; task = t }) → IsPlain t → find_node node w.nodes ≡ Some n → disk_of node w.nodes w.disks ≡ Some mid → (powers (task_service t) ≡ true → disk_of node w.nodes begun ≡ Some mid) →
    NodeStep w.shared n mid t lines answer ends m after new → DoesParts begun (p ∷ []) w ends lines answer (moved w node m new after)
does_task begun w p node t n m mid new lines answer ends after falls is plain found here fresh step =
    let b = counts_before node w.nodes begun w.disks falls mid here in
    let old = b.0 in
    record {
      walked = one_part begun (with_counts node new w.nodes w.disks) w (moved w node m new after) p ends lines answer (step_on w.shared n mid t lines answer ends m after new plain step)
          (node_steps.2 (as_begun begun w) p node t n m old new (with_counts node new w.nodes w.disks) lines answer ends after (same_task begun w p ∙ is) found b.1 (counts_put node mid new w.nodes w.disks here)
          (step_since w.shared n old mid new t lines answer ends m after (none_falls_at node old mid w.nodes begun w.disks falls b.1 here)
          (λ e. ap (λ (d : DiskCounts). d.stops) (some_is mid old (sym (fresh e) ∙ b.1))) step));
      counts = none_falls_put node mid new w.nodes w.disks here step.faults step.stops;
    }
