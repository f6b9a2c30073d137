-- What is done at single nodes is the step of each kind of statement.
use Rattle.std.specs.Prelude.{not, ◌||◌}
use Rattle.std.specs.Str.{bytes_eq}
use Rattle.std.proofs.Common.{◌≡◌, ℕ, List, [], ◌∷◌, ◌++◌, Bool, true, false, Option, Some, None, if◌then◌else◌, refl, sym, ◌∙◌, ap, subst, arith}
use Rattle.world_laws.specs.transcript_model.Lines as line
use Rattle.world_laws.specs.transcript_model.Lines.{Line, Normal}
use Rattle.world_laws.specs.script_model.Statements.{At, Clock, Deliver, LinkDown, Request, Settle, Statement}
use Rattle.commit_protocol.specs.Messages.{Message}
use Rattle.world_laws.specs.run_model.World.{Clocks, DiskCounts, Lost, Node, Shared, World, acted, disk_of, find_node, with_counts, with_node}
use Rattle.world_laws.specs.run_model.Operations.{first_of, refused_if}
use Rattle.world_laws.specs.run_model.Answers.{LosesLink, Serves, Takes, Task, Ticks, powers, refused_before_reading, service, task_service}
use Rattle.world_laws.specs.run_model.Steps.{NodeStep, TaskEffect, Whole, task_effect, whole}
use Rattle.world_laws.specs.run_model.Statements.{Does, NoneFalls, Step, all_questions, begun_with, message_at, named_node, other_node, refused_at_once, restarts_of, run_downs_of, where_up}
use Rattle.world_laws.specs.run_model.StepLaws.{task_of}
use Rattle.world_laws.proofs.run_model.Lifting.{node_steps}
use Rattle.world_laws.proofs.run_model.NodeLists.{none_falls_same, put_node}
use Rattle.statement_steps.specs.Doing.{DoesParts, IsPlain, as_begun, moved}
use Rattle.statement_steps.specs.Settling.{asks_of, each_node, restart_of, run_down_of}
use Rattle.statement_steps.proofs.OneParts.{does_task}
use Rattle.statement_steps.proofs.Phasing.{down_there, phase_ended, phase_last, phase_on, step_of_phases, up_there}
use Rattle.statement_steps.proofs.Turning.{each_question, each_restart, each_run_down}
use Rattle.statement_steps.proofs.Walking.{does_none}

-- What is refused at once.

pub told_at_once : (w : World) (s : Statement) (refusal : Line) → refused_at_once w s ≡ Some refusal → Step w s (refusal ∷ []) w
told_at_once w s refusal e = node_steps.3 w s refusal e

pub request_missing : (w : World) (node : List ℕ) (request : Request) → find_node node w.nodes ≡ None → refused_at_once w (At node request) ≡ Some line.NoSuchNode
request_missing w node request none = ap (λ (o : Option Node). first_of (elim o [ Some n ↦ None | None ↦ Some line.NoSuchNode ]) (other_node w request)) none

pub request_alone : (w : World) (node : List ℕ) (request : Request) (refusal : Line) → other_node w request ≡ Some refusal → (n : Node) → find_node node w.nodes ≡ Some n → refused_at_once w (At node request) ≡ Some refusal
request_alone w node request refusal other n found = (λ i. first_of (elim (found i) [ Some n ↦ None | None ↦ Some line.NoSuchNode ]) (other i))

pub request_there : (w : World) (node : List ℕ) (request : Request) → other_node w request ≡ None → (n : Node) → find_node node w.nodes ≡ Some n → refused_at_once w (At node request) ≡ None
request_there w node request other n found = (λ i. first_of (elim (found i) [ Some n ↦ None | None ↦ Some line.NoSuchNode ]) (other i))

pub named_missing : (w : World) (node : List ℕ) → find_node node w.nodes ≡ None → named_node w node ≡ Some line.NoSuchNode
named_missing w node none = ap (λ (o : Option Node). elim o [ Some n ↦ None | None ↦ Some line.NoSuchNode ]) none

pub named_there : (w : World) (node : List ℕ) (n : Node) → find_node node w.nodes ≡ Some n → named_node w node ≡ None
named_there w node n found = ap (λ (o : Option Node). elim o [ Some n ↦ None | None ↦ Some line.NoSuchNode ]) found

pub no_message : (w : World) (number : ℕ) → message_at number w.shared.wire ≡ None → refused_at_once w (Deliver number) ≡ Some line.NoSuchMessage
no_message w number none = ap (λ (o : Option Message). elim o [ Some m ↦ named_node w m.to | None ↦ Some line.NoSuchMessage ]) none

pub no_receiver : (w : World) (number : ℕ) (m : Message) → message_at number w.shared.wire ≡ Some m → find_node m.to w.nodes ≡ None → refused_at_once w (Deliver number) ≡ Some line.NoSuchNode
no_receiver w number m e none = ap (λ (o : Option Message). elim o [ Some m ↦ named_node w m.to | None ↦ Some line.NoSuchMessage ]) e ∙ named_missing w m.to none

pub delivery_there : (w : World) (number : ℕ) (m : Message) (n : Node) → message_at number w.shared.wire ≡ Some m → find_node m.to w.nodes ≡ Some n → refused_at_once w (Deliver number) ≡ None
delivery_there w number m n e found = ap (λ (o : Option Message). elim o [ Some m ↦ named_node w m.to | None ↦ Some line.NoSuchMessage ]) e ∙ named_there w m.to n found

pub link_first : (w : World) (a b : List ℕ) → find_node a w.nodes ≡ None → refused_at_once w (LinkDown a b) ≡ Some line.NoSuchNode
link_first w a b none = ap (λ o. first_of o (first_of (named_node w b) (refused_if (bytes_eq a b) line.BadParameter))) (named_missing w a none)

pub link_second : (w : World) (a b : List ℕ) (n : Node) → find_node a w.nodes ≡ Some n → find_node b w.nodes ≡ None → refused_at_once w (LinkDown a b) ≡ Some line.NoSuchNode
link_second w a b n found none = (λ i. first_of (named_there w a n found i) (first_of (named_missing w b none i) (refused_if (bytes_eq a b) line.BadParameter)))

pub link_there : (w : World) (a b : List ℕ) (n m : Node) → find_node a w.nodes ≡ Some n → find_node b w.nodes ≡ Some m → refused_at_once w (LinkDown a b) ≡ refused_if (bytes_eq a b) line.BadParameter
link_there w a b n m found there = (λ i. first_of (named_there w a n found i) (first_of (named_there w b m there i) (refused_if (bytes_eq a b) line.BadParameter)))

-- A request, but for that of a clock.

request_task : (w : World) (node : List ℕ) (request : Request) → ((now : ℕ) → request ≡ Clock now → ⊥) → task_of w (At node request) ≡ Some (record { node = node; task = Serves request })
request_task w node (Clock now) h = absurd (h now refl)
request_task w node _ h = refl

pub request_step : (w : World) (node : List ℕ) (request : Request) (n m : Node) (old new : DiskCounts) (lines : List Line) (answer : Line) (ends : Bool) (after : Shared) → ((now : ℕ) → request ≡ Clock now → ⊥) → other_node w request ≡ None → find_node node w.nodes ≡ Some n →
    disk_of node w.nodes w.disks ≡ Some old → NodeStep w.shared n old (Serves request) lines answer ends m after new → Step w (At node request) (lines ++ answer ∷ []) (moved w node m new after)
request_step w node request n m old new lines answer ends after other_than other found disk step =
    node_steps.0 w (At node request) node (Serves request) n m old new lines answer ends after (record { begins = request_there w node request other n found; task = request_task w node request other_than; found = found }) disk step

-- A delivery.
pub delivery_step : (w : World) (number : ℕ) (msg : Message) (n m : Node) (old new : DiskCounts) (lines : List Line) (answer : Line) (ends : Bool) (after : Shared) → message_at number w.shared.wire ≡ Some msg → find_node msg.to w.nodes ≡ Some n → disk_of msg.to w.nodes w.disks ≡ Some old →
    NodeStep w.shared n old (Takes msg) lines answer ends m after new → Step w (Deliver number) (lines ++ answer ∷ []) (moved w msg.to m new after)
delivery_step w number msg n m old new lines answer ends after e found disk step =
    node_steps.0 w (Deliver number) msg.to (Takes msg) n m old new lines answer ends after
    (record { begins = delivery_there w number msg n e found; task = ap (λ (o : Option Message). elim o [ Some m ↦ Some (record { node = m.to; task = Takes m }) | None ↦ None ]) e; found = found }) disk step

-- A task of a node, where it is up.
pub up_does : (begun : List DiskCounts) (v : World) (node : List ℕ) (t : Task) (n m : Node) (mid new : DiskCounts) (lines : List Line) (answer : Line) (ends : Bool) (after : Shared) → NoneFalls begun v.disks → IsPlain t → powers (task_service t) ≡ false → find_node node v.nodes ≡ Some n → n.up ≡ true →
    disk_of node v.nodes v.disks ≡ Some mid → NodeStep v.shared n mid t lines answer ends m after new → DoesParts begun (where_up node t (as_begun begun v)) v ends lines answer (moved v node m new after)
up_does begun v node t n m mid new lines answer ends after falls plain unpowered found up disk step =
    subst (λ ps. DoesParts begun ps v ends lines answer (moved v node m new after)) (sym (up_there (as_begun begun v) node t n found up))
    (does_task begun v (Does node t) node t n m mid new lines answer ends after falls refl plain found disk (λ e. let no : true ≡ false = sym e ∙ unpowered in let none : ⊥ = cc in absurd none) step)

pub down_does : (begun : List DiskCounts) (v : World) (node : List ℕ) (t : Task) (n : Node) → find_node node v.nodes ≡ Some n → n.up ≡ false → DoesParts begun (where_up node t (as_begun begun v)) v false [] Normal v
down_does begun v node t n found down = subst (λ ps. DoesParts begun ps v false [] Normal v) (sym (down_there (as_begun begun v) node t n found down)) (does_none begun v)

-- A link that fails: each of the two nodes lost the other, where it is up.
pub link_step : (w mid v : World) (a b : List ℕ) (front rest : List Line) → refused_at_once w (LinkDown a b) ≡ None → DoesParts w.disks (where_up a (LosesLink b) (as_begun w.disks w)) w false front Normal mid → DoesParts w.disks (where_up b (LosesLink a) (as_begun w.disks mid)) mid false rest Normal v →
    Step w (LinkDown a b) ((front ++ rest) ++ Normal ∷ []) v
link_step w mid v a b front rest once h k =
    step_of_phases w v (LinkDown a b) false (front ++ rest) Normal once (phase_on (where_up a (LosesLink b)) (where_up b (LosesLink a) ∷ []) w.disks w mid front false rest Normal v h (phase_last (where_up b (LosesLink a)) w.disks mid false rest Normal v k))

-- A clock.

-- a node whose clock is set
clock_once : (s : Shared) (n : Node) (now : ℕ) → refused_before_reading s n (service (Clock now)) ≡ None
clock_once s n now = go n.up
  where
    go : (b : Bool) → first_of (refused_if (not (b || true)) line.NodeDown) None ≡ None
    go true = refl
    go false = refl

same_use : (s : Shared) → record s { in_use = s.in_use || false } ≡ s
same_use s = go s.in_use
  where
    go : (b : Bool) → record s { in_use = b || false } ≡ record s { in_use = b }
    go true = refl
    go false = refl

pub clock_sets : (s : Shared) (n : Node) (old : DiskCounts) (now : ℕ) → NodeStep s n old (Serves (Clock now)) [] Normal false (acted (Clocks now) n) s old
clock_sets s n old now =
    let is : task_effect s old.stops n (Serves (Clock now)) (Whole Lost) ≡ whole s n n (service (Clock now)) None = ap (whole s n n (service (Clock now))) (clock_once s n now) in
    record {
      choice = Whole Lost;
      allowed = tt;
      faults = omega arith;
      stops = omega arith;
      shows = sym (ap (λ (e : TaskEffect). e.lines) is);
      answers = sym (ap (λ (e : TaskEffect). e.answer) is);
      over = sym (ap (λ (e : TaskEffect). e.ends) is);
      node = sym (ap (λ (e : TaskEffect). e.node) is);
      shared = sym (ap (λ (e : TaskEffect). e.shared) is ∙ same_use s);
    }

same_counts : (node : List ℕ) (d : DiskCounts) (ns : List Node) (ds : List DiskCounts) → disk_of node ns ds ≡ Some d → with_counts node d ns ds ≡ ds
same_counts node d [] ds e = refl
same_counts node d (n ∷ ns) [] e = refl
same_counts node d (n ∷ ns) (c ∷ ds) e = go (bytes_eq node n.name) (same_counts node d ns ds) e
  where
    go : (b : Bool) → (disk_of node ns ds ≡ Some d → with_counts node d ns ds ≡ ds) → ◌≡◌ {A = Option DiskCounts} (if b then Some c else disk_of node ns ds) (Some d) → ◌≡◌ {A = List DiskCounts} (if b then d ∷ ds else c ∷ with_counts node d ns ds) (c ∷ ds)
    go true more k = let same : d ≡ c = cc in ap (λ x. x ∷ ds) same
    go false more k = ap (λ xs. c ∷ xs) (more k)

-- the world in which it is
abbrev pub clocked : World → List ℕ → ℕ → Node → World
clocked w node now n = record w { nodes = with_node node (λ x. acted (Clocks now) n) w.nodes }

pub clock_does : (w : World) (node : List ℕ) (now : ℕ) (n : Node) (d : DiskCounts) → find_node node w.nodes ≡ Some n → disk_of node w.nodes w.disks ≡ Some d → DoesParts w.disks (Does node (Serves (Clock now)) ∷ []) w false [] Normal (clocked w node now n)
clock_does w node now n d found disk =
    subst (λ ds. DoesParts w.disks (Does node (Serves (Clock now)) ∷ []) w false [] Normal (record { nodes = with_node node (λ x. acted (Clocks now) n) w.nodes; disks = ds; shared = w.shared })) (same_counts node d w.nodes w.disks disk)
    (does_task w.disks w (Does node (Serves (Clock now))) node (Serves (Clock now)) n (acted (Clocks now) n) d d [] Normal false w.shared (none_falls_same w.disks) refl (λ s m. refl) found disk (λ e. let none : ⊥ = cc (e) in absurd none) (clock_sets w.shared n d now))

pub clock_found : (w : World) (node : List ℕ) (now : ℕ) (n : Node) → find_node node w.nodes ≡ Some n → find_node node (clocked w node now n).nodes ≡ Some (acted (Clocks now) n)
clock_found w node now n found = put_node node n (acted (Clocks now) n) w.nodes refl found

-- where the node is down nothing else is done,
pub clock_step : (w v : World) (node : List ℕ) (now : ℕ) (n : Node) (d : DiskCounts) (lines : List Line) → find_node node w.nodes ≡ Some n → disk_of node w.nodes w.disks ≡ Some d →
    DoesParts w.disks (where_up node Ticks (as_begun w.disks (clocked w node now n))) (clocked w node now n) false lines Normal v → Step w (At node (Clock now)) (lines ++ Normal ∷ []) v
clock_step w v node now n d lines found disk h =
    step_of_phases w v (At node (Clock now)) false lines Normal (request_there w node (Clock now) refl n found)
    (phase_on (λ u. Does node (Serves (Clock now)) ∷ []) (where_up node Ticks ∷ []) w.disks w (clocked w node now n) [] false lines Normal v (clock_does w node now n d found disk) (phase_last (where_up node Ticks) w.disks (clocked w node now n) false lines Normal v h))

-- A settling.

-- it ended while nodes were booted,
pub settle_restarting : (w v : World) (lines : List Line) (answer : Line) → DoesParts w.disks (each_node restart_of w.nodes) (begun_with Settle w) true lines answer v → Step w Settle (lines ++ answer ∷ []) v
settle_restarting w v lines answer h =
    step_of_phases w v Settle true lines answer refl
    (phase_ended (λ u. restarts_of u.nodes) ((λ u. run_downs_of u.nodes) ∷ (λ u. all_questions u.nodes) ∷ []) w.disks (begun_with Settle w) lines answer v
    (subst (λ ps. DoesParts w.disks ps (begun_with Settle w) true lines answer v) (sym (each_restart w.nodes)) h))

-- or while they aborted what is not prepared,
pub settle_running_down : (w u v : World) (front lines : List Line) (answer : Line) → DoesParts w.disks (each_node restart_of w.nodes) (begun_with Settle w) false front Normal u → DoesParts w.disks (each_node run_down_of u.nodes) u true lines answer v → Step w Settle ((front ++ lines) ++ answer ∷ []) v
settle_running_down w u v front lines answer h k =
    step_of_phases w v Settle true (front ++ lines) answer refl
    (phase_on (λ u. restarts_of u.nodes) ((λ u. run_downs_of u.nodes) ∷ (λ u. all_questions u.nodes) ∷ []) w.disks (begun_with Settle w) u front true lines answer v
    (subst (λ ps. DoesParts w.disks ps (begun_with Settle w) false front Normal u) (sym (each_restart w.nodes)) h)
    (phase_ended (λ u. run_downs_of u.nodes) ((λ u. all_questions u.nodes) ∷ []) w.disks u lines answer v (subst (λ ps. DoesParts w.disks ps u true lines answer v) (sym (each_run_down u.nodes)) k)))

-- or it came to the questions.
pub settle_asking : (w u x v : World) (front middle lines : List Line) (ends : Bool) (answer : Line) → DoesParts w.disks (each_node restart_of w.nodes) (begun_with Settle w) false front Normal u → DoesParts w.disks (each_node run_down_of u.nodes) u false middle Normal x →
    DoesParts w.disks (each_node asks_of x.nodes) x ends lines answer v → Step w Settle ((front ++ (middle ++ lines)) ++ answer ∷ []) v
settle_asking w u x v front middle lines ends answer h k j =
    step_of_phases w v Settle ends (front ++ (middle ++ lines)) answer refl
    (phase_on (λ u. restarts_of u.nodes) ((λ u. run_downs_of u.nodes) ∷ (λ u. all_questions u.nodes) ∷ []) w.disks (begun_with Settle w) u front ends (middle ++ lines) answer v
    (subst (λ ps. DoesParts w.disks ps (begun_with Settle w) false front Normal u) (sym (each_restart w.nodes)) h)
    (phase_on (λ u. run_downs_of u.nodes) ((λ u. all_questions u.nodes) ∷ []) w.disks u x middle ends lines answer v (subst (λ ps. DoesParts w.disks ps u false middle Normal x) (sym (each_run_down u.nodes)) k)
    (phase_last (λ u. all_questions u.nodes) w.disks x ends lines answer v (subst (λ ps. DoesParts w.disks ps x ends lines answer v) (sym (each_question x.nodes)) j))))
