-- Statements that are refused.
use Rattle.std.proofs.Common.{◌≡◌, ℕ, List, [], ◌∷◌, ◌++◌, inl, inr, Bool, true, false, not, ◌||◌, Option, Some, None, if◌then◌else◌, refl, sym, ◌∙◌, ap, subst}
use Rattle.transcript_model.specs.Lines as line
use Rattle.transcript_model.specs.Lines.{Line, Cause}
use Rattle.script_model.specs.Statements.{Statement, At, Deliver, LinkDown, Settle, Clock}
use Rattle.run_model.specs.World.{World, Shared, Node, DiskCounts, Outturn, find_node}
use Rattle.run_model.specs.Answers.{Task, Serves, Ticks, LosesLink, Service, task_service, refused_before_reading, powers}
use Rattle.run_model.specs.Operations.{first_of, refused_if}
use Rattle.run_model.specs.Steps.{Choice, TaskEffect, task_effect, ready_node, refused}
use Rattle.run_model.specs.Statements.{Part, Does, PartEffect, Onward, Parts, Phases, Phase, Then, Allowed, AllowedAt, Begins, Step, part_effect, put_into, where_up, stops_at, RoseAt, phases_of, refused_at_once, begun_with}
use Rattle.run_model.specs.StepLaws.{EndsSettling, IsRefusedSo, IsTask, RefusalsLeaveWorld, RefusesIn, is_refusal, is_sweep, ready_in_world, with_ready}
use Rattle.run_model.proofs.NodeLists.{clash, put_node, put_same}
use Rattle.run_model.proofs.CauseLemmas.{task_succeeds, success_no_refusal}
use Rattle.run_model.proofs.TaskLemmas.{Outcome, First, Late, Success, Lacking, Failing, outcome, ready_name}
use Rattle.run_model.proofs.PartLemmas.{EachPart, EachPhase, Way, Done, Missing, Idle, Doubted, turn, way, phases_fold, begins_with, allowed_here, done_here}

-- two lists with a last element each
pub same_last : (xs ys : List Line) (x y : Line) → xs ++ x ∷ [] ≡ ys ++ y ∷ [] → (xs ≡ ys) × (x ≡ y)
same_last [] [] x y e = let same : x ≡ y = cc in (refl, same)
same_last [] (z ∷ []) x y e = let none : ⊥ = cc in absurd none
same_last [] (z ∷ t ∷ ys) x y e = let none : ⊥ = cc in absurd none
same_last (a ∷ []) [] x y e = let none : ⊥ = cc in absurd none
same_last (a ∷ b ∷ xs) [] x y e = let none : ⊥ = cc in absurd none
same_last (a ∷ xs) (z ∷ ys) x y e =
    let heads : a ≡ z = cc in
    let tails : xs ++ x ∷ [] ≡ ys ++ y ∷ [] = cc in
    let r = same_last xs ys x y tails in
    (λ i. heads i ∷ r.0 i, r.1)

-- At once.

at_once : (w v : World) (s : Statement) (lines : List Line) (refusal : Line) → Step w s lines v → refused_at_once w s ≡ Some refusal → (lines ≡ refusal ∷ []) × (v ≡ record w { disks = v.disks })
at_once w v s lines refusal step e =
    let d : Begins (Some refusal) (Phases (phases_of s) v.disks (begun_with s w) line.Normal) w step.events step.answer step.world = subst (λ o. Begins o (Phases (phases_of s) v.disks (begun_with s w) line.Normal) w step.events step.answer step.world) e step.does in
    (step.shows ∙ (λ i. d.0 i ++ d.1 i ∷ []), step.goes ∙ ap (λ (x : World). record x { disks = v.disks }) d.2)

-- One task.

-- the world with what a refusal leaves at its node
pub left_by : (w : World) (node : List ℕ) (n m : Node) (refusal : Line) (e : TaskEffect) (disks : List DiskCounts) → e ≡ refused w.shared m refusal → ◌≡◌ {A = World} (record (put_into w node e).world { disks = disks }) (record (with_ready w node m) { disks = disks })
left_by w node n m refusal e disks is = ap (λ (x : TaskEffect). record (put_into w node x).world { disks = disks }) is

pub left_same : (w : World) (node : List ℕ) (n : Node) (disks : List DiskCounts) → find_node node w.nodes ≡ Some n → ◌≡◌ {A = World} (record (with_ready w node n) { disks = disks }) (record w { disks = disks })
left_same w node n disks found = ap (λ ns. record w { nodes = ns; disks = disks }) (put_same node n w.nodes found)

pub no_refusal : (answer other : Line) → is_refusal answer ≡ true → answer ≡ other → is_refusal other ≡ false → ⊥
no_refusal answer other h e k = clash _ (sym (ap is_refusal e) ∙ h) k

pub not_ready : (outturn : Outturn) (stops : ℕ) (e : Service) (n : Node) → powers e ≡ false → ready_node outturn stops e n ≡ n
not_ready outturn stops e n off = rw (off, ready_node) refl

refused_so : (w v : World) (node : List ℕ) (t : Task) (n : Node) (answer : Line) (e : TaskEffect) → find_node node w.nodes ≡ Some n → is_refusal answer ≡ true → answer ≡ e.answer → v ≡ record (put_into w node e).world { disks = v.disks } →
    Outcome w.shared (stops_at node w) n t (λ cause. RoseAt w node cause v.disks) e → (e.lines ≡ []) × IsRefusedSo w node t n answer v
refused_so w v node t n answer e found is said goes (First refusal first f) =
    (ap (λ (x : TaskEffect). x.lines) f, inl (first ∙ ap Some (sym (said ∙ ap (λ (x : TaskEffect). x.answer) f)), goes ∙ left_by w node n n refusal e v.disks f ∙ left_same w node n v.disks found))
refused_so w v node t n answer e found is said goes (Late outturn refusal may first late f) = (
  ap (λ (x : TaskEffect). x.lines) f,
  inr (inr (first, outturn, may, late ∙ ap Some (sym (said ∙ ap (λ (x : TaskEffect). x.answer) f)), goes ∙ left_by w node n (ready_in_world outturn w node t n) refusal e v.disks f, λ off. not_ready outturn (stops_at node w) (task_service t) n off)),
)
refused_so w v node t n answer e found is said goes (Success outturn may first late f) =
    absurd (no_refusal answer _ is (said ∙ ap (λ (x : TaskEffect). x.answer) f) (success_no_refusal _ (task_succeeds w.shared (ready_in_world outturn w node t n) t)))
refused_so w v node t n answer e found is said goes (Lacking first takes f) =
    (ap (λ (x : TaskEffect). x.lines) f, inr (inl (first, said ∙ ap (λ (x : TaskEffect). x.answer) f, takes, goes ∙ left_by w node n n line.NoMemory e v.disks f ∙ left_same w node n v.disks found)))
refused_so w v node t n answer e found is said goes (Failing cause shown true first rises shows down answers ends) = absurd (no_refusal answer line.Normal is (said ∙ answers) refl)
refused_so w v node t n answer e found is said goes (Failing cause shown false first rises shows down answers ends) = absurd (no_refusal answer (line.Broken cause) is (said ∙ answers) refl)

of_task : (w v : World) (s : Statement) (node : List ℕ) (t : Task) (n : Node) (events : List Line) (answer : Line) → IsTask w s node t n → Step w s (events ++ answer ∷ []) v → is_refusal answer ≡ true → (events ≡ []) × IsRefusedSo w node t n answer v
of_task w v s node t n events answer task step is =
    let u = turn w v s node t n (events ++ answer ∷ []) task step in
    let parts = same_last events step.events answer step.answer step.shows in
    let r = refused_so w v node t n answer (task_effect w.shared (stops_at node w) n t u.choice) task.found is (parts.1 ∙ u.answers) u.goes
    (outcome w.shared (stops_at node w) n t (λ cause. RoseAt w node cause v.disks) u.choice u.allowed) in
    (parts.0 ∙ u.shows ∙ r.0, r.1)

-- A settling.

-- so it ends where its answer is a refusal
abbrev Refused : World → List Line → Line → World → Type 0
Refused w lines answer v = is_refusal answer ≡ true → EndsSettling v answer

-- what a node that was found refuses stays so at the node that is put in its place
here_refuses : (w : World) (node : List ℕ) (t : Task) (n m : Node) (answer : Line) → find_node node w.nodes ≡ Some n → m.name ≡ n.name → RefusesIn (with_ready w node m) m t answer → EndsSettling (with_ready w node m) answer
here_refuses w node t n m answer found named refuses = inl (node, t, m, put_node node n m w.nodes named found, refuses)

task_ends : (w : World) (node : List ℕ) (t : Task) (n : Node) (rises : Cause → Type 0) (e : TaskEffect) → find_node node w.nodes ≡ Some n → is_refusal e.answer ≡ true → Outcome w.shared (stops_at node w) n t rises e → EndsSettling (put_into w node e).world e.answer
task_ends w node t n rises e found is (First refusal first f) =
    subst (λ (x : TaskEffect). EndsSettling (put_into w node x).world x.answer) (sym f) (here_refuses w node t n n refusal found refl (inl first))
task_ends w node t n rises e found is (Late outturn refusal may first late f) =
    subst (λ (x : TaskEffect). EndsSettling (put_into w node x).world x.answer) (sym f) (here_refuses w node t n (ready_in_world outturn w node t n) refusal found (ready_name outturn (stops_at node w) (task_service t) n) (inr (inl late)))
task_ends w node t n rises e found is (Success outturn may first late f) =
    absurd (no_refusal e.answer _ is (ap (λ (x : TaskEffect). x.answer) f) (success_no_refusal _ (task_succeeds w.shared (ready_in_world outturn w node t n) t)))
task_ends w node t n rises e found is (Lacking first takes f) =
    subst (λ (x : TaskEffect). EndsSettling (put_into w node x).world x.answer) (sym f) (here_refuses w node t n n line.NoMemory found refl (inr (inr (refl, takes))))
task_ends w node t n rises e found is (Failing cause shown true first rises_so shows down answers ends) = absurd (no_refusal e.answer line.Normal is answers refl)
task_ends w node t n rises e found is (Failing cause shown false first rises_so shows down answers ends) = absurd (no_refusal e.answer (line.Broken cause) is answers refl)

way_ends : (w : World) (p : Part) (c : Choice) (after : List DiskCounts) → Way w p c after → is_refusal (part_effect w p c).answer ≡ true → EndsSettling (part_effect w p c).world (part_effect w p c).answer
way_ends w p c after (Done node t n found allowed is) h =
    let e = task_effect w.shared (stops_at node w) n t c in
    subst (λ (x : PartEffect). EndsSettling x.world x.answer) (sym is)
    (task_ends w node t n (λ cause. RoseAt w node cause after) e found (sym (ap (λ (x : PartEffect). is_refusal x.answer) is) ∙ h) (outcome w.shared (stops_at node w) n t (λ cause. RoseAt w node cause after) c allowed))
way_ends w p c after (Missing node none is) h = subst (λ (x : PartEffect). EndsSettling x.world x.answer) (sym is) (inr (inl (node, none, refl)))
way_ends w p c after (Idle is) h = absurd (no_refusal (part_effect w p c).answer line.Normal h (ap (λ (x : PartEffect). x.answer) is) refl)
way_ends w p c after (Doubted node serial b there none is) h = subst (λ (x : PartEffect). EndsSettling x.world x.answer) (sym is) (inr (inr (node, serial, b, there, none, refl)))

-- a part with which its statement does not end is answered with no refusal
outcome_goes_on : (w : World) (node : List ℕ) (t : Task) (n : Node) (rises : Cause → Type 0) (e : TaskEffect) → e.ends ≡ false → Outcome w.shared (stops_at node w) n t rises e → is_refusal e.answer ≡ false
outcome_goes_on w node t n rises e on (First refusal first f) = absurd (clash _ (ap (λ (x : TaskEffect). x.ends) f) on)
outcome_goes_on w node t n rises e on (Late outturn refusal may first late f) = absurd (clash _ (ap (λ (x : TaskEffect). x.ends) f) on)
outcome_goes_on w node t n rises e on (Success outturn may first late f) = ap (λ (x : TaskEffect). is_refusal x.answer) f ∙ success_no_refusal _ (task_succeeds w.shared (ready_in_world outturn w node t n) t)
outcome_goes_on w node t n rises e on (Lacking first takes f) = absurd (clash _ (ap (λ (x : TaskEffect). x.ends) f) on)
outcome_goes_on w node t n rises e on (Failing cause shown true first rises_so shows down answers ends) = ap is_refusal answers
outcome_goes_on w node t n rises e on (Failing cause shown false first rises_so shows down answers ends) = ap is_refusal answers

way_goes_on : (w : World) (p : Part) (c : Choice) (after : List DiskCounts) → Way w p c after → (part_effect w p c).ends ≡ false → is_refusal (part_effect w p c).answer ≡ false
way_goes_on w p c after (Done node t n found allowed is) on =
    let e = task_effect w.shared (stops_at node w) n t c in
    ap (λ (x : PartEffect). is_refusal x.answer) is ∙ outcome_goes_on w node t n (λ cause. RoseAt w node cause after) e (sym (ap (λ (x : PartEffect). x.ends) is) ∙ on) (outcome w.shared (stops_at node w) n t (λ cause. RoseAt w node cause after) c allowed)
way_goes_on w p c after (Missing node none is) on = absurd (clash _ (ap (λ (x : PartEffect). x.ends) is) on)
way_goes_on w p c after (Idle is) on = ap (λ (x : PartEffect). is_refusal x.answer) is
way_goes_on w p c after (Doubted node serial b there none is) on = absurd (clash _ (ap (λ (x : PartEffect). x.ends) is) on)

pub each_any : (ps : List Part) → EachPart (λ p. Unit {0}) ps
each_any [] = tt
each_any (p ∷ ps) = (tt, each_any ps)

-- the phases of any statement are of any parts
pub each_phase : (s : Statement) → EachPhase (λ p. Unit {0}) (phases_of s)
each_phase s = all (phases_of s)
  where
    all : (ps : List Phase) → EachPhase (λ p. Unit {0}) ps
    all [] = tt
    all (p ∷ ps) = (λ w. each_any (p w), all ps)

settling : (w v : World) (events : List Line) (answer : Line) → Step w Settle (events ++ answer ∷ []) v → is_refusal answer ≡ true → EndsSettling v answer
settling w v events answer step is =
    let parts = same_last events step.events answer step.answer step.shows in
    let ended : Refused (begun_with Settle w) step.events step.answer step.world = phases_fold v.disks (λ p. Unit {0}) (λ given. is_refusal given ≡ false) Refused
    (λ u given q h. absurd (clash _ h q))
    (λ u p c ok allowed ends h. way_ends u p c v.disks (way u p c v.disks allowed) h)
    (λ u p c ok allowed on. (way_goes_on u p c v.disks (way u p c v.disks allowed) on, λ rest last x k h. k h))
    (phases_of Settle) (each_phase Settle) (begun_with Settle w) line.Normal step.events step.answer step.world refl step.does in
    subst (λ x. EndsSettling x answer) (sym step.goes) (subst (λ x. EndsSettling (record step.world { disks = v.disks }) x) (sym parts.1) (ended (sym (ap is_refusal parts.1) ∙ is)))

-- A clock that is set, and a link that fails.

-- a task that nothing refuses at a node that is so, that takes no memory
record IsFree (s : Shared) (n : Node) (t : Task) : Type 0 where
  first : refused_before_reading s n (task_service t) ≡ None
  later : (m : Node) → (task_service t).refused_after_reading s m ≡ None
  memory : (task_service t).takes_memory n ≡ false

pub none_some : {A : Type 0} (refusal : A) (o : Option A) → o ≡ None → o ≡ Some refusal → ⊥
none_some refusal o a b = let none : ⊥ = cc in none

free_answers : (s : Shared) (stops : ℕ) (n : Node) (t : Task) (rises : Cause → Type 0) (e : TaskEffect) → IsFree s n t → Outcome s stops n t rises e → is_refusal e.answer ≡ false
free_answers s stops n t rises e free (First refusal first f) = absurd (none_some refusal _ free.first first)
free_answers s stops n t rises e free (Late outturn refusal may first late f) = absurd (none_some refusal _ (free.later (ready_node outturn stops (task_service t) n)) late)
free_answers s stops n t rises e free (Success outturn may first late f) = ap (λ (x : TaskEffect). is_refusal x.answer) f ∙ success_no_refusal _ (task_succeeds s (ready_node outturn stops (task_service t) n) t)
free_answers s stops n t rises e free (Lacking first takes f) = absurd (clash _ takes free.memory)
free_answers s stops n t rises e free (Failing cause shown true first rises_so shows down answers ends) = ap is_refusal answers
free_answers s stops n t rises e free (Failing cause shown false first rises_so shows down answers ends) = ap is_refusal answers

-- the parts of a phase are at most one, of such a task
abbrev FreeParts : World → List Part → Type 0
FreeParts w [] = Unit {0}
FreeParts w (p ∷ []) = (c : Choice) (after : List DiskCounts) → Allowed w p after c → is_refusal (part_effect w p c).answer ≡ false
FreeParts w (p ∷ q ∷ ps) = ⊥

abbrev FreePhases : List Phase → Type 0
FreePhases [] = Unit {0}
FreePhases (p ∷ ps) = ((w : World) → FreeParts w (p w)) × FreePhases ps

-- what follows such a part
free_then : (after : List DiskCounts) (p : PartEffect) (more : Onward) → is_refusal p.answer ≡ false → ((w : World) (given : Line) (lines : List Line) (answer : Line) (v : World) → is_refusal given ≡ false → more w given lines answer v → is_refusal answer ≡ false) →
    (lines : List Line) (answer : Line) (v : World) → Then p more lines answer v → is_refusal answer ≡ false
free_then after p more fine goes lines answer v h = by p.ends h
  where
    by : (b : Bool) → Then (record p { ends = b }) more lines answer v → is_refusal answer ≡ false
    by true d = ap is_refusal d.1 ∙ fine
    by false d = goes p.world p.answer d.0 answer v fine d.2

free_phases : (after : List DiskCounts) (ps : List Phase) → FreePhases ps → (w : World) (given : Line) (lines : List Line) (answer : Line) (v : World) → is_refusal given ≡ false → Phases ps after w given lines answer v → is_refusal answer ≡ false
free_phases after [] free w given lines answer v fine h = ap is_refusal h.1 ∙ fine
free_phases after (p ∷ ps) free w given lines answer v fine h = go (p w) (free.0 w) h (λ u last rest end x ok d. free_phases after ps free.1 u last rest end x ok d)
  where
    go : (qs : List Part) → FreeParts w qs → Parts qs after (Phases ps after) w given lines answer v →
        ((u : World) (last : Line) (rest : List Line) (end : Line) (x : World) → is_refusal last ≡ false → Phases ps after u last rest end x → is_refusal end ≡ false) → is_refusal answer ≡ false
    go [] f k more = more w given lines answer v fine k
    go (q ∷ []) f k more = free_then after (part_effect w q k.0) (Parts [] after (Phases ps after)) (f k.0 after k.1) more lines answer v k.2
    go (q ∷ r ∷ qs) f k more = absurd f

-- a task of a node that is there and free for it
free_part : (w : World) (node : List ℕ) (t : Task) (n : Node) → find_node node w.nodes ≡ Some n → IsFree w.shared n t → (c : Choice) (after : List DiskCounts) → AllowedAt w node t after c → is_refusal (part_effect w (Does node t) c).answer ≡ false
free_part w node t n found free c after allowed =
    ap (λ (x : PartEffect). is_refusal x.answer) (done_here w node t n c found)
    ∙ free_answers w.shared (stops_at node w) n t (λ cause. RoseAt w node cause after) (task_effect w.shared (stops_at node w) n t c) free (outcome w.shared (stops_at node w) n t (λ cause. RoseAt w node cause after) c (allowed_here w node t n after c found allowed))

awake : (s : Shared) (n : Node) (t : Task) → n.up ≡ true → (task_service t).refused_before_reading s n ≡ None → refused_before_reading s n (task_service t) ≡ None
awake s n t up first = let served : refused_if (not (n.up || (task_service t).while_down)) line.NodeDown ≡ None = rw up refl in rw (served, first) refl

-- so is a task of a node that is asked where it is up
free_where_up : (node : List ℕ) (t : Task) → ((s : Shared) (n : Node) → n.up ≡ true → IsFree s n t) → (w : World) → FreeParts w (where_up node t w)
free_where_up node t free w = go (find_node node w.nodes) refl
  where
    at : (n : Node) → find_node node w.nodes ≡ Some n → (b : Bool) → n.up ≡ b → FreeParts w (if b then Does node t ∷ [] else [])
    at n found true up = λ c after allowed. free_part w node t n found (free w.shared n up) c after allowed
    at n found false up = tt

    go : (o : Option Node) → find_node node w.nodes ≡ o → FreeParts w (if (elim o [ Some n ↦ n.up | None ↦ false ]) then Does node t ∷ [] else [])
    go (Some n) found = at n found n.up refl
    go None found = tt

ticks_free : (s : Shared) (n : Node) → n.up ≡ true → IsFree s n Ticks
ticks_free s n up = record { first = awake s n Ticks up refl; later = λ m. refl; memory = refl }

link_free : (other : List ℕ) (s : Shared) (n : Node) → n.up ≡ true → IsFree s n (LosesLink other)
link_free other s n up = record { first = awake s n (LosesLink other) up refl; later = λ m. refl; memory = refl }

clock_free : (now : ℕ) (s : Shared) (n : Node) → IsFree s n (Serves (Clock now))
clock_free now s n = record { first = always n.up; later = λ m. refl; memory = refl }
  where
    always : (b : Bool) → first_of (refused_if (not (b || true)) line.NodeDown) None ≡ None
    always true = refl
    always false = refl

clocks : (w : World) (node : List ℕ) (now : ℕ) (after : List DiskCounts) (lines : List Line) (answer : Line) (v : World) → refused_at_once w (At node (Clock now)) ≡ None → Phases (phases_of (At node (Clock now))) after w line.Normal lines answer v → is_refusal answer ≡ false
clocks w node now after lines answer v once h =
    free_then after (part_effect w (Does node (Serves (Clock now))) h.0) (Parts [] after (Phases (where_up node Ticks ∷ []) after)) (go (find_node node w.nodes) refl once)
    (λ u last rest end x fine d. free_phases after (where_up node Ticks ∷ []) (free_where_up node Ticks ticks_free, tt) u last rest end x fine d) lines answer v h.2
  where
    go : (o : Option Node) → find_node node w.nodes ≡ o → first_of (elim o [ Some n ↦ None | None ↦ Some line.NoSuchNode ]) None ≡ None → is_refusal (part_effect w (Does node (Serves (Clock now))) h.0).answer ≡ false
    go (Some n) found k = free_part w node (Serves (Clock now)) n found (clock_free now w.shared n) h.0 after h.1
    go None found k = let none : ⊥ = cc in absurd none

sweeps : (w v : World) (s : Statement) (events : List Line) (answer : Line) → is_sweep s ≡ true → refused_at_once w s ≡ None → Step w s (events ++ answer ∷ []) v → is_refusal answer ≡ false
sweeps w v s events answer sweep once step =
    ap is_refusal (same_last events step.events answer step.answer step.shows).1 ∙ go s sweep once (begins_with (refused_at_once w s) (Phases (phases_of s) v.disks (begun_with s w) line.Normal) w step.events step.answer step.world once step.does)
  where
    go : (s : Statement) → is_sweep s ≡ true → refused_at_once w s ≡ None → Phases (phases_of s) v.disks (begun_with s w) line.Normal step.events step.answer step.world → is_refusal step.answer ≡ false
    go (At node (Clock now)) sweep once d = clocks w node now v.disks step.events step.answer step.world once d
    go (LinkDown a b) sweep once d =
        free_phases v.disks (where_up a (LosesLink b) ∷ where_up b (LosesLink a) ∷ []) (free_where_up a (LosesLink b) (link_free b), (free_where_up b (LosesLink a) (link_free a), tt)) w line.Normal step.events step.answer step.world refl d
    go (At node _) sweep once d = let none : ⊥ = cc in absurd none
    go (Deliver number) sweep once d = let none : ⊥ = cc in absurd none
    go Settle sweep once d = let none : ⊥ = cc in absurd none

pub refusals : RefusalsLeaveWorld
refusals = (at_once, of_task, sweeps, settling)
