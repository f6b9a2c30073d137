-- The labels of each world of a run are those that its lines tell, and each id that they tell was drawn once.
use Rattle.std.proofs.Common.{◌≡◌, ℕ, List, [], ◌∷◌, ◌++◌, map, take, inl, inr, Bool, true, false, Option, Some, None, refl, sym, ◌∙◌, ap, subst}
use Rattle.std.specs.Option.{option_map}
use Rattle.std.proofs.lemmas.Bool.{or_parts}
use Rattle.vms_model.specs.Ids.{Id}
use Rattle.run_said.specs.transcript_model.Lines as line
use Rattle.run_said.specs.transcript_model.Lines.{Line, Cause}
use Rattle.run_said.specs.script_model.Statements.{Statement, At, Deliver, LinkDown, Settle, Request, Init, StartTrans, AddBranch, StartBranch, Direct, Clock, Says}
use Rattle.commit_protocol.specs.Table.{Key as BranchKey}
use Rattle.commit_protocol.specs.Messages.{Message}
use Rattle.commit_protocol.specs.World.{In}
use Rattle.run_said.specs.run_model.World.{World, Shared, Node, Label, DiskCounts, find_node, with_node}
use Rattle.run_said.specs.run_model.Answers as answers
use Rattle.run_said.specs.run_model.Answers.{Row, Task, Serves, Service, service, task_service, refused_before_reading, occupies, powers, touches}
use Rattle.run_said.specs.run_model.Steps.{Choice, Whole, WithoutMemory, Unpowered, Cut, TaskAllowed, task_effect, ready_node, succeeded, whole, begun, occupied, shared_then, shared_after_rows, rows_to_cut}
use Rattle.run_said.specs.run_model.Statements.{Part, PartEffect, Begins, Phases, Step, part_effect, put_into, stops_at, RoseAt, message_at, phases_of, refused_at_once, begun_with}
use Rattle.run_said.specs.run_model.Transcript.{Entry}
use Rattle.run_said.specs.run_model.StepLaws.{TaskAt, is_refusal, task_of}
use Rattle.run_said.proofs.run_model.NodeLists.{some_is}
use Rattle.run_said.proofs.run_model.PartLemmas.{turn, phases_fold}
use Rattle.run_said.proofs.run_model.PartTasks.{View, Doing, Fixed, view, IsOk, sweep_ok, task_there}
use Rattle.run_said.proofs.run_model.TaskLemmas.{effect_name}
use Rattle.run_said.proofs.run_model.Failing.{once_refuses}
use Rattle.run_laws.specs.Naming.{ToldLabel, IdsDiffer, ids_here, ids_told, labels_here, labels_told}
use Rattle.run_laws.specs.Causes.{HasBegun, WasBegun}
use Rattle.run_laws.specs.SaidLaws.{SaidThere}
use Rattle.run_laws.proofs.EffectsTell.{effect_step, rows_use, then_use}
use Rattle.run_laws.proofs.Moving.{Follows, HasOpen, IsPast, effect_follows, follows_on, is_mild, stays_so}
use Rattle.run_laws.proofs.Staying.{find_put}
use Rattle.run_laws.proofs.TurnsTell.{HaveSteps, found_step, put_step}

-- what lines tell of a label
abbrev pub told : Label → ToldLabel
told l = record { name = l.name; node = l.node; tid = l.tid; serial = l.serial }

-- an id was drawn by its node, where there is one
abbrev pub IsDrawn : World → Id → Type 0
IsDrawn w id = (n : Node) → find_node id.node w.nodes ≡ Some n → IsPast n id

-- A label was made so: one without an identifier by a START_TRANS, whose id is its transaction and its branch; one with an identifier never names its transaction's
-- first branch. Its branch is of its node. A branch of its serial that is not prepared is of its transaction.
pub record IsMadeSo (es : List Entry) (w : World) (l : Label) : Type 0 where
  pub begun : l.bid ≡ None → (l.serial ≡ Some l.tid) × WasBegun es l.node l.name l.tid
  pub own : (s : Id) → l.serial ≡ Some s → s.node ≡ l.node
  pub apart : (bid : Id) → l.bid ≡ Some bid → (s : Id) → l.serial ≡ Some s → l.tid ≡ s → ⊥
  pub tid : In l.tid (ids_told es)
  pub serial : (s : Id) → l.serial ≡ Some s → In s (ids_told es)
  pub fits : (n : Node) → find_node l.node w.nodes ≡ Some n → (k : BranchKey) → HasOpen n k → l.serial ≡ Some k.serial → k.tid ≡ l.tid

pub record Named (es : List Entry) (w : World) : Type 0 where
  pub labels : labels_told es ≡ map told w.shared.labels
  pub made : (l : Label) → In l w.shared.labels → IsMadeSo es w l
  pub drawn : (id : Id) → In id (ids_told es) → IsDrawn w id
  pub differ : IdsDiffer (ids_told es)
  pub past : (node : List ℕ) (n : Node) → find_node node w.nodes ≡ Some n → (k : BranchKey) → HasOpen n k → IsPast n k.serial
  pub home : (node : List ℕ) (n : Node) → find_node node w.nodes ≡ Some n → (k : BranchKey) → HasOpen n k → k.serial.node ≡ node
  pub born : (node : List ℕ) (n : Node) → find_node node w.nodes ≡ Some n → (k : BranchKey) → HasOpen n k → HasBegun es k.tid k.serial
  pub unused : w.shared.in_use ≡ false → (ids_told es ≡ []) × ((node : List ℕ) (n : Node) → find_node node w.nodes ≡ Some n → (k : BranchKey) → HasOpen n k → ⊥)

-- what was said before was said before in more entries too
pub said_later : (e : Entry) (es before : List Entry) (s : Statement) (events : List Line) (answer : Line) → SaidThere es before s events answer → SaidThere (e ∷ es) before s events answer
said_later e es before s events answer there = record { after = e ∷ there.after; entry = there.entry; stands = ap (λ xs. e ∷ xs) there.stands; said = there.said; shown = there.shown }

pub begun_later : (e : Entry) (es : List Entry) (node label : List ℕ) (tid : Id) → WasBegun es node label tid → WasBegun (e ∷ es) node label tid
begun_later e es node label tid b = (b.0, b.1, said_later e es b.0 (At node (StartTrans label b.1)) [] (line.NormalId tid) b.2)

pub born_later : (e : Entry) (es : List Entry) (tid serial : Id) → HasBegun es tid serial → HasBegun (e ∷ es) tid serial
born_later e es tid serial (inl b) = inl (b.0, b.1, begun_later e es tid.node b.0 tid b.2)
born_later e es tid serial (inr b) = inr (b.0, b.1, b.2, b.3, said_later e es b.0 (At serial.node (StartBranch b.1)) b.2 (line.Pending (serial ∷ []) []) b.4, b.5, b.6)

-- Worlds in which no label is made and no branch begins.

pub record Leads (w v : World) : Type 0 where
  pub labels : v.shared.labels ≡ w.shared.labels
  pub nodes : (node : List ℕ) (m : Node) → find_node node v.nodes ≡ Some m → (n : Node) × (find_node node w.nodes ≡ Some n) × Follows n m
  pub unused : v.shared.in_use ≡ false → w.shared.in_use ≡ false

pub leads_same : (w : World) → Leads w w
leads_same w = record { labels = refl; nodes = λ node m found. (m, found, stays_so m); unused = λ off. off }

leads_on : (w u v : World) → Leads w u → Leads u v → Leads w v
leads_on w u v f g = record {
  labels = g.labels ∙ f.labels;
  nodes = λ node m found. let x = g.nodes node m found in let y = f.nodes node x.0 x.1 in (y.0, y.1, follows_on y.0 x.0 m y.2 x.2);
  unused = λ off. f.unused (g.unused off);
}

pub leads_disks : (w v : World) (disks : List DiskCounts) → Leads w v → Leads w (record v { disks = disks })
leads_disks w v disks f = record { labels = f.labels; nodes = f.nodes; unused = f.unused }

pub put_leads : (w : World) (node : List ℕ) (n m : Node) (s : Shared) → m.name ≡ n.name → find_node node w.nodes ≡ Some n → Follows n m → s.labels ≡ w.shared.labels → (s.in_use ≡ false → w.shared.in_use ≡ false) → Leads w (record w { nodes = with_node node (λ k. m) w.nodes; shared = s })
put_leads w node n m s named found f labels unused = record {
  labels = labels;
  nodes = λ other x is. elim (find_put other node n m w.nodes named found) [
    | inl same ↦ (x, sym same ∙ is, stays_so x)
    | inr both ↦ (n, both.1, subst (Follows n) (some_is m x (sym both.0 ∙ is)) f)
  ];
  unused = unused;
}

-- no task makes it so that no node may be in use any more
use_before : (s : Shared) (e : Service) (o : Option _) (rs : List Row) → (occupied e (shared_then o (shared_after_rows rs s))).in_use ≡ false → s.in_use ≡ false
use_before s e o rs off = sym (then_use o (shared_after_rows rs s) ∙ rows_use rs s) ∙ (or_parts _ (occupies e) off).0

pub effect_use : (s : Shared) (stops : ℕ) (n : Node) (t : Task) (c : Choice) → (task_effect s stops n t c).shared.in_use ≡ false → s.in_use ≡ false
effect_use s stops n t (Whole outturn) off = go (refused_before_reading s n (task_service t)) off
  where
    ready : Node
    ready = ready_node outturn stops (task_service t) n

    late : (o : Option Line) → (begun s ready (task_service t) o).shared.in_use ≡ false → s.in_use ≡ false
    late (Some refusal) k = k
    late None k = use_before s (task_service t) (task_service t).closing ((task_service t).rows s ready) k

    go : (o : Option Line) → (whole s n ready (task_service t) o).shared.in_use ≡ false → s.in_use ≡ false
    go (Some refusal) k = k
    go None k = late ((task_service t).refused_after_reading s ready) k
effect_use s stops n t WithoutMemory off = off
effect_use s stops n t Unpowered off = (or_parts s.in_use (occupies (task_service t)) off).0
effect_use s stops n t (Cut outturn done started cause) off = use_before s (task_service t) None (take done (rows_to_cut s (ready_node outturn stops (task_service t) n) (task_service t))) off

pub succeeded_use : (s : Shared) (n : Node) (e : Service) → (succeeded s n e).shared.in_use ≡ false → s.in_use ≡ false
succeeded_use s n e off = use_before s e e.closing (e.rows s n) off

-- Statements that are no such.

-- a statement by which no label is made or takes a branch, no volume is made, and nothing is changed without a label
abbrev pub is_calm_request : Request → Bool
is_calm_request (Init slots blocks) = false
is_calm_request (StartTrans label seconds) = false
is_calm_request (AddBranch label other new) = false
is_calm_request (StartBranch label) = false
is_calm_request (Direct file op) = false
is_calm_request _ = true

abbrev pub is_calm : Statement → Bool
is_calm (At node request) = is_calm_request request
is_calm _ = true

pub calm_tells : (s : Statement) (answer : Option Line) (ls : List ToldLabel) → is_calm s ≡ true → labels_here (Says s) answer ls ≡ ls
calm_tells (At node (Init slots blocks)) answer ls h = let no : ⊥ = cc in absurd no
calm_tells (At node (StartTrans label seconds)) answer ls h = let no : ⊥ = cc in absurd no
calm_tells (At node (AddBranch label other new)) answer ls h = let no : ⊥ = cc in absurd no
calm_tells (At node (StartBranch label)) answer ls h = let no : ⊥ = cc in absurd no
calm_tells (At node (Direct file op)) answer ls h = let no : ⊥ = cc in absurd no
calm_tells (At node _) answer ls h = refl
calm_tells (Deliver number) answer ls h = refl
calm_tells (LinkDown a b) answer ls h = refl
calm_tells Settle answer ls h = refl

pub calm_draws : (s : Statement) (lines : List Line) → is_calm s ≡ true → ids_here (Says s) lines ≡ []
calm_draws (At node (Init slots blocks)) lines h = let no : ⊥ = cc in absurd no
calm_draws (At node (StartTrans label seconds)) lines h = let no : ⊥ = cc in absurd no
calm_draws (At node (AddBranch label other new)) lines h = let no : ⊥ = cc in absurd no
calm_draws (At node (StartBranch label)) lines h = let no : ⊥ = cc in absurd no
calm_draws (At node (Direct file op)) lines h = let no : ⊥ = cc in absurd no
calm_draws (At node _) lines h = refl
calm_draws (Deliver number) lines h = refl
calm_draws (LinkDown a b) lines h = refl
calm_draws Settle lines h = refl

calm_task : (w : World) (s : Statement) (a : TaskAt) → task_of w s ≡ Some a → is_calm s ≡ true → is_mild a.task ≡ true
calm_task w (At node request) a is h = go request is h
  where
    go : (request : Request) → task_of w (At node request) ≡ Some a → is_calm_request request ≡ true → is_mild a.task ≡ true
    go (Init slots blocks) k h = let no : ⊥ = cc in absurd no
    go (StartTrans label seconds) k h = let no : ⊥ = cc in absurd no
    go (AddBranch label other new) k h = let no : ⊥ = cc in absurd no
    go (StartBranch label) k h = let no : ⊥ = cc in absurd no
    go (Direct file op) k h = let no : ⊥ = cc in absurd no
    go (Clock now) k h = let no : ⊥ = cc in absurd no
    go _ k h = sym (ap (λ (x : TaskAt). is_mild x.task) (some_is _ a k))
calm_task w (Deliver number) a is h = go (message_at number w.shared.wire) is
  where
    go : (o : Option Message) → option_map {U = TaskAt} (λ m. record { node = m.to; task = answers.Takes m }) o ≡ Some a → is_mild a.task ≡ true
    go (Some m) k = sym (ap (λ (x : TaskAt). is_mild x.task) (some_is _ a k))
    go None k = let no : ⊥ = cc in absurd no
calm_task w (LinkDown x y) a is h = let no : ⊥ = cc in absurd no
calm_task w Settle a is h = let no : ⊥ = cc in absurd no

-- Statements that are one task.

-- how such a statement ends: it is refused at once, or shows what its task does by a choice
pub data Ended (w v : World) (node : List ℕ) (t : Task) (lines : List Line) : Type 0 where
  Refused : (refusal : Line) → is_refusal refusal ≡ true → lines ≡ refusal ∷ [] → v ≡ record w { disks = v.disks } → Ended w v node t lines
  Turned : (n : Node) → find_node node w.nodes ≡ Some n → (c : Choice) → TaskAllowed w.shared (stops_at node w) n t (λ cause. RoseAt w node cause v.disks) c →
      lines ≡ (task_effect w.shared (stops_at node w) n t c).lines ++ (task_effect w.shared (stops_at node w) n t c).answer ∷ [] → v ≡ record (put_into w node (task_effect w.shared (stops_at node w) n t c)).world { disks = v.disks } → Ended w v node t lines

refused_step : (w v : World) (s : Statement) (lines : List Line) (refusal : Line) → (step : Step w s lines v) → (step.events ≡ []) × (step.answer ≡ refusal) × (step.world ≡ w) → (lines ≡ refusal ∷ []) × (v ≡ record w { disks = v.disks })
refused_step w v s lines refusal step d = (step.shows ∙ (λ i. d.0 i ++ d.1 i ∷ []), step.goes ∙ ap (λ (x : World). record x { disks = v.disks }) d.2)

pub ended : (w v : World) (s : Statement) (lines : List Line) (node : List ℕ) (t : Task) → task_of w s ≡ Some (record { node = node; task = t }) → Step w s lines v → Ended w v node t lines
ended w v s lines node t is step = go (refused_at_once w s) refl step.does
  where
    go : (o : Option Line) → refused_at_once w s ≡ o → Begins o (Phases (phases_of s) v.disks (begun_with s w) line.Normal) w step.events step.answer step.world → Ended w v node t lines
    go (Some refusal) e d = let r = refused_step w v s lines refusal step d in Refused refusal ((once_refuses w s).says refusal e) r.0 r.1
    go None e d =
        let there = task_there w s (record { node = node; task = t }) is e in
        let u = turn w v s node t there.0 lines (record { begins = e; task = is; found = there.1 }) step in
        Turned there.0 there.1 u.choice u.allowed (step.shows ∙ (λ i. u.shows i ++ u.answers i ∷ [])) u.goes

-- What a statement of the calm kind leads to.

task_leads : (w : World) (node : List ℕ) (n : Node) (t : Task) (c : Choice) → find_node node w.nodes ≡ Some n → HaveSteps w.nodes → is_mild t ≡ true → Leads w (put_into w node (task_effect w.shared (stops_at node w) n t c)).world
task_leads w node n t c found steps mild =
    let e = task_effect w.shared (stops_at node w) n t c in
    let f = effect_follows w.shared (stops_at node w) n t c mild (found_step node w.nodes n steps found) in
    put_leads w node n e.node e.shared (effect_name w.shared (stops_at node w) n t c) found f.0 f.1 (effect_use w.shared (stops_at node w) n t c)

pub same_lead : (w v : World) → v ≡ record w { disks = v.disks } → Leads w v
same_lead w v e = subst (Leads w) (sym e) (leads_disks w w v.disks (leads_same w))

part_leads : (w : World) (p : Part) (c : Choice) → IsOk (λ t. is_mild t ≡ true) p → HaveSteps w.nodes → Leads w (part_effect w p c).world × HaveSteps (part_effect w p c).world.nodes
part_leads w p c ok steps = go (view w p)
  where
    go : View w p → Leads w (part_effect w p c).world × HaveSteps (part_effect w p c).world.nodes
    go (Fixed answer ends kind is) = subst (λ (x : PartEffect). Leads w x.world × HaveSteps x.world.nodes) (sym (is c)) (leads_same w, steps)
    go (Doing node t n named found does may) =
        let e = task_effect w.shared (stops_at node w) n t c in
        subst (λ (x : PartEffect). Leads w x.world × HaveSteps x.world.nodes) (sym (does c))
        (task_leads w node n t c found steps (ok w node t named), put_step node e.node w.nodes (effect_step w.shared (stops_at node w) n (task_service t) c (found_step node w.nodes n steps found)) steps)

begins_leads : (s : Statement) (w : World) → HaveSteps w.nodes → Leads w (begun_with s w) × HaveSteps (begun_with s w).nodes
begins_leads Settle w steps = (record { labels = refl; nodes = λ node m found. (m, found, stays_so m); unused = λ off. let no : ⊥ = cc in absurd no }, steps)
begins_leads (At node request) w steps = (leads_same w, steps)
begins_leads (Deliver number) w steps = (leads_same w, steps)
begins_leads (LinkDown a b) w steps = (leads_same w, steps)

sweep_leads : (w v : World) (s : Statement) (lines : List Line) → task_of w s ≡ None → refused_at_once w s ≡ None → HaveSteps w.nodes → (step : Step w s lines v) → Phases (phases_of s) v.disks (begun_with s w) line.Normal step.events step.answer step.world → Leads w v
sweep_leads w v s lines none once steps step d =
    let b = begins_leads s w steps in
    let r = phases_fold v.disks (IsOk (λ t. is_mild t ≡ true)) (λ given. Unit {0}) (λ u rest answer x. HaveSteps u.nodes → Leads u x × HaveSteps x.nodes)
    (λ u given q h. (leads_same u, h))
    (λ u p c ok allowed ends h. part_leads u p c ok h)
    (λ u p c ok allowed on. (tt, λ rest answer x more h. let one = part_leads u p c ok h in let two = more one.1 in (leads_on u (part_effect u p c).world x one.0 two.0, two.1)))
    (phases_of s) (sweep_ok (λ t. is_mild t ≡ true) (λ m. refl) refl refl (λ other. refl) (λ now. refl) w s (λ settle. refl) none once) (begun_with s w) line.Normal step.events step.answer step.world tt d b.1 in
    subst (Leads w) (sym step.goes) (leads_disks w step.world v.disks (leads_on w (begun_with s w) step.world b.0 r.0))

pub calm_leads : (w v : World) (s : Statement) (lines : List Line) → is_calm s ≡ true → HaveSteps w.nodes → Step w s lines v → Leads w v
calm_leads w v s lines calm steps step = by_task (task_of w s) refl
  where
    by_task : (o : Option TaskAt) → task_of w s ≡ o → Leads w v
    by_task (Some a) is = go (ended w v s lines a.node a.task is step)
      where
        go : Ended w v a.node a.task lines → Leads w v
        go (Refused refusal h shows goes) = same_lead w v goes
        go (Turned n found c allowed shows goes) =
            let x = (put_into w a.node (task_effect w.shared (stops_at a.node w) n a.task c)).world in
            subst (Leads w) (sym goes) (leads_disks w x v.disks (task_leads w a.node n a.task c found steps (calm_task w s a is calm)))
    by_task None is = swept (refused_at_once w s) refl step.does
      where
        swept : (o : Option Line) → refused_at_once w s ≡ o → Begins o (Phases (phases_of s) v.disks (begun_with s w) line.Normal) w step.events step.answer step.world → Leads w v
        swept (Some refusal) e d = same_lead w v (refused_step w v s lines refusal step d).1
        swept None e d = sweep_leads w v s lines is e steps step d
