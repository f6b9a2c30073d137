-- What was said is so in each world of a run.
use Rattle.std.proofs.Common.{◌≡◌, ℕ, ◌⊎◌, List, [], ◌∷◌, ◌++◌, inl, inr, map, Bool, true, false, Option, Some, None, if◌then◌else◌, refl, sym, ◌∙◌, ap, subst}
use Rattle.std.specs.List.{last_or}
use Rattle.std.specs.Option.{option_map}
use Rattle.std.specs.Str.{bytes_eq}
use Rattle.run_said.specs.transcript_model.Lines as line
use Rattle.run_said.specs.transcript_model.Lines.{Line, Cause}
use Rattle.run_said.specs.script_model.Statements.{Statement, At, Deliver, LinkDown, Settle, Request, Init, Boot, StartTrans, AddBranch, Clock, Reading, Blank, Says, Bad}
use Rattle.run_said.specs.script_model.Grammar.{reading}
use Rattle.commit_protocol.specs.Messages.{Message}
use Rattle.run_said.specs.run_model.World.{World, Shared, Node, DiskCounts, find_node, with_node, opened}
use Rattle.run_said.specs.run_model.Answers.{Task, Serves, Ticks, Takes, Hears, LosesLink, RunsDown, Restarts, task_service, service}
use Rattle.run_said.specs.run_model.Steps.{Choice, TaskEffect, TaskAllowed, ServiceAllowed, service_effect, task_effect}
use Rattle.run_said.specs.run_model.Statements.{Part, PartEffect, Begins, Phases, Step, Allowed, part_effect, put_into, stops_at, RoseAt, message_at, phases_of, refused_at_once, begun_with}
use Rattle.run_said.specs.run_model.Transcript.{Entry, Legal, Turn as LineTurn, AreOpening}
use Rattle.run_said.specs.run_model.StepLaws.{IsTask, TaskAt, is_refusal, task_of}
use Rattle.run_said.proofs.run_model.NodeLists.{found_name, some_is}
use Rattle.run_said.proofs.run_model.CauseLemmas.{is_success, refuses_first, refuses_then, task_succeeds}
use Rattle.run_said.proofs.run_model.TaskLemmas.{Outcome, First, Late, Success, Lacking, Failing, outcome}
use Rattle.run_said.proofs.run_model.PartLemmas.{turn, phases_fold}
use Rattle.run_said.proofs.run_model.PartTasks.{View, Doing, Fixed, view, IsOk, sweep_ok, task_there}
use Rattle.run_said.proofs.run_model.Failing.{once_refuses}
use Rattle.run_said.specs.Said.{Said, SaidNode, with_said, lines_said, line_said, request_said, answer_said, said_here, said_of, with_use}
use Rattle.run_said.proofs.Views.{node_told, shared_told, told_in, told_put, told_same, is_neutral, neutral_line, said_append, used_then}
use Rattle.run_laws.proofs.RowsTell.{request_tells, task_tells}
use Rattle.run_laws.proofs.EffectsTell.{Calm, IsStep, boot_told, calm_told, effect_step, init_told, label_told_so, restart_told}

-- Of a task.

-- what its answer says
abbrev pub answered : List ℕ → Task → Line → Said → Said
answered node (Serves request) answer said = request_said node request answer said
answered node _ answer said = said

-- a request whose answer says nothing besides
abbrev is_plain : Request → Bool
is_plain (Init slots blocks) = false
is_plain Boot = false
is_plain (StartTrans label seconds) = false
is_plain (AddBranch label other new) = false
is_plain _ = true

plain_calm : (node : List ℕ) (base : List SaidNode) (request : Request) → is_plain request ≡ true → Calm node base (service request)
plain_calm node base (Init slots blocks) h = let no : ⊥ = cc in absurd no
plain_calm node base Boot h = let no : ⊥ = cc in absurd no
plain_calm node base (StartTrans label seconds) h = let no : ⊥ = cc in absurd no
plain_calm node base (AddBranch label other new) h = let no : ⊥ = cc in absurd no
plain_calm node base request h = record { off = refl; closes = refl; shows = λ n. refl; leaves = refl; tells = λ s n named. request_tells node base s n request named refl }

plain_says : (node : List ℕ) (request : Request) (answer : Line) (said : Said) → is_plain request ≡ true → request_said node request answer said ≡ said
plain_says node (Init slots blocks) answer said h = let no : ⊥ = cc in absurd no
plain_says node Boot answer said h = let no : ⊥ = cc in absurd no
plain_says node (StartTrans label seconds) answer said h = let no : ⊥ = cc in absurd no
plain_says node (AddBranch label other new) answer said h = let no : ⊥ = cc in absurd no
plain_says node _ answer said h = refl

module _ (node : List ℕ) (base : List SaidNode) where
  abbrev at : Node → Shared → Said
  at n s = record { nodes = with_said node (λ k. node_told n) base; shared = shared_told s }

  request_told : (s : Shared) (stops : ℕ) (n : Node) (request : Request) (rises : Cause → Type 0) (c : Choice) → n.name ≡ node → IsStep n.under_way → ServiceAllowed s stops n (service request) rises c →
      at (service_effect s stops n (service request) c).node (service_effect s stops n (service request) c).shared ≡ request_said node request (service_effect s stops n (service request) c).answer (lines_said (service_effect s stops n (service request) c).lines (at n s))
  request_told s stops n (Init slots blocks) rises c named h may = init_told node base s stops slots blocks n rises c named h may
  request_told s stops n Boot rises c named h may = boot_told node base s stops n rises c named h may
  request_told s stops n (StartTrans label seconds) rises c named h may = label_told_so node base s stops n (StartTrans label seconds) rises c named refl may
  request_told s stops n (AddBranch label other new) rises c named h may = label_told_so node base s stops n (AddBranch label other new) rises c named refl may
  request_told s stops n request rises c named h may =
      calm_told node base s stops n (service request) rises c named (plain_calm node base request refl) may ∙ sym (plain_says node request (service_effect s stops n (service request) c).answer (lines_said (service_effect s stops n (service request) c).lines (at n s)) refl)

  task_told : (s : Shared) (stops : ℕ) (n : Node) (t : Task) (rises : Cause → Type 0) (c : Choice) → n.name ≡ node → IsStep n.under_way → (t ≡ Restarts → s.in_use ≡ true) → TaskAllowed s stops n t rises c →
      at (task_effect s stops n t c).node (task_effect s stops n t c).shared ≡ answered node t (task_effect s stops n t c).answer (lines_said (task_effect s stops n t c).lines (at n s))
  task_told s stops n (Serves request) rises c named h used may = request_told s stops n request rises c named h may
  task_told s stops n Restarts rises c named h used may = restart_told node base s stops n rises c named h (used refl) may
  task_told s stops n t rises c named h used may = calm_told node base s stops n (task_service t) rises c named (record { off = refl; closes = refl; shows = λ m. refl; leaves = refl; tells = λ u m name. task_tells node base u m t name refl }) may

-- in the world
told_task : (w : World) (node : List ℕ) (t : Task) (n : Node) (rises : Cause → Type 0) (c : Choice) → find_node node w.nodes ≡ Some n → IsStep n.under_way → (t ≡ Restarts → w.shared.in_use ≡ true) → TaskAllowed w.shared (stops_at node w) n t rises c →
    (let e = task_effect w.shared (stops_at node w) n t c in told_in (put_into w node e).world ≡ answered node t e.answer (lines_said e.lines (told_in w)))
told_task w node t n rises c found h used may =
    let e = task_effect w.shared (stops_at node w) n t c in
    told_put w node e.node e.shared ∙ task_told node (map node_told w.nodes) w.shared (stops_at node w) n t rises c (found_name node w.nodes n found) h used may
    ∙ ap (λ said. answered node t e.answer (lines_said e.lines said)) (told_same w node n found)

-- An answer tells nothing itself.

refusal_neutral : (l : Line) → is_refusal l ≡ true → is_neutral l ≡ true
refusal_neutral (line.Sent number m) h = let no : ⊥ = cc in absurd no
refusal_neutral (line.Down node cause) h = let no : ⊥ = cc in absurd no
refusal_neutral (line.Crashed node) h = let no : ⊥ = cc in absurd no
refusal_neutral (line.Booted node boot) h = let no : ⊥ = cc in absurd no
refusal_neutral _ h = refl

success_neutral : (l : Line) → is_success l ≡ true → is_neutral l ≡ true
success_neutral (line.Sent number m) h = let no : ⊥ = cc in absurd no
success_neutral (line.Down node cause) h = let no : ⊥ = cc in absurd no
success_neutral (line.Crashed node) h = let no : ⊥ = cc in absurd no
success_neutral (line.Booted node boot) h = let no : ⊥ = cc in absurd no
success_neutral _ h = refl

answer_neutral : (s : Shared) (stops : ℕ) (n : Node) (t : Task) (rises : Cause → Type 0) (e : TaskEffect) → Outcome s stops n t rises e → is_neutral e.answer ≡ true
answer_neutral s stops n t rises e (First refusal first f) = ap (λ (x : TaskEffect). is_neutral x.answer) f ∙ refusal_neutral refusal ((refuses_first s n t).says refusal first)
answer_neutral s stops n t rises e (Late outturn refusal may first late f) = ap (λ (x : TaskEffect). is_neutral x.answer) f ∙ refusal_neutral refusal ((refuses_then s _ t).says refusal late)
answer_neutral s stops n t rises e (Success outturn may first late f) = ap (λ (x : TaskEffect). is_neutral x.answer) f ∙ success_neutral _ (task_succeeds s _ t)
answer_neutral s stops n t rises e (Lacking first takes f) = ap (λ (x : TaskEffect). is_neutral x.answer) f
answer_neutral s stops n t rises e (Failing cause shown true first rises_so shows down answers ends) = ap is_neutral answers
answer_neutral s stops n t rises e (Failing cause shown false first rises_so shows down answers ends) = ap is_neutral answers

-- What may be under way at each node is one step of its disk.

abbrev pub HaveSteps : List Node → Type 0
HaveSteps [] = Unit {0}
HaveSteps (n ∷ ns) = IsStep n.under_way × HaveSteps ns

pub found_step : (node : List ℕ) (ns : List Node) (n : Node) → HaveSteps ns → find_node node ns ≡ Some n → IsStep n.under_way
found_step node [] n h e = let none : ⊥ = cc in absurd none
found_step node (m ∷ ns) n h e = go (bytes_eq node m.name) (found_step node ns n h.1) e
  where
    go : (b : Bool) → (find_node node ns ≡ Some n → IsStep n.under_way) → ◌≡◌ {A = Option Node} (if b then Some m else find_node node ns) (Some n) → IsStep n.under_way
    go true more k = let same : m ≡ n = cc in subst (λ (x : Node). IsStep x.under_way) same h.0
    go false more k = more k

pub put_step : (node : List ℕ) (m : Node) (ns : List Node) → IsStep m.under_way → HaveSteps ns → HaveSteps (with_node node (λ k. m) ns)
put_step node m [] e h = tt
put_step node m (n ∷ ns) e h = go (bytes_eq node n.name) (put_step node m ns e h.1)
  where
    go : (b : Bool) → HaveSteps (with_node node (λ k. m) ns) → HaveSteps (if b then m ∷ ns else n ∷ with_node node (λ k. m) ns)
    go true more = (e, h.1)
    go false more = (h.0, more)

-- Of a statement that is one task.

said_task : (w : World) (s : Statement) (a : TaskAt) (answer : Line) (said : Said) → task_of w s ≡ Some a → answer_said s answer said ≡ answered a.node a.task answer said
said_task w (At node request) a answer said e = of_request request e
  where
    of_request : (request : Request) → task_of w (At node request) ≡ Some a → request_said node request answer said ≡ answered a.node a.task answer said
    of_request (Clock now) k = let no : ⊥ = cc in absurd no
    of_request _ k = ap (λ (x : TaskAt). answered x.node x.task answer said) (some_is _ a k)
said_task w (Deliver number) a answer said e = go (message_at number w.shared.wire) e
  where
    go : (o : Option Message) → option_map (λ m. record { node = m.to; task = Takes m }) o ≡ Some a → said ≡ answered a.node a.task answer said
    go (Some m) k = ap (λ (x : TaskAt). answered x.node x.task answer said) (some_is _ a k)
    go None k = let no : ⊥ = cc in absurd no
said_task w (LinkDown one other) a answer said e = let no : ⊥ = cc in absurd no
said_task w Settle a answer said e = let no : ⊥ = cc in absurd no

-- such a task is not that of a settling
not_restart : (w : World) (s : Statement) (node : List ℕ) (t : Task) → task_of w s ≡ Some (record { node = node; task = t }) → t ≡ Restarts → ⊥
not_restart w (At other request) node t e k = of_request request e
  where
    of_request : (request : Request) → task_of w (At other request) ≡ Some (record { node = node; task = t }) → ⊥
    of_request (Clock now) f = cc
    of_request _ f = let same = ap (λ (x : TaskAt). x.task) (some_is _ _ f) ∙ k in cc
not_restart w (Deliver number) node t e k = go (message_at number w.shared.wire) e
  where
    go : (o : Option Message) → option_map {U = TaskAt} (λ m. record { node = m.to; task = Takes m }) o ≡ Some (record { node = node; task = t }) → ⊥
    go (Some m) f = let same = ap (λ (x : TaskAt). x.task) (some_is _ _ f) ∙ k in cc
    go None f = cc
not_restart w (LinkDown one other) node t e k = cc
not_restart w Settle node t e k = cc

-- what a statement leads to
pub record IsTold (w : World) (s : Statement) (events : List Line) (answer : Line) (v : World) : Type 0 where
  pub told : told_in v ≡ answer_said s answer (lines_said events (told_in w))
  pub neutral : is_neutral answer ≡ true
  pub steps : HaveSteps v.nodes

one_told : (w v : World) (s : Statement) (node : List ℕ) (t : Task) (n : Node) (lines : List Line) → IsTask w s node t n → HaveSteps w.nodes → (step : Step w s lines v) → IsTold w s step.events step.answer v
one_told w v s node t n lines task steps step =
    let u = turn w v s node t n lines task step in
    let e = task_effect w.shared (stops_at node w) n t u.choice in
    let rises = λ (cause : Cause). RoseAt w node cause v.disks in
    let h = found_step node w.nodes n steps task.found in
    record {
      told = ap told_in u.goes ∙ told_task w node t n rises u.choice task.found h (λ k. absurd (not_restart w s node t task.task k)) u.allowed
          ∙ (λ i. answered node t (sym u.answers i) (lines_said (sym u.shows i) (told_in w))) ∙ sym (said_task w s (record { node = node; task = t }) step.answer (lines_said step.events (told_in w)) task.task);
      neutral = ap is_neutral u.answers ∙ answer_neutral w.shared (stops_at node w) n t rises e (outcome w.shared (stops_at node w) n t rises u.choice u.allowed);
      steps = subst (λ (x : World). HaveSteps x.nodes) (sym u.goes) (put_step node e.node w.nodes (effect_step w.shared (stops_at node w) n (task_service t) u.choice h) steps);
    }

-- Of any other.

-- a task of a sweep or a settling
abbrev pub Good : Statement → Task → Type 0
Good s (Serves request) = (now : ℕ) × (request ≡ Clock now)
Good s Restarts = s ≡ Settle
Good s _ = Unit {0}

good_answers : (s : Statement) (node : List ℕ) (t : Task) (answer : Line) (said : Said) → Good s t → answered node t answer said ≡ said
good_answers s node (Serves request) answer said h = subst (λ r. request_said node r answer said ≡ said) (sym h.1) refl
good_answers s node _ answer said h = refl

good_restart : (s : Statement) (t : Task) → Good s t → t ≡ Restarts → s ≡ Settle
good_restart s Restarts h k = h
good_restart s (Serves request) h k = let no : ⊥ = cc in absurd no
good_restart s Ticks h k = let no : ⊥ = cc in absurd no
good_restart s (Takes m) h k = let no : ⊥ = cc in absurd no
good_restart s (Hears m) h k = let no : ⊥ = cc in absurd no
good_restart s (LosesLink other) h k = let no : ⊥ = cc in absurd no
good_restart s RunsDown h k = let no : ⊥ = cc in absurd no

-- what is told from one world of it on
pub record Onwards (s : Statement) (w : World) (lines : List Line) (answer : Line) (v : World) : Type 0 where
  pub told : told_in v ≡ lines_said lines (told_in w)
  pub neutral : is_neutral answer ≡ true
  pub steps : HaveSteps v.nodes
  pub used : s ≡ Settle → v.shared.in_use ≡ true

abbrev pub From : Statement → World → List Line → Line → World → Type 0
From s w lines answer v = HaveSteps w.nodes → (s ≡ Settle → w.shared.in_use ≡ true) → Onwards s w lines answer v

used_told : (w v : World) (lines : List Line) → told_in v ≡ lines_said lines (told_in w) → w.shared.in_use ≡ true → v.shared.in_use ≡ true
used_told w v lines e h = ap (λ (x : Said). x.shared.in_use) e ∙ used_then lines (told_in w) h

pub part_told : (s : Statement) (w : World) (p : Part) (c : Choice) (after : List DiskCounts) → IsOk (Good s) p → Allowed w p after c → From s w (part_effect w p c).lines (part_effect w p c).answer (part_effect w p c).world
part_told s w p c after ok allowed steps used = go (view w p)
  where
    go : View w p → Onwards s w (part_effect w p c).lines (part_effect w p c).answer (part_effect w p c).world
    go (Doing node t n named found does may) =
        let e = task_effect w.shared (stops_at node w) n t c in
        let rises = λ (cause : Cause). RoseAt w node cause after in
        let good = ok w node t named in
        let h = found_step node w.nodes n steps found in
        let told = told_task w node t n rises c found h (λ k. used (good_restart s t good k)) (may after c allowed) ∙ good_answers s node t e.answer (lines_said e.lines (told_in w)) good in
        subst (λ (x : PartEffect). Onwards s w x.lines x.answer x.world) (sym (does c)) (record {
          told = told;
          neutral = answer_neutral w.shared (stops_at node w) n t rises e (outcome w.shared (stops_at node w) n t rises c (may after c allowed));
          steps = put_step node e.node w.nodes (effect_step w.shared (stops_at node w) n (task_service t) c h) steps;
          used = λ k. used_told w (put_into w node e).world e.lines told (used k);
        })
    go (Fixed answer ends kind is) = subst (λ (x : PartEffect). Onwards s w x.lines x.answer x.world) (sym (is c)) (record { told = refl; neutral = by_kind kind; steps = steps; used = used })
      where
        by_kind : (is_refusal answer ≡ true) ⊎ (answer ≡ line.Normal) → is_neutral answer ≡ true
        by_kind (inl h) = refusal_neutral answer h
        by_kind (inr h) = ap is_neutral h

then_told : (s : Statement) (w u : World) (front rest : List Line) (given answer : Line) (v : World) → Onwards s w front given u → From s u rest answer v → From s w (front ++ rest) answer v
then_told s w u front rest given answer v one more steps used =
    let two = more one.steps one.used in
    record { told = two.told ∙ ap (lines_said rest) one.told ∙ sym (said_append front rest (told_in w)); neutral = two.neutral; steps = two.steps; used = two.used }

-- Of each step.

-- a settling says that a node may be in use, before its lines or behind them
use_line : (l : Line) (said : Said) → line_said l (with_use said) ≡ with_use (line_said l said)
use_line (line.Sent number m) said = refl
use_line (line.Down node cause) said = refl
use_line (line.Crashed node) said = refl
use_line (line.Booted node boot) said = refl
use_line _ said = refl

use_lines : (ls : List Line) (said : Said) → lines_said ls (with_use said) ≡ with_use (lines_said ls said)
use_lines [] said = refl
use_lines (l ∷ ls) said = ap (lines_said ls) (use_line l said) ∙ use_lines ls (line_said l said)

-- a refusal says nothing
refused_request : (node : List ℕ) (request : Request) (refusal : Line) (said : Said) → is_refusal refusal ≡ true → request_said node request refusal said ≡ said
refused_request node Boot (line.NormalCount count) said k = let no : ⊥ = cc in absurd no
refused_request node Boot (line.Broken cause) said k = let no : ⊥ = cc in absurd no
refused_request node (Init slots blocks) line.Normal said k = let no : ⊥ = cc in absurd no
refused_request node (Init slots blocks) (line.Broken cause) said k = let no : ⊥ = cc in absurd no
refused_request node (StartTrans label seconds) (line.NormalId id) said k = let no : ⊥ = cc in absurd no
refused_request node (AddBranch label other new) (line.NormalId id) said k = let no : ⊥ = cc in absurd no
refused_request node Boot _ said k = refl
refused_request node (Init slots blocks) _ said k = refl
refused_request node (StartTrans label seconds) _ said k = refl
refused_request node (AddBranch label other new) _ said k = refl
refused_request node _ refusal said k = refl

refused_said : (w : World) (s : Statement) (refusal : Line) → refused_at_once w s ≡ Some refusal → (said : Said) → answer_said s refusal said ≡ said
refused_said w (At node request) refusal e said = refused_request node request refusal said ((once_refuses w (At node request)).says refusal e)
refused_said w (Deliver number) refusal e said = refl
refused_said w (LinkDown a b) refusal e said = refl
refused_said w Settle refusal e said = let no : ⊥ = cc in absurd no

sweep_told : (w v : World) (s : Statement) (lines : List Line) → task_of w s ≡ None → refused_at_once w s ≡ None → HaveSteps w.nodes → (step : Step w s lines v) → Phases (phases_of s) v.disks (begun_with s w) line.Normal step.events step.answer step.world → IsTold w s step.events step.answer v
sweep_told w v s lines none once steps step d =
    let r = phases_fold v.disks (IsOk (Good s)) (λ given. is_neutral given ≡ true) (From s)
    (λ u given q h k. record { told = refl; neutral = q; steps = h; used = k })
    (λ u p c ok allowed ends. part_told s u p c v.disks ok allowed)
    (λ u p c ok allowed on. (neutral_given u p c ok allowed, λ rest answer x more h k. then_told s u (part_effect u p c).world (part_effect u p c).lines rest (part_effect u p c).answer answer x (part_told s u p c v.disks ok allowed h k) more h k))
    (phases_of s) (sweep_ok (Good s) (λ m. tt) tt tt (λ other. tt) (λ now. (now, refl)) w s (λ settle. settle) none once) (begun_with s w) line.Normal step.events step.answer step.world refl d (begins_steps s) (begins_used s) in
    record { told = ap told_in step.goes ∙ r.told ∙ begins_told s none once; neutral = r.neutral; steps = subst (λ (x : World). HaveSteps x.nodes) (sym step.goes) r.steps }
  where
    neutral_given : (u : World) (p : Part) (c : Choice) → IsOk (Good s) p → Allowed u p v.disks c → is_neutral (part_effect u p c).answer ≡ true
    neutral_given u p c ok allowed = go (view u p)
      where
        go : View u p → is_neutral (part_effect u p c).answer ≡ true
        go (Doing node t n named found does may) = ap (λ (x : PartEffect). is_neutral x.answer) (does c) ∙ answer_neutral u.shared (stops_at node u) n t (λ cause. RoseAt u node cause v.disks) _ (outcome u.shared (stops_at node u) n t (λ cause. RoseAt u node cause v.disks) c (may v.disks c allowed))
        go (Fixed answer ends (inl h) is) = ap (λ (x : PartEffect). is_neutral x.answer) (is c) ∙ refusal_neutral answer h
        go (Fixed answer ends (inr h) is) = ap (λ (x : PartEffect). is_neutral x.answer) (is c) ∙ ap is_neutral h

    begins_steps : (s : Statement) → HaveSteps (begun_with s w).nodes
    begins_steps Settle = steps
    begins_steps (At node request) = steps
    begins_steps (Deliver number) = steps
    begins_steps (LinkDown a b) = steps

    begins_used : (s : Statement) → s ≡ Settle → (begun_with s w).shared.in_use ≡ true
    begins_used Settle e = refl
    begins_used (At node request) e = let no : ⊥ = cc in absurd no
    begins_used (Deliver number) e = let no : ⊥ = cc in absurd no
    begins_used (LinkDown a b) e = let no : ⊥ = cc in absurd no

    -- the answer of such a statement says nothing, but for that of a settling
    begins_told : (s : Statement) → task_of w s ≡ None → refused_at_once w s ≡ None → lines_said step.events (told_in (begun_with s w)) ≡ answer_said s step.answer (lines_said step.events (told_in w))
    begins_told Settle none once = use_lines step.events (told_in w)
    begins_told (LinkDown a b) none once = refl
    begins_told (At node (Clock now)) none once = refl
    begins_told (At node _) none once = let no : ⊥ = cc in absurd no
    begins_told (Deliver number) none once = refl

step_told : (w v : World) (s : Statement) (lines : List Line) → HaveSteps w.nodes → (step : Step w s lines v) → IsTold w s step.events step.answer v
step_told w v s lines steps step = go (refused_at_once w s) refl step.does
  where
    at_once : (refusal : Line) → refused_at_once w s ≡ Some refusal → (step.events ≡ []) × (step.answer ≡ refusal) × (step.world ≡ w) → IsTold w s step.events step.answer v
    at_once refusal e d = record {
      told = ap told_in step.goes ∙ ap told_in d.2 ∙ sym (refused_said w s refusal e (told_in w)) ∙ (λ i. answer_said s (sym d.1 i) (lines_said (sym d.0 i) (told_in w)));
      neutral = ap is_neutral d.1 ∙ refusal_neutral refusal ((once_refuses w s).says refusal e);
      steps = subst (λ (x : World). HaveSteps x.nodes) (sym step.goes) (subst (λ (x : World). HaveSteps x.nodes) (sym d.2) steps);
    }

    tasks : (o : Option TaskAt) → task_of w s ≡ o → refused_at_once w s ≡ None → Phases (phases_of s) v.disks (begun_with s w) line.Normal step.events step.answer step.world → IsTold w s step.events step.answer v
    tasks (Some a) is once d = let there = task_there w s a is once in one_told w v s a.node a.task there.0 lines (record { begins = once; task = is; found = there.1 }) steps step
    tasks None is once d = sweep_told w v s lines is once steps step d

    go : (o : Option Line) → refused_at_once w s ≡ o → Begins o (Phases (phases_of s) v.disks (begun_with s w) line.Normal) w step.events step.answer step.world → IsTold w s step.events step.answer v
    go (Some refusal) e d = at_once refusal e d
    go None e d = tasks (task_of w s) refl e d

-- Of transcripts.

pub last_is : (o : Option Line) (es : List Line) (a : Line) → last_or o (es ++ a ∷ []) ≡ Some a
last_is o [] a = refl
last_is o (e ∷ es) a = last_is (Some e) es a

turn_told : (w v : World) (r : Reading) (lines : List Line) → HaveSteps w.nodes → LineTurn w r lines v → (told_in v ≡ said_here r lines (told_in w)) × HaveSteps v.nodes
turn_told w v Blank lines steps t = (ap told_in t.1, subst (λ (x : World). HaveSteps x.nodes) (sym t.1) steps)
turn_told w v (Bad column) lines steps t = absurd t
turn_told w v (Says s) lines steps t =
    let r = step_told w v s lines steps t in
    let last : last_or None lines ≡ Some t.answer = ap (last_or None) t.shows ∙ last_is None t.events t.answer in
    let all : lines_said lines (told_in w) ≡ lines_said t.events (told_in w) = ap (λ ls. lines_said ls (told_in w)) t.shows ∙ said_append t.events (t.answer ∷ []) (told_in w) ∙ neutral_line t.answer r.neutral (lines_said t.events (told_in w)) in
    let here : said_here (Says s) lines (told_in w) ≡ answer_said s t.answer (lines_said lines (told_in w)) = rw (last, said_here) refl in
    (r.told ∙ ap (answer_said s t.answer) (sym all) ∙ sym here, r.steps)

names_told : (ns : List Node) → AreOpening ns → map node_told ns ≡ map (λ name. record { name = name; up = false; unmade = false }) (map (λ n. n.name) ns)
names_told [] h = refl
names_told (n ∷ ns) h = λ i. record { name = n.name; up = h.0.down i; unmade = h.0.made i } ∷ names_told ns h.1 i

pub opening_steps : (ns : List Node) → AreOpening ns → HaveSteps ns
opening_steps [] h = tt
opening_steps (n ∷ ns) h = (subst IsStep (sym h.0.under_way) tt, opening_steps ns h.1)

pub legal_told : (nodes : List Node) (disks : List DiskCounts) (w : World) (es : List Entry) → AreOpening nodes → Legal (opened nodes disks) es w → (told_in w ≡ said_of (map (λ n. n.name) nodes) es) × HaveSteps w.nodes
legal_told nodes disks w [] opening legal =
    (ap told_in legal ∙ ap (λ ns. record { nodes = ns; shared = record { labels = []; in_use = false; wire = [] } }) (names_told nodes opening), subst (λ (x : World). HaveSteps x.nodes) (sym legal) (opening_steps nodes opening))
legal_told nodes disks w (e ∷ es) opening legal =
    let before = legal_told nodes disks legal.0 es opening legal.1 in
    let now = turn_told legal.0 w (reading e.source.text) e.lines before.1 legal.2 in
    (now.0 ∙ ap (said_here (reading e.source.text) e.lines) before.0, now.1)
