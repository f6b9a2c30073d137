-- What is settled stays so.
use Rattle.std.proofs.Common.{◌≡◌, ℕ, ◌⊎◌, List, [], ◌∷◌, ◌++◌, inl, inr, take, Bool, true, false, Option, Some, None, if◌then◌else◌, refl, sym, ◌∙◌, ap, subst}
use Rattle.std.specs.Str.{bytes_eq}
use Rattle.run_said.specs.transcript_model.Lines as line
use Rattle.run_said.specs.transcript_model.Lines.{Line, Cause}
use Rattle.run_said.specs.script_model.Statements.{Statement, At, Deliver, LinkDown, Settle, Reading, Blank, Says, Bad}
use Rattle.run_said.specs.script_model.Grammar.{reading}
use Rattle.commit_protocol.specs.World.{In}
use Rattle.run_said.specs.run_model.World.{World, Shared, Node, Settlement, Act, Tables, Directs, Outturn, Lost, Taken, Half, find_node, with_node, acted, powered, unpowered, settled_more, settlement_of}
use Rattle.run_said.specs.run_model.Answers.{Row, Service, Task, task_service, refused_before_reading, powers, spoils}
use Rattle.run_said.specs.run_model.Steps.{Choice, Whole, WithoutMemory, Unpowered, Cut, task_effect, ready_node, node_after, node_after_rows, rows_to_cut, with_unknown_volume, whole, begun}
use Rattle.run_said.specs.run_model.Statements.{Part, PartEffect, Begins, Phases, Step, part_effect, stops_at, phases_of, refused_at_once, begun_with}
use Rattle.run_said.specs.run_model.Transcript.{Entry, Legal, Turn as LineTurn}
use Rattle.run_said.proofs.run_model.TaskLemmas.{effect_name}
use Rattle.run_said.proofs.run_model.PartLemmas.{phases_fold}
use Rattle.run_said.proofs.run_model.PartTasks.{View, Doing, Fixed, view}
use Rattle.run_said.proofs.run_model.Refusing.{each_phase}
use Rattle.run_laws.specs.Promises.{settlements_of}
use Rattle.run_laws.specs.Laws.{SettlementsStay}

-- a node has settled all that another has, and perhaps more
abbrev pub Grows : Node → Node → Type 0
Grows n m = (s : Settlement) → In s n.settled → In s m.settled

grows_on : (n m k : Node) → Grows n m → Grows m k → Grows n k
grows_on n m k h g s i = g s (h s i)

more_grows : (o : Option Settlement) (ss : List Settlement) (s : Settlement) → In s ss → In s (settled_more o ss)
more_grows None ss s i = i
more_grows (Some t) ss s i = inr i

acted_grows : (act : Act) (n : Node) → Grows n (acted act n)
acted_grows (Tables a moment) n s i = more_grows (settlement_of a moment) n.settled s i
acted_grows (Directs file cs t) n s i = inr i
acted_grows _ n s i = i

pub after_grows : (o : Option Act) (n : Node) → Grows n (node_after o n)
after_grows None n s i = i
after_grows (Some act) n s i = acted_grows act n s i

pub rows_grow : (rs : List Row) (n : Node) → Grows n (node_after_rows rs n)
rows_grow [] n s i = i
rows_grow (r ∷ rs) n s i = rows_grow rs (node_after r.act n) s (after_grows r.act n s i)

powered_grows : (outturn : Outturn) (stops : ℕ) (n : Node) → Grows n (powered outturn stops n)
powered_grows outturn stops n = go outturn n.under_way
  where
    go : (t : Outturn) (o : Option Act) → Grows n (powered t stops (record n { under_way = o }))
    go Taken (Some act) s i = acted_grows act (record n { under_way = Some act }) s i
    go Taken None s i = i
    go Lost o s i = i
    go (Half standing) o s i = i

spoilt_grows : (b : Bool) (n : Node) → Grows n (with_unknown_volume b n)
spoilt_grows true n s i = i
spoilt_grows false n s i = i

ready_grows : (outturn : Outturn) (stops : ℕ) (e : Service) (n : Node) → Grows n (ready_node outturn stops e n)
ready_grows outturn stops e n = go (powers e)
  where
    go : (b : Bool) → Grows n (if b then with_unknown_volume (spoils e) (powered outturn stops n) else n)
    go true s i = spoilt_grows (spoils e) (powered outturn stops n) s (powered_grows outturn stops n s i)
    go false s i = i

pub effect_grows : (s : Shared) (stops : ℕ) (n : Node) (t : Task) (c : Choice) → Grows n (task_effect s stops n t c).node
effect_grows s stops n t (Whole outturn) x i = go (refused_before_reading s n e) x i
  where
    e : Service
    e = task_service t

    ready : Node
    ready = ready_node outturn stops e n

    late : (o : Option Line) → Grows n (begun s ready e o).node
    late (Some refusal) y j = ready_grows outturn stops e n y j
    late None y j = after_grows e.closing (node_after_rows (e.rows s ready) ready) y (rows_grow (e.rows s ready) ready y (ready_grows outturn stops e n y j))

    go : (o : Option Line) → Grows n (whole s n ready e o).node
    go (Some refusal) y j = j
    go None y j = late (e.refused_after_reading s ready) y j
effect_grows s stops n t WithoutMemory x i = i
effect_grows s stops n t Unpowered x i = spoilt_grows (spoils (task_service t)) (unpowered stops n) x i
effect_grows s stops n t (Cut outturn done started cause) x i = let ready = ready_node outturn stops (task_service t) n in rows_grow (take done (rows_to_cut s ready (task_service t))) ready x (ready_grows outturn stops (task_service t) n x i)

-- In worlds.

-- what is found where a node was put: it, where it stood, or what was found before
pub find_put : (other node : List ℕ) (n m : Node) (ns : List Node) → m.name ≡ n.name → find_node node ns ≡ Some n →
    (find_node other (with_node node (λ k. m) ns) ≡ find_node other ns) ⊎ ((find_node other (with_node node (λ k. m) ns) ≡ Some m) × (find_node other ns ≡ Some n))
find_put other node n m [] named found = let none : ⊥ = cc in absurd none
find_put other node n m (k ∷ ns) named found = go (bytes_eq node k.name) (find_put other node n m ns named) found
  where
    here : k ≡ n → (b : Bool) → bytes_eq other k.name ≡ b → (find_node other (m ∷ ns) ≡ find_node other (k ∷ ns)) ⊎ ((find_node other (m ∷ ns) ≡ Some m) × (find_node other (k ∷ ns) ≡ Some n))
    here same true is = let name : bytes_eq other m.name ≡ true = ap (bytes_eq other) (named ∙ sym (ap (λ (x : Node). x.name) same)) ∙ is in inr (rw name refl, rw is (ap Some same))
    here same false is = let name : bytes_eq other m.name ≡ false = ap (bytes_eq other) (named ∙ sym (ap (λ (x : Node). x.name) same)) ∙ is in inl (rw (name, is) refl)

    later : (b : Bool) → bytes_eq other k.name ≡ b → ((find_node other (with_node node (λ j. m) ns) ≡ find_node other ns) ⊎ ((find_node other (with_node node (λ j. m) ns) ≡ Some m) × (find_node other ns ≡ Some n))) →
        (find_node other (k ∷ with_node node (λ j. m) ns) ≡ find_node other (k ∷ ns)) ⊎ ((find_node other (k ∷ with_node node (λ j. m) ns) ≡ Some m) × (find_node other (k ∷ ns) ≡ Some n))
    later true is more = inl (rw is refl)
    later false is (inl same) = inl (rw is same)
    later false is (inr both) = inr (rw is both.0, rw is both.1)

    go : (b : Bool) → (find_node node ns ≡ Some n → (find_node other (with_node node (λ j. m) ns) ≡ find_node other ns) ⊎ ((find_node other (with_node node (λ j. m) ns) ≡ Some m) × (find_node other ns ≡ Some n))) →
        ◌≡◌ {A = Option Node} (if b then Some k else find_node node ns) (Some n) → (find_node other (if b then m ∷ ns else k ∷ with_node node (λ j. m) ns) ≡ find_node other (k ∷ ns)) ⊎ ((find_node other (if b then m ∷ ns else k ∷ with_node node (λ j. m) ns) ≡ Some m) × (find_node other (k ∷ ns) ≡ Some n))
    go true more e = let same : k ≡ n = cc in here same (bytes_eq other k.name) refl
    go false more e = later (bytes_eq other k.name) refl (more e)

abbrev pub Stay : World → World → Type 0
Stay w v = (node : List ℕ) (s : Settlement) → In s (settlements_of node w) → In s (settlements_of node v)

pub found_settled : (node : List ℕ) (w : World) (n : Node) → find_node node w.nodes ≡ Some n → settlements_of node w ≡ n.settled
found_settled node w n found = rw (found, settlements_of) refl

put_stays : (w : World) (node : List ℕ) (n m : Node) (s : Shared) → m.name ≡ n.name → find_node node w.nodes ≡ Some n → Grows n m → Stay w (record w { nodes = with_node node (λ k. m) w.nodes; shared = s })
put_stays w node n m s named found grows other t i = elim (find_put other node n m w.nodes named found) [
  | inl same ↦ subst (λ (o : Option Node). In t (elim o [ Some k ↦ k.settled | None ↦ [] ])) (sym same) i
  | inr both ↦ subst (λ ss. In t ss) (sym (found_settled other (record w { nodes = with_node node (λ k. m) w.nodes; shared = s }) m both.0)) (grows t (subst (λ ss. In t ss) (found_settled other w n both.1) i))
]

pub part_stays : (w : World) (p : Part) (c : Choice) → Stay w (part_effect w p c).world
part_stays w p c = go (view w p)
  where
    go : View w p → Stay w (part_effect w p c).world
    go (Fixed answer ends kind is) = subst (λ (x : PartEffect). Stay w x.world) (sym (is c)) (λ node s i. i)
    go (Doing node t n named found does may) =
        let e = task_effect w.shared (stops_at node w) n t c in
        subst (λ (x : PartEffect). Stay w x.world) (sym (does c)) (put_stays w node n e.node e.shared (effect_name w.shared (stops_at node w) n t c) found (effect_grows w.shared (stops_at node w) n t c))

begins_stay : (s : Statement) (w : World) → Stay w (begun_with s w)
begins_stay Settle w node t i = i
begins_stay (At other request) w node t i = i
begins_stay (Deliver number) w node t i = i
begins_stay (LinkDown a b) w node t i = i

step_stays : (w v : World) (s : Statement) (lines : List Line) → Step w s lines v → Stay w v
step_stays w v s lines step = subst (Stay w) (sym step.goes) (go (refused_at_once w s) step.does)
  where
    go : (o : Option Line) → Begins o (Phases (phases_of s) v.disks (begun_with s w) line.Normal) w step.events step.answer step.world → Stay w step.world
    go (Some refusal) d = subst (Stay w) (sym d.2) (λ node t i. i)
    go None d = λ node t i. (phases_fold v.disks (λ p. Unit {0}) (λ given. Unit {0}) (λ u rest answer x. Stay u x)
        (λ u given q node t i. i)
        (λ u p c ok allowed ends. part_stays u p c)
        (λ u p c ok allowed on. (tt, λ rest answer x more node t i. more node t (part_stays u p c node t i)))
        (phases_of s) (each_phase s) (begun_with s w) line.Normal step.events step.answer step.world tt d) node t (begins_stay s w node t i)

turn_stays : (w v : World) (r : Reading) (lines : List Line) → LineTurn w r lines v → Stay w v
turn_stays w v Blank lines t = subst (Stay w) (sym t.1) (λ node s i. i)
turn_stays w v (Says s) lines t = step_stays w v s lines t
turn_stays w v (Bad column) lines t = absurd t

path_stays : (w closing : World) (es : List Entry) → Legal w es closing → Stay w closing
path_stays w closing [] legal = subst (Stay w) (sym legal) (λ node s i. i)
path_stays w closing (e ∷ es) legal = λ node s i. turn_stays legal.0 closing (reading e.source.text) e.lines legal.2 node s (path_stays w legal.0 es legal.1 node s i)

pub stays : (opening closing : World) (after before : List Entry) → Legal opening (after ++ before) closing → (w : World) × Legal opening before w × Stay w closing
stays opening closing [] before legal = (closing, legal, λ node s i. i)
stays opening closing (e ∷ after) before legal =
    let r = stays opening legal.0 after before legal.1 in
    (r.0, r.1, λ node s i. turn_stays legal.0 closing (reading e.source.text) e.lines legal.2 node s (r.2 node s i))

pub settlements_stay : SettlementsStay
settlements_stay nodes disks after before w closing opening legal path = path_stays w closing after path
