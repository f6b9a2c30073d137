-- What a task may show and make at its node, by its choice.
use Rattle.std.proofs.Common.{◌≡◌, ℕ, List, [], ◌∷◌, ◌++◌, take, Bool, true, false, not, Option, Some, None, if◌then◌else◌, refl, ◌∙◌, ap}
use Rattle.transcript_model.specs.Lines as line
use Rattle.transcript_model.specs.Lines.{Line, Cause, Failed}
use Rattle.run_model.specs.World.{Shared, Node, Act, Outturn, Lost, Taken, Half, MayTurnOut, Boots, acted, powered, unpowered}
use Rattle.run_model.specs.Answers.{Row, Service, Task, task_service, refused_before_reading, powers, spoils}
use Rattle.run_model.specs.Steps.{Choice, Whole, WithoutMemory, Unpowered, Cut, TaskEffect, TaskAllowed, task_effect, ready_node, node_after, node_after_rows, succeeded, lines_of_rows, rows_to_cut, with_unknown_volume, whole, begun, refused}

-- The name of a node stays.

pub acted_name : (act : Act) (n : Node) → (acted act n).name ≡ n.name
acted_name Boots n = refl
acted_name _ n = refl

after_name : (o : Option Act) (n : Node) → (node_after o n).name ≡ n.name
after_name None n = refl
after_name (Some act) n = acted_name act n

pub rows_name : (rs : List Row) (n : Node) → (node_after_rows rs n).name ≡ n.name
rows_name [] n = refl
rows_name (r ∷ rs) n = rows_name rs (node_after r.act n) ∙ after_name r.act n

pub powered_name : (outturn : Outturn) (stops : ℕ) (n : Node) → (powered outturn stops n).name ≡ n.name
powered_name outturn stops n = go outturn n.under_way
  where
    go : (o : Outturn) (act : Option Act) → (powered o stops (record n { under_way = act })).name ≡ n.name
    go Taken (Some act) = acted_name act (record n { under_way = Some act })
    go Taken None = refl
    go Lost act = refl
    go (Half standing) act = refl

spoilt_name : (b : Bool) (n : Node) → (with_unknown_volume b n).name ≡ n.name
spoilt_name true n = refl
spoilt_name false n = refl

pub ready_name : (outturn : Outturn) (stops : ℕ) (e : Service) (n : Node) → (ready_node outturn stops e n).name ≡ n.name
ready_name outturn stops e n = go (powers e)
  where
    go : (b : Bool) → (if b then with_unknown_volume (spoils e) (powered outturn stops n) else n).name ≡ n.name
    go true = spoilt_name (spoils e) (powered outturn stops n) ∙ powered_name outturn stops n
    go false = refl

pub effect_name : (s : Shared) (stops : ℕ) (n : Node) (t : Task) (c : Choice) → (task_effect s stops n t c).node.name ≡ n.name
effect_name s stops n t (Whole outturn) = go (refused_before_reading s n e)
  where
    e : Service
    e = task_service t

    ready : Node
    ready = ready_node outturn stops e n

    late : (o : Option Line) → (begun s ready e o).node.name ≡ n.name
    late (Some refusal) = ready_name outturn stops e n
    late None = after_name e.closing (node_after_rows (e.rows s ready) ready) ∙ rows_name (e.rows s ready) ready ∙ ready_name outturn stops e n

    go : (o : Option Line) → (whole s n ready e o).node.name ≡ n.name
    go (Some refusal) = refl
    go None = late (e.refused_after_reading s ready)
effect_name s stops n t WithoutMemory = refl
effect_name s stops n t Unpowered = spoilt_name (spoils (task_service t)) (unpowered stops n)
effect_name s stops n t (Cut outturn done begun cause) =
    let e = task_service t in
    let ready = ready_node outturn stops e n in
    rows_name (take done (rows_to_cut s ready e)) ready ∙ ready_name outturn stops e n

-- How a task may end: it was refused before its disk was read, or then; it succeeded; memory was missing; or its disk failed, and its node is down.
pub data Outcome (s : Shared) (stops : ℕ) (n : Node) (t : Task) (rises : Cause → Type 0) (e : TaskEffect) : Type 0 where
  First : (refusal : Line) → refused_before_reading s n (task_service t) ≡ Some refusal → e ≡ refused s n refusal → Outcome s stops n t rises e
  Late : (outturn : Outturn) (refusal : Line) → MayTurnOut n outturn → refused_before_reading s n (task_service t) ≡ None → (task_service t).refused_after_reading s (ready_node outturn stops (task_service t) n) ≡ Some refusal →
      e ≡ refused s (ready_node outturn stops (task_service t) n) refusal → Outcome s stops n t rises e
  Success : (outturn : Outturn) → MayTurnOut n outturn → refused_before_reading s n (task_service t) ≡ None → (task_service t).refused_after_reading s (ready_node outturn stops (task_service t) n) ≡ None →
      e ≡ succeeded s (ready_node outturn stops (task_service t) n) (task_service t) → Outcome s stops n t rises e
  Lacking : refused_before_reading s n (task_service t) ≡ None → (task_service t).takes_memory n ≡ true → e ≡ refused s n line.NoMemory → Outcome s stops n t rises e
  Failing : (cause : Cause) (shown : List Line) (goes_on : Bool) → refused_before_reading s n (task_service t) ≡ None → rises cause → e.lines ≡ shown ++ line.Down n.name cause ∷ [] → e.node.up ≡ false →
      e.answer ≡ (if goes_on then line.Normal else line.Broken cause) → e.ends ≡ not goes_on → Outcome s stops n t rises e

unpowered_down : (b : Bool) (stops : ℕ) (n : Node) → (with_unknown_volume b (unpowered stops n)).up ≡ false
unpowered_down true stops n = refl
unpowered_down false stops n = refl

pub outcome : (s : Shared) (stops : ℕ) (n : Node) (t : Task) (rises : Cause → Type 0) (c : Choice) → TaskAllowed s stops n t rises c → Outcome s stops n t rises (task_effect s stops n t c)
outcome s stops n t rises (Whole outturn) may = go (refused_before_reading s n e) refl
  where
    e : Service
    e = task_service t

    ready : Node
    ready = ready_node outturn stops e n

    late : refused_before_reading s n e ≡ None → (o : Option Line) → e.refused_after_reading s ready ≡ o → Outcome s stops n t rises (begun s ready e o)
    late f (Some refusal) is = Late outturn refusal may f is refl
    late f None is = Success outturn may f is refl

    go : (o : Option Line) → refused_before_reading s n e ≡ o → Outcome s stops n t rises (whole s n ready e o)
    go (Some refusal) is = First refusal is refl
    go None is = late is (e.refused_after_reading s ready) refl
outcome s stops n t rises WithoutMemory may = Lacking may.0 may.1 refl
outcome s stops n t rises Unpowered may = Failing Failed [] false may.0 may.2 refl (unpowered_down (spoils (task_service t)) stops n) refl refl
outcome s stops n t rises (Cut outturn done begun cause) may =
    let e = task_service t in
    let ready = ready_node outturn stops e n in
    let front = lines_of_rows (take done (rows_to_cut s ready e)) in
    Failing cause front e.goes_on may.0 may.4 (ap (λ name. front ++ line.Down name cause ∷ []) (ready_name outturn stops e n)) refl refl refl
