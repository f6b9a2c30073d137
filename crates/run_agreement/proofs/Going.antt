-- Parts with which a statement does not end: they are done whole.
use Rattle.std.specs.Prelude.{not}
use Rattle.std.proofs.Common.{◌≡◌, ℕ, true, false, List, [], ◌∷◌, Option, Some, None, refl, ap, sym, subst, ◌∙◌}
use Rattle.run_model.specs.transcript_model.Lines.{Line}
use Rattle.commit_protocol.specs.Messages.{Name, Message}
use Rattle.commit_protocol.specs.Table as table
use Rattle.commit_protocol.specs.Table.{Branch, Tm}
use Rattle.commit_protocol.specs.Rows as rows
use Rattle.commit_protocol.specs.Rows.{Event, row}
use Rattle.run_model.specs.World as world
use Rattle.run_model.specs.World.{World, Node, Shared, Act, Tables, Outturn, acted, shared_after, find_node, with_node, tm_of, next_moment}
use Rattle.run_model.specs.Answers as answers
use Rattle.run_model.specs.Answers.{Row, Service, Task, Hears, RunsDown, Restarts, task_service, table_rows, told_rows, just, refused_before_reading}
use Rattle.run_model.specs.Steps as steps
use Rattle.run_model.specs.Steps.{Choice, Whole, WithoutMemory, Unpowered, Cut, TaskEffect, service_effect, task_effect, succeeded, ready_node, node_after_rows}
use Rattle.run_model.specs.Statements as statements
use Rattle.run_model.specs.Statements.{PartEffect, stops_at, put_into, done_at}
use Rattle.run_agreement.proofs.Found.{some_is, name_found, found_put, found_there}
use Rattle.run_agreement.proofs.Serving.{serves_up}

-- what a task did with which its statement does not end
pub record WentOn (s : Shared) (stops : ℕ) (x : Node) (e : Service) (c : Choice) : Type 0 where
  pub outturn : Outturn
  pub whole : c ≡ Whole outturn
  pub before : refused_before_reading s x e ≡ None
  pub after : e.refused_after_reading s (ready_node outturn stops e x) ≡ None
  pub node : (service_effect s stops x e c).node ≡ (succeeded s (ready_node outturn stops e x) e).node
  pub answer : (service_effect s stops x e c).answer ≡ e.answer s (ready_node outturn stops e x)

pub went_on : (s : Shared) (stops : ℕ) (x : Node) (e : Service) (c : Choice) → e.goes_on ≡ false → (service_effect s stops x e c).ends ≡ false → WentOn s stops x e c
went_on s stops x e (Whole outturn) stops_with h = by (refused_before_reading s x e) refl h refl
  where
    y : Node
    y = ready_node outturn stops e x

    begins : (l : Option Line) → e.refused_after_reading s (ready_node outturn stops e x) ≡ l → refused_before_reading s x e ≡ None → (steps.begun s (ready_node outturn stops e x) e l).ends ≡ false
        → (service_effect s stops x e (Whole outturn)) ≡ steps.begun s (ready_node outturn stops e x) e l → WentOn s stops x e (Whole outturn)
    begins (Some l) f g k is = absurd (let z : true ≡ false = k in cc)
    begins None f g k is = record { outturn = outturn; whole = refl; before = g; after = f; node = ap (λ (t : TaskEffect). t.node) is; answer = ap (λ (t : TaskEffect). t.answer) is }

    by : (l : Option Line) → refused_before_reading s x e ≡ l → (steps.whole s x (ready_node outturn stops e x) e (refused_before_reading s x e)).ends ≡ false → service_effect s stops x e (Whole outturn) ≡ steps.whole s x (ready_node outturn stops e x) e (refused_before_reading s x e) → WentOn s stops x e (Whole outturn)
    by (Some l) f k is = absurd (let z : true ≡ false = ap (λ d. (steps.whole s x (ready_node outturn stops e x) e d).ends) (sym f) ∙ k in cc)
    by None f k is =
        let w : steps.whole s x (ready_node outturn stops e x) e (refused_before_reading s x e) ≡ steps.begun s (ready_node outturn stops e x) e (e.refused_after_reading s (ready_node outturn stops e x)) = ap (λ d. steps.whole s x (ready_node outturn stops e x) e d) f in
        let ends : (steps.begun s (ready_node outturn stops e x) e (e.refused_after_reading s (ready_node outturn stops e x))).ends ≡ false = ap (λ (t : TaskEffect). t.ends) (sym w) ∙ k in
        on (e.refused_after_reading s (ready_node outturn stops e x)) refl f ends (is ∙ w)
      where
        on : (l : Option Line) → e.refused_after_reading s (ready_node outturn stops e x) ≡ l → refused_before_reading s x e ≡ None → (steps.begun s (ready_node outturn stops e x) e (e.refused_after_reading s (ready_node outturn stops e x))).ends ≡ false
            → service_effect s stops x e (Whole outturn) ≡ steps.begun s (ready_node outturn stops e x) e (e.refused_after_reading s (ready_node outturn stops e x)) → WentOn s stops x e (Whole outturn)
        on l g f2 k2 is2 =
            let P : Option Line → Type 0 = λ d. (steps.begun s (ready_node outturn stops e x) e d).ends ≡ false in
            begins l g f2 (subst P g k2) (is2 ∙ ap (λ d. steps.begun s (ready_node outturn stops e x) e d) g)
went_on s stops x e WithoutMemory stops_with h = absurd (let z : true ≡ false = h in cc)
went_on s stops x e Unpowered stops_with h = absurd (let z : true ≡ false = h in cc)
went_on s stops x e (Cut outturn done begun cause) stops_with h = absurd (let z : true ≡ false = ap not (sym stops_with) ∙ h in cc)

-- Rows of a table.

pub table_rows_keep : (todo : List table.Act) (s : Shared) (x : Node) → (tm_of (node_after_rows (table_rows todo s x) x) ≡ table.after todo (tm_of x)) × ((node_after_rows (table_rows todo s x) x).up ≡ x.up)
table_rows_keep [] s x = (refl, refl)
table_rows_keep (a ∷ todo) s x =
    let act : Act = Tables a (next_moment x) in
    table_rows_keep todo (shared_after act s) (acted act x)

-- One node has changed, and is now as P says.
pub record Moves (n : Name) (w v : World) (P : Node → Type 0) : Type 0 where
  pub here : (y : Node) → find_node n v.nodes ≡ Some y → P y
  pub there : (m : Name) → (m ≡ n → ⊥) → find_node m v.nodes ≡ find_node m w.nodes
  pub found : (x : Node) × (find_node n w.nodes ≡ Some x)
  pub left : (y : Node) × (find_node n v.nodes ≡ Some y)

pub moved_by : (w : World) (n : Name) (x : Node) (e : TaskEffect) (P : Node → Type 0) → find_node n w.nodes ≡ Some x → e.node.name ≡ x.name → P e.node → Moves n w (put_into w n e).world P
moved_by w n x e P found named p =
    let name : e.node.name ≡ n = named ∙ name_found n w.nodes x found in
    record {
      here = λ y f. subst P (some_is e.node y (sym (found_put n e.node x w.nodes name found) ∙ f)) p;
      there = λ m ne. found_there m n e.node w.nodes name ne;
      found = (x, found);
      left = (e.node, found_put n e.node x w.nodes name found);
    }

-- a task at a node with which the statement does not end
pub done_moves : (w : World) (n : Name) (t : Task) (c : Choice) (P : Node → Type 0) → ((x : Node) → find_node n w.nodes ≡ Some x → (task_effect w.shared (stops_at n w) x t c).ends ≡ false → ((task_effect w.shared (stops_at n w) x t c).node.name ≡ x.name) × P (task_effect w.shared (stops_at n w) x t c).node)
    → (done_at w n t c).ends ≡ false → Moves n w (done_at w n t c).world P
done_moves w n t c P each h = by (find_node n w.nodes) refl h
  where
    by : (d : Option Node) → find_node n w.nodes ≡ d → (let e : PartEffect = elim d [ Some x ↦ put_into w n (task_effect w.shared (stops_at n w) x t c) | None ↦ statements.no_node w ] in e).ends ≡ false
        → Moves n w (let e : PartEffect = elim d [ Some x ↦ put_into w n (task_effect w.shared (stops_at n w) x t c) | None ↦ statements.no_node w ] in e).world P
    by None f k = absurd (let z : true ≡ false = k in cc)
    by (Some x) f k = let q = each x f k in moved_by w n x (task_effect w.shared (stops_at n w) x t c) P f q.0 q.1

-- A node that is booted is up.

rows_name : (rs : List Row) (x : Node) → ((act : Act) (y : Node) → (acted act y).name ≡ y.name) → (node_after_rows rs x).name ≡ x.name
rows_name [] x named = refl
rows_name (r ∷ rs) x named = rows_name rs (steps.node_after r.act x) named ∙ one r.act
  where
    one : (a : Option Act) → (steps.node_after a x).name ≡ x.name
    one None = refl
    one (Some act) = named act x

pub acted_name : (act : Act) (y : Node) → (acted act y).name ≡ y.name
acted_name (world.Formats slots journal) y = refl
acted_name world.Boots y = refl
acted_name world.ComesUp y = refl
acted_name (world.Creates place file) y = refl
acted_name (world.Marks file mark) y = refl
acted_name (world.Saves file start) y = refl
acted_name (world.Recovers file start buckets m) y = refl
acted_name world.Draws y = refl
acted_name (world.Labels l) y = refl
acted_name (world.Numbers label serial) y = refl
acted_name (Tables a moment) y = refl
acted_name (world.Changes tid serial file changes keys) y = refl
acted_name (world.Holds serial file keys) y = refl
acted_name (world.Directs file changes t) y = refl
acted_name (world.Arms writes choice) y = refl
acted_name (world.Clocks now) y = refl
acted_name (world.Declares rms) y = refl
acted_name world.Falls y = refl

pub powered_name : (outturn : Outturn) (stops : ℕ) (x : Node) → (world.powered outturn stops x).name ≡ x.name
powered_name world.Lost stops x = refl
powered_name (world.Half standing) stops x = refl
powered_name world.Taken stops x = by x.under_way refl
  where
    by : (u : Option Act) → x.under_way ≡ u → (world.powered world.Taken stops x).name ≡ x.name
    by None e = let P : Option Act → Type 0 = λ a. (world.powered world.Taken stops (record x { under_way = a })).name ≡ x.name in subst P (sym e) refl
    by (Some act) e = let P : Option Act → Type 0 = λ a. (world.powered world.Taken stops (record x { under_way = a })).name ≡ x.name in subst P (sym e) (acted_name act (record x { under_way = Some act }))

abbrev pub IsUp : Node → Type 0
IsUp y = y.up ≡ true

pub restart_moves : (w : World) (n : Name) (c : Choice) → (done_at w n Restarts c).ends ≡ false → Moves n w (done_at w n Restarts c).world IsUp
restart_moves w n c h = done_moves w n Restarts c IsUp (λ x f k.
    let g = went_on w.shared (stops_at n w) x (task_service Restarts) c refl k in
    let y : Node = world.powered g.outturn (stops_at n w) x in
    (ap (λ (z : Node). z.name) g.node ∙ (rows_name (answers.boot_rows w.shared y) y acted_name ∙ powered_name g.outturn (stops_at n w) x), ap (λ (z : Node). z.up) g.node)) h

-- what the row of an event leaves, at a node that is up
pub record TellsOn (e : Event) (x y : Node) : Type 0 where
  pub up : y.up ≡ true
  pub was_up : x.up ≡ true
  pub knows : tm_of y ≡ table.after (row (tm_of x) e) (tm_of x)

pub run_down_effect : (s : Shared) (stops : ℕ) (x : Node) (c : Choice) → (task_effect s stops x RunsDown c).ends ≡ false → ((task_effect s stops x RunsDown c).node.name ≡ x.name) × TellsOn rows.RunDown x (task_effect s stops x RunsDown c).node
run_down_effect s stops x c k =
    let g = went_on s stops x (task_service RunsDown) c refl k in
    let up = (serves_up s x (task_service RunsDown) refl g.before).0 in
    let t = table_rows_keep (row (tm_of x) rows.RunDown) s x in
    (ap (λ (z : Node). z.name) g.node ∙ rows_name (table_rows (row (tm_of x) rows.RunDown) s x) x acted_name, record { up = ap (λ (z : Node). z.up) g.node ∙ (t.1 ∙ up); was_up = up; knows = ap tm_of g.node ∙ t.0 })

pub hears_effect : (s : Shared) (stops : ℕ) (x : Node) (m : Message) (c : Choice) → (task_effect s stops x (Hears m) c).ends ≡ false → ((task_effect s stops x (Hears m) c).node.name ≡ x.name) × TellsOn (rows.Got m) x (task_effect s stops x (Hears m) c).node
hears_effect s stops x m c k =
    let g = went_on s stops x (task_service (Hears m)) c refl k in
    let up = (serves_up s x (task_service (Hears m)) refl g.before).0 in
    let t = table_rows_keep (row (tm_of x) (rows.Got m)) s x in
    (ap (λ (z : Node). z.name) g.node ∙ rows_name (table_rows (row (tm_of x) (rows.Got m)) s x) x acted_name, record { up = ap (λ (z : Node). z.up) g.node ∙ (t.1 ∙ up); was_up = up; knows = ap tm_of g.node ∙ t.0 })
