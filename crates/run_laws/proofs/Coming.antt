-- How the unprepared branches that a task leaves at its node come of those before it.
use Rattle.std.proofs.Common.{◌≡◌, ℕ, List, [], ◌∷◌, ◌++◌, map, take, drop, zero, suc, inl, inr, Bool, true, false, Option, Some, None, if◌then◌else◌, refl, sym, ◌∙◌, ap, subst}
use Rattle.run_said.specs.transcript_model.Lines as line
use Rattle.run_said.specs.transcript_model.Lines.{Line}
use Rattle.run_said.specs.script_model.Statements.{Request, Init, Boot}
use Rattle.commit_protocol.specs.Table as table
use Rattle.commit_protocol.specs.Table.{Branch, Child, Notes, Accepts, Key as BranchKey}
use Rattle.commit_protocol.specs.Allowed.{is_prepared}
use Rattle.commit_protocol.specs.World.{In, undo_all}
use Rattle.run_said.specs.run_model.World as world
use Rattle.run_said.specs.run_model.World.{Shared, Node, Act, Boots, ComesUp, Tables, Outturn, Lost, Taken, Half, acted, fallen, is_durable, powered, prepared_left, unpowered}
use Rattle.run_said.specs.run_model.Answers.{Row, Service, Task, Serves, Restarts, boot_rows, left_active, task_service, service, refused_before_reading, powers, spoils, table_rows, unit_key}
use Rattle.run_said.specs.run_model.Steps.{Choice, Whole, WithoutMemory, Unpowered, Cut, TaskEffect, act_begun, cut, task_effect, ready_node, node_after, node_after_rows, lines_of_rows, rows_if, rows_to_cut, with_unknown_volume, whole, begun}
use Rattle.run_said.proofs.run_model.Refusing.{not_ready}
use Rattle.run_laws.proofs.Contents.{Comes, From, PutsIn, TaskNotes, TaskAccepts, acted_comes, begins_none, comes_on, cut_putting, more_put, none_comes, rows_come, take_putting, task_putting, undone_putting}
use Rattle.run_laws.proofs.EffectsTell.{IsStep}
use Rattle.run_laws.proofs.Moving.{none_open}

abbrev pub None_ : Branch → Type 0
None_ b = ⊥

abbrev pub Never : Branch → Child → Type 0
Never b c = ⊥

-- A disk that runs again.

durable_puts : (act : Act) (ls : List Line) → is_durable act ≡ true → PutsIn None_ Never (Some act) ls
durable_puts (Tables a moment) ls h = go a h
  where
    go : (a : table.Act) → is_durable (Tables a moment) ≡ true → PutsIn None_ Never (Some (Tables a moment)) ls
    go (Notes b) k = let no : ⊥ = cc in absurd no
    go (Accepts b c) k = let no : ⊥ = cc in absurd no
    go _ k = tt
durable_puts ComesUp ls h = let no : ⊥ = cc in absurd no
durable_puts (world.Clocks now) ls h = let no : ⊥ = cc in absurd no
durable_puts _ ls h = tt

like : (ls : List Line) (n m k : Node) → k.volatile ≡ m.volatile → (k.up ≡ true → m.up ≡ true) → k.clock ≡ m.clock → Comes None_ Never ls n m → Comes None_ Never ls n k
like ls n m k volatile up clock h = record { from = λ x i u. h.from x (subst (λ (v : world.Volatile). In x v.branches) volatile i) u; up = λ u. h.up (up u); clock = clock ∙ h.clock }

powered_comes : (outturn : Outturn) (stops : ℕ) (n : Node) → IsStep n.under_way → Comes None_ Never [] n (powered outturn stops n)
powered_comes outturn stops n h = go outturn n.under_way h
  where
    go : (t : Outturn) (o : Option Act) → IsStep o → Comes None_ Never [] n (powered t stops (record n { under_way = o }))
    go Taken (Some act) k =
        let m = record n { under_way = Some act } in
        let a = acted_comes None_ Never act [] m (durable_puts act [] k) in
        record { from = a.from; up = a.up; clock = a.clock }
    go Taken None k = record { from = λ x i u. (x, refl, inl i); up = λ u. u; clock = refl }
    go Lost o k = record { from = λ x i u. (x, refl, inl i); up = λ u. u; clock = refl }
    go (Half standing) o k = record { from = λ x i u. (x, refl, inl i); up = λ u. u; clock = refl }

spoilt_comes : (b : Bool) (ls : List Line) (n m : Node) → Comes None_ Never ls n m → Comes None_ Never ls n (with_unknown_volume b m)
spoilt_comes true ls n m h = record { from = h.from; up = h.up; clock = h.clock }
spoilt_comes false ls n m h = h

ready_comes : (outturn : Outturn) (stops : ℕ) (e : Service) (n : Node) → IsStep n.under_way → Comes None_ Never [] n (ready_node outturn stops e n)
ready_comes outturn stops e n h = go (powers e)
  where
    go : (b : Bool) → Comes None_ Never [] n (if b then with_unknown_volume (spoils e) (powered outturn stops n) else n)
    go true = spoilt_comes (spoils e) [] n (powered outturn stops n) (powered_comes outturn stops n h)
    go false = none_comes None_ Never [] n

-- What a task leaves.

-- Each branch that is not prepared comes of one before the task, or was put by it; and while the node is up it was up before.
pub record Came (s : Shared) (t : Task) (ls : List Line) (n m : Node) : Type 0 where
  pub from : (x : Branch) → In x m.volatile.branches → is_prepared x.state ≡ false → From (TaskNotes s n t) (TaskAccepts s n t) ls n.volatile.branches x
  pub up : (x : Branch) → In x m.volatile.branches → is_prepared x.state ≡ false → m.up ≡ true → n.up ≡ true
  pub clock : m.clock ≡ n.clock

came_of : (s : Shared) (t : Task) (ls : List Line) (n m : Node) → Comes (TaskNotes s n t) (TaskAccepts s n t) ls n m → Came s t ls n m
came_of s t ls n m h = record { from = h.from; up = λ x i u up. h.up up; clock = h.clock }

came_none : (s : Shared) (t : Task) (ls : List Line) (n m : Node) → Comes None_ Never [] n m → Came s t ls n m
came_none s t ls n m h = record {
  from = λ x i u. let y = h.from x i u in (y.0, y.1, elim y.2 [ inl old ↦ inl old | inr put ↦ absurd (elim put [ inl none ↦ none | inr none ↦ none.2 ]) ]);
  up = λ x i u up. h.up up;
  clock = h.clock;
}

-- one that fell
fell : (s : Shared) (t : Task) (ls : List Line) (n m k : Node) → k.volatile ≡ m.volatile → k.up ≡ false → k.clock ≡ m.clock → Came s t ls n m → Came s t ls n k
fell s t ls n m k volatile down clock h = record {
  from = λ x i u. h.from x (subst (λ (v : world.Volatile). In x v.branches) volatile i) u;
  up = λ x i u up. let no : true ≡ false = sym up ∙ down in let none : ⊥ = cc in absurd none;
  clock = clock ∙ h.clock;
}

more_lines : (s : Shared) (t : Task) (ks ls : List Line) (n m : Node) → ((l : Line) → In l ks → In l ls) → Came s t ks n m → Came s t ls n m
more_lines s t ks ls n m f h = record {
  from = λ x i u. let y = h.from x i u in (y.0, y.1, elim y.2 [ inl old ↦ inl old | inr put ↦ inr (more_put (TaskNotes s n t) (TaskAccepts s n t) ks ls y.0 f put) ]);
  up = h.up;
  clock = h.clock;
}

in_front : (xs ys : List Line) (l : Line) → In l xs → In l (xs ++ ys)
in_front [] ys l i = absurd i
in_front (x ∷ xs) ys l (inl same) = inl same
in_front (x ∷ xs) ys l (inr i) = inr (in_front xs ys l i)

-- A boot leaves none that is not prepared.

pub boot_none : (s : Shared) (n : Node) (x : Branch) → In x (node_after_rows (boot_rows s n) n).volatile.branches → is_prepared x.state ≡ false → ⊥
boot_none s n x i u =
    let m = acted Boots n in
    let ks = map unit_key (left_active n) in
    let rs = table_rows (undo_all ks) s m in
    let y = (rows_come None_ Never rs m (undone_putting None_ Never ks s m)).from x i u in
    elim y.2 [
      | inl j ↦ none_open (prepared_left n.durable) y.0.key (y.0, j, ap (λ (b : Branch). is_prepared b.state) (sym y.1) ∙ u, refl)
      | inr put ↦ elim put [ inl none ↦ none | inr none ↦ none.2 ]
    ]

boot_clock : (s : Shared) (n : Node) → (node_after_rows (boot_rows s n) n).clock ≡ n.clock
boot_clock s n = (rows_come None_ Never (boot_rows s n) n (tt, undone_putting None_ Never _ s (acted Boots n))).clock

boot_came : (s : Shared) (t : Task) (ls : List Line) (n ready : Node) → ready.clock ≡ n.clock → Came s t ls n (acted ComesUp (node_after_rows (boot_rows s ready) ready))
boot_came s t ls n ready clock = record { from = λ x i u. absurd (boot_none s ready x i u); up = λ x i u up. absurd (boot_none s ready x i u); clock = boot_clock s ready ∙ clock }

-- rows of a boot that were cut
boot_cut : (s : Shared) (t : Task) (ls : List Line) (n ready : Node) (k : ℕ) (o : Option Line) → Comes None_ Never [] n ready → Came s t ls n (node_after_rows (take k (rows_if o (boot_rows s ready))) ready)
boot_cut s t ls n ready k o h =
    let rs = take k (rows_if o (boot_rows s ready)) in
    let c = rows_come None_ Never rs ready (take_putting None_ Never k (rows_if o (boot_rows s ready)) (cut_putting None_ Never o (boot_rows s ready) (tt, undone_putting None_ Never _ s (acted Boots ready)))) in
    let both = comes_on None_ Never [] (lines_of_rows rs) n ready (node_after_rows rs ready) h c in
    came_none s t ls n (node_after_rows rs ready) (record {
      from = λ x i u. let y = both.from x i u in (y.0, y.1, elim y.2 [ inl old ↦ inl old | inr put ↦ absurd (elim put [ inl none ↦ none | inr none ↦ none.2 ]) ]);
      up = both.up;
      clock = both.clock;
    })

-- A task that does not make its disk run again closes with no act.
closes : (t : Task) → powers (task_service t) ≡ false → (task_service t).closing ≡ None
closes (Serves r) off = go r off
  where
    go : (r : Request) → powers (service r) ≡ false → (service r).closing ≡ None
    go (Init slots journal) e = let no : ⊥ = cc in absurd no
    go Boot e = let no : ⊥ = cc in absurd no
    go _ e = refl
closes Restarts off = let no : ⊥ = cc in absurd no
closes _ off = refl

module _ (s : Shared) (stops : ℕ) (n : Node) (t : Task) (begins : begins_none t ≡ true) (h : IsStep n.under_way) where
  abbrev e : Service
  e = task_service t

  same_came : (ls : List Line) → Came s t ls n n
  same_came ls = came_none s t ls n n (none_comes None_ Never [] n)

  -- one that does not make its disk run again
  module _ (off : powers e ≡ false) where
    off_done : Came s t (lines_of_rows (e.rows s n)) n (node_after e.closing (node_after_rows (e.rows s n) n))
    off_done = subst (λ o. Came s t (lines_of_rows (e.rows s n)) n (node_after o (node_after_rows (e.rows s n) n))) (sym (closes t off)) (came_of s t (lines_of_rows (e.rows s n)) n (node_after_rows (e.rows s n) n) (rows_come (TaskNotes s n t) (TaskAccepts s n t) (e.rows s n) n (task_putting s n t begins)))

    off_late : (o : Option Line) → Came s t (begun s n e o).lines n (begun s n e o).node
    off_late (Some refusal) = same_came []
    off_late None = more_lines s t (lines_of_rows (e.rows s n)) (lines_of_rows (e.rows s n) ++ e.closing_lines n) n _ (λ l i. in_front (lines_of_rows (e.rows s n)) (e.closing_lines n) l i) off_done

    off_cut : (k : ℕ) (b : Bool) (cause : line.Cause) → Came s t (cut s n e (rows_to_cut s n e) k b cause).lines n (cut s n e (rows_to_cut s n e) k b cause).node
    off_cut k b cause =
        let rs = take k (rows_to_cut s n e) in
        let c = came_of s t (lines_of_rows rs) n (node_after_rows rs n) (rows_come (TaskNotes s n t) (TaskAccepts s n t) rs n (take_putting (TaskNotes s n t) (TaskAccepts s n t) k (rows_to_cut s n e) (cut_putting (TaskNotes s n t) (TaskAccepts s n t) (e.refused_after_reading s n) (e.rows s n) (task_putting s n t begins)))) in
        more_lines s t (lines_of_rows rs) (lines_of_rows rs ++ line.Down n.name cause ∷ []) n _ (λ l i. in_front (lines_of_rows rs) (line.Down n.name cause ∷ []) l i)
        (fell s t (lines_of_rows rs) n (node_after_rows rs n) (fallen (act_begun b (drop k (rows_to_cut s n e))) (node_after_rows rs n)) refl refl refl c)

-- One that makes it run again: an INIT, or a boot.
on_late : (s : Shared) (n ready : Node) (t : Task) → powers (task_service t) ≡ true → Comes None_ Never [] n ready → (o : Option Line) → Came s t (begun s ready (task_service t) o).lines n (begun s ready (task_service t) o).node
on_late s n ready t on h (Some refusal) = came_none s t [] n ready h
on_late s n ready (Serves r) on h None = go r on
  where
    go : (r : Request) → powers (service r) ≡ true → Came s (Serves r) (begun s ready (service r) None).lines n (begun s ready (service r) None).node
    go (Init slots journal) k = came_none s (Serves (Init slots journal)) [] n _ (record { from = h.from; up = h.up; clock = h.clock })
    go Boot k = boot_came s (Serves Boot) _ n ready h.clock
    go _ k = let no : ⊥ = cc in absurd no
on_late s n ready Restarts on h None = boot_came s Restarts _ n ready h.clock
on_late s n ready _ on h None = let no : ⊥ = cc in absurd no

take_none : (k : ℕ) → ◌≡◌ {A = List Row} (take k []) []
take_none zero = refl
take_none (suc k) = refl

on_cut : (s : Shared) (n ready : Node) (t : Task) → powers (task_service t) ≡ true → Comes None_ Never [] n ready → (k : ℕ) (ls : List Line) → Came s t ls n (node_after_rows (take k (rows_to_cut s ready (task_service t))) ready)
on_cut s n ready (Serves r) on h k ls = go r on
  where
    go : (r : Request) → powers (service r) ≡ true → Came s (Serves r) ls n (node_after_rows (take k (rows_to_cut s ready (service r))) ready)
    go (Init slots journal) q = subst (λ rs. Came s (Serves (Init slots journal)) ls n (node_after_rows rs ready)) (sym (take_none k)) (came_none s (Serves (Init slots journal)) ls n ready h)
    go Boot q = boot_cut s (Serves Boot) ls n ready k ((service Boot).refused_after_reading s ready) h
    go _ q = let no : ⊥ = cc in absurd no
on_cut s n ready Restarts on h k ls = boot_cut s Restarts ls n ready k ((task_service Restarts).refused_after_reading s ready) h
on_cut s n ready _ on h k ls = let no : ⊥ = cc in absurd no

pub effect_came : (s : Shared) (stops : ℕ) (n : Node) (t : Task) (c : Choice) → begins_none t ≡ true → IsStep n.under_way → Came s t (task_effect s stops n t c).lines n (task_effect s stops n t c).node
effect_came s stops n t (Whole outturn) begins h = go (refused_before_reading s n (task_service t))
  where
    e : Service
    e = task_service t

    either : (b : Bool) → powers e ≡ b → Came s t (begun s (ready_node outturn stops e n) e (e.refused_after_reading s (ready_node outturn stops e n))).lines n (begun s (ready_node outturn stops e n) e (e.refused_after_reading s (ready_node outturn stops e n))).node
    either true on = on_late s n (ready_node outturn stops e n) t on (ready_comes outturn stops e n h) (e.refused_after_reading s (ready_node outturn stops e n))
    either false off = subst (λ m. Came s t (begun s m e (e.refused_after_reading s m)).lines n (begun s m e (e.refused_after_reading s m)).node) (sym (not_ready outturn stops e n off)) (off_late s stops n t begins h off (e.refused_after_reading s n))

    go : (o : Option Line) → Came s t (whole s n (ready_node outturn stops e n) e o).lines n (whole s n (ready_node outturn stops e n) e o).node
    go (Some refusal) = same_came s stops n t begins h []
    go None = either (powers e) refl
effect_came s stops n t WithoutMemory begins h = same_came s stops n t begins h []
effect_came s stops n t Unpowered begins h = dead (spoils (task_service t))
  where
    dead : (b : Bool) → Came s t (line.Down n.name line.Failed ∷ []) n (with_unknown_volume b (unpowered stops n))
    dead true = fell s t _ n n (with_unknown_volume true (unpowered stops n)) refl refl refl (same_came s stops n t begins h _)
    dead false = fell s t _ n n (with_unknown_volume false (unpowered stops n)) refl refl refl (same_came s stops n t begins h _)
effect_came s stops n t (Cut outturn done started cause) begins h = either (powers e) refl
  where
    e : Service
    e = task_service t

    of : Node → TaskEffect
    of m = cut s m e (rows_to_cut s m e) done started cause

    either : (b : Bool) → powers e ≡ b → Came s t (of (ready_node outturn stops e n)).lines n (of (ready_node outturn stops e n)).node
    either true on =
        let ready = ready_node outturn stops e n in
        fell s t _ n (node_after_rows (take done (rows_to_cut s ready e)) ready) (of ready).node refl refl refl (on_cut s n ready t on (ready_comes outturn stops e n h) done (of ready).lines)
    either false off = subst (λ m. Came s t (of m).lines n (of m).node) (sym (not_ready outturn stops e n off)) (off_cut s stops n t begins h off done started cause)
