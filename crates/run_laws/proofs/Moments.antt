-- The moments of a node's settlements ascend.
use Rattle.std.proofs.Common.{◌≡◌, ◌≤◌, ◌<◌, ℕ, ◌+◌, zero, suc, ◌⊎◌, List, [], ◌∷◌, inl, inr, take, drop, Bool, true, false, not, ◌||◌, Option, Some, None, if◌then◌else◌, refl, sym, ◌∙◌, ap, subst, arith}
use Rattle.std.specs.Prelude.{nat_le}
use Rattle.std.specs.Str.{bytes_eq}
use Rattle.std.proofs.lemmas.Bool.{leb-false, or_parts}
use Rattle.vms_model.specs.Ids.{Id}
use Rattle.vms_model.specs.Transactions.{Abort, SegFail}
use Rattle.run_said.specs.transcript_model.Lines as line
use Rattle.run_said.specs.transcript_model.Lines.{Line, Cause}
use Rattle.run_said.specs.script_model.Statements.{Statement, At, Deliver, LinkDown, Settle, Request, Init, Boot, Fuse, Clock, Reading, Blank, Says, Bad}
use Rattle.run_said.specs.script_model.Grammar.{reading}
use Rattle.commit_protocol.specs.Table as table
use Rattle.commit_protocol.specs.Table.{Key as BranchKey, Settles, Undoes}
use Rattle.commit_protocol.specs.World.{In}
use Rattle.run_said.specs.run_model.World as world
use Rattle.run_said.specs.run_model.World.{World, Shared, Node, DiskCounts, Durable, Settlement, Act, Boots, ComesUp, Formats, Tables, Directs, Outturn, Lost, Taken, Half, IsOpening, acted, powered, unpowered, settled_more, settlement_of, with_settlement, aborted_prepared, with_half, next_moment, find_node, with_node, opened}
use Rattle.run_said.specs.run_model.Operations.{refused_if}
use Rattle.run_said.specs.run_model.Answers as answers
use Rattle.run_said.specs.run_model.Answers.{Row, Service, Task, Serves, Ticks, Takes, Hears, LosesLink, RunsDown, Restarts, task_service, service, refused_before_reading, powers, spoils, occupies, touches}
use Rattle.run_said.specs.run_model.Steps.{Choice, Whole, WithoutMemory, Unpowered, Cut, TaskAllowed, task_effect, ready_node, node_after, node_after_rows, shared_then, shared_after_rows, rows_to_cut, act_begun, if_durable, with_unknown_volume, whole, begun, occupied}
use Rattle.run_said.specs.run_model.Statements.{Part, PartEffect, Begins, Phases, Step, Allowed, part_effect, stops_at, RoseAt, phases_of, refused_at_once, begun_with}
use Rattle.run_said.specs.run_model.Transcript.{Entry, Legal, Turn as LineTurn, AreOpening}
use Rattle.run_said.proofs.run_model.NodeLists.{clash, some_is}
use Rattle.run_said.proofs.run_model.TaskLemmas.{effect_name}
use Rattle.run_said.proofs.run_model.PartLemmas.{phases_fold}
use Rattle.run_said.proofs.run_model.PartTasks.{View, Doing, Fixed, view}
use Rattle.run_said.proofs.run_model.Refusing.{each_phase}
use Rattle.run_laws.specs.Promises.{Descends}
use Rattle.run_laws.proofs.Directed.{neither, not_refused}
use Rattle.run_laws.proofs.EachRow.{EachRow, cut_each, is_quiet, take_each, task_each}
use Rattle.run_laws.proofs.EffectsTell.{after_under, rows_under, rows_use, then_use}
use Rattle.run_laws.proofs.Staying.{find_put}

-- Acts.

-- what an act settles, and whether it makes a volume
abbrev pub settles : Act → Option Settlement
settles (Tables a moment) = settlement_of a moment
settles (Directs file cs s) = Some s
settles _ = None

abbrev pub makes_volume : Act → Bool
makes_volume (Formats slots journal) = true
makes_volume _ = false

-- an act may come next at a node whose greatest moment is this: it makes no volume, and settles later
abbrev pub IsNext : ℕ → Option Act → Type 0
IsNext greatest None = Unit {0}
IsNext greatest (Some act) = (makes_volume act ≡ false) × ((s : Settlement) → settles act ≡ Some s → greatest < s.moment)

-- settlements descend, and none is later than the greatest moment
pub record Ascends (greatest : ℕ) (ss : List Settlement) : Type 0 where
  pub descends : Descends ss
  pub within : (t : Settlement) → In t ss → t.moment ≤ greatest

abbrev pub NodeAscends : Node → Type 0
NodeAscends n = Ascends n.durable.greatest n.settled

more_ascend : (greatest : ℕ) (s : Settlement) (ss : List Settlement) → Ascends greatest ss → greatest < s.moment → Ascends s.moment (s ∷ ss)
more_ascend greatest s ss h later = record {
  descends = (λ t i. let w = h.within t i in omega (arith, w, later), h.descends);
  within = λ t i. elim i [ inl same ↦ subst (λ (x : Settlement). t.moment ≤ x.moment) same (omega arith) | inr j ↦ (let w = h.within t j in omega (arith, w, later)) ];
}

settled_ascend : (o : Option Settlement) (d : Durable) (ss : List Settlement) → Ascends d.greatest ss → ((s : Settlement) → o ≡ Some s → d.greatest < s.moment) → Ascends (with_settlement o d).greatest (settled_more o ss)
settled_ascend None d ss h later = h
settled_ascend (Some s) d ss h later = more_ascend d.greatest s ss h (later s refl)

acted_ascends : (act : Act) (n : Node) → NodeAscends n → IsNext n.durable.greatest (Some act) → NodeAscends (acted act n)
acted_ascends (Formats slots journal) n h next = let no : true ≡ false = next.0 in let none : ⊥ = cc in absurd none
acted_ascends (Tables a moment) n h next = settled_ascend (settlement_of a moment) _ n.settled h next.1
acted_ascends (Directs file cs s) n h next = more_ascend n.durable.greatest s n.settled h (next.1 s refl)
acted_ascends _ n h next = h

after_ascends : (o : Option Act) (n : Node) → NodeAscends n → IsNext n.durable.greatest o → NodeAscends (node_after o n)
after_ascends None n h next = h
after_ascends (Some act) n h next = acted_ascends act n h next

-- Rows.

abbrev IsNextRow : Row → Node → Type 0
IsNextRow r n = IsNext n.durable.greatest r.act

pub later_moment : (n : Node) → n.durable.greatest < next_moment n
later_moment n = go (nat_le n.clock (n.durable.greatest + 1)) refl
  where
    go : (b : Bool) → nat_le n.clock (n.durable.greatest + 1) ≡ b → n.durable.greatest < (if b then n.durable.greatest + 1 else n.clock)
    go true is = omega arith
    go false is = let less = leb-false n.clock (n.durable.greatest + 1) is in omega (arith, less)

settles_later : (n : Node) (t s : Settlement) → t.moment ≡ next_moment n → Some t ≡ Some s → n.durable.greatest < s.moment
settles_later n t s moment same = subst (λ m. n.durable.greatest < m) (sym moment ∙ ap (λ (x : Settlement). x.moment) (some_is t s same)) (later_moment n)

quiet_next : (act : Option Act) (greatest : ℕ) → is_quiet act ≡ true → IsNext greatest act
quiet_next None greatest h = tt
quiet_next (Some act) greatest h = (no_volume act h, λ s e. absurd (settles_none act h s e))
  where
    no_volume : (act : Act) → is_quiet (Some act) ≡ true → makes_volume act ≡ false
    no_volume (Formats slots journal) k = let none : ⊥ = cc in absurd none
    no_volume _ k = refl

    table_none : (a : table.Act) (moment : ℕ) → is_quiet (Some (Tables a moment)) ≡ true → (s : Settlement) → settlement_of a moment ≡ Some s → ⊥
    table_none (Settles k o reason r) moment q s e = cc
    table_none (Undoes k) moment q s e = cc
    table_none _ moment q s e = cc

    settles_none : (act : Act) → is_quiet (Some act) ≡ true → (s : Settlement) → settles act ≡ Some s → ⊥
    settles_none (Tables a moment) k s e = table_none a moment k s e
    settles_none (Directs file cs t) k s e = cc
    settles_none _ k s e = cc

all_next : (s : Shared) (n : Node) (t : Task) → EachRow IsNextRow ((task_service t).rows s n) n
all_next s n t = task_each IsNextRow (λ act ls m h q v. quiet_next act m.durable.greatest q)
    (λ k o reason r m. (refl, λ x e. settles_later m (world.settlement k o reason (next_moment m)) x refl e))
    (λ k m. (refl, λ x e. settles_later m (world.settlement k Abort SegFail (next_moment m)) x refl e))
    (λ file cs m. (refl, λ x e. settles_later m (answers.commit_settlement m (world.next_id m) (world.next_id m)) x refl e))
    (λ m. (refl, λ x e. let none : ⊥ = cc in absurd none)) s n t

rows_ascend : (rs : List Row) (n : Node) → EachRow IsNextRow rs n → NodeAscends n → NodeAscends (node_after_rows rs n)
rows_ascend [] n next h = h
rows_ascend (r ∷ rs) n next h = rows_ascend rs (node_after r.act n) next.1 (after_ascends r.act n h next.0)

-- so does the act that a failure finds under way
begun_next : (b : Bool) (k : ℕ) (rs : List Row) (n : Node) → EachRow IsNextRow rs n → IsNext (node_after_rows (take k rs) n).durable.greatest (act_begun b (drop k rs))
begun_next false k rs n next = tt
begun_next true zero [] n next = tt
begun_next true (suc k) [] n next = tt
begun_next true (suc k) (r ∷ rs) n next = begun_next true k rs (node_after r.act n) next.1
begun_next true zero (r ∷ rs) n next = one r.act next.0
  where
    filtered : (act : Act) (b : Bool) → IsNext n.durable.greatest (Some act) → IsNext n.durable.greatest (if b then Some act else None)
    filtered act true h = h
    filtered act false h = tt

    one : (o : Option Act) → IsNext n.durable.greatest o → IsNext n.durable.greatest (if_durable o)
    one None h = tt
    one (Some act) h = filtered act (world.is_durable act) h

-- Nodes.

-- Besides: an act that is under way may come next, at a node that is down; and where no node may be in use, the node is down and has settled nothing.
pub record Kept (s : Shared) (n : Node) : Type 0 where
  pub ascends : NodeAscends n
  pub next : IsNext n.durable.greatest n.under_way
  pub rests : n.up ≡ true → n.under_way ≡ None
  pub unused : s.in_use ≡ false → (n.up ≡ false) × (n.settled ≡ []) × (n.under_way ≡ None)

powered_ascends : (outturn : Outturn) (stops : ℕ) (n : Node) → NodeAscends n → IsNext n.durable.greatest n.under_way → NodeAscends (powered outturn stops n)
powered_ascends outturn stops n h next = go outturn n.under_way next
  where
    halved : (standing : List ℕ → _) (o : Option Id) → Ascends (with_half o standing n.durable).greatest n.settled
    halved standing None = h
    halved standing (Some serial) = h

    go : (t : Outturn) (o : Option Act) → IsNext n.durable.greatest o → NodeAscends (powered t stops (record n { under_way = o }))
    go Taken (Some act) k = let a = acted_ascends act (record n { under_way = Some act }) h k in a
    go Taken None k = h
    go Lost o k = h
    go (Half standing) o k = halved standing (aborted_prepared o n.durable)

spoilt_ascends : (b : Bool) (n : Node) → NodeAscends n → NodeAscends (with_unknown_volume b n)
spoilt_ascends true n h = h
spoilt_ascends false n h = h

ready_ascends : (outturn : Outturn) (stops : ℕ) (e : Service) (n : Node) → NodeAscends n → IsNext n.durable.greatest n.under_way → NodeAscends (ready_node outturn stops e n)
ready_ascends outturn stops e n h next = go (powers e)
  where
    go : (b : Bool) → NodeAscends (if b then with_unknown_volume (spoils e) (powered outturn stops n) else n)
    go true = spoilt_ascends (spoils e) (powered outturn stops n) (powered_ascends outturn stops n h next)
    go false = h

-- what a node is in that neither settles anything nor comes up nor goes down
record Rests (n m : Node) : Type 0 where
  up : m.up ≡ n.up
  settled : m.settled ≡ n.settled
  under : m.under_way ≡ n.under_way

powered_rests : (outturn : Outturn) (stops : ℕ) (n : Node) → n.under_way ≡ None → Rests n (powered outturn stops n)
powered_rests outturn stops n none = go outturn n.under_way none
  where
    go : (t : Outturn) (o : Option Act) → o ≡ None → Rests n (powered t stops (record n { under_way = o }))
    go Taken (Some act) k = let no : ⊥ = cc in absurd no
    go Taken None k = record { up = refl; settled = refl; under = sym none }
    go Lost o k = record { up = refl; settled = refl; under = sym none }
    go (Half standing) o k = record { up = refl; settled = refl; under = sym none }

spoilt_rests : (b : Bool) (n m : Node) → Rests n m → Rests n (with_unknown_volume b m)
spoilt_rests true n m h = record { up = h.up; settled = h.settled; under = h.under }
spoilt_rests false n m h = h

ready_rests : (outturn : Outturn) (stops : ℕ) (e : Service) (n : Node) → n.under_way ≡ None → Rests n (ready_node outturn stops e n)
ready_rests outturn stops e n none = go (powers e)
  where
    go : (b : Bool) → Rests n (if b then with_unknown_volume (spoils e) (powered outturn stops n) else n)
    go true = spoilt_rests (spoils e) n (powered outturn stops n) (powered_rests outturn stops n none)
    go false = record { up = refl; settled = refl; under = refl }

-- What refuses nothing.

served : (s : Shared) (n : Node) (e : Service) → refused_before_reading s n e ≡ None → n.up ≡ false → e.while_down ≡ true
served s n e first down = go e.while_down (subst (λ up. not (up || e.while_down) ≡ false) down (not_refused _ line.NodeDown (neither (refused_if (not (n.up || e.while_down)) line.NodeDown) (e.refused_before_reading s n) first).0))
  where
    go : (b : Bool) → not (false || b) ≡ false → b ≡ true
    go true k = refl
    go false k = let no : ⊥ = cc in absurd no

-- Tasks that a node serves while it is down.

abbrev after : Task → Shared → Node → Node
after t s m = node_after (task_service t).closing (node_after_rows ((task_service t).rows s m) m)

-- one after which still no node may be in use
served_down : (t : Task) (s : Shared) (m : Node) → (task_service t).while_down ≡ true → occupies (task_service t) ≡ false → Rests m (after t s m)
served_down (Serves request) s m down off = go request down off
  where
    go : (r : Request) → (service r).while_down ≡ true → occupies (service r) ≡ false → Rests m (after (Serves r) s m)
    go (Init slots blocks) d o = record { up = refl; settled = refl; under = refl }
    go (Fuse writes choice) d o = record { up = refl; settled = refl; under = refl }
    go (Clock now) d o = record { up = refl; settled = refl; under = refl }
    go Boot d o = let no : ⊥ = cc in absurd no
    go _ d o = let no : ⊥ = cc in absurd no
served_down Restarts s m down off = let no : ⊥ = cc in absurd no
served_down _ s m down off = let no : ⊥ = cc in absurd no

down_cut : (t : Task) (s : Shared) (m : Node) → (task_service t).while_down ≡ true → occupies (task_service t) ≡ false → touches (task_service t) ≡ true → rows_to_cut s m (task_service t) ≡ []
down_cut (Serves request) s m down off used = go request down off used
  where
    go : (r : Request) → (service r).while_down ≡ true → occupies (service r) ≡ false → touches (service r) ≡ true → rows_to_cut s m (service r) ≡ []
    go (Init slots blocks) d o u = refl
    go (Fuse writes choice) d o u = let no : ⊥ = cc in absurd no
    go (Clock now) d o u = let no : ⊥ = cc in absurd no
    go Boot d o u = let no : ⊥ = cc in absurd no
    go _ d o u = let no : ⊥ = cc in absurd no
down_cut Restarts s m down off used = let no : ⊥ = cc in absurd no
down_cut _ s m down off used = let no : ⊥ = cc in absurd no

-- one that does not make its disk run again
served_quietly : (t : Task) (s : Shared) (m : Node) → (task_service t).while_down ≡ true → powers (task_service t) ≡ false →
    ((after t s m).under_way ≡ m.under_way) × ((after t s m).durable.greatest ≡ m.durable.greatest) × ((after t s m).up ≡ m.up)
served_quietly (Serves request) s m down off = go request down off
  where
    go : (r : Request) → (service r).while_down ≡ true → powers (service r) ≡ false → ((after (Serves r) s m).under_way ≡ m.under_way) × ((after (Serves r) s m).durable.greatest ≡ m.durable.greatest) × ((after (Serves r) s m).up ≡ m.up)
    go (Fuse writes choice) d o = (refl, refl, refl)
    go (Clock now) d o = (refl, refl, refl)
    go (Init slots blocks) d o = let no : ⊥ = cc in absurd no
    go Boot d o = let no : ⊥ = cc in absurd no
    go _ d o = let no : ⊥ = cc in absurd no
served_quietly Restarts s m down off = let no : ⊥ = cc in absurd no
served_quietly _ s m down off = let no : ⊥ = cc in absurd no

-- a volume is made only where no node may be in use
closing_ascends : (t : Task) (s : Shared) (n m : Node) → refused_before_reading s n (task_service t) ≡ None → (s.in_use ≡ false → m.settled ≡ []) → NodeAscends (node_after_rows ((task_service t).rows s m) m) → NodeAscends (after t s m)
closing_ascends (Serves request) s n m first unused h = go request first h
  where
    go : (r : Request) → refused_before_reading s n (service r) ≡ None → NodeAscends (node_after_rows ((service r).rows s m) m) → NodeAscends (after (Serves r) s m)
    go (Init slots blocks) first h =
        let off = not_refused s.in_use line.VolumeInUse (neither (refused_if s.in_use line.VolumeInUse) _ (neither (refused_if (not (n.up || true)) line.NodeDown) _ first).1).0 in
        let none = unused off in
        record { descends = subst Descends (sym none) tt; within = λ t i. absurd (subst (λ ss. In t ss) none i) }
    go Boot first h = h
    go _ first h = h
closing_ascends Restarts s n m first unused h = h
closing_ascends _ s n m first unused h = h

-- What a task leaves.

pub ready_either : (outturn : Outturn) (stops : ℕ) (e : Service) (n : Node) → ((ready_node outturn stops e n).under_way ≡ None) ⊎ ((powers e ≡ false) × (ready_node outturn stops e n ≡ n))
ready_either outturn stops e n = go (powers e) refl
  where
    spoils_none : (b : Bool) → (with_unknown_volume b (powered outturn stops n)).under_way ≡ None
    spoils_none true = refl
    spoils_none false = refl

    go : (b : Bool) → powers e ≡ b → ((if b then with_unknown_volume (spoils e) (powered outturn stops n) else n).under_way ≡ None) ⊎ ((powers e ≡ false) × ((if b then with_unknown_volume (spoils e) (powered outturn stops n) else n) ≡ n))
    go true is = inl (spoils_none (spoils e))
    go false is = inr (is, refl)

module _ (s : Shared) (stops : ℕ) (n : Node) (t : Task) (h : Kept s n) where
  abbrev e : Service
  e = task_service t

  rested : (m : Node) → NodeAscends m → m.under_way ≡ None → (u : Shared) → (u.in_use ≡ false → (m.up ≡ false) × (m.settled ≡ []) × (m.under_way ≡ None)) → Kept u m
  rested m ascends none u unused = record { ascends = ascends; next = subst (IsNext m.durable.greatest) (sym none) tt; rests = λ up. none; unused = unused }

  module _ (outturn : Outturn) where
    abbrev ready : Node
    ready = ready_node outturn stops e n

    ready_unused : s.in_use ≡ false → (ready.up ≡ false) × (ready.settled ≡ []) × (ready.under_way ≡ None)
    ready_unused off = let u = h.unused off in let r = ready_rests outturn stops e n u.2 in (r.up ∙ u.0, r.settled ∙ u.1, r.under ∙ u.2)

    ready_at : NodeAscends ready
    ready_at = ready_ascends outturn stops e n h.ascends h.next

    refused_late : Kept s ready
    refused_late = elim (ready_either outturn stops e n) [
      | inl none ↦ rested ready ready_at none s ready_unused
      | inr same ↦ subst (Kept s) (sym same.1) h
    ]

    -- whether any node may be in use after rows and one act more
    off_before : (o : Option Act) (rs : List Row) → (occupied e (shared_then o (shared_after_rows rs s))).in_use ≡ false → (s.in_use ≡ false) × (occupies e ≡ false)
    off_before o rs off = let p = or_parts _ (occupies e) off in (sym (then_use o (shared_after_rows rs s) ∙ rows_use rs s) ∙ p.0, p.1)

    succeeds : refused_before_reading s n e ≡ None → Kept (begun s ready e None).shared (begun s ready e None).node
    succeeds first = record { ascends = ascends; next = way.0; rests = way.1; unused = unused }
      where
        m : Node
        m = after t s ready

        ascends : NodeAscends m
        ascends = closing_ascends t s n ready first (λ off. (ready_unused off).1) (rows_ascend (e.rows s ready) ready (all_next s ready t) ready_at)

        under : m.under_way ≡ ready.under_way
        under = after_under e.closing (node_after_rows (e.rows s ready) ready) ∙ rows_under (e.rows s ready) ready

        none_way : m.under_way ≡ None → IsNext m.durable.greatest m.under_way × (m.up ≡ true → m.under_way ≡ None)
        none_way none = (subst (IsNext m.durable.greatest) (sym none) tt, λ up. none)

        same_way : powers e ≡ false → ready ≡ n → (b : Bool) → n.up ≡ b → IsNext m.durable.greatest m.under_way × (m.up ≡ true → m.under_way ≡ None)
        same_way off same true up = none_way (under ∙ ap (λ (x : Node). x.under_way) same ∙ h.rests up)
        same_way off same false up =
            let q = served_quietly t s ready (served s n e first up) off in (
              subst (λ g. IsNext g m.under_way) (sym (q.1 ∙ ap (λ (x : Node). x.durable.greatest) same)) (subst (IsNext n.durable.greatest) (sym (q.0 ∙ ap (λ (x : Node). x.under_way) same)) h.next),
              λ is. absurd (clash _ is (q.2 ∙ ap (λ (x : Node). x.up) same ∙ up)),
            )

        way : IsNext m.durable.greatest m.under_way × (m.up ≡ true → m.under_way ≡ None)
        way = elim (ready_either outturn stops e n) [
          | inl none ↦ none_way (under ∙ none)
          | inr same ↦ same_way same.0 same.1 n.up refl
        ]

        unused : (begun s ready e None).shared.in_use ≡ false → (m.up ≡ false) × (m.settled ≡ []) × (m.under_way ≡ None)
        unused off =
            let p = off_before e.closing (e.rows s ready) off in
            let u = ready_unused p.0 in
            let d = served_down t s ready (served s n e first (h.unused p.0).0) p.1 in
            (d.up ∙ u.0, d.settled ∙ u.1, d.under ∙ u.2)

    late : refused_before_reading s n e ≡ None → (o : Option Line) → Kept (begun s ready e o).shared (begun s ready e o).node
    late first (Some refusal) = refused_late
    late first None = succeeds first

    done : (o : Option Line) → refused_before_reading s n e ≡ o → Kept (whole s n ready e o).shared (whole s n ready e o).node
    done (Some refusal) first = h
    done None first = late first (e.refused_after_reading s ready)

    none_cut : (b : Bool) (k : ℕ) (rs : List Row) (m : Node) → rs ≡ [] → ((node_after_rows (take k rs) m).settled ≡ m.settled) × (act_begun b (drop k rs) ≡ None)
    none_cut b k (r ∷ rs) m is = let no : ⊥ = cc in absurd no
    none_cut true zero [] m is = (refl, refl)
    none_cut true (suc k) [] m is = (refl, refl)
    none_cut false zero [] m is = (refl, refl)
    none_cut false (suc k) [] m is = (refl, refl)

    cut_kept : (k : ℕ) (b : Bool) (cause : Cause) → refused_before_reading s n e ≡ None → touches e ≡ true → Kept (task_effect s stops n t (Cut outturn k b cause)).shared (task_effect s stops n t (Cut outturn k b cause)).node
    cut_kept k b cause first used = record {
      ascends = rows_ascend (take k rs) ready (take_each IsNextRow k rs ready each) ready_at;
      next = begun_next b k rs ready each;
      rests = λ up. let no : ⊥ = cc in absurd no;
      unused = λ off.
          let p = off_before None (take k rs) off in
          let c = none_cut b k rs ready (down_cut t s ready (served s n e first (h.unused p.0).0) p.1 used) in
          (refl, c.0 ∙ (ready_unused p.0).1, c.1);
    }
      where
        rs : List Row
        rs = rows_to_cut s ready e

        each : EachRow IsNextRow rs ready
        each = cut_each IsNextRow (e.refused_after_reading s ready) (e.rows s ready) ready (all_next s ready t)

  dead_kept : (b : Bool) → Kept (occupied e s) (with_unknown_volume b (unpowered stops n))
  dead_kept true = record { ascends = h.ascends; next = h.next; rests = λ up. let no : ⊥ = cc in absurd no; unused = λ off. let u = h.unused (or_parts s.in_use (occupies e) off).0 in (refl, u.1, u.2) }
  dead_kept false = record { ascends = h.ascends; next = h.next; rests = λ up. let no : ⊥ = cc in absurd no; unused = λ off. let u = h.unused (or_parts s.in_use (occupies e) off).0 in (refl, u.1, u.2) }

  effect_kept : (c : Choice) (rises : Cause → Type 0) → TaskAllowed s stops n t rises c → Kept (task_effect s stops n t c).shared (task_effect s stops n t c).node
  effect_kept (Whole outturn) rises may = done outturn (refused_before_reading s n e) refl
  effect_kept WithoutMemory rises may = h
  effect_kept Unpowered rises may = dead_kept (spoils e)
  effect_kept (Cut outturn k b cause) rises may = cut_kept outturn k b cause may.0 may.1

  -- and no node may have been in use where none may be
  off_effect : (c : Choice) → (task_effect s stops n t c).shared.in_use ≡ false → s.in_use ≡ false
  off_effect (Whole outturn) off = go (refused_before_reading s n e) off
    where
      ended : (o : Option Line) → (begun s (ready outturn) e o).shared.in_use ≡ false → s.in_use ≡ false
      ended (Some refusal) k = k
      ended None k = (off_before outturn e.closing (e.rows s (ready outturn)) k).0

      go : (o : Option Line) → (whole s n (ready outturn) e o).shared.in_use ≡ false → s.in_use ≡ false
      go (Some refusal) k = k
      go None k = ended (e.refused_after_reading s (ready outturn)) k
  off_effect WithoutMemory off = off
  off_effect Unpowered off = (or_parts s.in_use (occupies e) off).0
  off_effect (Cut outturn k b cause) off = (off_before outturn None (take k (rows_to_cut s (ready outturn) e)) off).0

-- Worlds.

abbrev pub AllKept : World → Type 0
AllKept w = (node : List ℕ) (n : Node) → find_node node w.nodes ≡ Some n → Kept w.shared n

shared_kept : (s u : Shared) (n : Node) → (u.in_use ≡ false → s.in_use ≡ false) → Kept s n → Kept u n
shared_kept s u n off h = record { ascends = h.ascends; next = h.next; rests = h.rests; unused = λ k. h.unused (off k) }

pub part_kept : (w : World) (p : Part) (c : Choice) (disks : List DiskCounts) → Allowed w p disks c → AllKept w → AllKept (part_effect w p c).world
part_kept w p c disks allowed all = go (view w p)
  where
    go : View w p → AllKept (part_effect w p c).world
    go (Fixed answer ends kind is) = subst (λ (x : PartEffect). AllKept x.world) (sym (is c)) all
    go (Doing node t n named found does may) =
        let e = task_effect w.shared (stops_at node w) n t c in
        let k = effect_kept w.shared (stops_at node w) n t (all node n found) c (λ cause. RoseAt w node cause disks) (may disks c allowed) in
        subst (λ (x : PartEffect). AllKept x.world) (sym (does c)) (λ other m is. elim (find_put other node n e.node w.nodes (effect_name w.shared (stops_at node w) n t c) found) [
          | inl same ↦ shared_kept w.shared e.shared m (off_effect w.shared (stops_at node w) n t (all node n found) c) (all other m (sym same ∙ is))
          | inr both ↦ subst (Kept e.shared) (some_is e.node m (sym both.0 ∙ is)) k
        ])

pub begins_kept : (s : Statement) (w : World) → AllKept w → AllKept (begun_with s w)
begins_kept Settle w all = λ node n found. shared_kept w.shared (record w.shared { in_use = true }) n (λ k. let no : ⊥ = cc in absurd no) (all node n found)
begins_kept (At other request) w all = all
begins_kept (Deliver number) w all = all
begins_kept (LinkDown a b) w all = all

step_kept : (w v : World) (s : Statement) (lines : List Line) → Step w s lines v → AllKept w → AllKept v
step_kept w v s lines step all = subst AllKept (sym step.goes) (go (refused_at_once w s) step.does)
  where
    go : (o : Option Line) → Begins o (Phases (phases_of s) v.disks (begun_with s w) line.Normal) w step.events step.answer step.world → AllKept step.world
    go (Some refusal) d = subst AllKept (sym d.2) all
    go None d = phases_fold v.disks (λ p. Unit {0}) (λ given. Unit {0}) (λ u rest answer x. AllKept u → AllKept x)
        (λ u given q h. h)
        (λ u p c ok allowed ends h. part_kept u p c v.disks allowed h)
        (λ u p c ok allowed on. (tt, λ rest answer x more h. more (part_kept u p c v.disks allowed h)))
        (phases_of s) (each_phase s) (begun_with s w) line.Normal step.events step.answer step.world tt d (begins_kept s w all)

turn_kept : (w v : World) (r : Reading) (lines : List Line) → LineTurn w r lines v → AllKept w → AllKept v
turn_kept w v Blank lines t all = subst AllKept (sym t.1) all
turn_kept w v (Says s) lines t all = step_kept w v s lines t all
turn_kept w v (Bad column) lines t all = absurd t

pub legal_kept : (opening w : World) (es : List Entry) → AllKept opening → Legal opening es w → AllKept w
legal_kept opening w [] all legal = subst AllKept (sym legal) all
legal_kept opening w (e ∷ es) all legal = turn_kept legal.0 w (reading e.source.text) e.lines legal.2 (legal_kept opening legal.0 es all legal.1)

pub opening_found : (ns : List Node) → AreOpening ns → (node : List ℕ) (n : Node) → find_node node ns ≡ Some n → IsOpening n
opening_found [] all node n e = let no : ⊥ = cc in absurd no
opening_found (m ∷ ns) all node n e = go (bytes_eq node m.name) (opening_found ns all.1 node n) e
  where
    go : (b : Bool) → (find_node node ns ≡ Some n → IsOpening n) → ◌≡◌ {A = Option Node} (if b then Some m else find_node node ns) (Some n) → IsOpening n
    go true more k = subst IsOpening (some_is m n k) all.0
    go false more k = more k

pub opening_kept : (nodes : List Node) (disks : List DiskCounts) → AreOpening nodes → AllKept (opened nodes disks)
opening_kept nodes disks all node n found =
    let o = opening_found nodes all node n found in
    record {
      ascends = record { descends = subst Descends (sym o.settled) tt; within = λ t i. absurd (subst (λ ss. In t ss) o.settled i) };
      next = subst (IsNext n.durable.greatest) (sym o.under_way) tt;
      rests = λ up. o.under_way;
      unused = λ off. (o.down, o.settled, o.under_way);
    }

-- where no node may be in use, each node is down
pub unused_down : (nodes : List Node) (disks : List DiskCounts) (es : List Entry) (w : World) → AreOpening nodes → Legal (opened nodes disks) es w → (node : List ℕ) (n : Node) → find_node node w.nodes ≡ Some n → w.shared.in_use ≡ false → n.up ≡ false
unused_down nodes disks es w opening legal node n found off = ((legal_kept (opened nodes disks) w es (opening_kept nodes disks opening) legal node n found).unused off).0
