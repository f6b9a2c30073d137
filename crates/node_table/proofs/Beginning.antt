-- A branch begins: its unit, and what the table notes of it.
use Rattle.std.proofs.Common.{◌≡◌, ◌≤◌, ◌<◌, ◌+◌, ◌-◌, ℕ, zero, suc, Bool, true, false, if◌then◌else◌, List, [], ◌∷◌, ◌++◌, Option, Some, None, inl, inr, refl, ap, sym, subst, ◌∙◌, length, map, replicate, slice_index_or, arith}
use Rattle.std.specs.List.{AllByRecursion}
use Rattle.std.proofs.lemmas.List.{length-append}
use Rattle.net_wire.specs.commit_protocol.Agreement.{Distinct}
use Rattle.net_wire.specs.commit_protocol.Allowed.{is_prepared}
use Rattle.net_wire.specs.commit_protocol.Standing.{IsNew}
use Rattle.net_wire.specs.commit_protocol.Table.{Branch, Key, Notes, Tm, after_act, branch_serials, find, record_serials}
use Rattle.net_wire.specs.commit_protocol.World.{In}
use Rattle.emitter_model.proofs.commit_protocol.Lists.{in_left, in_parts, in_right}
use Rattle.emitter_model.proofs.commit_protocol.Serials.{apart_distinct, distinct_more, parts_apart, serials_new, there_serial}
use Rattle.emitter_model.proofs.commit_protocol.Within.{length_put}
use Rattle.row_laws.specs.log_laws.Slots.{size}
use Rattle.row_laws.proofs.log_laws.Slotting.{same_tells}
use Rattle.emitter_model.proofs.commit_protocol.Lasting.{new_lasts}
use Rattle.row_laws.specs.run_model.World.{Node, Tables, acted, next_moment, tm_of}
use Rattle.row_laws.specs.May.{IsTold}
use Rattle.records_model.specs.History.{same_id}
use Rattle.unit_table.specs.Units.{Ascend, OpenUnit, changers, new_unit, one_changer, owed_for}
use Rattle.recovery_units.specs.image_appends.declared.side.Side.TheVariants.{After, Before}
use Rattle.recovery_units.proofs.image_room.Keeping.{fits_less}
use Rattle.journal_model.specs.Ring.{ring_size}
use Rattle.recovery_units.specs.Laws.{KeepsNodes}
use Rattle.recovery_units.specs.State.{IsInOrder, is_begun, owed, unit_of, with_begun}
use Rattle.recovery_units.specs.world_laws.Nodes as laws
use Rattle.node_table.specs.Standing.{Follows, Stored, StoredRepresents}
use Rattle.node_table.proofs.Acting.{serials_apart}
use Rattle.node_table.proofs.Branching.{begun_units, length_units, none_begun}
use Rattle.node_table.proofs.Doubting.{doubt_new, in_put_new, standing_new}

-- A branch that begins, and the table and the units then.
pub record Begins (b : Branch) (tm : Tm) (s : Stored) : Type 0 where
  pub new : In b.key.serial (branch_serials tm.table ++ record_serials tm.records) → ⊥
  pub room : size tm < length s.units.log
  pub few : length tm.table < 64
  pub unprepared : is_prepared b.state ≡ false
  pub unchanged : b.changed ≡ false

abbrev pub with_unit : Branch → Stored → Stored
with_unit b s = record s { units = with_begun b.key.tid b.key.serial s.units }

module _ (b : Branch) (tm : Tm) (s : Stored) (h : Begins b tm s) (f : Follows tm s) where
  -- no branch has its key
  pub absent : find b.key tm.table ≡ None
  absent = go (find b.key tm.table) refl
    where
      go : (o : Option Branch) → find b.key tm.table ≡ o → find b.key tm.table ≡ None
      go None e = e
      go (Some o) e = absurd (h.new (in_left b.key.serial (branch_serials tm.table) (record_serials tm.records) (there_serial b.key tm.table (o, e))))

  pub is_new : IsNew tm.table b
  is_new = record { absent = absent; unprepared = h.unprepared; unchanged = h.unchanged }

  pub unit_new : is_begun b.key.serial s.units ≡ false
  unit_new = none_of s.units.begun (none_begun s.units.begun tm.table b.key.serial f.branches (λ i. h.new (in_left b.key.serial (branch_serials tm.table) (record_serials tm.records) i)))
    where
      none_of : (us : List OpenUnit) → unit_of b.key.serial us ≡ None → is_begun b.key.serial (record s.units { begun = us }) ≡ false
      none_of [] e = refl
      none_of (u ∷ us) e = go (same_id b.key.serial u.serial) refl (none_of us)
        where
          go : (t : Bool) → same_id b.key.serial u.serial ≡ t → (unit_of b.key.serial us ≡ None → is_begun b.key.serial (record s.units { begun = us }) ≡ false) → is_begun b.key.serial (record s.units { begun = u ∷ us }) ≡ false
          go true q more = absurd (let f : Some u ≡ None = rw q at e in cc)
          go false q more = (let e' : unit_of b.key.serial us ≡ None = rw q at e in rw q (more e'))

  pub unit_room : length s.units.begun < 64
  unit_room = let few = h.few in let same = length_units s.units.begun tm.table f.branches in omega arith

  order_new : IsInOrder (with_begun b.key.tid b.key.serial s.units) s.volume
  order_new =
      let o = f.order in
      let room = unit_room in
      let l = length-append s.units.begun (new_unit b.key.tid b.key.serial ∷ []) in
      record {
        idle = o.idle;
        frames = o.frames;
        heads = o.heads;
        sound = o.sound;
        holds = o.holds;
        least = o.least;
        most = o.most;
        ascends = o.ascends;
        room = subst (λ n. s.volume.catalog.ru.end - s.volume.catalog.ru.first + n ≤ ring_size s.volume.catalog.ru) (sym (owed_same s.units.begun)) o.room;
        within = more s.units.begun o.within o.ascends;
        few = omega arith;
        slots = o.slots;
        images = λ g h there.
            let all = o.images g h there in
            let same = fewer g s.units.begun in
            let old = map Some s.units.begun in
            let new = map Some (s.units.begun ++ new_unit b.key.tid b.key.serial ∷ []) in
            (fits_less After h g old new (omega (arith, same)) all.0, fits_less Before h g old new (omega (arith, same)) all.1);
      }
    where
      none_in : (n g : ℕ) → slice_index_or (replicate n false) g false ≡ false
      none_in zero g = refl
      none_in (suc n) zero = refl
      none_in (suc n) (suc g) = none_in n g

      fewer : (g : ℕ) (us : List OpenUnit) → changers g (map Some (us ++ new_unit b.key.tid b.key.serial ∷ [])) ≡ changers g (map Some us)
      fewer g [] = ap (λ (t : Bool). (if t then 1 else 0) + 0) (none_in 64 g)
      fewer g (u ∷ us) = ap (λ n. one_changer g (Some u) + n) (fewer g us)

      owed_same : (us : List OpenUnit) → owed (us ++ new_unit b.key.tid b.key.serial ∷ []) ≡ owed us
      owed_same [] = refl
      owed_same (u ∷ us) = ap (λ n. owed_for u.prepared u.positions + n) (owed_same us)

      more : (us : List OpenUnit) → AllByRecursion (λ (u : OpenUnit). Ascend s.volume.catalog.ru.first s.volume.catalog.ru.end u.positions) us → s.volume.catalog.ru.first ≤ s.volume.catalog.ru.end
          → AllByRecursion (λ (u : OpenUnit). Ascend s.volume.catalog.ru.first s.volume.catalog.ru.end u.positions) (us ++ new_unit b.key.tid b.key.serial ∷ [])
      more [] a le = (le, tt)
      more (u ∷ us) a le = (a.0, more us a.1 le)

  told_new : IsTold (after_act (Notes b) tm) s.units.log
  told_new =
      let apart = parts_apart (branch_serials tm.table) (record_serials tm.records) f.told.apart in
      let same = serials_new b tm.table absent in
      let len = length_put b tm.table in
      let room = h.room in
      record {
        tells = same_tells tm (after_act (Notes b) tm) s.units.log (new_lasts tm.table b is_new).0 refl f.told.tells;
        apart = subst (λ xs. Distinct (xs ++ record_serials tm.records)) (sym same) (apart_distinct (branch_serials tm.table ++ b.key.serial ∷ []) (record_serials tm.records) (record {
          one = distinct_more (branch_serials tm.table) b.key.serial apart.one (λ i. h.new (in_left b.key.serial (branch_serials tm.table) (record_serials tm.records) i));
          two = apart.two;
          apart = λ i j k. elim (in_parts i (branch_serials tm.table) (b.key.serial ∷ []) j) [
            | inl q ↦ apart.apart i q k
            | inr q ↦ elim q [
              | inl e ↦ h.new (in_right b.key.serial (branch_serials tm.table) (record_serials tm.records) (subst (λ z. In z (record_serials tm.records)) e k))
              | inr n ↦ n
            ]
          ];
        }));
        room = omega arith;
      }

  pub follows_new : Follows (after_act (Notes b) tm) (with_unit b s)
  follows_new = record {
    order = order_new;
    node = f.node;
    branches = begun_units s.units.begun tm.table b f.branches absent h.unprepared h.unchanged;
    told = told_new;
    doubt = doubt_new b tm.table s.in_doubt absent (serials_apart tm s f) f.doubt;
  }

-- In the world.
pub stands_new : (laws_hold : KeepsNodes) (b : Branch) (clock : ℕ) (tm : Tm) (s : Stored) (n : Node) → Begins b tm s → Follows tm s → StoredRepresents clock s tm n → ((k : Key) → In k n.volatile.preparation → k.serial ≡ b.key.serial → ⊥) → laws.IsUp (acted (Tables (Notes b) (next_moment n)) n)
    → StoredRepresents clock (with_unit b s) (after_act (Notes b) tm) (acted (Tables (Notes b) (next_moment n)) n)
stands_new laws_hold b clock tm s n q f h fresh up =
    let q' : Begins b (tm_of n) s = subst (λ x. Begins b x s) (sym h.table) q in
    let f' : Follows (tm_of n) s = subst (λ x. Follows x s) (sym h.table) f in
    let none : find b.key n.volatile.branches ≡ None = absent b (tm_of n) s q' f' in
    let not_named : In b.key n.volatile.preparation → ⊥ = λ i. fresh b.key i refl in
    record {
      kept = laws_hold.begins s.units s.volume n b (next_moment n) h.kept (is_new b (tm_of n) s q' f') up;
      table = ap (after_act (Notes b)) h.table;
      clock_is = h.clock_is;
      doubt = standing_new n.volatile.preparation b n.volatile.branches not_named ∙ h.doubt;
      names = record {
        named = λ x i p. elim (in_put_new b x n.volatile.branches none i) [
          | inl e ↦ absurd (let g : true ≡ false = sym p ∙ ap (λ (y : Branch). is_prepared y.state) e ∙ q.unprepared in cc)
          | inr j ↦ h.names.named x j p
        ];
        prepared = λ x i j. elim (in_put_new b x n.volatile.branches none i) [
          | inl e ↦ absurd (not_named (subst (λ k. In k n.volatile.preparation) (ap (λ (y : Branch). y.key) e) j))
          | inr k ↦ h.names.prepared x k j
        ];
      };
      up = h.up;
      was_up = h.was_up;
      under_way = h.under_way;
    }
