use Rattle.std.proofs.Common.{◌≡◌, ℕ, [], ◌∷◌, ◌++◌, ◌<◌, Option, Some, None, IsSome, length, slice_set, refl, subst, sym, ap, ◌∙◌, arith}
use Rattle.unit_table.specs.Units.{OpenUnit, Units, begun, new_unit, unit_at, units_of}
use Rattle.unit_table.specs.Places.{AreInOrder, count_at}
use Rattle.vms_base.specs.Ids.{serial_of, tid_of}
use Rattle.unit_table.proofs.OrderLemmas.{begun_in_order, few_in_order, full_in_order}
use Rattle.unit_table.proofs.BegunLemmas.{begun_as}
use Rattle.unit_table.proofs.table.UnitTable.begin.Goals as goal

pub returns-in-None-clause-full : goal.returns-in-None-clause-full
returns-in-None-clause-full c = (
  subst (λ (x : Units). length {A = OpenUnit} (begun x) ≡ 64) c.self.view_is
      (full_in_order c.self.inside.places.items c.self.inside.order.items c.self.invariant.0 (subst (λ (x : Units). (p : ℕ) → p < 64 → IsSome (unit_at x.places p)) (sym c.self.view_is) c.in-None.ensures.none)),
  refl,
)

pub push_reserved-requires : goal.push_reserved-requires
push_reserved-requires c =
    let below : c.in-Some.place < 64 = c.in-Some.ensures.found.0 in
    let none : unit_at c.self.inside.places.items c.in-Some.place ≡ None = subst (λ (x : Units). unit_at x.places c.in-Some.place ≡ None) (sym c.self.view_is) c.in-Some.ensures.found.1 in
    let few = few_in_order c.self.inside.places.items c.self.inside.order.items c.self.invariant.0 c.in-Some.place below none in
    let room = c.self.invariant.1 in
    omega (arith, few, room)

pub invariant_of-self : goal.invariant_of-self
invariant_of-self c =
    let places = c.self.inside.places.items in
    let order = c.self.inside.order.items in
    let below : c.in-Some.place < 64 = c.in-Some.ensures.found.0 in
    let none : unit_at places c.in-Some.place ≡ None = subst (λ (x : Units). unit_at x.places c.in-Some.place ≡ None) (sym c.self.view_is) c.in-Some.ensures.found.1 in
    let begun = begun_in_order places order c.self.invariant.0 c.in-Some.place below (new_unit (tid_of c.args.tid) (serial_of c.args.serial)) none in (
      subst (λ (u : Option OpenUnit). AreInOrder (slice_set places c.in-Some.place u) c.push_reserved.new.self.items) (sym c.begin.ensures)
          (subst (AreInOrder (slice_set places c.in-Some.place (Some (new_unit (tid_of c.args.tid) (serial_of c.args.serial))))) (sym c.push_reserved.ensures.items) begun),
      (let more = c.push_reserved.ensures.capacity in let room = c.self.invariant.1 in omega (arith, more, room)),
    )

pub returns-in-Some-clause-last : goal.returns-in-Some-clause-last
returns-in-Some-clause-last c = λ w.
    let places = c.self.inside.places.items in
    let order = c.self.inside.order.items in
    let p = c.in-Some.place in
    let new = new_unit (tid_of c.args.tid) (serial_of c.args.serial) in
    let below : p < 64 = c.in-Some.ensures.found.0 in
    let none : unit_at places p ≡ None = subst (λ (x : Units). unit_at x.places p ≡ None) (sym c.self.view_is) c.in-Some.ensures.found.1 in
    let whole = c.self.invariant.0.whole in
    (λ i. units_of (slice_set (slice_set places p (c.begin.ensures i)) p (Some w)) (c.push_reserved.ensures.items i))
    ∙ begun_as places order p new w (omega (arith, below, whole)) (c.self.invariant.0.each p ∙ ap count_at none)
    ∙ ap (λ (x : Units). begun x ++ w ∷ []) c.self.view_is
