use Rattle.std.proofs.Common.{◌≡◌, Option, None, IsSome, slice_set, option_map, subst, sym, ap, ◌∙◌, refl}
use Rattle.std.proofs.lemmas.List.{get_or_default}
use Rattle.unit_table.specs.Units.{OpenUnit, Units, unit_at, unit_back}
use Rattle.unit_table.specs.Places.{AreInOrder}
use Rattle.unit_table.proofs.OrderLemmas.{at_below, still_in_order}
use Rattle.unit_table.proofs.table.UnitTable.take_back.Goals as goal

pub invariant_of-self : goal.invariant_of-self
invariant_of-self c =
    let places = c.self.inside.places.items in
    let at : IsSome (unit_at places c.args.place) = subst (λ (x : Units). IsSome (unit_at x.places c.args.place)) (sym c.self.view_is) c.requires.there in
    let read : c.index_mut.result.now ≡ unit_at places c.args.place = c.index_mut.ensures.value ∙ get_or_default places c.args.place c.index_mut.result.now None (at_below places c.args.place at) in (
      subst (λ (v : Option OpenUnit). AreInOrder (slice_set places c.args.place v) c.self.inside.order.items) (sym (c.take_back.ensures ∙ ap (option_map (unit_back c.args.positions.now c.args.files.now)) read)) (still_in_order places c.self.inside.order.items c.args.place (unit_back c.args.positions.now c.args.files.now) c.self.invariant.0 (unit_at places c.args.place) refl at),
      c.self.invariant.1,
    )
