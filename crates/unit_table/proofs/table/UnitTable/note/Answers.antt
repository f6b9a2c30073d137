use Rattle.std.proofs.Common.{◌≡◌, Option, None, true, IfSome, IsSome, slice_set, option_map, subst, sym, ap, ◌∙◌, refl}
use Rattle.std.proofs.lemmas.List.{get_or_default}
use Rattle.unit_table.specs.Units.{OpenUnit, Units, has_changed, unit_at, with_position}
use Rattle.unit_table.specs.Places.{AreInOrder}
use Rattle.unit_table.proofs.OrderLemmas.{at_below, still_in_order}
use Rattle.unit_table.proofs.table.UnitTable.note.Goals as goal

pub invariant_of-self : goal.invariant_of-self
invariant_of-self c =
    let places = c.self.inside.places.items in
    let at : IsSome (unit_at places c.args.place) = subst (λ (x : Units). IsSome (unit_at x.places c.args.place)) (sym c.self.view_is) c.requires.there in
    let read : c.index_mut.result.now ≡ unit_at places c.args.place = c.index_mut.ensures.value ∙ get_or_default places c.args.place c.index_mut.result.now None (at_below places c.args.place at) in (
      subst (λ (v : Option OpenUnit). AreInOrder (slice_set places c.args.place v) c.self.inside.order.items) (sym (c.note.ensures.noted ∙ ap (option_map (with_position c.args.position c.args.file)) read)) (still_in_order places c.self.inside.order.items c.args.place (with_position c.args.position c.args.file) c.self.invariant.0 (unit_at places c.args.place) refl at),
      c.self.invariant.1,
    )

pub returns-clause-changed : goal.returns-clause-changed
returns-clause-changed c =
    let places = c.self.inside.places.items in
    let at : IsSome (unit_at places c.args.place) = subst (λ (x : Units). IsSome (unit_at x.places c.args.place)) (sym c.self.view_is) c.requires.there in
    let read : c.index_mut.result.now ≡ unit_at places c.args.place = c.index_mut.ensures.value ∙ get_or_default places c.args.place c.index_mut.result.now None (at_below places c.args.place at) in
    subst (λ (o : Option OpenUnit). IfSome o (λ u. has_changed (with_position c.args.position c.args.file u) c.args.file ≡ true)) (read ∙ ap (λ (x : Units). unit_at x.places c.args.place) c.self.view_is) c.note.ensures.changed
