use Rattle.std.proofs.Common.{◌≡◌, not, None, Option, IsSome, slice_set, subst, sym, ap, ◌∙◌, arith, rules}
use Rattle.std.specs.Prelude.{◌==◌}
use Rattle.std.specs.List.{filter}
use Rattle.std.proofs.lemmas.Fn.{filter_same}
use Rattle.unit_table.specs.Units.{OpenUnit, Units, unit_at, without_place}
use Rattle.unit_table.specs.Places.{AreInOrder}
use Rattle.unit_table.proofs.OrderLemmas.{at_below, gone_in_order}
use Rattle.unit_table.proofs.table.UnitTable.remove.Goals as goal

kept : (c : goal.After-retain) → c.retain.new.self.items ≡ filter (λ p. not (p == c.args.place)) c.self.inside.order.items
kept c = filter_same _ (λ x. not (x == c.args.place)) _ (λ x b f' k. search rules) _ _ c.retain.ensures.filtered

pub invariant_of-self : goal.invariant_of-self
invariant_of-self c =
    let places = c.self.inside.places.items in
    let at : IsSome (unit_at places c.args.place) = subst (λ (x : Units). IsSome (unit_at x.places c.args.place)) (sym c.self.view_is) c.requires in
    let below = at_below places c.args.place at in
    let whole = c.self.invariant.0.whole in
    let gone = gone_in_order places c.self.inside.order.items c.self.invariant.0 c.args.place (omega (arith, below, whole)) at in (
      subst (λ (v : Option OpenUnit). AreInOrder (slice_set places c.args.place v) c.retain.new.self.items) (sym c.clear.ensures) (subst (AreInOrder (slice_set places c.args.place None)) (sym (kept c)) gone),
      (let roomy = c.retain.ensures.capacity in let room = c.self.invariant.1 in omega (arith, roomy, room)),
    )

pub returns : goal.returns
returns c = (λ i. record { places = slice_set c.self.inside.places.items c.args.place (c.clear.ensures i); order = kept c i }) ∙ ap (without_place c.args.place) c.self.view_is
