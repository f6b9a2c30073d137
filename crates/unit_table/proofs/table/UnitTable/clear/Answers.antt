use Rattle.std.proofs.Common.{◌≡◌, List, Option, None, replicate, subst, sym, arith}
use Rattle.unit_table.specs.Units.{OpenUnit}
use Rattle.unit_table.specs.Places.{AreInOrder}
use Rattle.unit_table.proofs.OrderLemmas.{all_none, empty_in_order}
use Rattle.unit_table.proofs.table.UnitTable.clear.Goals as goal

none : (c : goal.After-clear-2) → c.loop-i.self-inside.places.items ≡ replicate 64 None
none c = all_none 64 c.loop-i.self-inside.places.items c.loop-i.invariant.0 (λ p below. c.loop-i.invariant.1 p (let most = c.loop-i.auto.i-end in let far = c.loop-i-test.false in omega (arith, most, far, below)))

pub invariant_of-self : goal.invariant_of-self
invariant_of-self c = (
  subst (λ (us : List (Option OpenUnit)). AreInOrder us c.clear-2.new.self.items) (sym (none c)) (subst (AreInOrder (replicate 64 None)) (sym c.clear-2.ensures.items) empty_in_order),
  (let roomy = c.clear-2.ensures.capacity in let room = c.loop-i.invariant.2 in omega (arith, roomy, room)),
)

pub returns : goal.returns
returns c = λ i. record { places = none c i; order = c.clear-2.ensures.items i }
