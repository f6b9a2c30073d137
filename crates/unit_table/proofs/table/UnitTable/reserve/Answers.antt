use Rattle.std.proofs.Common.{◌≡◌, ◌++◌, ◌∷◌, List, [], Option, None, replicate, subst, sym, ap, ◌∙◌, arith}
use Rattle.std.proofs.lemmas.List.{replicate_more}
use Rattle.unit_table.specs.Units.{OpenUnit}
use Rattle.unit_table.specs.Places.{AreInOrder}
use Rattle.unit_table.proofs.OrderLemmas.{empty_in_order}
use Rattle.unit_table.proofs.table.UnitTable.reserve.Goals as goal

pub loop-preserved : goal.loop-preserved
loop-preserved c =
    c.in_ok-push.ensures.items ∙ (λ i. c.loop.invariant i ++ c.in_ok-reserve.ensures i ∷ []) ∙ replicate_more c.loop.counter None

whole : (c : goal.In_ok-with_capacity) → c.loop.places.items ≡ replicate 64 None
whole c = let end : c.loop.counter ≡ 64 = (let most = c.loop.auto.counter-end in let far = c.loop-test.false in omega (arith, most, far)) in c.loop.invariant ∙ ap (λ n. replicate n None) end

pub invariant_of-result : goal.invariant_of-result
invariant_of-result c = (
  subst (λ (us : List (Option OpenUnit)). AreInOrder us c.in_ok-with_capacity.field-0.items) (sym (whole c)) (subst (AreInOrder (replicate 64 None)) (sym c.in_ok-with_capacity.ensures.items) empty_in_order),
  c.in_ok-with_capacity.ensures.capacity,
)

pub returns : goal.returns
returns c = λ i. record { places = whole c i; order = c.in_ok-with_capacity.ensures.items i }
