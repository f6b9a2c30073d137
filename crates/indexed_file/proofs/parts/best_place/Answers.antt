use Rattle.std.proofs.Common.{◌≡◌, ◌+◌, ◌-◌, length, map, ℕ, subst, ap, arith}
use Rattle.std.proofs.lemmas.List.{length-map, take_all}
use Rattle.bucket_page.specs.Pages.{slots_of, inserted}
use Rattle.bucket_page.proofs.PageLaws.{length-inserted}
use Rattle.change_set.specs.records_model.Parts.{bytes_of}
use Rattle.indexed_file.specs.Chain.{kind_of, slot_of}
use Rattle.indexed_file.specs.Raws.{BestTo}
use Rattle.indexed_file.proofs.PlaceLaws.{best_none, best_more, best_found, best_missing, bytes_all}
use Rattle.indexed_file.proofs.parts.best_place.Goals as goal

pub loop-j-init : goal.loop-j-init
loop-j-init c = record { best = best_none _ _ }

pub overflow_sub-high : goal.overflow_sub-high
overflow_sub-high c =
    let h = c.args.head.now in
    let s = slots_of (kind_of h) c.args.bytes.now in
    let slots = map (slot_of h) (inserted s c.args.i c.args.slot.now) in
    let count = length-map (inserted s c.args.i c.args.slot.now) (slot_of h) in
    let all = ap bytes_of (take_all (c.args.count + 1) slots (omega (arith, count, length-inserted s c.args.i c.args.slot.now, c.requires.counted))) in
    omega (arith, c.bytes_to-low.ensures.is, c.bytes_to-total.ensures.is, all, bytes_all slots c.loop-j.j)

pub loop-j-preserved : goal.loop-j-preserved
loop-j-preserved c =
    let h = c.args.head.now in
    let s = slots_of (kind_of h) c.args.bytes.now in
    let slots = map (slot_of h) (inserted s c.args.i c.args.slot.now) in
    let count = length-map (inserted s c.args.i c.args.slot.now) (slot_of h) in
    let size = length-inserted s c.args.i c.args.slot.now in
    let all = ap bytes_of (take_all (c.args.count + 1) slots (omega (arith, count, size, c.requires.counted))) in
    record {
      best = best_more (length c.args.bytes.now - 16) slots c.loop-j.j c.loop-j.best c.loop-j.least c.bytes_to-low.result c.bytes_to-total.result c.max-greater.result c.chosen-best.result c.chosen-least.result c.is_better-better.result
          c.loop-j.auto.j (omega (arith, c.loop-j-test.true, count, size, c.requires.counted)) c.bytes_to-low.ensures.is (omega (arith, c.bytes_to-low.ensures.is, c.bytes_to-total.ensures.is, all, bytes_all slots c.loop-j.j)) c.max-greater.ensures
          c.is_better-better.ensures c.chosen-best.ensures c.chosen-least.ensures c.loop-j.invariant.best;
    }

pub returns-clause-some : goal.returns-clause-some
returns-clause-some c = λ some.
    let h = c.args.head.now in
    let s = slots_of (kind_of h) c.args.bytes.now in
    let slots = map (slot_of h) (inserted s c.args.i c.args.slot.now) in
    let end : c.loop-j.j ≡ length slots = omega (arith, c.loop-j-test.false, c.loop-j.auto, length-map (inserted s c.args.i c.args.slot.now) (slot_of h), length-inserted s c.args.i c.args.slot.now, c.requires.counted) in
    best_found (length c.args.bytes.now - 16) slots c.loop-j.best c.loop-j.least some (subst (λ (n : ℕ). BestTo (length c.args.bytes.now - 16) slots n c.loop-j.best c.loop-j.least) end c.loop-j.invariant.best)

pub returns-clause-none : goal.returns-clause-none
returns-clause-none c = λ none.
    let h = c.args.head.now in
    let s = slots_of (kind_of h) c.args.bytes.now in
    let slots = map (slot_of h) (inserted s c.args.i c.args.slot.now) in
    let count = length-map (inserted s c.args.i c.args.slot.now) (slot_of h) in
    let size = length-inserted s c.args.i c.args.slot.now in
    let end : c.loop-j.j ≡ length s + 1 = omega (arith, c.loop-j-test.false, c.loop-j.auto, c.requires.counted) in
    best_missing (length c.args.bytes.now - 16) slots (length s + 1) c.loop-j.best c.loop-j.least (omega (arith, count, size)) none (subst (λ (n : ℕ). BestTo (length c.args.bytes.now - 16) slots n c.loop-j.best c.loop-j.least) end c.loop-j.invariant.best)

pub returns-clause-within : goal.returns-clause-within
returns-clause-within c = omega (arith, c.loop-j.invariant.best.below, c.loop-j-test.false, c.loop-j.auto)
