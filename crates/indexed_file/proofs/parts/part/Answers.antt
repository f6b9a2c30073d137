use Rattle.std.proofs.Common.{◌≡◌, ◌≤◌, ◌+◌, ◌-◌, true, false, ℕ, length, take, map, subst, arith}
use Rattle.bucket_page.specs.Pages.{slots_of, next_of, inserted}
use Rattle.indexed_file.specs.Chain.{kind_of, slot_of}
use Rattle.std.proofs.lemmas.List.{length-take-le}
use Rattle.change_set.specs.records_model.Parts.{fits_at, has_place, IsBest}
use Rattle.indexed_file.proofs.AddLaws.{parts_two, parts_three}
use Rattle.indexed_file.proofs.parts.part.Goals as goal

pub part_in_two-requires-clause-fits : goal.part_in_two-requires-clause-fits
part_in_two-requires-clause-fits c =
    let h = c.args.head.now in
    let old = take c.args.size c.args.low.now in
    let slots = map (slot_of h) (inserted (slots_of (kind_of h) old) c.args.i c.args.slot.now) in
    let long : length old ≡ c.args.size = length-take-le c.args.size c.args.low.now c.requires.low_within in
    let some : 1 ≤ c.best_place-j.result = omega (arith, c.if-j-eq0.false) in
    subst (λ (n : ℕ). fits_at (n - 16) slots c.best_place-j.result ≡ true) long (c.best_place-j.ensures.some some).fits

pub returns-then-j-eq0-clause-parted : goal.returns-then-j-eq0-clause-parted
returns-then-j-eq0-clause-parted c =
    let h = c.args.head.now in
    let old = take c.args.size c.args.low.now in
    let s = slots_of (kind_of h) old in
    let slots = map (slot_of h) (inserted s c.args.i c.args.slot.now) in
    let long : length old ≡ c.args.size = length-take-le c.args.size c.args.low.now c.requires.low_within in
    let none = subst (λ (n : ℕ). has_place (n - 16) slots (length s + 1) ≡ false) long (c.best_place-j.ensures.none c.if-j-eq0.true) in
    parts_three h c.args.size c.args.fresh (next_of old) c.args.i s c.args.slot.now (take c.args.size c.part_in_three.new.low) (take c.args.size c.part_in_three.new.mid) (take c.args.size c.part_in_three.new.high)
    (omega (arith, c.requires.place, c.requires.counted)) c.requires.over none c.part_in_three.ensures.low c.part_in_three.ensures.mid c.part_in_three.ensures.high

pub returns-clause-parted : goal.returns-clause-parted
returns-clause-parted c =
    let h = c.args.head.now in
    let old = take c.args.size c.args.low.now in
    let s = slots_of (kind_of h) old in
    let slots = map (slot_of h) (inserted s c.args.i c.args.slot.now) in
    let long : length old ≡ c.args.size = length-take-le c.args.size c.args.low.now c.requires.low_within in
    let some : 1 ≤ c.best_place-j.result = omega (arith, c.if-j-eq0.false) in
    let best = subst (λ (n : ℕ). IsBest (n - 16) slots c.best_place-j.result) long (c.best_place-j.ensures.some some) in
    parts_two h c.args.size c.args.fresh (next_of old) c.args.i c.best_place-j.result s c.args.slot.now (take c.args.size c.part_in_two.new.low) (take c.args.size c.part_in_two.new.high) (take c.args.size c.args.high.now)
    c.requires.over best c.part_in_two.ensures.low c.part_in_two.ensures.high
