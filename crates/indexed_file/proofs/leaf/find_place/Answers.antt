use Rattle.std.proofs.Common.{◌≡◌, ◌+◌, ◌-◌, ◌/◌, ap, sym, ◌∙◌, arith}
use Rattle.std.specs.Ordering.{nat_cmp}
use Rattle.std.specs.Cmp.Lexicographic.{slice_cmp}
use Rattle.std.specs.declared.cmp.Ordering.TheVariants.{Less, Equal, Greater}
use Rattle.bucket_page.specs.Pages.{slots_of, key_in}
use Rattle.indexed_file.specs.Chain.{kind_of}
use Rattle.indexed_file.specs.Places.{key_at}
use Rattle.indexed_file.proofs.LeafLaws.{all_lower, all_higher, place_of_equal}
use Rattle.indexed_file.proofs.leaf.find_place.Goals as goal

pub loop-low-preserved-in-Less : goal.loop-low-preserved-in-Less
loop-low-preserved-in-Less c =
    let h = c.args.head.now in
    let k = c.args.key.now in
    let slots = slots_of (kind_of h) c.args.bytes.now in
    let mid = c.loop-low.low + (c.loop-low.high - c.loop-low.low) / 2 in
    let less : slice_cmp nat_cmp (key_at h slots mid) k ≡ Less = ap (λ s. slice_cmp nat_cmp (key_in (kind_of h) s) k) (sym c.slot_from-end.ensures.is) ∙ sym c.in-Less.ensures.is in
    record {
      order = omega (arith, c.loop-low-test.true);
      within = c.loop-low.invariant.within;
      lower = all_lower h k slots mid c.requires.bucket.order (omega (arith, c.loop-low-test.true, c.loop-low.invariant.within)) less;
      higher = c.loop-low.invariant.higher;
      start = c.slot_from-end.ensures.end;
    }

pub returns-in-Equal : goal.returns-in-Equal
returns-in-Equal c =
    let h = c.args.head.now in
    let k = c.args.key.now in
    let slots = slots_of (kind_of h) c.args.bytes.now in
    let mid = c.loop-low.low + (c.loop-low.high - c.loop-low.low) / 2 in
    let same : slice_cmp nat_cmp (key_at h slots mid) k ≡ Equal = ap (λ s. slice_cmp nat_cmp (key_in (kind_of h) s) k) (sym c.slot_from-end.ensures.is) ∙ sym c.in-Equal.ensures.is in
    place_of_equal h k slots mid c.requires.bucket.order (omega (arith, c.loop-low-test.true, c.loop-low.invariant.within)) same

pub loop-low-preserved : goal.loop-low-preserved
loop-low-preserved c =
    let h = c.args.head.now in
    let k = c.args.key.now in
    let slots = slots_of (kind_of h) c.args.bytes.now in
    let mid = c.loop-low.low + (c.loop-low.high - c.loop-low.low) / 2 in
    let more : slice_cmp nat_cmp (key_at h slots mid) k ≡ Greater = ap (λ s. slice_cmp nat_cmp (key_in (kind_of h) s) k) (sym c.slot_from-end.ensures.is) ∙ sym c.in-Greater.ensures.is in
    record {
      order = omega (arith, c.loop-low-test.true);
      within = omega (arith, c.loop-low-test.true, c.loop-low.invariant.within);
      lower = c.loop-low.invariant.lower;
      higher = all_higher h k slots mid c.requires.bucket.order more;
      start = c.loop-low.invariant.start;
    }
