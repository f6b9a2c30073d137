use Rattle.std.proofs.Common.{◌≡◌, ◌+◌, ◌-◌, ◌/◌, refl, ap, sym, ◌∙◌, arith}
use Rattle.std.specs.Ordering.{nat_cmp}
use Rattle.std.specs.Cmp.Lexicographic.{slice_cmp}
use Rattle.std.specs.declared.cmp.Ordering.TheVariants.{Less, Equal, Greater}
use Rattle.bucket_page.specs.Pages.{slots_of, key_in}
use Rattle.index_bucket.specs.Entries.{index_kind}
use Rattle.index_bucket.proofs.EntryLaws.{separator_at, all_lead, all_above, place_found}
use Rattle.index_bucket.proofs.entries.find_entry.Goals as goal

pub loop-low-preserved-in-Less : goal.loop-low-preserved-in-Less
loop-low-preserved-in-Less c =
    let h = c.args.head.now in
    let k = c.args.key.now in
    let slots = slots_of (index_kind h) c.args.bytes.now in
    let mid = c.loop-low.low + (c.loop-low.high - c.loop-low.low) / 2 in
    let less : slice_cmp nat_cmp (separator_at h slots mid) k ≡ Less = ap (λ s. slice_cmp nat_cmp (key_in (index_kind h) s) k) (sym c.entry.ensures.is) ∙ sym c.in-Less.ensures.is in
    record {
      order = omega (arith, c.loop-low-test.true);
      within = c.loop-low.invariant.within;
      lower = all_lead h k slots mid Less c.requires.bucket.order (omega (arith, c.loop-low-test.true, c.loop-low.invariant.within)) less refl;
      higher = c.loop-low.invariant.higher;
    }

pub loop-low-preserved-in-Equal : goal.loop-low-preserved-in-Equal
loop-low-preserved-in-Equal c =
    let h = c.args.head.now in
    let k = c.args.key.now in
    let slots = slots_of (index_kind h) c.args.bytes.now in
    let mid = c.loop-low.low + (c.loop-low.high - c.loop-low.low) / 2 in
    let same : slice_cmp nat_cmp (separator_at h slots mid) k ≡ Equal = ap (λ s. slice_cmp nat_cmp (key_in (index_kind h) s) k) (sym c.entry.ensures.is) ∙ sym c.in-Equal.ensures.is in
    record {
      order = omega (arith, c.loop-low-test.true);
      within = c.loop-low.invariant.within;
      lower = all_lead h k slots mid Equal c.requires.bucket.order (omega (arith, c.loop-low-test.true, c.loop-low.invariant.within)) same refl;
      higher = c.loop-low.invariant.higher;
    }

pub loop-low-preserved : goal.loop-low-preserved
loop-low-preserved c =
    let h = c.args.head.now in
    let k = c.args.key.now in
    let slots = slots_of (index_kind h) c.args.bytes.now in
    let mid = c.loop-low.low + (c.loop-low.high - c.loop-low.low) / 2 in
    let more : slice_cmp nat_cmp (separator_at h slots mid) k ≡ Greater = ap (λ s. slice_cmp nat_cmp (key_in (index_kind h) s) k) (sym c.entry.ensures.is) ∙ sym c.in-Greater.ensures.is in
    record {
      order = omega (arith, c.loop-low-test.true);
      within = omega (arith, c.loop-low-test.true, c.loop-low.invariant.within);
      lower = c.loop-low.invariant.lower;
      higher = all_above h k slots mid c.requires.bucket.order more;
    }

pub returns-then-low-eq0-clause-place : goal.returns-then-low-eq0-clause-place
returns-then-low-eq0-clause-place c =
    let h = c.args.head.now in
    let inv = c.loop-low.invariant in
    let none : 0 ≡ c.loop-low.low - 1 = omega (arith, c.if-low-eq0.true) in
    none ∙ sym (place_found h c.args.key.now (slots_of (index_kind h) c.args.bytes.now) c.loop-low.low c.loop-low.high inv.order inv.within c.loop-low-test.false inv.lower inv.higher)

pub returns-clause-place : goal.returns-clause-place
returns-clause-place c =
    let h = c.args.head.now in
    let inv = c.loop-low.invariant in
    sym (place_found h c.args.key.now (slots_of (index_kind h) c.args.bytes.now) c.loop-low.low c.loop-low.high inv.order inv.within c.loop-low-test.false inv.lower inv.higher)
