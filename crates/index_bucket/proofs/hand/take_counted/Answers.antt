use Rattle.std.proofs.Common.{◌+◌, ℕ, take, sym, ap, subst, ◌∙◌, arith}
use Rattle.bucket_page.specs.Pages.{slots_of, next_of, inserted}
use Rattle.index_model.specs.Indexes.{with_added}
use Rattle.index_bucket.specs.Entries.{index_kind, entries_at}
use Rattle.index_bucket.specs.Takes.{Takes, entries_of}
use Rattle.index_bucket.specs.declared.hand.Handed.{Handed}
use Rattle.index_bucket.proofs.HandLaws.{count_few, one_at, two_at}
use Rattle.index_bucket.proofs.hand.take_counted.Goals as goal

pub take_two-requires-clause-few : goal.take_two-requires-clause-few
take_two-requires-clause-few c = omega (arith, c.fan_out-fan_out.ensures.is, c.requires.counted, count_few c.args.head.now c.args.size (take c.args.size c.args.low.now) c.requires.sized c.requires.bucket.packed)

pub take_one-requires-clause-few : goal.take_one-requires-clause-few
take_one-requires-clause-few c = omega (arith, c.fan_out-fan_out.ensures.is, c.requires.counted, count_few c.args.head.now c.args.size (take c.args.size c.args.low.now) c.requires.sized c.requires.bucket.packed)

pub returns-in-One : goal.returns-in-One
returns-in-One c =
    let h = c.args.head.now in
    let size = c.args.size in
    let old = take size c.args.low.now in
    let s = slots_of (index_kind h) old in
    let first = take (h.key_size + 4) c.in-One.first in
    let at = c.find_entry-at.result in
    record {
      raws = inserted s (at + 1) first;
      entries = one_at h c.args.key.now first s at (omega (arith, c.requires.some, c.requires.counted)) c.find_entry-at.ensures.place
          ∙ ap (λ (x : Handed). with_added c.args.key.now (entries_of h x) (entries_at h old)) (sym c.in-One.is);
      takes = subst (λ (fan_out : ℕ). Takes (index_kind h) size fan_out (next_of old) (inserted s (at + 1) first) c.take_one.result (take size c.take_one.new.low) (take size c.take_one.new.high)) c.fan_out-fan_out.ensures.is c.take_one.ensures;
    }

pub returns-in-Two : goal.returns-in-Two
returns-in-Two c =
    let h = c.args.head.now in
    let size = c.args.size in
    let old = take size c.args.low.now in
    let s = slots_of (index_kind h) old in
    let first = take (h.key_size + 4) c.in-Two.first in
    let second = take (h.key_size + 4) c.in-Two.second in
    let at = c.find_entry-at.result in
    record {
      raws = inserted (inserted s (at + 1) first) (at + 1 + 1) second;
      entries = two_at h c.args.key.now first second s at (omega (arith, c.requires.some, c.requires.counted)) c.find_entry-at.ensures.place
          ∙ ap (λ (x : Handed). with_added c.args.key.now (entries_of h x) (entries_at h old)) (sym c.in-Two.is);
      takes = subst (λ (fan_out : ℕ). Takes (index_kind h) size fan_out (next_of old) (inserted (inserted s (at + 1) first) (at + 1 + 1) second) c.take_two.result (take size c.take_two.new.low) (take size c.take_two.new.high)) c.fan_out-fan_out.ensures.is c.take_two.ensures;
    }
