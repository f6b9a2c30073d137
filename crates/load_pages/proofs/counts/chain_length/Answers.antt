use Rattle.std.proofs.Common.{◌≡◌, ◌+◌, length, get_or, sym, ap, ◌∙◌, arith}
use Rattle.load_pages.specs.declared.records.KeyedRecord.{KeyedRecord}
use Rattle.load_pages.proofs.CountLemmas.{tells_at, counted_from, counts_fit, counts_over}
use Rattle.load_pages.proofs.counts.chain_length.Goals as goal
use Rattle.load_pages.proofs.counts.chain_length.Goals.{then-used-size, else-used-size}

pub loop-r-preserved : goal.loop-r-preserved
loop-r-preserved c =
    let rs = c.args.records.now in
    let i = c.loop-r.r-index in
    let d = c.r-item.result in
    let cap = c.args.capacity in
    let beside = c.args.beside in
    let before = c.loop-r.invariant in
    let same : length d.bytes.items ≡ length (get_or rs i d).bytes.items = ap (λ (r : KeyedRecord). length r.bytes.items) c.r-item.is in
    let long = c.len.ensures in
    let short = tells_at rs i d c.loop-r-test.true c.requires.short in
    let most = before.most in
    let least = before.least in
    elim c.if-used-size.branch [
      | then-used-size w ↦
          let test = w.if-used-size.true in
          let used = w.used-is in
          let buckets = w.buckets-is in
          record {
            counts = before.counts ∙ counts_fit cap beside rs i c.loop-r.buckets c.loop-r.used d c.loop-r-test.true (omega (arith, test, same, long))
                ∙ (λ k. counted_from cap beside rs (i + 1) (sym buckets k) ((let is : c.loop-r.used + (length (get_or rs i d).bytes.items + beside) ≡ c.if-used-size.used = omega (arith, used, same, long) in is) k));
            most = omega (arith, buckets, most);
            least = omega (arith, buckets, least);
            few = omega (arith, used, test, c.requires.most);
          }
      | else-used-size w ↦
          let test = w.if-used-size.false in
          let used = w.used-is in
          let buckets = w.buckets-is in
          record {
            counts = before.counts ∙ counts_over cap beside rs i c.loop-r.buckets c.loop-r.used d c.loop-r-test.true (omega (arith, test, same, long))
                ∙ (λ k. counted_from cap beside rs (i + 1) (sym buckets k) ((let is : length (get_or rs i d).bytes.items + beside ≡ c.if-used-size.used = omega (arith, used, same, long) in is) k));
            most = omega (arith, buckets, most);
            least = omega (arith, buckets, least);
            few = omega (arith, used, same, long, short, c.requires.few);
          }
    ]
