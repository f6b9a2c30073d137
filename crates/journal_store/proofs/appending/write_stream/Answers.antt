use Rattle.std.proofs.Common.{◌≡◌, ℕ, ◌≤◌, ◌+◌, ◌*◌, ◌%◌, arith, ◌∙◌, ap, length, inr, refl, ⊎_elim}
use Rattle.journal_format.specs.journal_model.Ring.{ring_size}
use Rattle.journal_store.proofs.Streams.{wraps, goes_on, block_more_at}
use Rattle.journal_store.proofs.appending.write_stream.Goals as goal

pub overflow_add-span : goal.overflow_add-span
overflow_add-span g c = omega arith

pub loop-done-preserved-then-block-span : goal.loop-done-preserved-then-block-span
loop-done-preserved-then-block-span g c =
    let s = c.args.span.now in
    let old = c.loop-done.invariant in
    let here = old.at c.loop-done-test.true in
    let t : length c.write_block.new.store.touched ≤ length c.loop-done.store.touched + 1 = c.in_ok-write_block.ensures.touched in
    let before = old.touched c.loop-done-test.true in
    record {
      within = omega arith;
      block = c.requires.ring.some;
      place = omega arith;
      at = λ left. ap (λ (k : ℕ). k % ring_size s) (let e : c.args.at + (c.loop-done.done + c.min-count.result) ≡ c.args.at + c.loop-done.done + c.min-count.result = omega arith in e) ∙ wraps (c.args.at + c.loop-done.done) (ring_size s) (512 * c.loop-done.block + c.loop-done.place) c.min-count.result here (omega arith);
      first = inr refl;
      touched = λ left. ⊎_elim (λ (z : c.loop-done.done ≡ 0). omega (arith, t, before, z)) (λ (z : c.loop-done.place ≡ 0). omega (arith, t, before, z)) old.first;
      all = omega (arith, t, before);
      current = block_more_at c.args.bytes.now s c.args.at c.loop-done.done c.min-count.result _ c.loop-done.block c.loop-done.place _ c.loop-done.store.current c.write_block.new.store.current _ (omega arith) here old.block (omega arith) (omega arith) (omega arith) c.in_ok-write_block.ensures.current old.current;
      disk = c.in_ok-write_block.ensures.disk ∙ old.disk;
      pool = c.in_ok-write_block.ensures.pool ∙ old.pool;
      fits = c.in_ok-write_block.ensures.fits ∙ old.fits;
    }

pub loop-done-preserved : goal.loop-done-preserved
loop-done-preserved g c =
    let s = c.args.span.now in
    let old = c.loop-done.invariant in
    let here = old.at c.loop-done-test.true in
    let t : length c.write_block.new.store.touched ≤ length c.loop-done.store.touched + 1 = c.in_ok-write_block.ensures.touched in
    let before = old.touched c.loop-done-test.true in
    record {
      within = omega arith;
      block = omega arith;
      place = omega arith;
      at = λ left. ap (λ (k : ℕ). k % ring_size s) (let e : c.args.at + (c.loop-done.done + c.min-count.result) ≡ c.args.at + c.loop-done.done + c.min-count.result = omega arith in e) ∙ goes_on (c.args.at + c.loop-done.done) (ring_size s) (512 * c.loop-done.block + c.loop-done.place) c.min-count.result here (omega arith) ∙ omega arith;
      first = inr refl;
      touched = λ left. ⊎_elim (λ (z : c.loop-done.done ≡ 0). omega (arith, t, before, z)) (λ (z : c.loop-done.place ≡ 0). omega (arith, t, before, z)) old.first;
      all = omega (arith, t, before);
      current = block_more_at c.args.bytes.now s c.args.at c.loop-done.done c.min-count.result _ c.loop-done.block c.loop-done.place _ c.loop-done.store.current c.write_block.new.store.current _ (omega arith) here old.block (omega arith) (omega arith) (omega arith) c.in_ok-write_block.ensures.current old.current;
      disk = c.in_ok-write_block.ensures.disk ∙ old.disk;
      pool = c.in_ok-write_block.ensures.pool ∙ old.pool;
      fits = c.in_ok-write_block.ensures.fits ∙ old.fits;
    }
