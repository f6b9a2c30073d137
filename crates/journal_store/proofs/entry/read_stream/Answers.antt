use Rattle.std.proofs.Common.{◌≡◌, ℕ, ◌+◌, ◌*◌, ◌%◌, arith, ◌∙◌, ap}
use Rattle.journal_format.specs.journal_model.Ring.{ring_size}
use Rattle.journal_store.proofs.Streams.{wraps, goes_on}
use Rattle.journal_store.proofs.Readings.{held_step}
use Rattle.journal_store.proofs.entry.read_stream.Goals as goal

pub loop-done-preserved-then-block-span : goal.loop-done-preserved-then-block-span
loop-done-preserved-then-block-span g c =
    let s = c.args.span.now in
    let old = c.loop-done.invariant in
    let here = old.at c.loop-done-test.true in
    let only = c.in_ok-read_block.ensures.only in
    record {
      from = omega arith;
      within = omega arith;
      block = c.requires.ring.some;
      place = omega arith;
      at = λ left. ap (λ (k : ℕ). k % ring_size s) (let e : c.args.position + (c.loop-done.done + c.min-count.result) ≡ c.args.position + c.loop-done.done + c.min-count.result = omega arith in e) ∙ wraps (c.args.position + c.loop-done.done) (ring_size s) (512 * c.loop-done.block + c.loop-done.place) c.min-count.result here (omega arith);
      length = c.in_ok-read_block.ensures.length ∙ old.length;
      read = held_step c.args.store.now.current c.loop-done.store.current s c.args.position c.args.from c.loop-done.done c.min-count.result c.loop-done.block c.loop-done.place _ c.args.out.now c.loop-done.out c.read_block.new.out old.only.current here old.block (omega arith) (omega arith) c.in_ok-read_block.ensures.before c.in_ok-read_block.ensures.read old.read;
      only = record { current = only.current ∙ old.only.current; touched = only.touched ∙ old.only.touched; disk = only.disk ∙ old.only.disk; pool = only.pool ∙ old.only.pool; fits = only.fits ∙ old.only.fits };
    }

pub loop-done-preserved : goal.loop-done-preserved
loop-done-preserved g c =
    let s = c.args.span.now in
    let old = c.loop-done.invariant in
    let here = old.at c.loop-done-test.true in
    let only = c.in_ok-read_block.ensures.only in
    record {
      from = omega arith;
      within = omega arith;
      block = omega arith;
      place = omega arith;
      at = λ left. ap (λ (k : ℕ). k % ring_size s) (let e : c.args.position + (c.loop-done.done + c.min-count.result) ≡ c.args.position + c.loop-done.done + c.min-count.result = omega arith in e) ∙ goes_on (c.args.position + c.loop-done.done) (ring_size s) (512 * c.loop-done.block + c.loop-done.place) c.min-count.result here (omega arith) ∙ omega arith;
      length = c.in_ok-read_block.ensures.length ∙ old.length;
      read = held_step c.args.store.now.current c.loop-done.store.current s c.args.position c.args.from c.loop-done.done c.min-count.result c.loop-done.block c.loop-done.place _ c.args.out.now c.loop-done.out c.read_block.new.out old.only.current here old.block (omega arith) (omega arith) c.in_ok-read_block.ensures.before c.in_ok-read_block.ensures.read old.read;
      only = record { current = only.current ∙ old.only.current; touched = only.touched ∙ old.only.touched; disk = only.disk ∙ old.only.disk; pool = only.pool ∙ old.only.pool; fits = only.fits ∙ old.only.fits };
    }
