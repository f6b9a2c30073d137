use Rattle.std.proofs.Common.{◌≡◌, ℕ, ◌+◌, ◌-◌, ◌*◌, ◌<◌, ◌≤◌, ◌⊎◌, ◌%◌, length, drop, option_map, List}
use Rattle.journal_format.specs.journal_model.Ring.{put_stream, ring_size}
use Rattle.journal_store.proofs.appending.write_stream.Given as goal

abbrev pub invariant-loop-done : goal.invariant-loop-done
invariant-loop-done g l = record {
  within : l.done ≤ length l.bytes;
  block : l.block < l.span.blocks;
  place : l.place < 512;
  at : l.done < length l.bytes → (l.at + l.done) % ring_size l.span ≡ 512 * l.block + l.place;
  first : (l.done ≡ 0) ⊎ (l.place ≡ 0);
  touched : l.done < length l.bytes → 512 * length l.store.touched ≤ 512 * length l.fn.store.touched + l.done + 511;
  all : 512 * length l.store.touched ≤ 512 * length l.fn.store.touched + length l.bytes + 1022;
  current : option_map (λ (c : List (List ℕ)). put_stream c l.span (l.at + l.done) (drop l.done l.bytes)) l.store.current ≡ option_map (λ (c : List (List ℕ)). put_stream c l.span l.at l.bytes) l.fn.store.current;
  disk : l.store.disk ≡ l.fn.store.disk;
  pool : l.store.pool ≡ l.fn.store.pool;
  fits : l.store.fits ≡ l.fn.store.fits;
}

abbrev pub decreases-loop-done : goal.decreases-loop-done
decreases-loop-done g l = length l.bytes - l.done
