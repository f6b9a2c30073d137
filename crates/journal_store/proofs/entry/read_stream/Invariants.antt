use Rattle.std.proofs.Common.{◌≡◌, ℕ, ◌+◌, ◌-◌, ◌*◌, ◌<◌, ◌≤◌, ◌%◌, length, List, IfSome}
use Rattle.journal_format.specs.journal_model.Ring.{ring_size}
use Rattle.journal_store.specs.Reading.{Holds}
use Rattle.journal_store.specs.Refusing.{Stays}
use Rattle.journal_store.proofs.entry.read_stream.Given as goal

abbrev pub invariant-loop-done : goal.invariant-loop-done
invariant-loop-done g l = record {
  from : l.from ≤ l.done;
  within : l.done ≤ l.to;
  block : l.block < l.span.blocks;
  place : l.place < 512;
  at : l.done < l.to → (l.position + l.done) % ring_size l.span ≡ 512 * l.block + l.place;
  length : length l.out ≡ length l.fn.out;
  read : IfSome l.fn.store.current (λ (c : List (List ℕ)). Holds l.span l.position l.from l.fn.out c → Holds l.span l.position l.done l.out c);
  only : Stays l.fn.store l.store;
}

abbrev pub decreases-loop-done : goal.decreases-loop-done
decreases-loop-done g l = l.to - l.done
