use Rattle.std.proofs.Common.{◌≡◌, length, take}
use Rattle.record_locks.specs.Turns.{turn_of, held_now}
use Rattle.record_locks.proofs.lock_log.keep_all.Given as goal

abbrev pub invariant-loop-entry : goal.invariant-loop-entry
invariant-loop-entry l = record {
  held : l.other.held ≡ held_now (turn_of l.turns.entries) (take l.entry-index l.log);
  used : l.other.used ≡ length l.other.held;
  room : l.other.room ≡ l.fn.other.room;
}
