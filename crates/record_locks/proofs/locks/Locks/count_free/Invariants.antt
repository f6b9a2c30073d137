use Rattle.std.proofs.Common.{◌≡◌, ◌≤◌, length, map, take}
use Rattle.vms_base.specs.Keys.{key_of}
use Rattle.record_locks.specs.Locks.{not_locked}
use Rattle.record_locks.proofs.locks.Locks.count_free.Given as goal

abbrev pub invariant-loop-key : goal.invariant-loop-key
invariant-loop-key l = record {
  count : l.free ≡ length (not_locked l.self.locks l.file (map key_of (take l.key-index l.keys)));
  few : l.free ≤ l.key-index;
}
