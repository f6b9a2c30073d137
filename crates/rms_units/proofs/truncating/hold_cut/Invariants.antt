use Rattle.std.proofs.Common.{◌≡◌, ◌+◌, ◌-◌}
use Rattle.record_locks.specs.Locks.{with_locks}
use Rattle.vms_base.specs.Ids.{serial_of}
use Rattle.key_changes.specs.unit_cuts.Truncating.{keys_down}
use Rattle.rms_units.proofs.truncating.hold_cut.Given as goal

abbrev pub invariant-loop-i : goal.invariant-loop-i
invariant-loop-i l = l.locks ≡ record l.fn.locks { locks = with_locks (serial_of l.by) l.cut.file (keys_down (l.cut.from + l.i - 1) l.i) l.fn.locks.locks }
