use Rattle.std.proofs.Common.{◌≡◌, ◌-◌, option_map}
use Rattle.vms_base.specs.Ids.{serial_of}
use Rattle.key_changes.specs.Changing.{locks_refuse}
use Rattle.key_changes.specs.unit_cuts.Truncating.{keys_cut, keys_down}
use Rattle.rms_units.proofs.truncating.cut_lock_refusal.Given as goal

-- what is left answers for all
abbrev pub invariant-loop-behind : goal.invariant-loop-behind
invariant-loop-behind l = locks_refuse (option_map serial_of l.by) l.cut.file (keys_cut l.cut.head l.cut.from) l.locks.locks ≡ locks_refuse (option_map serial_of l.by) l.cut.file (keys_down (l.cut.head.count - l.behind) (l.behind-end - l.behind)) l.locks.locks
