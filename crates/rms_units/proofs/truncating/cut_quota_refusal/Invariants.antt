use Rattle.std.proofs.Common.{◌≡◌, ◌≤◌, ◌+◌, ◌-◌, length}
use Rattle.record_locks.specs.Locks.{not_locked}
use Rattle.rms_units.specs.Truncating.{cut_asked}
use Rattle.key_changes.specs.unit_cuts.Truncating.{keys_down}
use Rattle.rms_units.proofs.truncating.cut_quota_refusal.Given as goal

-- what is left is still to be counted
abbrev pub invariant-loop-behind : goal.invariant-loop-behind
invariant-loop-behind l = record {
  left : l.count + length (not_locked l.locks.locks l.cut.file (keys_down (l.cut.head.count - l.behind) (l.behind-end - l.behind))) ≡ length l.locks.locks + length (not_locked l.locks.locks l.cut.file (cut_asked l.cut.head l.cut.from));
  few : l.count ≤ 4097 + l.behind;
}
