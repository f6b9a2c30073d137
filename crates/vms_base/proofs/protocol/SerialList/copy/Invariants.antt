use Rattle.std.proofs.Common.{◌≡◌, ◌≤◌, take}
use Rattle.vms_base.proofs.protocol.SerialList.copy.Given as goal

abbrev pub invariant-loop-s : goal.invariant-loop-s
invariant-loop-s l = l.list ≡ take l.s-index l.s-items
