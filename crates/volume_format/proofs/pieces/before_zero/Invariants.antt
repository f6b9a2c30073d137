use Rattle.std.proofs.Common.{◌≡◌, ◌++◌, take, drop}
use Rattle.file_base.specs.vms_base.Ids.{until_zero}
use Rattle.volume_format.proofs.pieces.before_zero.Given as goal

abbrev pub invariant-loop-i : goal.invariant-loop-i
invariant-loop-i l = until_zero l.bytes ≡ take l.i l.bytes ++ until_zero (drop l.i l.bytes)
