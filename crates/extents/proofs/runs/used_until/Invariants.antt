use Rattle.std.proofs.Common.{◌≡◌, false, take}
use Rattle.extents.specs.Extents.{is_used}
use Rattle.extents.proofs.runs.used_until.Given as goal

abbrev pub invariant-loop-e : goal.invariant-loop-e
invariant-loop-e l = is_used (take l.e-index l.extents) l.block ≡ false
