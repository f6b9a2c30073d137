use Rattle.std.proofs.Common.{◌*◌, ◌-◌, ◌+◌, arith}
use Rattle.std.proofs.Math.Nat.{div-le_self}
use Rattle.volume.proofs.limits.cells_of.Goals as goal

pub returns-clause-few : goal.returns-clause-few
returns-clause-few c = omega (arith, div-le_self (512 * c.from.result - 16) (c.from-2.result + 2), c.requires.most_blocks)
