use Rattle.std.proofs.Common.{arith}
use Rattle.unit_cuts.proofs.measuring.gone_size.Goals as goal

pub overflow_add-cut : goal.overflow_add-cut
overflow_add-cut c = let lies = c.removed-i-end.ensures.lies (omega arith) in let count = c.removed-i-end.ensures.fits in omega (arith, lies.1, count)
