use Rattle.std.proofs.Common.{length}
use Rattle.reference_branches.proofs.shared.+with_serial.Given as goal

abbrev pub decreases-with_serial : goal.decreases-with_serial
decreases-with_serial l = length l.labels.items
