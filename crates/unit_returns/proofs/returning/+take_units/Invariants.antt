use Rattle.std.proofs.Common.{length}
use Rattle.unit_returns.proofs.returning.+take_units.Given as goal

abbrev pub decreases-take_units : goal.decreases-take_units
decreases-take_units g l = length l.records.now
