use Rattle.std.proofs.Common.{length}
use Rattle.reference_run.proofs.rack.Rack.+parts.Given as goal

abbrev pub decreases-parts : goal.decreases-parts
decreases-parts l = length l.parts.now
