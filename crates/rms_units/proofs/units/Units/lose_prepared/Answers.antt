-- What a unit held is free.
use Rattle.vms_base.specs.Ids.{serial_of}
use Rattle.rms_units.proofs.Holding.{released_fits}
use Rattle.rms_units.proofs.units.Units.lose_prepared.Goals as goal

pub invariant_of-self : goal.invariant_of-self
invariant_of-self c = released_fits (serial_of c.branch-branch.result.serial) c.self.inside.locks c.release_all.new.self c.release_all.ensures.locks c.self.invariant.0 c.self.invariant.1
