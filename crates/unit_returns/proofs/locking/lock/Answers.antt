use Rattle.vms_base.specs.Ids.{serial_of}
use Rattle.vms_base.specs.Keys.{key_of}
use Rattle.unit_returns.proofs.Locks.{held_one}
use Rattle.unit_returns.proofs.locking.lock.Goals as goal

pub returns : goal.returns
returns c = held_one (serial_of c.args.by.now) c.args.file (key_of c.args.key.now) c.args.locks.now c.lock.new.self c.lock.result c.lock.ensures.locks c.lock.ensures.refused c.lock.ensures.same
