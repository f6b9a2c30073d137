use Rattle.std.proofs.Common.{ap}
use Rattle.block_disk.specs.Disk.{DiskState}
use Rattle.careful_write.proofs.group.put_gate.Goals as goal

pub returns-clause-seen : goal.returns-clause-seen
returns-clause-seen g c = ap (λ (t : DiskState). t.seen) c.in_ok-write.ensures.ok
