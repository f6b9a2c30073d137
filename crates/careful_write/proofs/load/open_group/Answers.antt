use Rattle.std.proofs.Common.{ap}
use Rattle.block_disk.specs.Disk.{DiskState}
use Rattle.careful_write.proofs.Exits.{on_err_so}
use Rattle.careful_write.proofs.GroupParts.{stop_reading}
use Rattle.careful_write.proofs.load.open_group.Goals as goal

pub returns-in_err-load_group-clause-err : goal.returns-in_err-load_group-clause-err
returns-in_err-load_group-clause-err g c =
    let state = c.in_err-load_group.ensures.state in
    on_err_so c.from_residual.result (stop_reading (g.D.Disk.state c.args.disk.now) (g.D.Disk.state c.load_group.new.disk) c.requires.settled (ap (λ (t : DiskState). t.pending) state) (ap (λ (t : DiskState). t.seen) state))
