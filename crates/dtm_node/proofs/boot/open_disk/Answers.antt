use Rattle.std.proofs.Common.{inl, rules}
use Rattle.careful_write.specs.State.{LeavesAsItWas}
use Rattle.dtm_node.proofs.Held.{booted_over, holds_open}
use Rattle.dtm_node.proofs.Mounting.{opened, open_fell}
use Rattle.dtm_node.proofs.boot.open_disk.Goals as goal

pub returns-in-Ok-clause-boots : goal.returns-in-Ok-clause-boots
returns-in-Ok-clause-boots g c = λ n a.
    c.mount_store.ensures.boots n (opened c.args.name (g.D.Disk.state c.args.disk) c.in-Ok.store n c.requires.settled c.in-Ok.ensures.idle c.in-Ok.ensures.current c.in-Ok.ensures.fits c.in-Ok.ensures.unfit c.in-Ok.ensures.quiet.size a)

pub returns-in-Err-clause-boots : goal.returns-in-Err-clause-boots
returns-in-Err-clause-boots g c = λ n a.
    let leaves : LeavesAsItWas (g.D.Disk.state c.args.disk).seen (g.D.Disk.state c.in-Err.field-0.disk) = search rules in
    inl (open_fell c.args.name (g.D.Disk.state c.args.disk) (g.D.Disk.state c.in-Err.field-0.disk) n leaves a)

pub returns-in-Ok-clause-booted : goal.returns-in-Ok-clause-booted
returns-in-Ok-clause-booted g c =
    let d = g.D.Disk.state c.args.disk in
    let s = c.in-Ok.store in
    booted_over g.D.Disk.state c.args.name d s.disk c.mount_store.result c.in-Ok.ensures.quiet (holds_open d s c.in-Ok.ensures.idle c.in-Ok.ensures.current c.in-Ok.ensures.fits c.in-Ok.ensures.unfit c.in-Ok.ensures.quiet.told) c.mount_store.ensures.booted
