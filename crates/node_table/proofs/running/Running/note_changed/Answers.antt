use Rattle.std.proofs.Common.{ap, ◌∙◌}
use Rattle.net_wire.specs.commit_protocol.Table.{Tm}
use Rattle.vms_base.specs.Ids.{serial_of}
use Rattle.node_table.specs.Code.{up_of}
use Rattle.node_table.proofs.Noting.{changed_after}
use Rattle.node_table.proofs.running.Running.note_changed.Goals as goal

pub returns : goal.returns
returns g c =
    let old = up_of g.U.RecoveryUnits.state c.args.self.now in
    ap (λ (t : Tm). record old { tm = t }) (c.step.ensures.table ∙ changed_after c.args.self.now.table (serial_of c.args.serial) c.requires.allowed)
