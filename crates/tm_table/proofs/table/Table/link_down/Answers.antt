use Rattle.commit_protocol.specs.Table.{is_first}
use Rattle.commit_protocol.specs.Rows.{is_cut_off, is_under}
use Rattle.vms_model.specs.Transactions.{CommFail}
use Rattle.tm_table.proofs.SweepLemmas.{sweeps_apart, apart_first}
use Rattle.commit_protocol.specs.Messages.{same_name}
use Rattle.commit_protocol.specs.Rows.{is_noted}
use Rattle.std.proofs.Common.{◌&&◌, not}
use Rattle.std.specs.List.{list_any}
use Rattle.tm_table.proofs.table.Table.link_down.Goals as goal

pub returns : goal.returns
returns c =
    let x = c.args.other.now in
    sweeps_apart CommFail (is_cut_off x) (is_under x) (λ b h. apart_first (is_first b) (list_any (λ d. same_name d.serial.node x && not (is_noted d.vote)) b.accepted) h (same_name b.key.tid.node x))
    c.args.self.now c.sweep.new.self c.sweep-2.new.self c.sweep.ensures.done c.sweep.ensures.left c.sweep-2.ensures.done
