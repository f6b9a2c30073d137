use Rattle.commit_protocol.specs.Table.{is_first}
use Rattle.commit_protocol.specs.Rows.{is_other}
use Rattle.vms_model.specs.Transactions.{SegFail}
use Rattle.tm_table.proofs.SweepLemmas.{sweeps_apart, apart_other}
use Rattle.tm_table.proofs.table.Table.run_down.Goals as goal

pub returns : goal.returns
returns c =
    sweeps_apart SegFail is_first is_other (λ b h. apart_other (is_first b) h)
    c.args.self.now c.sweep.new.self c.sweep-2.new.self c.sweep.ensures.done c.sweep.ensures.left c.sweep-2.ensures.done
