use Rattle.std.proofs.Common.{◌-◌}
use Rattle.save_sets.specs.Copies.{is_within}
use Rattle.save_sets.proofs.CopyLaws.{answer_leaves, on_err_so}
use Rattle.save_sets.proofs.copying.copy_group.Goals as goal

pub returns-in_err-stage_copies-clause-down : goal.returns-in_err-stage_copies-clause-down
returns-in_err-stage_copies-clause-down g c =
    on_err_so c.from_residual.result (answer_leaves (is_within (c.args.to - 518) c.args.count) c.stage_copies.result c.args.store.now c.stage_copies.new.store.disk c.one_content.ensures c.requires.idle c.stage_copies.ensures.disk)
