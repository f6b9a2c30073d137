use Rattle.volume_format.proofs.Heads.{head_written}
use Rattle.volume_format.proofs.head.write_head.Goals as goal

pub returns-clause-block : goal.returns-clause-block
returns-clause-block c = head_written c.args.head.now _ _ _ _ _ _ _ c.write_form.ensures.block c.write_extent.ensures.block c.write_span.ensures.block c.write_span-2.ensures.block c.write_64.ensures c.write_save.ensures.block
