use Rattle.std.proofs.Common.{ap, arith}
use Rattle.careful_write.specs.State.{StoreState}
use Rattle.index_blocks.proofs.StageLaws.{stages_one}
use Rattle.indexed_tree.proofs.StoreLaws.{sets_back}
use Rattle.indexed_tree.proofs.back.put_back.Goals as goal

pub returns-clause-back : goal.returns-clause-back
returns-clause-back g c =
    sets_back c.args.store.now.current c.stage_index.new.store.current c.args.head.now c.args.store.now.disk c.args.n c.args.bytes.now c.requires.form c.requires.placed c.stage_index.ensures.whole (ap (λ (s : StoreState). s.current) c.stage_index.ensures.state)

pub returns-clause-stages : goal.returns-clause-stages
returns-clause-stages g c =
    stages_one c.args.head.now c.args.frame.now c.args.n c.args.bytes.now c.args.store.now c.stage_index.new.store (omega (arith, c.requires.there, c.requires.form.within)) c.stage_index.ensures.state
