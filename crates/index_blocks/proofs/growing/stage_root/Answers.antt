use Rattle.std.proofs.Common.{length, ap, arith}
use Rattle.change_set.specs.careful_write.State.{StoreState}
use Rattle.index_bucket.specs.Takes.{entries_of}
use Rattle.index_blocks.proofs.StageLaws.{blocks_few, stages_one}
use Rattle.index_blocks.proofs.ClimbLaws.{root_told}
use Rattle.index_blocks.proofs.growing.stage_root.Goals as goal

pub returns-clause-few : goal.returns-clause-few
returns-clause-few g c =
    omega (arith, blocks_few c.args.head.now c.args.fresh c.args.store.now.touched c.requires.placed.blocks, ap (λ (s : StoreState). length s.touched) c.stage_index.ensures.state)

pub returns-clause-climbs : goal.returns-clause-climbs
returns-clause-climbs g c =
    let h = c.args.head.now in
    root_told c.args.store.now.current c.stage_index.new.store.current h c.args.store.now.disk c.args.key.now (entries_of h c.args.handed.now) c.args.fresh c.make_root.new.bytes c.requires.placed c.requires.free c.stage_index.ensures.whole
    (ap (λ (s : StoreState). s.current) c.stage_index.ensures.state) c.make_root.ensures

pub returns-clause-stages : goal.returns-clause-stages
returns-clause-stages g c = stages_one c.args.head.now c.args.frame.now c.args.fresh c.make_root.new.bytes c.args.store.now c.stage_index.new.store c.requires.free c.stage_index.ensures.state
