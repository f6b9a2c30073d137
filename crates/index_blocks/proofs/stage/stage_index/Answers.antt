use Rattle.std.proofs.Common.{ap}
use Rattle.change_set.specs.careful_write.State.{StoreState}
use Rattle.index_blocks.proofs.StageLaws.{bucket_lies, bucket_staged}
use Rattle.index_blocks.proofs.stage.stage_index.Goals as goal

pub stage_bucket-requires-clause-in_home : goal.stage_bucket-requires-clause-in_home
stage_bucket-requires-clause-in_home g c = bucket_lies c.args.head.now c.args.store.now.disk _ c.args.n c.requires.placed (ap (λ (s : StoreState). s.disk) c.fill_frame.ensures.put) c.requires.there

pub returns-clause-state : goal.returns-clause-state
returns-clause-state g c =
    bucket_staged c.args.head.now c.args.frame.now c.args.n c.args.bytes.now c.args.store.now c.fill_frame.new.store c.stage_bucket.new.store c.requires.out c.requires.placed.from c.fill_frame.ensures.put c.stage_bucket.ensures
