use Rattle.std.proofs.Common.{refl}
use Rattle.index_blocks.proofs.StageLaws.{bucket_lies}
use Rattle.index_blocks.proofs.descent.load_index.Goals as goal

pub load_bucket-requires-clause-in_home : goal.load_bucket-requires-clause-in_home
load_bucket-requires-clause-in_home g c = bucket_lies c.args.head.now c.args.store.now.disk c.args.store.now.disk c.args.n c.requires.placed refl c.requires.there
