use Rattle.load_pages.proofs.TreeCounts.{tells_by}
use Rattle.load_tests.proofs.loadable.are_loadable.Goals as goal

pub buckets-requires-clause-short : goal.buckets-requires-clause-short
buckets-requires-clause-short c = tells_by c.args.head.now.organization c.args.head.now c.args.records.now c.requires.most (c.all_suit.ensures (c.if-not-all_suit).false)

pub returns-clause-short : goal.returns-clause-short
returns-clause-short c = λ is. tells_by c.args.head.now.organization c.args.head.now c.args.records.now c.requires.most (c.all_suit.ensures (c.if-not-all_suit).false)
