use Rattle.load_pages.proofs.TreeCounts.{tells_by}
use Rattle.recover_rms.proofs.replacing.wanted.Goals as goal

pub buckets-requires-clause-short : goal.buckets-requires-clause-short
buckets-requires-clause-short c = tells_by c.args.head.now.organization c.args.head.now c.args.records.now c.requires.greatest c.requires.kept.suit
