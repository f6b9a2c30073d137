use Rattle.std.proofs.Common.{length}
use Rattle.index_bucket.proofs.EntryLaws.{entry_within}
use Rattle.index_bucket.proofs.entries.entry_start.Goals as goal

pub returns-clause-within : goal.returns-clause-within
returns-clause-within c = entry_within c.args.head.now (length c.args.bytes.now) c.args.i c.args.bytes.now c.requires.packed c.requires.there
