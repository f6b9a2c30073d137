use Rattle.seq_file.proofs.WalkLaws.{front_counts}
use Rattle.seq_file.proofs.sequential.SeqFile.cut.Goals as goal

pub cut_at-requires-clause-begins : goal.cut_at-requires-clause-begins
cut_at-requires-clause-begins g c = front_counts c.args.store.now.current c.args.head.now c.first.result c.first.ensures
