use Rattle.seq_file.proofs.MapLaws.{map_cut}
use Rattle.seq_file.proofs.law.take_cuts.Goals as goal

pub returns : goal.returns
returns c = map_cut
