use Rattle.seq_file.proofs.MapLaws.{map_set}
use Rattle.seq_file.proofs.law.list_set_sets.Goals as goal

pub returns : goal.returns
returns c = map_set
