use Rattle.seq_file.proofs.PlacingLaws.{filled_is_placed}
use Rattle.seq_file.proofs.law.filled_is_placed.Goals as goal

pub returns : goal.returns
returns c = filled_is_placed
