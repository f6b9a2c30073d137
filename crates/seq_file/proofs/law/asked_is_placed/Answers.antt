use Rattle.seq_file.proofs.FileLaws.{asked_is_placed}
use Rattle.seq_file.proofs.law.asked_is_placed.Goals as goal

pub returns : goal.returns
returns c = asked_is_placed
