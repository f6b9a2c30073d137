use Rattle.seq_file.proofs.FileLaws.{used_is}
use Rattle.seq_file.proofs.law.laid_out_is_placed.Goals as goal

pub returns : goal.returns
returns c = used_is
