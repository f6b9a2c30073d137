use Rattle.seq_file.proofs.FileLaws.{append_takes}
use Rattle.seq_file.proofs.law.append_takes.Goals as goal

pub returns : goal.returns
returns c = append_takes
