use Rattle.directory_model.proofs.Reading.{reads_files}
use Rattle.directory_model.proofs.law.records_are_read_alike.Goals as goal

pub returns : goal.returns
returns c = reads_files
