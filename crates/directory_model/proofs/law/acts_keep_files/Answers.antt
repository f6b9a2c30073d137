use Rattle.directory_model.proofs.Acts.{keeps_files}
use Rattle.directory_model.proofs.law.acts_keep_files.Goals as goal

pub returns : goal.returns
returns c = keeps_files
