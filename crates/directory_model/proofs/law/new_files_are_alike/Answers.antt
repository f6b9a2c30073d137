use Rattle.directory_model.proofs.Making.{makes_files}
use Rattle.directory_model.proofs.law.new_files_are_alike.Goals as goal

pub returns : goal.returns
returns c = makes_files
