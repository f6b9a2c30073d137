use Rattle.directory_model.proofs.Finding.{finds_files}
use Rattle.directory_model.proofs.law.files_are_found_by_name.Goals as goal

pub returns : goal.returns
returns c = finds_files
