use Rattle.directory_model.proofs.Apart.{lie_apart}
use Rattle.directory_model.proofs.law.files_lie_apart.Goals as goal

pub returns : goal.returns
returns c = lie_apart
