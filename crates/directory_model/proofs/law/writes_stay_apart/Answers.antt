use Rattle.directory_model.proofs.Apart.{writes_apart}
use Rattle.directory_model.proofs.law.writes_stay_apart.Goals as goal

pub returns : goal.returns
returns c = writes_apart
