use Rattle.day_model.proofs.Speaking.{days_make_once}
use Rattle.day_model.proofs.days_make_once.Goals as goal

pub returns : goal.returns
returns c = days_make_once
