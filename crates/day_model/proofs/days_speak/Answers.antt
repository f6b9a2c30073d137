use Rattle.day_model.proofs.Speaking.{days_speak}
use Rattle.day_model.proofs.days_speak.Goals as goal

pub returns : goal.returns
returns c = days_speak
