use Rattle.std.proofs.Common.{refl}
use Rattle.std.specs.Fmt.{digits}
use Rattle.day_model.proofs.worked_days.Goals as goal

pub returns-clause-script : goal.returns-clause-script
unfolding digits
returns-clause-script c = refl
