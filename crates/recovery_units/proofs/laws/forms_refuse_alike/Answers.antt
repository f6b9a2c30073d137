use Rattle.recovery_units.proofs.FormLemmas.{forms}
use Rattle.recovery_units.proofs.laws.forms_refuse_alike.Goals as goal

pub returns : goal.returns
returns c = forms
