use Rattle.restart_laws.proofs.PreparedLemmas.{undoes_keep_prepared}
use Rattle.restart_laws.proofs.RestorableLemmas.{others_stay_restorable, undoes_leave}
use Rattle.restart_laws.proofs.undone_units_settle.Goals as goal

pub returns-clause-unit : goal.returns-clause-unit
returns-clause-unit c = undoes_leave

pub returns-clause-others : goal.returns-clause-others
returns-clause-others c = others_stay_restorable

pub returns-clause-prepared : goal.returns-clause-prepared
returns-clause-prepared c = undoes_keep_prepared
