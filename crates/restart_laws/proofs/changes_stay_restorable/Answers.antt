use Rattle.restart_laws.proofs.StayLemmas.{keeps_restorable}
use Rattle.restart_laws.proofs.ChangingLemmas.{changes_restorable}
use Rattle.restart_laws.proofs.changes_stay_restorable.Goals as goal

pub returns-clause-acts : goal.returns-clause-acts
returns-clause-acts c = keeps_restorable

pub returns-clause-changes : goal.returns-clause-changes
returns-clause-changes c = changes_restorable
