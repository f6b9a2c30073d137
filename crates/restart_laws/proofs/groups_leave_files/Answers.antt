use Rattle.restart_laws.proofs.FallLemmas.{groups_leave}
use Rattle.restart_laws.proofs.StandLemmas.{left_stands, prepared_stays, stays_undone}
use Rattle.restart_laws.proofs.groups_leave_files.Goals as goal

pub returns-clause-groups : goal.returns-clause-groups
returns-clause-groups c = groups_leave

pub returns-clause-stands : goal.returns-clause-stands
returns-clause-stands c = left_stands

pub returns-clause-untouched : goal.returns-clause-untouched
returns-clause-untouched c = stays_undone

pub returns-clause-prepared : goal.returns-clause-prepared
returns-clause-prepared c = prepared_stays
