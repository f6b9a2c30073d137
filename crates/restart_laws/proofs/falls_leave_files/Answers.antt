use Rattle.restart_laws.proofs.FallLemmas.{falls_leave}
use Rattle.restart_laws.proofs.PreparedLemmas.{prepared_stand}
use Rattle.restart_laws.proofs.falls_leave_files.Goals as goal

pub returns-clause-files : goal.returns-clause-files
returns-clause-files c = falls_leave

pub returns-clause-prepared : goal.returns-clause-prepared
returns-clause-prepared c = prepared_stand
