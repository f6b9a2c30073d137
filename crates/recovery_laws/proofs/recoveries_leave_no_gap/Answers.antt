use Rattle.recovery_laws.proofs.MappedLemmas.{acts_keep_mapped, mapped_give}
use Rattle.recovery_laws.proofs.recoveries_leave_no_gap.Goals as goal

pub returns-clause-acts : goal.returns-clause-acts
returns-clause-acts c = acts_keep_mapped

pub returns-clause-given : goal.returns-clause-given
returns-clause-given c = mapped_give
