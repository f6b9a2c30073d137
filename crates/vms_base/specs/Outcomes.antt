-- The outcomes and reasons that the code's values are.
use Rattle.vms_model.specs.Transactions as model
use Rattle.vms_base.specs.declared.outcomes.Outcome.{Outcome}
use Rattle.vms_base.specs.declared.outcomes.Outcome.TheVariants as outcome
use Rattle.vms_base.specs.declared.outcomes.Reason.{Reason}
use Rattle.vms_base.specs.declared.outcomes.Reason.TheVariants as reason

abbrev pub outcome_of : Outcome → model.Outcome
outcome_of outcome.Commit = model.Commit
outcome_of outcome.Abort = model.Abort

abbrev pub reason_of : Reason → model.Reason
reason_of reason.Aborted = model.Aborted
reason_of reason.Vetoed = model.Vetoed
reason_of reason.SyncFail = model.SyncFail
reason_of reason.Timeout = model.Timeout
reason_of reason.CommFail = model.CommFail
reason_of reason.SegFail = model.SegFail
