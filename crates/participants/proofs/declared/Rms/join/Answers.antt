use Rattle.std.proofs.Common.{sym, ◌∙◌}
use Rattle.tm_types.specs.Branches.{branch_of}
use Rattle.vms_base.specs.Ids.{serial_of}
use Rattle.participants.proofs.RefusingLemmas.{joins_allowed}
use Rattle.participants.proofs.declared.Rms.join.Goals as goal

pub returns-clause-allowed : goal.returns-clause-allowed
returns-clause-allowed c = joins_allowed c.args.table.now (serial_of c.args.serial.now) c.args.rm.now (branch_of c.in_Some-branch.branch.now) (sym c.in_Some-branch.ensures) (sym c.is_joinable.ensures ∙ c.if-not-is_joinable.false) (sym c.is_full.ensures ∙ c.if-is_full.false)
