use Rattle.std.proofs.Common.{sym, ◌∙◌}
use Rattle.tm_types.specs.Branches.{branch_of}
use Rattle.tm_types.specs.Parts.{log_record_of}
use Rattle.vms_base.specs.Ids.{serial_of}
use Rattle.node_requests.proofs.Beginning.{some_copied, taken_by_branch, taken_by_none, taken_by_record}
use Rattle.node_requests.proofs.transactions.is_taken.Goals as goal

pub returns-then-is_some-clause-taken : goal.returns-then-is_some-clause-taken
returns-then-is_some-clause-taken g c = λ h.
    let tm = c.args.running.now.table in
    taken_by_branch (serial_of c.args.serial.now) tm.table tm.records (sym (some_copied branch_of c.branch-running.result _ c.branch-running.ensures) ∙ sym c.is_some.ensures ∙ h)

pub returns-else-is_some-clause-free : goal.returns-else-is_some-clause-free
returns-else-is_some-clause-free g c = λ h i.
    let tm = c.args.running.now.table in
    taken_by_none (serial_of c.args.serial.now) tm.table tm.records (sym (some_copied branch_of c.branch-running.result _ c.branch-running.ensures) ∙ sym c.is_some.ensures ∙ c.if-is_some.false)
    (sym (some_copied log_record_of c.committed.result _ c.committed.ensures) ∙ sym c.is_some-else-is_some.ensures ∙ h) i

pub returns-else-is_some-clause-taken : goal.returns-else-is_some-clause-taken
returns-else-is_some-clause-taken g c = λ h.
    let tm = c.args.running.now.table in
    taken_by_record (serial_of c.args.serial.now) tm.table tm.records (sym (some_copied log_record_of c.committed.result _ c.committed.ensures) ∙ sym c.is_some-else-is_some.ensures ∙ h)
