use Rattle.std.proofs.Common.{sym}
use Rattle.tm_types.specs.Branches.{branch_of}
use Rattle.tm_types.specs.Parts.{log_record_of, reply_of}
use Rattle.vms_base.specs.Ids.{serial_of}
use Rattle.participants.proofs.RefusingLemmas.{records_allowed, replies_allowed, taken_branch, taken_record}
use Rattle.participants.proofs.declared.Rms.reply.Goals as goal

pub returns-in_ok-test_branch-in_Some-branch-clause-allowed : goal.returns-in_ok-test_branch-in_Some-branch-clause-allowed
returns-in_ok-test_branch-in_Some-branch-clause-allowed c = replies_allowed c.args.table.now (serial_of c.args.serial.now) c.args.rm.now (reply_of c.args.reply) (branch_of c.in_Some-branch.branch.now) (sym c.in_Some-branch.ensures)
    (taken_branch c.args.rm.now (reply_of c.args.reply) c.args.self.now (branch_of c.in_Some-branch.branch.now) c.in_ok-test_branch-in_Some-branch.ensures.unrefused)

pub returns-in_ok-test_record-in-Some-clause-allowed : goal.returns-in_ok-test_record-in-Some-clause-allowed
returns-in_ok-test_record-in-Some-clause-allowed c =
    let t = taken_record c.args.rm.now (reply_of c.args.reply) c.args.self.now (log_record_of c.in-Some.committed.now) c.in_ok-test_record-in-Some.ensures.unrefused in
    records_allowed c.args.table.now (serial_of c.args.serial.now) c.args.rm.now (reply_of c.args.reply) (log_record_of c.in-Some.committed.now) (sym c.in_None-branch.ensures) (sym c.in-Some.ensures) t.0 t.1
