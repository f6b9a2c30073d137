use Rattle.script_lang.proofs.grammar.operands.Goals as goal

pub returns-in-Init : goal.returns-in-Init
returns-in-Init c = rw c.in-Init.is (c.init.ensures c.args.lit.now)

pub returns-in-Boot : goal.returns-in-Boot
returns-in-Boot c = rw c.in-Boot.is (c.boot.ensures c.args.lit.now)

pub returns-in-Create : goal.returns-in-Create
returns-in-Create c = rw c.in-Create.is (c.create.ensures c.args.lit.now)

pub returns-in-SetFile : goal.returns-in-SetFile
returns-in-SetFile c = rw c.in-SetFile.is (c.set_file.ensures c.args.lit.now)

pub returns-in-StartTrans : goal.returns-in-StartTrans
returns-in-StartTrans c = rw c.in-StartTrans.is (c.start_trans.ensures c.args.lit.now)

pub returns-in-AddBranch : goal.returns-in-AddBranch
returns-in-AddBranch c = rw c.in-AddBranch.is (c.add_branch.ensures c.args.lit.now)

pub returns-in-StartBranch : goal.returns-in-StartBranch
returns-in-StartBranch c = rw c.in-StartBranch.is (c.start_branch.ensures c.args.lit.now)

pub returns-in-Put : goal.returns-in-Put
returns-in-Put c = rw c.in-Put.is c.put.ensures

pub returns-in-Update : goal.returns-in-Update
returns-in-Update c = rw c.in-Update.is c.update.ensures

pub returns-in-Delete : goal.returns-in-Delete
returns-in-Delete c = rw c.in-Delete.is c.delete.ensures

pub returns-in-Truncate : goal.returns-in-Truncate
returns-in-Truncate c = rw c.in-Truncate.is (c.truncate.ensures c.args.lit.now)

pub returns-in-Get : goal.returns-in-Get
returns-in-Get c = rw c.in-Get.is c.get.ensures

pub returns-in-Next : goal.returns-in-Next
returns-in-Next c = rw c.in-Next.is c.next.ensures

pub returns-in-EndBranch : goal.returns-in-EndBranch
returns-in-EndBranch c = rw c.in-EndBranch.is (c.end_branch.ensures c.args.lit.now)

pub returns-in-EndTrans : goal.returns-in-EndTrans
returns-in-EndTrans c = rw c.in-EndTrans.is (c.end_trans.ensures c.args.lit.now)

pub returns-in-AbortTrans : goal.returns-in-AbortTrans
returns-in-AbortTrans c = rw c.in-AbortTrans.is (c.abort_trans.ensures c.args.lit.now)

pub returns-in-Inquire : goal.returns-in-Inquire
returns-in-Inquire c = rw c.in-Inquire.is (c.inquire.ensures c.args.lit.now)

pub returns-in-DeclareRm : goal.returns-in-DeclareRm
returns-in-DeclareRm c = rw c.in-DeclareRm.is (c.declare_rm.ensures c.args.lit.now)

pub returns-in-JoinRm : goal.returns-in-JoinRm
returns-in-JoinRm c = rw c.in-JoinRm.is (c.join_rm.ensures c.args.lit.now)

pub returns-in-AckEvent : goal.returns-in-AckEvent
returns-in-AckEvent c = rw c.in-AckEvent.is (c.ack_event.ensures c.args.lit.now)

pub returns-in-ForgetRm : goal.returns-in-ForgetRm
returns-in-ForgetRm c = rw c.in-ForgetRm.is (c.forget_rm.ensures c.args.lit.now)

pub returns-in-GetDti : goal.returns-in-GetDti
returns-in-GetDti c = rw c.in-GetDti.is (c.get_dti.ensures c.args.lit.now)

pub returns-in-Lmcp : goal.returns-in-Lmcp
returns-in-Lmcp c = rw c.in-Lmcp.is (c.lmcp.ensures c.args.lit.now)

pub returns-in-Dump : goal.returns-in-Dump
returns-in-Dump c = rw c.in-Dump.is (c.dump.ensures c.args.lit.now)

pub returns-in-DumpJournal : goal.returns-in-DumpJournal
returns-in-DumpJournal c = rw c.in-DumpJournal.is (c.dump_journal.ensures c.args.lit.now)

pub returns-in-Backup : goal.returns-in-Backup
returns-in-Backup c = rw c.in-Backup.is (c.backup.ensures c.args.lit.now)

pub returns-in-Recover : goal.returns-in-Recover
returns-in-Recover c = rw c.in-Recover.is (c.recover.ensures c.args.lit.now)
