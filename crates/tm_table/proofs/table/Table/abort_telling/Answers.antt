use Rattle.std.proofs.Common.{List, Some, None, map, ap, ◌∙◌}
use Rattle.vms_model.specs.Transactions.{Abort as ToAbort}
use Rattle.commit_protocol.specs.Messages.{Name, AbortEvent}
use Rattle.commit_protocol.specs.Table.{Settles}
use Rattle.commit_protocol.specs.Rows.{sends_all, tells, told_abort, interested, ended}
use Rattle.vms_base.specs.Outcomes.{reason_of}
use Rattle.tm_types.specs.Branches.{branch_of}
use Rattle.tm_types.specs.Parts.{child_of}
use Rattle.tm_table.specs.Doing.{does}
use Rattle.tm_table.proofs.DoingLemmas.{parts3}
use Rattle.commit_protocol.specs.Messages.{Message}
use Rattle.tm_table.proofs.table.Table.abort_telling.Goals as goal

pub returns-clause-done : goal.returns-clause-done
returns-clause-done c =
    let b = branch_of c.args.b.now in
    let s0 = c.args.self.now in
    let t = b.key.tid in
    let reason = reason_of c.args.reason in
    parts3 (Settles b.key ToAbort reason None) (sends_all (told_abort t (map child_of c.args.children.now))) (tells AbortEvent b.key (interested b.managers)) (ended b b.state (Some reason))
    s0 c.settle.new.self c.send_each.new.self c.tell_each.new.self c.show_ended.new.self
    c.settle.ensures.done
    (c.send_each.ensures.done ∙ ap (λ (ms : List Message). does (sends_all ms) c.settle.new.self) (c.told_abort.ensures t))
    (c.tell_each.ensures.done ∙ ap (λ (xs : List Name). does (tells AbortEvent b.key xs) c.send_each.new.self) c.interested.ensures)
    c.show_ended.ensures.done
