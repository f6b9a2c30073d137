use Rattle.std.proofs.Common.{◌≡◌, List, Option, None, map, ap, ◌∙◌}
use Rattle.std.specs.Option.{option_map}
use Rattle.vms_model.specs.Ids.{Id}
use Rattle.vms_model.specs.Transactions.{Commit as ToCommit, Aborted}
use Rattle.commit_protocol.specs.Messages.{Name, LogRecord, Commit, CommitEvent}
use Rattle.commit_protocol.specs.Table.{Settles, holding}
use Rattle.commit_protocol.specs.Rows.{sends_all, to_each, tells, yes_of, owing}
use Rattle.vms_base.specs.Ids.{serial_of}
use Rattle.tm_types.specs.Branches.{branch_of}
use Rattle.tm_types.specs.Parts.{log_record_of}
use Rattle.tm_table.specs.Doing.{did, does, ended_if}
use Rattle.tm_table.proofs.DoingLemmas.{parts3}
use Rattle.tm_table.proofs.table.Table.commit_all.Goals as goal

pub returns : goal.returns
returns c =
    let b = branch_of c.args.b.now in
    let s0 = c.args.self.now in
    let t = b.key.tid in
    let yes : map serial_of c.yes-yes.result ≡ yes_of b.accepted = c.yes-yes.ensures in
    let rms : c.holding-holding.result ≡ holding b.managers = c.holding-holding.ensures in
    let rec : option_map log_record_of c.owing-rec.result ≡ owing b.key (yes_of b.accepted) (holding b.managers) =
    c.owing-rec.ensures ∙ (ap (λ ss. owing b.key (map serial_of ss) c.copy-2.result) c.copy.ensures ∙ (ap (λ (ss : List Id). owing b.key ss c.copy-2.result) yes ∙ ap (λ (xs : List Name). owing b.key (yes_of b.accepted) xs) (c.copy-2.ensures ∙ rms))) in
    parts3 (Settles b.key ToCommit Aborted (owing b.key (yes_of b.accepted) (holding b.managers))) (sends_all (to_each Commit t (yes_of b.accepted))) (tells CommitEvent b.key (holding b.managers)) (ended_if c.args.shown b None)
    s0 c.settle.new.self c.send_each.new.self c.tell_each.new.self c.show_ended.new.self
    (c.settle.ensures.done ∙ ap (λ (r : Option LogRecord). did (Settles b.key ToCommit Aborted r) s0) rec)
    (c.send_each.ensures.done ∙ ap (λ (ss : List Id). does (sends_all (to_each Commit t ss)) c.settle.new.self) yes)
    (c.tell_each.ensures.done ∙ ap (λ (xs : List Name). does (tells CommitEvent b.key xs) c.send_each.new.self) rms)
    c.show_ended.ensures.done
