use Rattle.std.proofs.Common.{◌∙◌, ap, sym}
use Rattle.std.specs.Option.{option_map}
use Rattle.net_wire.specs.commit_protocol.Effects.{SettleEffect}
use Rattle.tm_types.specs.Parts.{log_record_of}
use Rattle.vms_base.specs.Outcomes.{outcome_of, reason_of}
use Rattle.vms_model.specs.Transactions.{Outcome}
use Rattle.node_table.proofs.Settling.{abort_told, aborts_without, no_record}
use Rattle.net_wire.specs.Messages.{message_of}
use Rattle.tm_types.specs.Effects.{effect_of}
use Rattle.vms_base.specs.Ids.{serial_of, tid_of}
use Rattle.node_table.proofs.Rows.{may_as, stays_same, tells_as, tells_with}
use Rattle.node_table.proofs.Telling.{ended_tells, joined_tells, sent_tells, started_tells, told_tells}
use Rattle.node_table.proofs.stored.Stored.tell_one.Goals as goal

pub commit-requires-clause-may : goal.commit-requires-clause-may
commit-requires-clause-may g c =
    let m = c.requires.may in
    let s = c.in-Settle in
    (tid_of c.args.tid.now, m.0, m.1, reason_of s.reason, may_as _ _ _ _ _ _ (ap effect_of s.is ∙ (λ i. SettleEffect (serial_of s.serial) (ap outcome_of c.in-Commit.is i) (reason_of s.reason) (ap (option_map log_record_of) (sym c.as_ref.ensures.value) i))) m.2)

pub abort-requires-clause-may : goal.abort-requires-clause-may
abort-requires-clause-may g c =
    let m = c.requires.may in
    let s = c.in-Settle in
    let q = ap effect_of s.is ∙ ap (λ (o : Outcome). SettleEffect (serial_of s.serial) o (reason_of s.reason) (option_map log_record_of s.rec)) (ap outcome_of c.in-Abort.is) in
    (tid_of c.args.tid.now, m.0, m.1, aborts_without _ _ _ _ _ _ _ (may_as _ _ _ _ _ _ q m.2))

pub returns-in-Prepare-clause-tells : goal.returns-in-Prepare-clause-tells
returns-in-Prepare-clause-tells g c = tells_as _ _ _ _ _ _ _ _ _ _ _ (ap effect_of c.in-Prepare.is) (c.prepare.ensures.tells _ _ _)

pub returns-in-ReadOnly-clause-tells : goal.returns-in-ReadOnly-clause-tells
returns-in-ReadOnly-clause-tells g c = tells_as _ _ _ _ _ _ _ _ _ _ _ (ap effect_of c.in-ReadOnly.is) (c.leave.ensures.tells _ _ _)

pub returns-in-Keep-clause-tells : goal.returns-in-Keep-clause-tells
returns-in-Keep-clause-tells g c = tells_as _ _ _ _ _ _ _ _ _ _ _ (ap effect_of c.in-Keep.is) (c.keep.ensures.tells _ _ _ _)

pub returns-in-Forget-clause-tells : goal.returns-in-Forget-clause-tells
returns-in-Forget-clause-tells g c = tells_as _ _ _ _ _ _ _ _ _ _ _ (ap effect_of c.in-Forget.is) (c.forget.ensures.tells _ _ _)

pub returns-in-Joined-clause-tells : goal.returns-in-Joined-clause-tells
returns-in-Joined-clause-tells g c = tells_as _ _ _ _ _ _ _ _ _ _ _ (ap effect_of c.in-Joined.is) (joined_tells c.requires.laws (tid_of c.args.tid.now) _ _ _ _ _ (stays_same _ _) c.emit.ensures.since _ c.emit.ensures.emits)

pub returns-in-Started-clause-tells : goal.returns-in-Started-clause-tells
returns-in-Started-clause-tells g c = tells_as _ _ _ _ _ _ _ _ _ _ _ (ap effect_of c.in-Started.is) (started_tells c.requires.laws (tid_of c.args.tid.now) _ _ _ _ _ (stays_same _ _) c.emit-in-Started.ensures.since _ c.emit-in-Started.ensures.emits)

pub returns-in-Ended-clause-tells : goal.returns-in-Ended-clause-tells
returns-in-Ended-clause-tells g c = tells_as _ _ _ _ _ _ _ _ _ _ _ (ap effect_of c.in-Ended.is) (ended_tells c.requires.laws (tid_of c.args.tid.now) _ _ _ _ _ (stays_same _ _) c.emit-in-Ended.ensures.since _ _ c.emit-in-Ended.ensures.emits)

pub returns-in-Tell-clause-tells : goal.returns-in-Tell-clause-tells
returns-in-Tell-clause-tells g c = tells_with _ _ _ _ _ _ _ _ _ _ _ (ap effect_of c.in-Tell.is) (told_tells c.requires.laws (tid_of c.args.tid.now) _ _ _ _ _ (stays_same _ _) c.show_event.ensures.since _ _ _ _ _ c.show_event.ensures.shows)

pub returns-in-Commit-clause-tells : goal.returns-in-Commit-clause-tells
returns-in-Commit-clause-tells g c =
    let s = c.in-Settle in
    tells_as _ _ _ _ _ _ _ _ _ _ _ (ap effect_of s.is ∙ (λ i. SettleEffect (serial_of s.serial) (ap outcome_of c.in-Commit.is i) (reason_of s.reason) (ap (option_map log_record_of) (sym c.as_ref.ensures.value) i))) (c.commit.ensures.tells _ _ _)

pub returns-in-Abort-clause-tells : goal.returns-in-Abort-clause-tells
returns-in-Abort-clause-tells g c =
    let m = c.requires.may in
    let s = c.in-Settle in
    let q = ap effect_of s.is ∙ ap (λ (o : Outcome). SettleEffect (serial_of s.serial) o (reason_of s.reason) (option_map log_record_of s.rec)) (ap outcome_of c.in-Abort.is) in
    tells_as _ _ _ _ _ _ _ _ _ _ _ q (abort_told _ _ _ _ _ _ _ _ _ _ _ _ (no_record _ _ _ _ _ _ _ (may_as _ _ _ _ _ _ q m.2)) (c.abort.ensures.tells _ _))

pub returns-in-Send-clause-tells : goal.returns-in-Send-clause-tells
returns-in-Send-clause-tells g c = tells_as _ _ _ _ _ _ _ _ _ _ _ (ap effect_of c.in-Send.is) (sent_tells c.requires.laws (tid_of c.args.tid.now) _ _ _ _ _ (stays_same _ _) c.send.ensures.since (message_of c.in-Send.message) _ c.send.ensures.posted c.send.ensures.shows)
