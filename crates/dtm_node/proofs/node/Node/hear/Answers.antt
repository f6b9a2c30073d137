use Rattle.std.proofs.Common.{refl, sym, ◌∙◌}
use Rattle.net_wire.specs.Messages.{message_of}
use Rattle.emitter_model.specs.commit_protocol.Rows.{Got}
use Rattle.world_laws.specs.run_model.Answers.{Hears}
use Rattle.dtm_node.specs.Nodes.{kept_of}
use Rattle.dtm_node.proofs.NodeEvents.{asked_first, down_event, none_first}
use Rattle.dtm_node.proofs.node.Node.hear.Goals as goal

pub returns-then-not-is_up-clause-tells : goal.returns-then-not-is_up-clause-tells
returns-then-not-is_up-clause-tells g c =
    let down = sym c.is_up.ensures ∙ c.if-not-is_up.true in
    (down_event (Got (message_of c.args.m.now)) (kept_of g.D.Disk.state g.U.RecoveryUnits.state c.args.self.now) c.args.shared.now _ _ down c.emit.ensures.emits (Hears (message_of c.args.m.now)) _ refl refl (none_first _ _ _ down)).0

pub returns-then-not-is_up-clause-performs : goal.returns-then-not-is_up-clause-performs
returns-then-not-is_up-clause-performs g c =
    let down = sym c.is_up.ensures ∙ c.if-not-is_up.true in
    (down_event (Got (message_of c.args.m.now)) (kept_of g.D.Disk.state g.U.RecoveryUnits.state c.args.self.now) c.args.shared.now _ _ down c.emit.ensures.emits (Hears (message_of c.args.m.now)) _ refl refl (none_first _ _ _ down)).1

pub returns-clause-tells : goal.returns-clause-tells
returns-clause-tells g c =
    (c.tell_or_end.ensures.does (Hears (message_of c.args.m.now)) _ refl refl (asked_first _ _ _ _ _ (sym c.is_up.ensures ∙ c.if-not-is_up.false) c.outcome_told.ensures c.emit-2.ensures.emits)).0

pub returns-clause-performs : goal.returns-clause-performs
returns-clause-performs g c =
    (c.tell_or_end.ensures.does (Hears (message_of c.args.m.now)) _ refl refl (asked_first _ _ _ _ _ (sym c.is_up.ensures ∙ c.if-not-is_up.false) c.outcome_told.ensures c.emit-2.ensures.emits)).1
