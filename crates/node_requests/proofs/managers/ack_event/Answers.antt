use Rattle.std.proofs.Common.{◌∷◌, [], subst}
use Rattle.emitter_model.specs.Emitting.{Emits}
use Rattle.script_lang.specs.Statements.{named_of}
use Rattle.tm_types.specs.Events.{event_of}
use Rattle.tm_types.specs.Parts.{reply_of}
use Rattle.transcript.specs.Forms.{line_of}
use Rattle.emitter_model.specs.transcript_model.Lines as line
use Rattle.emitter_model.specs.transcript_model.Lines.{Line}
use Rattle.vms_base.specs.Ids.{serial_of}
use Rattle.participants.specs.Refusing.{refusal_line}
use Rattle.node_table.specs.Code.{up_of}
use Rattle.node_requests.proofs.ManagerStatements.{ack_fails, ack_refuses, ack_serves, ack_unheard_refuses, refusal_quiet, refusal_served}
use Rattle.node_requests.proofs.managers.ack_event.Goals as goal

pub returns-in-Err-clause-does : goal.returns-in-Err-clause-does
returns-in-Err-clause-does g c = ack_unheard_refuses (named_of c.args.who.now) c.args.rm.now (reply_of c.args.reply) c.args.clock.0 (up_of g.U.RecoveryUnits.state c.args.running.now) c.args.shared.now _ _ (line_of c.in-Err.form) c.requires.may.up c.emit.ensures.since c.emit.ensures.emits c.in-Err.ensures.refused

pub returns-in-Err-reply-clause-does : goal.returns-in-Err-reply-clause-does
returns-in-Err-reply-clause-does g c = ack_refuses (named_of c.args.who.now) c.args.rm.now (reply_of c.args.reply) c.args.clock.0 (up_of g.U.RecoveryUnits.state c.args.running.now) c.args.shared.now _ _ (serial_of c.in-Ok.serial) c.in-Ok.ensures.found c.in-Ok.ensures.made
    (refusal_line line.Managers c.in-Err-reply.error) c.requires.may.up c.emit-in-Err-reply.ensures.since (subst (λ (l : Line). Emits (g.E.Emit.shows c.args.out.now) (l ∷ []) (g.E.Emit.shows c.emit-in-Err-reply.new.self)) c.refusal.ensures.line c.emit-in-Err-reply.ensures.emits) (refusal_quiet line.Managers c.in-Err-reply.error) (refusal_served line.Managers c.in-Err-reply.error) c.in-Err-reply.ensures.refused

pub tell-requires-clause-allowed : goal.tell-requires-clause-allowed
tell-requires-clause-allowed g c = c.in-Ok-reply.ensures.allowed

pub returns-in-Err-tell-clause-does : goal.returns-in-Err-tell-clause-does
returns-in-Err-tell-clause-does g c = ack_fails (named_of c.args.who.now) c.args.rm.now (reply_of c.args.reply) c.args.clock.0 (up_of g.U.RecoveryUnits.state c.args.running.now) c.args.shared.now _ _ (serial_of c.in-Ok.serial) c.in-Ok.ensures.found c.in-Ok.ensures.made c.in-Ok-reply.ensures.unrefused
    c.the_laws.ensures.rows (up_of g.U.RecoveryUnits.state c.tell.new.self) c.tell.new.shared c.in-Err-tell.down (event_of c.in-Ok-reply.event) c.in-Ok-reply.ensures.event c.in-Err-tell.ensures.keeps c.in-Err-tell.ensures.does

pub returns-in-Ok-tell-clause-does : goal.returns-in-Ok-tell-clause-does
returns-in-Ok-tell-clause-does g c = ack_serves (named_of c.args.who.now) c.args.rm.now (reply_of c.args.reply) c.args.clock.0 (up_of g.U.RecoveryUnits.state c.args.running.now) c.args.shared.now _ _ (serial_of c.in-Ok.serial) c.in-Ok.ensures.found c.in-Ok.ensures.made c.in-Ok-reply.ensures.unrefused
    c.the_laws.ensures.rows (up_of g.U.RecoveryUnits.state c.tell.new.self) c.tell.new.shared _ c.emit-in-Ok-tell.ensures.since c.emit-in-Ok-tell.ensures.emits (event_of c.in-Ok-reply.event) c.in-Ok-reply.ensures.event c.in-Ok-tell.ensures.keeps c.in-Ok-tell.ensures.does

pub emit-requires : goal.emit-requires
emit-requires g c = c.in-Err.ensures.time
