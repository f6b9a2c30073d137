use Rattle.std.proofs.Common.{◌≡◌, ◌∷◌, [], true, subst}
use Rattle.std.specs.List.{list_any}
use Rattle.emitter_model.specs.commit_protocol.Effects.{effects_of}
use Rattle.emitter_model.specs.commit_protocol.Rows.{row}
use Rattle.emitter_model.specs.commit_protocol.Table.{find_serial}
use Rattle.tm_types.specs.Events.{event_of}
use Rattle.transcript.specs.Forms.{line_of}
use Rattle.emitter_model.specs.Emitting.{Emits}
use Rattle.emitter_model.specs.transcript_model.Lines as line
use Rattle.emitter_model.specs.transcript_model.Lines.{Line}
use Rattle.vms_base.specs.Ids.{serial_of}
use Rattle.participants.specs.Refusing.{refusal_line}
use Rattle.node_table.specs.Code.{up_of}
use Rattle.node_table.specs.Telling.{uses_disk}
use Rattle.node_requests.proofs.ManagerStatements.{join_refuses, join_serves, join_unheard_refuses, joins_surely, refusal_quiet, refusal_served}
use Rattle.node_requests.proofs.managers.join_rm.Goals as goal

pub returns-in-Err-clause-does : goal.returns-in-Err-clause-does
returns-in-Err-clause-does g c = join_unheard_refuses c.args.label.now c.args.rm.now c.args.clock.0 (up_of g.U.RecoveryUnits.state c.args.running.now) c.args.shared.now _ _ (line_of c.in-Err.form) c.requires.may.up c.emit.ensures.since c.emit.ensures.emits c.in-Err.ensures.refused

pub returns-in-Err-join-clause-does : goal.returns-in-Err-join-clause-does
returns-in-Err-join-clause-does g c = join_refuses c.args.label.now c.args.rm.now c.args.clock.0 (up_of g.U.RecoveryUnits.state c.args.running.now) c.args.shared.now _ _ (serial_of c.in-Ok.serial) c.in-Ok.ensures.found c.in-Ok.ensures.made
    (refusal_line line.Managers c.in-Err-join.error) c.requires.may.up c.emit-in-Err-join.ensures.since (subst (λ (l : Line). Emits (g.E.Emit.shows c.args.out.now) (l ∷ []) (g.E.Emit.shows c.emit-in-Err-join.new.self)) c.refusal.ensures.line c.emit-in-Err-join.ensures.emits) (refusal_quiet line.Managers c.in-Err-join.error) (refusal_served line.Managers c.in-Err-join.error) c.in-Err-join.ensures.refused

pub tell-requires-clause-allowed : goal.tell-requires-clause-allowed
tell-requires-clause-allowed g c = c.in-Ok-join.ensures.allowed

pub returns-in-Err-tell-clause-does : goal.returns-in-Err-tell-clause-does
returns-in-Err-tell-clause-does g c =
    let tm = c.args.running.now.table in
    absurd (joins_surely (find_serial (serial_of c.in-Ok.serial) tm.table) c.args.rm.now tm.records (subst (λ e. list_any uses_disk (effects_of (row tm e) tm.records) ≡ true) c.in-Ok-join.ensures.event c.in-Err-tell.ensures.keeps.uses))

pub returns-in-Ok-tell-clause-does : goal.returns-in-Ok-tell-clause-does
returns-in-Ok-tell-clause-does g c = join_serves c.args.label.now c.args.rm.now c.args.clock.0 (up_of g.U.RecoveryUnits.state c.args.running.now) c.args.shared.now _ _ (serial_of c.in-Ok.serial) c.in-Ok.ensures.found c.in-Ok.ensures.made c.in-Ok-join.ensures.unrefused
    c.the_laws.ensures.rows (up_of g.U.RecoveryUnits.state c.tell.new.self) c.tell.new.shared _ c.emit-in-Ok-tell.ensures.since c.emit-in-Ok-tell.ensures.emits (event_of c.in-Ok-join.event) c.in-Ok-join.ensures.event c.in-Ok-tell.ensures.keeps c.in-Ok-tell.ensures.does

pub emit-requires : goal.emit-requires
emit-requires g c = c.in-Err.ensures.time
