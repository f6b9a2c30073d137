use Rattle.std.proofs.Common.{◌∷◌, [], List, sym, subst}
use Rattle.emitter_model.specs.commit_protocol.Messages.{Name}
use Rattle.script_lang.specs.script_model.Statements as said
use Rattle.emitter_model.specs.Emitting.{Emits}
use Rattle.emitter_model.proofs.EmittingLemmas.{emits_on, since_on}
use Rattle.emitter_model.specs.transcript_model.Lines as line
use Rattle.emitter_model.specs.transcript_model.Lines.{Line}
use Rattle.participants.specs.Refusing.{refusal_line}
use Rattle.node_table.specs.Code.{up_of}
use Rattle.node_table.specs.Standing.{Up}
use Rattle.node_table.specs.Telling.{done}
use Rattle.node_requests.specs.Requests.{DoesRequest}
use Rattle.node_requests.proofs.Looking.{with_declared}
use Rattle.node_requests.proofs.ManagerLooks.{declare_refuses, declare_serves}
use Rattle.node_requests.proofs.ManagerStatements.{refusal_quiet, refusal_served}
use Rattle.node_requests.proofs.managers.declare_rm.Goals as goal

pub returns-in-Err-clause-does : goal.returns-in-Err-clause-does
returns-in-Err-clause-does g c = λ clock s may.
    let old : Up = up_of g.U.RecoveryUnits.state c.args.running.now in
    let a = g.E.Emit.shows c.args.out.now in
    let b = g.E.Emit.shows c.emit.new.self in
    subst (λ (rms : List Name). DoesRequest done (said.DeclareRm c.args.rm.now) clock old (with_declared rms old) s s a b) (sym c.in-Err.ensures.same)
    (declare_refuses c.args.rm.now clock old s a b (refusal_line line.Declared c.in-Err.error) may.up c.emit.ensures.since (subst (λ (l : Line). Emits a (l ∷ []) b) c.refusal.ensures.line c.emit.ensures.emits) (refusal_quiet line.Declared c.in-Err.error) (refusal_served line.Declared c.in-Err.error) c.in-Err.ensures.refused)

pub returns-in-Ok-clause-does : goal.returns-in-Ok-clause-does
returns-in-Ok-clause-does g c = λ clock s may.
    let old : Up = up_of g.U.RecoveryUnits.state c.args.running.now in
    let a = g.E.Emit.shows c.args.out.now in
    let b = g.E.Emit.shows c.emit-in-Ok.new.self in
    subst (λ (rms : List Name). DoesRequest done (said.DeclareRm c.args.rm.now) clock old (with_declared rms old) s s a b) (sym c.in-Ok.ensures.declared)
    (declare_serves c.args.rm.now clock old s a b c.the_laws.ensures.nodes may.up (since_on _ _ _ c.show_owed.ensures.since c.emit-in-Ok.ensures.since) (emits_on _ _ _ _ _ c.show_owed.ensures.shows c.emit-in-Ok.ensures.emits) c.in-Ok.ensures.unrefused)
