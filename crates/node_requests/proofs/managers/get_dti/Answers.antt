use Rattle.std.proofs.Common.{◌∷◌, [], Option, ap, subst, ◌∙◌}
use Rattle.emitter_model.specs.Emitting.{Emits}
use Rattle.script_lang.specs.Statements.{named_of}
use Rattle.world_laws.specs.run_model.Answers.{standing}
use Rattle.emitter_model.specs.transcript_model.Lines as line
use Rattle.emitter_model.specs.transcript_model.Lines.{Standing}
use Rattle.vms_model.specs.Ids.{Id}
use Rattle.node_table.specs.Code.{up_of}
use Rattle.node_table.specs.Standing.{Up}
use Rattle.node_requests.specs.Managers.{known_at}
use Rattle.node_requests.proofs.ManagerLooks.{dti_refuses, dti_serves}
use Rattle.node_requests.proofs.managers.get_dti.Goals as goal

pub returns-in-None-clause-does : goal.returns-in-None-clause-does
returns-in-None-clause-does g c = λ clock may. dti_refuses (named_of c.args.who.now) clock (up_of g.U.RecoveryUnits.state c.args.running.now) c.args.shared.now _ _ may.up c.emit.ensures.since c.emit.ensures.emits c.in-None.ensures.unmade

pub returns-in-Some-clause-does : goal.returns-in-Some-clause-does
returns-in-Some-clause-does g c = λ clock may.
    let old : Up = up_of g.U.RecoveryUnits.state c.args.running.now in
    let a = g.E.Emit.shows c.args.out.now in
    let b = g.E.Emit.shows c.emit-in-Some.new.self in
    let stands = c.standing_at.ensures ∙ ap (λ (o : Option Id). standing (known_at old.tm o)) c.in-Some.ensures.serial in
    dti_serves (named_of c.args.who.now) clock old c.args.shared.now a b may.up c.emit-in-Some.ensures.since (subst (λ (k : Standing). Emits a (line.NormalStanding k ∷ []) b) stands c.emit-in-Some.ensures.emits) c.in-Some.ensures.made
