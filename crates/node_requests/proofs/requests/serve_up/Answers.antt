use Rattle.std.proofs.Common.{sym, subst}
use Rattle.script_lang.specs.Statements.{recovery_of, request_of}
use Rattle.node_table.specs.Code.{stored_of, up_of}
use Rattle.node_table.specs.Standing.{Stored, Up}
use Rattle.node_requests.specs.Requests.{AnswersRequest}
use Rattle.file_requests.specs.node_standing.Moments.{CanBeTold}
use Rattle.node_requests.proofs.Recoveries.{recovery_answers}
use Rattle.node_requests.proofs.RequestKinds.{of_reserved}
use Rattle.node_requests.proofs.requests.serve_up.Goals as goal

pub serve_reserved-requires-clause-reserved : goal.serve_reserved-requires-clause-reserved
serve_reserved-requires-clause-reserved g c = of_reserved c.args.lit.now c.args.request.now c.requires.up c.in_default.not-Recover

pub recover-requires-clause-times : goal.recover-requires-clause-times
recover-requires-clause-times g c = subst (λ q. CanBeTold (request_of c.args.lit.now q)) c.in-Recover.is c.requires.times

pub returns-in-Recover-clause-does : goal.returns-in-Recover-clause-does
returns-in-Recover-clause-does g c =
    let old : Up = up_of g.U.RecoveryUnits.state c.args.running.now in
    let new : Stored = stored_of g.U.RecoveryUnits.state c.recover.new.stored in
    let x = c.in-Recover in
    subst (λ q. AnswersRequest c.recover.result (request_of c.args.lit.now q) c.args.clock.0 old (record { stored = new; tm = old.tm; drawn = old.drawn; declared = old.declared }) c.args.shared.now c.args.shared.now (g.E.Emit.shows c.args.out.now) (g.E.Emit.shows c.recover.new.out)) (sym x.is)
    (recovery_answers x.file (recovery_of x.recovery) c.args.clock.0 old new c.args.shared.now _ _ c.requires.may c.recover.result c.recover.ensures.recovers)
