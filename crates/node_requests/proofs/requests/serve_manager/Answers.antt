use Rattle.std.proofs.Common.{sym, subst}
use Rattle.script_lang.specs.Statements.{request_of}
use Rattle.node_table.specs.Code.{up_of}
use Rattle.node_table.specs.Standing.{Up}
use Rattle.node_table.specs.Telling.{done}
use Rattle.node_requests.specs.Requests.{DoesRequest}
use Rattle.node_requests.proofs.RequestKinds.{none_left}
use Rattle.node_requests.proofs.requests.serve_manager.Goals as goal

pub unreachable-requires : goal.unreachable-requires
unreachable-requires g c =
    let d = c.in_default in
    none_left c.args.lit.now c.args.request.now c.requires.manager (record { declare = d.not-DeclareRm; join = d.not-JoinRm; reply = d.not-AckEvent; forget = d.not-ForgetRm; state = d.not-GetDti; show = d.not-LmcpShow; dump = d.not-LmcpDump })

pub returns-in-DeclareRm-clause-does : goal.returns-in-DeclareRm-clause-does
returns-in-DeclareRm-clause-does g c =
    let up : Up = up_of g.U.RecoveryUnits.state c.args.running.now in
    subst (λ q. DoesRequest done (request_of c.args.lit.now q) c.args.clock.0 up (up_of g.U.RecoveryUnits.state c.declare_rm.new.running) c.args.shared.now c.args.shared.now (g.E.Emit.shows c.args.out.now) (g.E.Emit.shows c.declare_rm.new.out)) (sym c.in-DeclareRm.is)
    (c.declare_rm.ensures.does c.args.clock.0 c.args.shared.now c.requires.may)

pub returns-in-ForgetRm-clause-does : goal.returns-in-ForgetRm-clause-does
returns-in-ForgetRm-clause-does g c =
    let up : Up = up_of g.U.RecoveryUnits.state c.args.running.now in
    subst (λ q. DoesRequest done (request_of c.args.lit.now q) c.args.clock.0 up (up_of g.U.RecoveryUnits.state c.forget_rm.new.running) c.args.shared.now c.args.shared.now (g.E.Emit.shows c.args.out.now) (g.E.Emit.shows c.forget_rm.new.out)) (sym c.in-ForgetRm.is)
    (c.forget_rm.ensures.does c.args.clock.0 c.args.shared.now c.requires.may)

pub returns-in-GetDti-clause-does : goal.returns-in-GetDti-clause-does
returns-in-GetDti-clause-does g c =
    let up : Up = up_of g.U.RecoveryUnits.state c.args.running.now in
    subst (λ q. DoesRequest done (request_of c.args.lit.now q) c.args.clock.0 up up c.args.shared.now c.args.shared.now (g.E.Emit.shows c.args.out.now) (g.E.Emit.shows c.get_dti.new.out)) (sym c.in-GetDti.is)
    (c.get_dti.ensures.does c.args.clock.0 c.requires.may)

pub returns-in-LmcpShow-clause-does : goal.returns-in-LmcpShow-clause-does
returns-in-LmcpShow-clause-does g c =
    let up : Up = up_of g.U.RecoveryUnits.state c.args.running.now in
    subst (λ q. DoesRequest done (request_of c.args.lit.now q) c.args.clock.0 up up c.args.shared.now c.args.shared.now (g.E.Emit.shows c.args.out.now) (g.E.Emit.shows c.lmcp_show.new.out)) (sym c.in-LmcpShow.is)
    (c.lmcp_show.ensures.does c.args.clock.0 c.args.shared.now c.requires.may)

pub returns-in-LmcpDump-clause-does : goal.returns-in-LmcpDump-clause-does
returns-in-LmcpDump-clause-does g c =
    let up : Up = up_of g.U.RecoveryUnits.state c.args.running.now in
    subst (λ q. DoesRequest done (request_of c.args.lit.now q) c.args.clock.0 up up c.args.shared.now c.args.shared.now (g.E.Emit.shows c.args.out.now) (g.E.Emit.shows c.lmcp_dump.new.out)) (sym c.in-LmcpDump.is)
    (c.lmcp_dump.ensures.does c.args.clock.0 c.args.shared.now c.requires.may)
