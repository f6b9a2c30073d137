use Rattle.std.proofs.Common.{Bool, true, subst, sym}
use Rattle.world_laws.specs.run_model.Answers.{Serves}
use Rattle.script_lang.specs.Statements.{request_of}
use Rattle.node_requests.specs.node_standing.Keeping.{PerformsRequest}
use Rattle.node_requests.specs.node_standing.Telling.{TellsTask}
use Rattle.dtm_node.specs.Nodes.{kept_of}
use Rattle.node_requests.proofs.RequestKinds.{for_up}
use Rattle.dtm_node.proofs.node.Node.serve.Goals as goal

pub returns-in-Init-clause-tells : goal.returns-in-Init-clause-tells
returns-in-Init-clause-tells g c =
    let kept = kept_of g.D.Disk.state g.U.RecoveryUnits.state in
    let shown = g.E.Emit.shows in
    subst (λ r. (ends : Bool) × TellsTask (Serves (request_of c.args.lit.now r)) true ends (kept c.args.self.now) c.args.shared.now (shown c.args.out.now) (shown c.init.new.out) (kept c.init.new.self) c.args.shared.now) (sym c.in-Init.is) c.init.ensures.tells

pub returns-in-Init-clause-performs : goal.returns-in-Init-clause-performs
returns-in-Init-clause-performs g c =
    let kept = kept_of g.D.Disk.state g.U.RecoveryUnits.state in
    let shown = g.E.Emit.shows in
    subst (λ r. PerformsRequest (request_of c.args.lit.now r) (kept c.args.self.now) c.args.shared.now (shown c.args.out.now) (shown c.init.new.out) (kept c.init.new.self) c.args.shared.now) (sym c.in-Init.is) c.init.ensures.performs

pub returns-in-Boot-clause-tells : goal.returns-in-Boot-clause-tells
returns-in-Boot-clause-tells g c =
    let kept = kept_of g.D.Disk.state g.U.RecoveryUnits.state in
    let shown = g.E.Emit.shows in
    subst (λ r. (ends : Bool) × TellsTask (Serves (request_of c.args.lit.now r)) true ends (kept c.args.self.now) c.args.shared.now (shown c.args.out.now) (shown c.boot.new.out) (kept c.boot.new.self) c.boot.new.shared) (sym c.in-Boot.is) c.boot.ensures.tells

pub returns-in-Boot-clause-performs : goal.returns-in-Boot-clause-performs
returns-in-Boot-clause-performs g c =
    let kept = kept_of g.D.Disk.state g.U.RecoveryUnits.state in
    let shown = g.E.Emit.shows in
    subst (λ r. PerformsRequest (request_of c.args.lit.now r) (kept c.args.self.now) c.args.shared.now (shown c.args.out.now) (shown c.boot.new.out) (kept c.boot.new.self) c.boot.new.shared) (sym c.in-Boot.is) c.boot.ensures.performs

pub returns-in-Fuse-clause-tells : goal.returns-in-Fuse-clause-tells
returns-in-Fuse-clause-tells g c =
    let kept = kept_of g.D.Disk.state g.U.RecoveryUnits.state in
    let shown = g.E.Emit.shows in
    subst (λ r. (ends : Bool) × TellsTask (Serves (request_of c.args.lit.now r)) true ends (kept c.args.self.now) c.args.shared.now (shown c.args.out.now) (shown c.fuse.new.out) (kept c.fuse.new.self) c.args.shared.now) (sym c.in-Fuse.is) c.fuse.ensures.tells

pub returns-in-Fuse-clause-performs : goal.returns-in-Fuse-clause-performs
returns-in-Fuse-clause-performs g c =
    let kept = kept_of g.D.Disk.state g.U.RecoveryUnits.state in
    let shown = g.E.Emit.shows in
    subst (λ r. PerformsRequest (request_of c.args.lit.now r) (kept c.args.self.now) c.args.shared.now (shown c.args.out.now) (shown c.fuse.new.out) (kept c.fuse.new.self) c.args.shared.now) (sym c.in-Fuse.is) c.fuse.ensures.performs

pub returns-in-Crash-clause-performs : goal.returns-in-Crash-clause-performs
returns-in-Crash-clause-performs g c =
    let kept = kept_of g.D.Disk.state g.U.RecoveryUnits.state in
    let shown = g.E.Emit.shows in
    subst (λ r. PerformsRequest (request_of c.args.lit.now r) (kept c.args.self.now) c.args.shared.now (shown c.args.out.now) (shown c.crash.new.out) (kept c.crash.new.self) c.args.shared.now) (sym c.in-Crash.is) c.crash.ensures.performs

pub returns-in-Crash-clause-tells : goal.returns-in-Crash-clause-tells
returns-in-Crash-clause-tells g c =
    let kept = kept_of g.D.Disk.state g.U.RecoveryUnits.state in
    let shown = g.E.Emit.shows in
    subst (λ r. (ends : Bool) × TellsTask (Serves (request_of c.args.lit.now r)) true ends (kept c.args.self.now) c.args.shared.now (shown c.args.out.now) (shown c.crash.new.out) (kept c.crash.new.self) c.args.shared.now) (sym c.in-Crash.is) c.crash.ensures.tells

pub serve_up-requires-clause-asks : goal.serve_up-requires-clause-asks
serve_up-requires-clause-asks g c =
    let d = c.in_default in
    for_up c.args.lit.now c.args.request.now c.requires.answered (record { init = d.not-Init; boot = d.not-Boot; fuse = d.not-Fuse; crash = d.not-Crash })
