use Rattle.std.proofs.Common.{ap}
use Rattle.node_requests.specs.node_standing.Standing.{NodeState}
use Rattle.dtm_node.proofs.BootPlaces.{broken_as, reopened_as}
use Rattle.dtm_node.proofs.node.Node.rise.Goals as goal

pub returns-in-Ok-clause-reopens : goal.returns-in-Ok-clause-reopens
returns-in-Ok-clause-reopens g c =
    reopened_as g.D.Disk.state g.U.RecoveryUnits.state c.args.self.now.name c.args.self.now.clock.0 c.args.self.now.place c.in-Up.running c.reopen.new.running c.in-Ok.boot (g.E.Emit.shows c.args.out.now) (g.E.Emit.shows c.reopen.new.out) c.in-Up.is c.in-Ok.ensures.up

pub returns-in-Err-clause-reopens : goal.returns-in-Err-clause-reopens
returns-in-Err-clause-reopens g c =
    broken_as g.D.Disk.state g.U.RecoveryUnits.state c.args.self.now.name c.args.self.now.clock.0 c.args.self.now.place c.in-Up.running c.reopen.new.running.stored.volume c.in-Err.down _ _ (g.E.Emit.shows c.args.out.now) (g.E.Emit.shows c.reopen.new.out) (g.E.Emit.shows c.go_down.new.out) (g.E.Emit.shows c.emit.new.self)
    c.in-Up.is (ap (λ (k : NodeState). k.place) c.go_down.ensures.kept) c.in-Err.ensures.down c.go_down.ensures.shows c.cause_of.ensures c.emit.ensures.emits
