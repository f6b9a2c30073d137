use Rattle.node_table.specs.Code.{up_of}
use Rattle.node_requests.proofs.ManagerLooks.{show_serves}
use Rattle.node_requests.proofs.log.lmcp_show.Goals as goal

pub returns-clause-does : goal.returns-clause-does
returns-clause-does g c = λ clock s may. show_serves clock (up_of g.U.RecoveryUnits.state c.args.running.now) s _ _ c.count_slots-counts.result.committed c.count_slots-counts.result.prepared c.count_slots-counts.result.free may.up c.emit.ensures.since c.emit.ensures.emits
    c.count_slots-counts.ensures.committed c.count_slots-counts.ensures.prepared c.count_slots-counts.ensures.free
