use Rattle.emitter_model.proofs.EmittingLemmas.{emits_on, since_on}
use Rattle.node_table.specs.Code.{up_of}
use Rattle.node_requests.proofs.ManagerLooks.{dump_serves}
use Rattle.node_requests.proofs.log.lmcp_dump.Goals as goal

pub returns-clause-does : goal.returns-clause-does
returns-clause-does g c = λ clock s may. dump_serves clock (up_of g.U.RecoveryUnits.state c.args.running.now) s _ _ c.show_records-count.result may.up (since_on _ _ _ c.show_records-count.ensures.since c.emit.ensures.since)
    (emits_on _ _ _ _ _ c.show_records-count.ensures.shows c.emit.ensures.emits) c.show_records-count.ensures.count
