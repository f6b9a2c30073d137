use Rattle.std.proofs.Common.{ap, sym, ◌∙◌}
use Rattle.emitter_model.specs.commit_protocol.Messages.{Kind}
use Rattle.emitter_model.specs.commit_protocol.Rows.{got}
use Rattle.net_wire.specs.Messages.{message_of}
use Rattle.world_laws.specs.run_model.Statements.{answer_in}
use Rattle.dtm_node.specs.Asking.{answer_in_place}
use Rattle.dtm_node.specs.Nodes.{place_of}
use Rattle.dtm_node.proofs.node.Node.answer.Goals as goal

pub returns-in-Up-clause-answer : goal.returns-in-Up-clause-answer
returns-in-Up-clause-answer g c =
    let m = message_of c.args.question.now in
    c.answer.ensures.answer ∙ ap (λ (k : Kind). answer_in (got c.in-Up.running.table m k)) (sym c.requires.asks) ∙ ap (λ p. answer_in_place m (place_of g.D.Disk.state g.U.RecoveryUnits.state p)) (sym c.in-Up.is)
