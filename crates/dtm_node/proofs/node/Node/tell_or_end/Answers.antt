use Rattle.run_shared.specs.Sharing.{SharedState}
use Rattle.node_requests.specs.node_standing.Standing.{NodeState}
use Rattle.std.proofs.Common.{false, ap, ◌∙◌}
use Rattle.tm_types.specs.Events.{event_of}
use Rattle.dtm_node.proofs.NodeEvents.{fall_shown, node_done, node_down, node_failed}
use Rattle.dtm_node.proofs.Going.{same_moment}
use Rattle.dtm_node.proofs.node.Node.tell_or_end.Goals as goal

pub returns-in-Ok-clause-does : goal.returns-in-Ok-clause-does
returns-in-Ok-clause-does g c =
    node_done g.D.Disk.state g.U.RecoveryUnits.state c.the_laws.ensures.rows (event_of c.args.event.now) c.requires.event c.args.self.now c.args.shared.now c.in-Up.running c.tell.new.self c.in-Up.is c.requires.node c.tell.new.shared _ _ false c.in-Ok.ensures.keeps c.in-Ok.ensures.does

pub returns-in-Err-clause-does : goal.returns-in-Err-clause-does
returns-in-Err-clause-does g c =
    node_failed g.D.Disk.state g.U.RecoveryUnits.state c.the_laws.ensures.rows (event_of c.args.event.now) c.requires.event c.args.self.now c.args.shared.now c.in-Up.running c.tell.new.self c.in-Up.is c.requires.node c.tell.new.shared _ _ c.in-Err.down _ false _ c.go_down.ensures.kept
    (fall_shown _ _ _ _ _ _ c.cause_of.ensures c.go_down.ensures.shows c.emit.ensures.emits) c.in-Err.ensures.keeps c.in-Err.ensures.does

pub returns-in-Down-clause-does : goal.returns-in-Down-clause-does
returns-in-Down-clause-does g c =
    node_down g.D.Disk.state g.U.RecoveryUnits.state c.the_laws.ensures.rows (event_of c.args.event.now) c.requires.event c.args.self.now c.args.shared.now _ _ c.in-Down.is _ _ c.emit-in-Down.ensures.emits

pub returns-in-Err-clause-keeps : goal.returns-in-Err-clause-keeps
returns-in-Err-clause-keeps g c = record {
  name = ap (λ (k : NodeState). k.name) c.go_down.ensures.kept;
  clock = same_moment _ _ (ap (λ (k : NodeState). k.clock) c.go_down.ensures.kept);
  in_use = λ used. ap (λ (s : SharedState). s.in_use) c.in-Err.ensures.keeps.work.shared ∙ used;
  node = λ count h. c.go_down.ensures.node count c.tell.new.shared h.clock;
}
