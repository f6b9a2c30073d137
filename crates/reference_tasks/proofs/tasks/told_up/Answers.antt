use Rattle.reference_node.specs.Nodes.{node_of}
use Rattle.reference_branches.specs.Branches.{shared_of}
use Rattle.tm_types.specs.Events.{event_of}
use Rattle.reference_tasks.proofs.UnitsLemmas.{told_units}
use Rattle.reference_tasks.proofs.tasks.told_up.Goals as goal

pub returns-clause-units : goal.returns-clause-units
returns-clause-units c = λ units h. told_units units (event_of c.args.event.now) (shared_of c.args.shared.now) (shared_of c.tell.new.shared) (node_of c.args.node.now) (node_of c.tell.new.self) c.in_ok-told.told.items c.in_ok-told.ensures.tells c.in_ok-told.ensures.time h
