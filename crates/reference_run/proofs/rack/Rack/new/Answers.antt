use Rattle.std.proofs.Common.{map}
use Rattle.reference_tasks.specs.reference_node.Nodes.{node_of}
use Rattle.reference_branches.specs.Branches.{shared_of}
use Rattle.reference_run.specs.Served.{place_of}
use Rattle.reference_run.proofs.OpeningLemmas.{opening_is, opening_fit}
use Rattle.reference_run.proofs.rack.Rack.new.Goals as goal

pub returns-clause-opening : goal.returns-clause-opening
returns-clause-opening c = opening_is (map place_of c.args.places.now) (map node_of (c.in_ok-nodes_of).field-0.items) (shared_of c.new.result) (c.in_ok-nodes_of).ensures c.new.ensures

pub returns-clause-fit : goal.returns-clause-fit
returns-clause-fit c = opening_fit c.nodes_stay_kept.ensures.worlds (map place_of c.args.places.now) (map node_of (c.in_ok-nodes_of).field-0.items) (shared_of c.new.result) (c.in_ok-nodes_of).ensures c.new.ensures
