use Rattle.world_laws.specs.run_model.Answers.{is_open}
use Rattle.tm_types.specs.Branches.{branch_of}
use Rattle.reference_node.specs.Nodes.{node_of}
use Rattle.reference_branches.specs.Branches.{shared_of}
use Rattle.reference_node.proofs.StateLemmas.{label_told}
use Rattle.reference_node.proofs.node.Node.abort.Goals as goal

pub told-requires-clause-allowed : goal.told-requires-clause-allowed
told-requires-clause-allowed c = label_told (shared_of c.args.shared.now) (node_of c.args.self.now) c.args.label.now (branch_of c.in-Some.b) is_open c.in-Some.ensures c.requires.state
