use Rattle.world_laws.specs.run_model.Answers.{is_in_doubt}
use Rattle.script_lang.specs.Statements.{named_of}
use Rattle.tm_types.specs.Branches.{branch_of}
use Rattle.reference_node.specs.Nodes.{node_of}
use Rattle.reference_branches.specs.Branches.{shared_of}
use Rattle.reference_node.proofs.StateLemmas.{name_told}
use Rattle.reference_node.proofs.node.Node.inquire.Goals as goal

pub told-requires-clause-allowed : goal.told-requires-clause-allowed
told-requires-clause-allowed c = name_told (shared_of c.args.shared.now) (node_of c.args.self.now) (named_of c.args.who.now) (branch_of c.in-Some.b) is_in_doubt c.in-Some.ensures c.requires.state
