use Rattle.std.proofs.Common.{◌≡◌, ◌∙◌, ap, true}
use Rattle.commit_protocol.specs.Allowed.{allowed}
use Rattle.world_laws.specs.run_model.World.{tm_of}
use Rattle.tm_types.specs.Branches.{branch_of}
use Rattle.reference_node.specs.Nodes.{node_of}
use Rattle.reference_branches.specs.Branches.{shared_of}
use Rattle.reference_node.proofs.ManagerLemmas.{join_told}
use Rattle.reference_node.proofs.node.Node.join.Goals as goal

pub told-requires-clause-allowed : goal.told-requires-clause-allowed
told-requires-clause-allowed c = ap (allowed (tm_of (node_of c.args.self.now))) c.joins.ensures
    ∙ join_told (shared_of c.args.shared.now) (node_of c.args.self.now) c.args.label.now c.args.rm.now (branch_of c.in-Some.b) c.in-Some.ensures c.requires.early c.requires.late
