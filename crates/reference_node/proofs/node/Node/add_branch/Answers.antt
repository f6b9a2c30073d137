use Rattle.std.proofs.Common.{◌≡◌, ◌∙◌, ap, true}
use Rattle.commit_protocol.specs.Allowed.{allowed, may_authorise, there_is}
use Rattle.commit_protocol.specs.Table.{find, first}
use Rattle.world_laws.specs.run_model.World as world
use Rattle.world_laws.specs.run_model.World.{tm_of}
use Rattle.tm_types.specs.Branches.{branch_of}
use Rattle.reference_node.specs.Nodes.{node_of}
use Rattle.reference_branches.specs.Branches.{shared_of}
use Rattle.reference_node.proofs.StateLemmas.{may_add_branch}
use Rattle.reference_node.proofs.node.Node.add_branch.Goals as goal

pub told-requires-clause-allowed : goal.told-requires-clause-allowed
told-requires-clause-allowed c =
    ap (allowed (tm_of (node_of c.draw-bid.new.self))) c.authorises-event.ensures
    ∙ ap (λ (x : world.Node). there_is (find (first (branch_of c.in-Some.b).key.tid) x.volatile.branches) may_authorise) c.draw-bid.ensures.node
    ∙ may_add_branch (shared_of c.args.shared.now) (node_of c.args.self.now) c.args.label.now (branch_of c.in-Some.b) c.in-Some.ensures c.requires.state c.requires.bids
