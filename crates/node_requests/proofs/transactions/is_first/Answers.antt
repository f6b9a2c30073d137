use Rattle.std.proofs.Common.{◌∙◌}
use Rattle.tm_types.specs.Branches.{branch_of}
use Rattle.node_requests.proofs.Statements.{first_is}
use Rattle.node_requests.proofs.transactions.is_first.Goals as goal

pub returns : goal.returns
returns c = c.same_id.ensures ∙ first_is (branch_of c.args.branch.now).key
