use Rattle.std.proofs.Common.{◌∙◌}
use Rattle.tm_types.specs.Branches.{branch_of}
use Rattle.reference_branches.proofs.StateLemmas.{first_told}
use Rattle.reference_branches.proofs.states.is_first.Goals as goal

pub returns : goal.returns
returns c = c.same_id.ensures ∙ first_told (branch_of c.args.b.now).key
