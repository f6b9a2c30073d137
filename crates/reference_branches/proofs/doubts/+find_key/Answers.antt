use Rattle.std.proofs.Common.{◌∙◌}
use Rattle.reference_world.specs.Standing.{branch_key_of}
use Rattle.reference_branches.proofs.DoubtLemmas.{found_here, found_later}
use Rattle.reference_branches.proofs.doubts.+find_key.Goals as goal
use Rattle.std.proofs.Common.{ap}
use Rattle.tm_types.specs.Branches.{branch_of}
use Rattle.std.proofs.Common.{Some}

pub returns-then-same_key : goal.returns-then-same_key
returns-then-same_key t c = ap (λ b. Some (branch_of b)) c.copy.ensures ∙ found_here (branch_key_of c.args.key.now) c.args.branches.now c.b-item.result c.in-len1-up.len_at_least c.b-item.is c.if-same_key.ensures

pub returns-else-same_key : goal.returns-else-same_key
returns-else-same_key t c = c.find_key.ensures ∙ found_later (branch_key_of c.args.key.now) c.args.branches.now c.b-item.result c.in-len1-up.len_at_least c.b-item.is c.if-same_key.ensures
