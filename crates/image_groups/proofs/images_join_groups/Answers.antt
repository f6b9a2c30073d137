use Rattle.image_groups.proofs.Behind as behind
use Rattle.image_groups.proofs.Left as left
use Rattle.image_groups.proofs.Lists as lists
use Rattle.image_groups.proofs.Outcomes as outcomes
use Rattle.image_groups.proofs.Sides as sides
use Rattle.image_groups.proofs.images_join_groups.Goals as goal

pub returns-clause-side : goal.returns-clause-side
returns-clause-side c = sides.enters_side

pub returns-clause-change : goal.returns-clause-change
returns-clause-change c = sides.enters_change

pub returns-clause-told : goal.returns-clause-told
returns-clause-told c = outcomes.enters_told

pub returns-clause-outcome : goal.returns-clause-outcome
returns-clause-outcome c = outcomes.enters_outcome

pub returns-clause-left : goal.returns-clause-left
returns-clause-left c = left.enters_outcome_left

pub returns-clause-moved : goal.returns-clause-moved
returns-clause-moved c = lists.enters_moved

pub returns-clause-behind : goal.returns-clause-behind
returns-clause-behind c = behind.enters_behind
