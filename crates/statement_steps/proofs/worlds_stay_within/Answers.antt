use Rattle.statement_steps.proofs.Keeping.{within_begun, within_moved}
use Rattle.statement_steps.proofs.worlds_stay_within.Goals as goal

pub returns-clause-begins : goal.returns-clause-begins
returns-clause-begins c = within_begun

pub returns-clause-stays : goal.returns-clause-stays
returns-clause-stays c = within_moved c.nodes_stay_kept.ensures.steps c.nodes_stay_kept.ensures.others
