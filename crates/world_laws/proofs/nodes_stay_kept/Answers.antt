use Rattle.world_laws.proofs.NodeLaws.{boots_keep_up, nodes_are_kept, rows_keep_up, steps_keep_nodes, steps_keep_others}
use Rattle.world_laws.proofs.nodes_stay_kept.Goals as goal

pub returns-clause-worlds : goal.returns-clause-worlds
returns-clause-worlds c = nodes_are_kept

pub returns-clause-steps : goal.returns-clause-steps
returns-clause-steps c = steps_keep_nodes

pub returns-clause-others : goal.returns-clause-others
returns-clause-others c = steps_keep_others

pub returns-clause-rows : goal.returns-clause-rows
returns-clause-rows c = rows_keep_up

pub returns-clause-boots : goal.returns-clause-boots
returns-clause-boots c = boots_keep_up
