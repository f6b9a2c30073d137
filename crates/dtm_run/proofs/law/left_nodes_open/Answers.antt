use Rattle.dtm_run.proofs.TakenUp.{left_nodes_open, left_racks_open}
use Rattle.dtm_run.proofs.law.left_nodes_open.Goals as goal

pub returns-clause-one : goal.returns-clause-one
returns-clause-one c = left_nodes_open c.nodes_stay_kept.ensures.worlds c.volumes_fall.ensures.falls

pub returns-clause-all : goal.returns-clause-all
returns-clause-all c = left_racks_open (left_nodes_open c.nodes_stay_kept.ensures.worlds c.volumes_fall.ensures.falls)
