use Rattle.node_requests.proofs.law.the_laws.Goals as goal

pub returns : goal.returns
returns c = record { nodes = c.nodes_are_kept.ensures; rows = c.nodes_stay_kept.ensures.rows; boots = c.nodes_stay_kept.ensures.boots }
