use Rattle.dtm_run.proofs.Openings.{openings_exist}
use Rattle.dtm_run.proofs.law.opening_nodes_exist.Goals as goal

pub returns : goal.returns
returns c = openings_exist c.records_are_read_alike.ensures c.each_content_has_a_volume_or_a_finding.ensures c.volumes_fall.ensures.falls
