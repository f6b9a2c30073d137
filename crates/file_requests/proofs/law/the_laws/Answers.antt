use Rattle.file_requests.proofs.law.the_laws.Goals as goal

pub returns : goal.returns
returns c = record {
  finds = c.files_are_found_by_name.ensures;
  places = c.places_are_found_alike.ensures;
  runs = c.free_runs_are_found_alike.ensures;
  reads = c.records_are_read_alike.ensures;
  shows = c.records_are_shown_in_order.ensures;
  apart = c.files_lie_apart.ensures;
  heads = c.acts_keep_heads.ensures;
  makes = c.new_files_are_alike.ensures;
  front = c.catalogs_stand_on_the_front.ensures;
  nodes = c.nodes_are_kept.ensures;
  recoveries = c.recoveries_keep_nodes.ensures;
  images = c.rings_follow.ensures.stand;
}
