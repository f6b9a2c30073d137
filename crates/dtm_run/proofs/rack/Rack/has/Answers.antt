use Rattle.std.proofs.Common.{◌∙◌}
use Rattle.vms_base.specs.contracts.names.NodeNamePartialEq.TheImpl.{eq-value}
use Rattle.day_run.proofs.run_nodes.Lookups.{found_among, same_name}
use Rattle.dtm_run.proofs.rack.Rack.has.Goals as goal

pub returns : goal.returns
returns g c = c.contains_key.ensures ∙ found_among eq-value.it same_name c.args.self.now.nodes c.args.name.now
