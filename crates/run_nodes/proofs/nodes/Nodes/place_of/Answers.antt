use Rattle.std.proofs.Common.{◌∙◌}
use Rattle.vms_base.specs.contracts.names.NodeNamePartialEq.TheImpl.{eq-value}
use Rattle.run_nodes.specs.Held.{names_of}
use Rattle.run_nodes.specs.Names.{is_among}
use Rattle.run_nodes.proofs.Lookups.{found_among, place_missing, place_there, same_name}
use Rattle.run_nodes.proofs.nodes.Nodes.place_of.Goals as goal

pub returns-clause-there : goal.returns-clause-there
returns-clause-there g c = place_there eq-value.it same_name (names_of c.args.self.now) c.args.name.now c.get_index_of.result c.get_index_of.ensures.index

pub returns-clause-missing : goal.returns-clause-missing
returns-clause-missing g c = place_missing c.get_index_of.result (is_among c.args.name.now (names_of c.args.self.now)) (c.get_index_of.ensures.found ∙ found_among eq-value.it same_name c.args.self.now.nodes c.args.name.now)
