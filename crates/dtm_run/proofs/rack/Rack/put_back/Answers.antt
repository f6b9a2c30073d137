use Rattle.vms_base.specs.contracts.names.NodeNamePartialEq.TheImpl.{eq-value}
use Rattle.day_run.proofs.run_nodes.Lookups.{of_ok, put_last, same_name}
use Rattle.dtm_run.proofs.rack.Rack.put_back.Goals as goal

pub returns : goal.returns
returns g c = record {
  nodes = put_last eq-value.it same_name c.args.self.now.nodes c.insert.new.self.entries c.args.name c.args.disk c.requires.new (of_ok c.insert.result (c.insert.ensures.succeeds c.requires.room) c.insert.ensures.entries);
  room = c.insert.ensures.spare;
}
