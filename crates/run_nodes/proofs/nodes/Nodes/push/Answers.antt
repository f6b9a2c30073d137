use Rattle.vms_base.specs.contracts.names.NodeNamePartialEq.TheImpl.{eq-value}
use Rattle.std.proofs.Common.{rules}
use Rattle.run_nodes.proofs.Lookups.{not_there, put_last, same_name}
use Rattle.run_nodes.proofs.nodes.Nodes.push.Goals as goal

pub returns-clause-nodes : goal.returns-clause-nodes
returns-clause-nodes g c =
    let put = c.in-Ok-Vacant.ensures.update.1 c.args.node in
    put_last eq-value.it same_name c.args.self.now.nodes _ c.args.name c.args.node c.requires.new (search rules)

pub unreachable-requires : goal.unreachable-requires
unreachable-requires g c =
    let no = not_there eq-value.it same_name c.args.self.now.nodes c.args.name c.requires.new in
    let found = c.in-Ok-Occupied.ensures.found in
    search rules

pub unreachable-requires-in-Err : goal.unreachable-requires-in-Err
unreachable-requires-in-Err g c = search rules
