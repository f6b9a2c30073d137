use Rattle.std.proofs.Common.{◌∙◌, sym, ap}
use Rattle.vms_base.specs.contracts.names.NodeNamePartialEq.TheImpl.{eq-value}
use Rattle.dtm_run.specs.Racks.{names_in, refusal_of}
use Rattle.day_run.proofs.run_nodes.Lookups.{put_last, same_name}
use Rattle.dtm_run.proofs.RackLemmas.{accepted, disks_more, names_more, rack_more}
use Rattle.dtm_run.proofs.rack.Rack.add.Goals as goal

pub returns-in-Ok-clause-added : goal.returns-in-Ok-clause-added
returns-in-Ok-clause-added g c =
    let none = ap (refusal_of (names_in c.args.self.now) c.args.name) (sym c.blocks-2.ensures) ∙ sym c.refusal.ensures ∙ c.in_default.is in
    let put = put_last eq-value.it same_name c.args.self.now.nodes c.insert.new.self.entries c.args.name c.args.disk (accepted (names_in c.args.self.now) c.args.name (g.D.Disk.state c.args.disk).size none).new c.in-Ok.ensures.entries in
    (names_more c.args.self.now.nodes.entries c.insert.new.self.entries (c.args.name, c.args.disk) put, disks_more c.args.self.now.nodes.entries c.insert.new.self.entries (c.args.name, c.args.disk) put)

pub returns-in-Ok-clause-rack : goal.returns-in-Ok-clause-rack
returns-in-Ok-clause-rack g c = λ r.
    let none = ap (refusal_of (names_in c.args.self.now) c.args.name) (sym c.blocks-2.ensures) ∙ sym c.refusal.ensures ∙ c.in_default.is in
    let put = put_last eq-value.it same_name c.args.self.now.nodes c.insert.new.self.entries c.args.name c.args.disk (accepted (names_in c.args.self.now) c.args.name (g.D.Disk.state c.args.disk).size none).new c.in-Ok.ensures.entries in
    rack_more g.D.Disk.state c.args.self.now record { nodes = c.insert.new.self } (c.args.name, c.args.disk) put none r
