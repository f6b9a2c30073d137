use Rattle.std.proofs.Common.{◌≡◌, ◌∙◌, refl}
use Rattle.std.proofs.lemmas.Result.{IfOk-weaker}
use Rattle.std.specs.Option.{option_map}
use Rattle.world_laws.specs.run_model.World as world
use Rattle.tm_types.specs.Parts.{log_record_of}
use Rattle.world_laws.specs.log_laws.Slots.{settled_in}
use Rattle.vms_base.specs.Ids.{id_of}
use Rattle.reference_disk.specs.Disks.{durable_of}
use Rattle.reference_node.specs.Nodes.{node_of, settled_by}
use Rattle.reference_node.specs.Telling.{with_log}
use Rattle.reference_node.proofs.DiskLemmas.{node_with}
use Rattle.reference_node.proofs.node.Node.settle_branch.Goals as goal

pub returns-clause-node : goal.returns-clause-node
returns-clause-node c =
    let d = durable_of c.args.self.now.durable in
    let e : world.Durable = record d { log = settled_in (id_of c.args.branch.now.serial) (option_map log_record_of c.args.rec.now) d.log } in
    let mid = node_with c.args.self.now c.log_settled.new.self e c.in_ok-log_settled.ensures refl in
    IfOk-weaker c.settle.result _ _ (λ l is. is ∙ (λ i. settled_by (c.next_settlement-s.ensures.settlement i) (mid i))) c.settle.ensures.node
