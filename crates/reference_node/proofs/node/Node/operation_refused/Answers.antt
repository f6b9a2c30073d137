use Rattle.std.proofs.Common.{◌≡◌, ◌∙◌, ap, sym}
use Rattle.std.specs.Option.{option_map}
use Rattle.commit_protocol.specs.Table.{Key}
use Rattle.world_laws.specs.run_model.Answers.{images_full, journal_full, more_changes, of_file, found_refused}
use Rattle.world_laws.specs.run_model.Operations.{first_of}
use Rattle.vms_base.specs.Ids.{id_of}
use Rattle.tm_types.specs.Branches.{branch_of}
use Rattle.reference_index.specs.Standing.{changes_of}
use Rattle.reference_world.specs.Standing.{line_of}
use Rattle.reference_records.specs.Operations.{asked_of}
use Rattle.reference_disk.specs.Disks.{branch_with}
use Rattle.reference_node.specs.Nodes.{node_of}
use Rattle.reference_branches.specs.Branches.{shared_of}
use Rattle.reference_node.proofs.RefusalLemmas.{refuses_operation}
use Rattle.reference_node.proofs.node.Node.operation_refused.Goals as goal

pub returns : goal.returns
returns c =
    let n = node_of c.args.self.now in
    let file = c.args.name.now in
    let op = asked_of c.args.asked in
    let cs = changes_of c.in_ok-changes.changes.items in
    refuses_operation (shared_of c.args.shared.now) n c.args.label.now file op (branch_of c.in-Some.b) cs (option_map line_of c.in_ok-found.found) (option_map line_of c.in_ok-locks.locks) (option_map line_of c.in_ok-full.full)
    (option_map line_of (c.in_ok-quotas-in-Some).quotas) (option_map line_of (c.images_full-images).result) (option_map line_of (c.first_of-in-Some).result)
    c.in-Some.ensures c.in_ok-changes.ensures (c.in_ok-found.ensures ∙ ap (λ o. of_file n file (found_refused n o file op)) c.serial_labelled-asking.ensures) c.in_ok-locks.ensures c.in_ok-full.ensures
    ((c.in_ok-quotas-in-Some).ensures ∙ (λ i. first_of (more_changes n (ap changes_of c.as_slice-made.ensures.value i) (branch_with (c.key_of.ensures i))) (first_of (c.first_of-first_room.ensures i) (journal_full n file (ap changes_of c.as_slice-made.ensures.value i) (branch_with (c.key_of.ensures i))))))
    ((c.images_full-images).ensures ∙ (λ i. of_file n file (images_full (branch_of c.in-Some.b).key.serial (ap changes_of c.as_slice-made.ensures.value i))))
    ((c.first_of-in-Some).ensures ∙ ap (first_of (option_map line_of c.in_ok-found.found)) (c.first_of-room).ensures)
