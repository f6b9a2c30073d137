use Rattle.std.proofs.Common.{◌≡◌, ◌∙◌, ap, arith, length, sym}
use Rattle.std.specs.Prelude.{vec_len}
use Rattle.std.specs.Option.{option_map}
use Rattle.std.proofs.lemmas.List.{length-map}
use Rattle.vms_base.specs.Ids.{id_of}
use Rattle.world_laws.specs.run_model.Answers.{images_full, of_file}
use Rattle.world_laws.specs.run_model.Operations.{first_of}
use Rattle.reference_index.specs.Standing.{change_of, changes_of}
use Rattle.reference_world.specs.Standing.{line_of}
use Rattle.reference_records.specs.Operations.{asked_of}
use Rattle.reference_node.specs.Nodes.{node_of}
use Rattle.reference_node.proofs.RefusalLemmas.{refuses_directly}
use Rattle.reference_node.proofs.node.Node.direct_refused.Goals as goal

pub returns : goal.returns
returns c =
    let n = node_of c.args.self.now in
    let file = c.args.name.now in
    let made = c.in_ok-changes.changes in
    let changes = made.items in
    let len : length changes ≡ vec_len made = omega (arith, made.ok.0) in
    let serial = id_of c.next_id.result in
    refuses_directly n file (asked_of c.args.asked) (changes_of changes) serial c.len.result (option_map line_of c.in_ok-found.found) (option_map line_of c.refused_if-more.result) (option_map line_of c.in_ok-full.full)
    (option_map line_of c.images_full-images.result) (option_map line_of c.first_of-3.result) c.in_ok-changes.ensures c.next_id.ensures (c.len.ensures ∙ sym len ∙ sym (length-map changes change_of)) c.in_ok-found.ensures
    c.refused_if-more.ensures c.in_ok-full.ensures (c.images_full-images.ensures ∙ ap (λ vs. of_file n file (images_full serial (changes_of vs))) c.as_slice.ensures.value)
    (c.first_of-3.ensures ∙ ap (first_of (option_map line_of c.in_ok-found.found)) (c.first_of-2.ensures ∙ ap (first_of (option_map line_of c.refused_if-more.result)) c.first_of.ensures))
