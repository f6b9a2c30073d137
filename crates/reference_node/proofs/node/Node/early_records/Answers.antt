use Rattle.std.proofs.Common.{◌≡◌, ◌∙◌, ap}
use Rattle.commit_protocol.specs.Allowed.{is_working}
use Rattle.world_laws.specs.run_model.Answers.{in_state, keys_refused, of_file}
use Rattle.world_laws.specs.run_model.Operations.{first_of, keys_asked}
use Rattle.reference_records.specs.Operations.{asked_of}
use Rattle.reference_node.specs.Nodes.{node_of}
use Rattle.reference_node.proofs.node.Node.early_records.Goals as goal

pub returns : goal.returns
returns c =
    let n = node_of c.args.self.now in
    let held = c.in_ok-held.ensures ∙ ap (λ o. of_file n c.args.file.now (λ f. keys_refused n o c.args.file.now (keys_asked f (asked_of c.args.asked)))) c.serial_labelled-asking.ensures in
    let marked = c.first_of.ensures ∙ (λ i. first_of (c.is_marked.ensures i) (held i)) in
    let state = c.first_of-2.ensures ∙ (λ i. first_of ((c.wrong_state.ensures ∙ ap (in_state is_working) c.branch_labelled-found.ensures) i) (marked i)) in
    let unit = c.first_of-unit.ensures ∙ (λ i. first_of (c.unsettled_label.ensures i) (state i)) in
    let form = c.first_of-3.ensures ∙ (λ i. first_of (c.fits_file.ensures i) (unit i)) in
    let there = c.first_of-4.ensures ∙ (λ i. first_of (c.there_is_file.ensures i) (form i)) in
    c.first_of-5.ensures ∙ (λ i. first_of (c.made_label.ensures i) (there i))
