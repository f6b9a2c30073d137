use Rattle.std.proofs.Common.{◌∙◌, ap}
use Rattle.world_laws.specs.run_model.Answers.{in_state, is_joinable}
use Rattle.world_laws.specs.run_model.Operations.{first_of}
use Rattle.reference_node.proofs.node.Node.early_join.Goals as goal

pub returns : goal.returns
returns c =
    let state = c.first_of.ensures ∙ (λ i. first_of (c.declared_manager.ensures i) ((c.join_refused.ensures ∙ ap (in_state (is_joinable c.args.rm.now)) c.branch_labelled-found.ensures) i)) in
    let unit = c.first_of-2.ensures ∙ (λ i. first_of (c.unsettled_label.ensures i) (state i)) in
    c.first_of-3.ensures ∙ (λ i. first_of (c.made_label.ensures i) (unit i))
