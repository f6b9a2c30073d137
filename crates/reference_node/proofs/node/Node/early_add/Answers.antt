use Rattle.std.proofs.Common.{◌∙◌, ap, refl}
use Rattle.world_laws.specs.run_model.Answers as answers
use Rattle.world_laws.specs.run_model.Operations.{first_of}
use Rattle.reference_node.proofs.node.Node.early_add.Goals as goal

pub returns : goal.returns
returns c = λ other.
    let found = c.branch_labelled-found.ensures in
    c.first_of-3.ensures ∙ (λ i. first_of (c.made_label.ensures i) ((c.first_of-2.ensures ∙ (λ j. first_of (c.new_label.ensures j)
    ((c.first_of.ensures ∙ (λ k. first_of (c.unsettled.ensures k) (c.wrong_state.ensures k)) ∙ ap (λ o. first_of (answers.unsettled o) (answers.in_state answers.is_first_active o)) found) j))) i))
