use Rattle.std.proofs.Common.{◌∙◌, ap, refl}
use Rattle.world_laws.specs.run_model.Answers as answers
use Rattle.world_laws.specs.run_model.Operations.{first_of}
use Rattle.reference_node.proofs.node.Node.early_inquire.Goals as goal

pub returns : goal.returns
returns c =
    c.first_of-2.ensures ∙ (λ i. first_of (c.made_name.ensures i) ((c.first_of.ensures ∙ (λ j. first_of (c.unsettled.ensures j) (c.wrong_state.ensures j)) ∙ ap (λ o. first_of (answers.unsettled o) (answers.in_state answers.is_in_doubt o)) c.branch_named-found.ensures) i))
