use Rattle.std.proofs.Common.{◌∙◌, ap, refl, false}
use Rattle.world_laws.specs.run_model.Answers as answers
use Rattle.world_laws.specs.run_model.Operations.{first_of}
use Rattle.reference_node.proofs.node.Node.early_begin.Goals as goal

pub returns : goal.returns
returns c =
    c.first_of-2.ensures ∙ (λ i. first_of (c.made_label.ensures i) ((c.first_of.ensures ∙ (λ j. first_of (c.authorised.ensures j) ((c.wrong_state.ensures ∙ ap (answers.in_state (λ b. false)) c.branch_labelled-found.ensures) j))) i))
