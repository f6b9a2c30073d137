use Rattle.std.proofs.Common.{◌∙◌}
use Rattle.reference_index.specs.run_model.Operations.{first_of}
use Rattle.reference_recovery.proofs.refusals.forward_refused.Goals as goal

pub returns : goal.returns
returns c = c.first_of.ensures ∙ (λ i. first_of (c.in_use-used.ensures i) ((c.first_of-by_save.ensures ∙ (λ j. first_of (c.in_ok-early.ensures j) (c.refused_if-missing.ensures j))) i))
