use Rattle.std.proofs.Common.{◌∙◌}
use Rattle.reference_index.specs.run_model.Operations.{first_of}
use Rattle.reference_recovery.proofs.room.first_full.Goals as goal

pub returns : goal.returns
returns c = c.first_of.ensures ∙ (λ i. first_of (c.afters_full-after.ensures i) (c.befores_full-before.ensures i))
