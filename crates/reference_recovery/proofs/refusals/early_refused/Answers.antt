use Rattle.std.proofs.Common.{◌∙◌}
use Rattle.std.specs.Prelude.{nat_lt}
use Rattle.reference_index.specs.transcript_model.Lines as line
use Rattle.reference_index.specs.run_model.Operations.{refused_if}
use Rattle.reference_recovery.proofs.refusals.early_refused.Goals as goal

pub returns : goal.returns
returns c = c.refused_if.ensures ∙ (λ i. refused_if (nat_lt c.args.until c.args.saved) (line.TooEarly (c.in_ok-said.ensures i) (c.in_ok-kept.ensures i)))
