use Rattle.std.proofs.Common.{◌∙◌}
use Rattle.std.specs.Prelude.{nat_lt}
use Rattle.reference_index.specs.transcript_model.Lines as line
use Rattle.reference_index.specs.run_model.Operations.{first_of, refused_if}
use Rattle.reference_recovery.proofs.refusals.backward_refused.Goals as goal

pub returns : goal.returns
returns c =
    let since = c.args.file.now.carried.since in
    c.first_of.ensures ∙ (λ i. first_of (c.in_use-used.ensures i)
    ((c.refused_if-missing.ensures ∙ (λ j. refused_if (nat_lt c.args.until.0 since) (line.MomentsMissing (c.in_ok-said.ensures j) (c.in_ok-begun.ensures j)))) i))
