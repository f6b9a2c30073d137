use Rattle.std.proofs.Common.{◌∙◌, sym}
use Rattle.reference_index.proofs.ListLemmas.{if_ok_so}
use Rattle.reference_index.proofs.LoadLemmas.{shared_last}
use Rattle.reference_index.proofs.loads.+shared.Goals as goal

pub returns-then-n-fan_out : goal.returns-then-n-fan_out
returns-then-n-fan_out t c = if_ok_so c.one_bucket-then-n-fan_out.result c.one_bucket-then-n-fan_out.ensures (λ v p. p ∙ sym (shared_last c.args.fan_out c.args.most c.args.n c.if-n-fan_out.true))
