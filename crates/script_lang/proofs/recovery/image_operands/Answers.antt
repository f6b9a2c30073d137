use Rattle.script_lang.proofs.ReadsLemmas.{missed, took}
use Rattle.script_lang.proofs.recovery.image_operands.Goals as goal

pub returns-in_err-side : goal.returns-in_err-side
returns-in_err-side c = λ lit. missed c.side.ensures c.in_err-side.was c.from_residual.ensures.1

pub returns : goal.returns
returns c = λ lit. took c.side.ensures c.in_ok-side.was (c.ends.ensures lit)
