use Rattle.script_lang.proofs.ReadsLemmas.{missed, took}
use Rattle.script_lang.proofs.world.deliver.Goals as goal

pub returns-in_err-number : goal.returns-in_err-number
returns-in_err-number c = λ lit. missed c.number.ensures c.in_err-number.was c.from_residual.ensures.1

pub returns : goal.returns
returns c = λ lit. took c.number.ensures c.in_ok-number.was (c.ends.ensures lit)
