use Rattle.script_lang.proofs.ReadsLemmas.{missed, took}
use Rattle.script_lang.proofs.recovery.set_file.Goals as goal

pub returns-in_err-file : goal.returns-in_err-file
returns-in_err-file c = λ lit. missed c.file.ensures c.in_err-file.was c.from_residual.ensures.1

pub returns-in_err-mark : goal.returns-in_err-mark
returns-in_err-mark c = λ lit. took c.file.ensures c.in_ok-file.was (missed c.setting.ensures c.in_err-mark.was c.from_residual-in_err-mark.ensures.1)

pub returns : goal.returns
returns c = λ lit. took c.file.ensures c.in_ok-file.was (took c.setting.ensures c.in_ok-mark.was (c.mark_operands.ensures lit))
