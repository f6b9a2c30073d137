use Rattle.script_lang.proofs.ReadsLemmas.{missed, took}
use Rattle.script_lang.proofs.recovery.backup.Goals as goal

pub returns-in_err-file : goal.returns-in_err-file
returns-in_err-file c = λ lit. missed c.file.ensures c.in_err-file.was c.from_residual.ensures.1

pub returns : goal.returns
returns c = λ lit. took c.file.ensures c.in_ok-file.was (c.ends.ensures lit)
