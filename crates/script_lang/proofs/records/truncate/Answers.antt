use Rattle.script_lang.proofs.ReadsLemmas.{missed, took}
use Rattle.script_lang.proofs.records.truncate.Goals as goal

pub returns-in_err-label : goal.returns-in_err-label
returns-in_err-label c = λ lit. missed c.label_or_none.ensures c.in_err-label.was c.from_residual.ensures.1

pub returns-in_err-file : goal.returns-in_err-file
returns-in_err-file c = λ lit. took c.label_or_none.ensures c.in_ok-label.was (missed c.file.ensures c.in_err-file.was c.from_residual-in_err-file.ensures.1)

pub returns-in_err-number : goal.returns-in_err-number
returns-in_err-number c = λ lit. took c.label_or_none.ensures c.in_ok-label.was (took c.file.ensures c.in_ok-file.was (missed c.number.ensures c.in_err-number.was c.from_residual-in_err-number.ensures.1))

pub returns : goal.returns
returns c = λ lit. took c.label_or_none.ensures c.in_ok-label.was (took c.file.ensures c.in_ok-file.was (took c.number.ensures c.in_ok-number.was (c.operation.ensures lit)))
