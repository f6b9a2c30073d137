use Rattle.script_lang.proofs.ReadsLemmas.{missed, took}
use Rattle.script_lang.proofs.records.delete.Goals as goal

pub returns-in_err-label : goal.returns-in_err-label
returns-in_err-label c = missed c.label_or_none.ensures c.in_err-label.was c.from_residual.ensures.1

pub returns-in_err-file : goal.returns-in_err-file
returns-in_err-file c = took c.label_or_none.ensures c.in_ok-label.was (missed c.file.ensures c.in_err-file.was c.from_residual-in_err-file.ensures.1)

pub returns-in_err-key : goal.returns-in_err-key
returns-in_err-key c = took c.label_or_none.ensures c.in_ok-label.was (took c.file.ensures c.in_ok-file.was (missed c.key.ensures c.in_err-key.was c.from_residual-in_err-key.ensures.1))

pub returns : goal.returns
returns c = took c.label_or_none.ensures c.in_ok-label.was (took c.file.ensures c.in_ok-file.was (took c.key.ensures c.in_ok-key.was (c.operation.ensures (record { «record» = c.args.lit.now.«record»; key = _ }))))
