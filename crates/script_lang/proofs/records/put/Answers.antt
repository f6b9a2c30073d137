use Rattle.script_lang.proofs.ReadsLemmas.{missed, took}
use Rattle.script_lang.proofs.records.put.Goals as goal

pub returns-in_err-label : goal.returns-in_err-label
returns-in_err-label c = missed c.label_or_none.ensures c.in_err-label.was c.from_residual.ensures.1

pub returns-in_err-file : goal.returns-in_err-file
returns-in_err-file c = took c.label_or_none.ensures c.in_ok-label.was (missed c.file.ensures c.in_err-file.was c.from_residual-in_err-file.ensures.1)

pub returns-in_err-number : goal.returns-in_err-number
returns-in_err-number c = took c.label_or_none.ensures c.in_ok-label.was (took c.file.ensures c.in_ok-file.was (missed c.key.ensures c.in_err-number.was c.from_residual-in_err-number.ensures.1))

pub returns-in_err-bytes-in-Number : goal.returns-in_err-bytes-in-Number
returns-in_err-bytes-in-Number c = took c.label_or_none.ensures c.in_ok-label.was (took c.file.ensures c.in_ok-file.was (took c.key.ensures c.in_ok-number.was (rw c.in-Number.is (missed c.bytes.ensures c.in_err-bytes-in-Number.was c.from_residual-in_err-bytes-in-Number.ensures.1))))

pub returns-in_ok-bytes-in-Number : goal.returns-in_ok-bytes-in-Number
returns-in_ok-bytes-in-Number c = took c.label_or_none.ensures c.in_ok-label.was (took c.file.ensures c.in_ok-file.was (took c.key.ensures c.in_ok-number.was (rw c.in-Number.is (took c.bytes.ensures c.in_ok-bytes-in-Number.was (c.operation.ensures (record { «record» = _; key = c.args.lit.now.key }))))))

pub returns-in-Bytes : goal.returns-in-Bytes
returns-in-Bytes c = took c.label_or_none.ensures c.in_ok-label.was (took c.file.ensures c.in_ok-file.was (took c.key.ensures c.in_ok-number.was (rw c.in-Bytes.is (c.operation-in-Bytes.ensures (record { «record» = _; key = c.args.lit.now.key })))))
