use Rattle.script_lang.proofs.ReadsLemmas.{missed, took}
use Rattle.script_lang.proofs.grammar.create.Goals as goal

pub returns-in_err-file : goal.returns-in_err-file
returns-in_err-file c = λ lit. missed c.file.ensures c.in_err-file.was c.from_residual.ensures.1

pub returns-in_err-organization : goal.returns-in_err-organization
returns-in_err-organization c = λ lit. took c.file.ensures c.in_ok-file.was (missed c.organization.ensures c.in_err-organization.was c.from_residual-in_err-organization.ensures.1)

pub returns-in_err-bucket : goal.returns-in_err-bucket
returns-in_err-bucket c = λ lit. took c.file.ensures c.in_ok-file.was (took c.organization.ensures c.in_ok-organization.was (missed c.number.ensures c.in_err-bucket.was c.from_residual-in_err-bucket.ensures.1))

pub returns-in_err-size : goal.returns-in_err-size
returns-in_err-size c = λ lit. took c.file.ensures c.in_ok-file.was (took c.organization.ensures c.in_ok-organization.was (took c.number.ensures c.in_ok-bucket.was (missed c.number-2.ensures c.in_err-size.was c.from_residual-in_err-size.ensures.1)))

pub returns-in_err-count : goal.returns-in_err-count
returns-in_err-count c = λ lit. took c.file.ensures c.in_ok-file.was (took c.organization.ensures c.in_ok-organization.was (took c.number.ensures c.in_ok-bucket.was (took c.number-2.ensures c.in_ok-size.was (missed c.number-3.ensures c.in_err-count.was c.from_residual-in_err-count.ensures.1))))

pub returns : goal.returns
returns c = λ lit. took c.file.ensures c.in_ok-file.was (took c.organization.ensures c.in_ok-organization.was (took c.number.ensures c.in_ok-bucket.was (took c.number-2.ensures c.in_ok-size.was (took c.number-3.ensures c.in_ok-count.was (c.form_operands.ensures lit)))))
