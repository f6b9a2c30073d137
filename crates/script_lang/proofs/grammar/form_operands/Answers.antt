use Rattle.script_lang.proofs.ReadsLemmas.{missed, took}
use Rattle.script_lang.proofs.grammar.form_operands.Goals as goal

pub returns-in-Sequential : goal.returns-in-Sequential
returns-in-Sequential c = λ lit. rw c.in-Sequential.is (c.created.ensures lit)

pub returns-in-Relative : goal.returns-in-Relative
returns-in-Relative c = λ lit. rw c.in-Relative.is (c.created-in-Relative.ensures lit)

pub returns-in_err-position-in-Indexed : goal.returns-in_err-position-in-Indexed
returns-in_err-position-in-Indexed c = λ lit. rw c.in-Indexed.is (missed c.number.ensures c.in_err-position-in-Indexed.was c.from_residual.ensures.1)

pub returns-in_err-key_size-in-Indexed : goal.returns-in_err-key_size-in-Indexed
returns-in_err-key_size-in-Indexed c = λ lit. rw c.in-Indexed.is (took c.number.ensures c.in_ok-position-in-Indexed.was (missed c.number-in-Indexed.ensures c.in_err-key_size-in-Indexed.was c.from_residual-in_err-key_size-in-Indexed.ensures.1))

pub returns-in_ok-key_size-in-Indexed : goal.returns-in_ok-key_size-in-Indexed
returns-in_ok-key_size-in-Indexed c = λ lit. rw c.in-Indexed.is (took c.number.ensures c.in_ok-position-in-Indexed.was (took c.number-in-Indexed.ensures c.in_ok-key_size-in-Indexed.was (c.created-in-Indexed.ensures lit)))
