use Rattle.script_lang.proofs.ReadsLemmas.{missed, took}
use Rattle.script_lang.proofs.managers.lmcp.Goals as goal

pub returns-in_err-shown : goal.returns-in_err-shown
returns-in_err-shown c = λ lit. missed c.log_word.ensures c.in_err-shown.was c.from_residual.ensures.1

pub returns-in-Show : goal.returns-in-Show
returns-in-Show c = λ lit. took c.log_word.ensures c.in_ok-shown.was (rw c.in-Show.is (c.ends.ensures lit))

pub returns-in-Dump : goal.returns-in-Dump
returns-in-Dump c = λ lit. took c.log_word.ensures c.in_ok-shown.was (rw c.in-Dump.is (c.ends-in-Dump.ensures lit))
