use Rattle.script_lang.proofs.ReadsLemmas.{missed, took}
use Rattle.script_lang.proofs.managers.ack_event.Goals as goal

pub returns-in_err-named : goal.returns-in_err-named
returns-in_err-named c = λ lit. missed c.branch_name.ensures c.in_err-named.was c.from_residual.ensures.1

pub returns-in_err-rm : goal.returns-in_err-rm
returns-in_err-rm c = λ lit. took c.branch_name.ensures c.in_ok-named.was (missed c.manager.ensures c.in_err-rm.was c.from_residual-in_err-rm.ensures.1)

pub returns-in_err-reply : goal.returns-in_err-reply
returns-in_err-reply c = λ lit. took c.branch_name.ensures c.in_ok-named.was (took c.manager.ensures c.in_ok-rm.was (missed c.reply.ensures c.in_err-reply.was c.from_residual-in_err-reply.ensures.1))

pub returns : goal.returns
returns c = λ lit. took c.branch_name.ensures c.in_ok-named.was (took c.manager.ensures c.in_ok-rm.was (took c.reply.ensures c.in_ok-reply.was (c.ends.ensures lit)))
