use Rattle.std.proofs.Common.{sym, ◌∙◌}
use Rattle.script_lang.proofs.ReadsLemmas.{missed, or_ended, or_went_on, took}
use Rattle.script_lang.proofs.transactions.start_trans.Goals as goal

pub returns-in_err-label : goal.returns-in_err-label
returns-in_err-label c = λ lit. missed c.label.ensures c.in_err-label.was c.from_residual.ensures.1

pub returns-then-is_at_end : goal.returns-then-is_at_end
returns-then-is_at_end c = λ lit. took c.label.ensures c.in_ok-label.was (or_ended _ (sym c.is_at_end.ensures ∙ c.if-is_at_end.true))

pub returns-in_err-timeout : goal.returns-in_err-timeout
returns-in_err-timeout c = λ lit. took c.label.ensures c.in_ok-label.was (or_went_on _ (sym c.is_at_end.ensures ∙ c.if-is_at_end.false) (missed c.timeout.ensures c.in_err-timeout.was c.from_residual-in_err-timeout.ensures.1))

pub returns-in_err-seconds : goal.returns-in_err-seconds
returns-in_err-seconds c = λ lit. took c.label.ensures c.in_ok-label.was (or_went_on _ (sym c.is_at_end.ensures ∙ c.if-is_at_end.false) (took c.timeout.ensures c.in_ok-timeout.was (missed c.number.ensures c.in_err-seconds.was c.from_residual-in_err-seconds.ensures.1)))

pub returns : goal.returns
returns c = λ lit. took c.label.ensures c.in_ok-label.was (or_went_on _ (sym c.is_at_end.ensures ∙ c.if-is_at_end.false) (took c.timeout.ensures c.in_ok-timeout.was (took c.number.ensures c.in_ok-seconds.was (c.ends.ensures lit))))
