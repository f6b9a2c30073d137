use Rattle.std.proofs.Common.{sym, ◌∙◌}
use Rattle.script_lang.proofs.ReadsLemmas.{missed, or_ended, or_went_on, took}
use Rattle.script_lang.proofs.recovery.forward_operands.Goals as goal

pub returns-then-is_at_end : goal.returns-then-is_at_end
returns-then-is_at_end c = λ lit. or_ended _ (sym c.is_at_end.ensures ∙ c.if-is_at_end.true)

pub returns-in_err-until : goal.returns-in_err-until
returns-in_err-until c = λ lit. or_went_on _ (sym c.is_at_end.ensures ∙ c.if-is_at_end.false) (missed c.until.ensures c.in_err-until.was c.from_residual.ensures.1)

pub returns-in_err-until-2 : goal.returns-in_err-until-2
returns-in_err-until-2 c = λ lit. or_went_on _ (sym c.is_at_end.ensures ∙ c.if-is_at_end.false) (took c.until.ensures c.in_ok-until.was (missed c.time.ensures c.in_err-until-2.was c.from_residual-in_err-until-2.ensures.1))

pub returns : goal.returns
returns c = λ lit. or_went_on _ (sym c.is_at_end.ensures ∙ c.if-is_at_end.false) (took c.until.ensures c.in_ok-until.was (took c.time.ensures c.in_ok-until-2.was (c.ends.ensures lit)))
