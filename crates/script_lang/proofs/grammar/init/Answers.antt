use Rattle.std.proofs.Common.{sym, ◌∙◌}
use Rattle.script_lang.proofs.ReadsLemmas.{missed, or_went_on, took}
use Rattle.script_lang.proofs.grammar.init.Goals as goal

pub returns-in_err-slots : goal.returns-in_err-slots
returns-in_err-slots c = λ lit. or_went_on _ (sym c.is_at_end.ensures ∙ c.if-is_at_end.false) (missed c.number.ensures c.in_err-slots.was c.from_residual.ensures.1)

pub returns-in_err-blocks : goal.returns-in_err-blocks
returns-in_err-blocks c = λ lit. or_went_on _ (sym c.is_at_end.ensures ∙ c.if-is_at_end.false) (took c.number.ensures c.in_ok-slots.was (missed c.number-2.ensures c.in_err-blocks.was c.from_residual-in_err-blocks.ensures.1))

pub returns : goal.returns
returns c = λ lit. or_went_on _ (sym c.is_at_end.ensures ∙ c.if-is_at_end.false) (took c.number.ensures c.in_ok-slots.was (took c.number-2.ensures c.in_ok-blocks.was (c.ends.ensures lit)))
