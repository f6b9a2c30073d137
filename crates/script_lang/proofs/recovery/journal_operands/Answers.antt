use Rattle.std.proofs.Common.{sym, ◌∙◌}
use Rattle.script_lang.proofs.ReadsLemmas.{or_ended, or_went_on}
use Rattle.script_lang.proofs.recovery.journal_operands.Goals as goal

pub returns-then-not-names_units : goal.returns-then-not-names_units
returns-then-not-names_units c = λ lit. rw (sym c.names_units.ensures ∙ c.if-not-names_units.true) (c.image_operands.ensures lit)

pub returns-then-is_at_end : goal.returns-then-is_at_end
returns-then-is_at_end c = λ lit. rw (sym c.names_units.ensures ∙ c.if-not-names_units.false) (or_ended _ (sym c.is_at_end.ensures ∙ c.if-is_at_end.true))

pub returns : goal.returns
returns c = λ lit. rw (sym c.names_units.ensures ∙ c.if-not-names_units.false) (or_went_on _ (sym c.is_at_end.ensures ∙ c.if-is_at_end.false) (c.image_operands-2.ensures lit))
