use Rattle.std.proofs.Common.{sym, ◌∙◌}
use Rattle.script_lang.proofs.ReadsLemmas.{missed, or_ended_as, or_went_on, took}
use Rattle.script_lang.proofs.records.next.Goals as goal

pub returns-in_err-label : goal.returns-in_err-label
returns-in_err-label c = missed c.label_or_none.ensures c.in_err-label.was c.from_residual.ensures.1

pub returns-in_err-file : goal.returns-in_err-file
returns-in_err-file c = took c.label_or_none.ensures c.in_ok-label.was (missed c.file.ensures c.in_err-file.was c.from_residual-in_err-file.ensures.1)

pub returns-then-is_at_end : goal.returns-then-is_at_end
returns-then-is_at_end c = took c.label_or_none.ensures c.in_ok-label.was (took c.file.ensures c.in_ok-file.was (or_ended_as _ _ (c.asked.ensures _) (sym c.is_at_end.ensures ∙ c.if-is_at_end.true)))

pub returns-in_err-key : goal.returns-in_err-key
returns-in_err-key c = took c.label_or_none.ensures c.in_ok-label.was (took c.file.ensures c.in_ok-file.was (or_went_on _ (sym c.is_at_end.ensures ∙ c.if-is_at_end.false) (missed c.key.ensures c.in_err-key.was c.from_residual-in_err-key.ensures.1)))

pub returns : goal.returns
returns c = took c.label_or_none.ensures c.in_ok-label.was (took c.file.ensures c.in_ok-file.was (or_went_on _ (sym c.is_at_end.ensures ∙ c.if-is_at_end.false) (took c.key.ensures c.in_ok-key.was (c.operation.ensures (record { «record» = c.args.lit.now.«record»; key = _ })))))
