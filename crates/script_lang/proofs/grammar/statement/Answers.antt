use Rattle.script_lang.proofs.ReadsLemmas.{missed, took}
use Rattle.script_lang.proofs.grammar.statement.Goals as goal

pub returns-in_err-first : goal.returns-in_err-first
returns-in_err-first c = missed c.first.ensures c.in_err-first.was c.from_residual.ensures.1

pub returns : goal.returns
returns c = took c.first.ensures c.in_ok-first.was c.behind_first.ensures
