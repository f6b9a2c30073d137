use Rattle.script_lang.proofs.ReadsLemmas.{missed_more, took_more}
use Rattle.script_lang.proofs.recovery.dump_journal.Goals as goal

pub returns-in_err-file : goal.returns-in_err-file
returns-in_err-file c = λ lit. missed_more c.journaled_file.ensures c.in_err-file.was c.from_residual.ensures.1

pub returns : goal.returns
returns c = λ lit. took_more c.journaled_file.ensures c.in_ok-file.was (c.journal_operands.ensures lit)
