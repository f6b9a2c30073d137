use Rattle.journal_store.proofs.Journals.{written_behind}
use Rattle.journal_store.proofs.law.bytes_behind_the_end.Goals as goal

pub returns : goal.returns
returns c = written_behind
