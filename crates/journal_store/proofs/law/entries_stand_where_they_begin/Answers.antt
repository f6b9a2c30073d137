use Rattle.journal_store.proofs.EntriesAt.{stands_in}
use Rattle.journal_store.proofs.law.entries_stand_where_they_begin.Goals as goal

pub returns : goal.returns
returns c = stands_in
