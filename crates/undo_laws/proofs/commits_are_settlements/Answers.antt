use Rattle.undo_laws.proofs.CommitLemmas.{commits_settle}
use Rattle.undo_laws.proofs.commits_are_settlements.Goals as goal

pub returns : goal.returns
returns c = commits_settle
