use Rattle.undo_laws.proofs.FallenLemmas.{undos_fail}
use Rattle.undo_laws.proofs.WayLemmas.{undos_keep_journal, undos_leave, ways_keep_others}
use Rattle.undo_laws.proofs.undos_leave_volumes.Goals as goal

pub returns-clause-leaves : goal.returns-clause-leaves
returns-clause-leaves c = undos_leave

pub returns-clause-fails : goal.returns-clause-fails
returns-clause-fails c = undos_fail

pub returns-clause-journal : goal.returns-clause-journal
returns-clause-journal c = undos_keep_journal

pub returns-clause-others : goal.returns-clause-others
returns-clause-others c = ways_keep_others
