use Rattle.unit_laws.proofs.NoteLemmas as laws
use Rattle.unit_laws.proofs.journal_keeps_notes.Goals as goal

pub returns-clause-unchanged : goal.returns-clause-unchanged
returns-clause-unchanged c = laws.unchanged_has_notes

pub returns-clause-changes : goal.returns-clause-changes
returns-clause-changes c = laws.changes_keep_notes

pub returns-clause-elsewhere : goal.returns-clause-elsewhere
returns-clause-elsewhere c = laws.changes_elsewhere_keep_notes

pub returns-clause-prepares : goal.returns-clause-prepares
returns-clause-prepares c = laws.prepares_keep_notes

pub returns-clause-settles : goal.returns-clause-settles
returns-clause-settles c = laws.settles_keep_notes
