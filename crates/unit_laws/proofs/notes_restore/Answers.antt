use Rattle.unit_laws.proofs.NoteLemmas as laws
use Rattle.unit_laws.proofs.notes_restore.Goals as goal

pub returns-clause-whole : goal.returns-clause-whole
returns-clause-whole c = laws.notes_restore

pub returns-clause-cut : goal.returns-clause-cut
returns-clause-cut c = laws.notes_cut_short
