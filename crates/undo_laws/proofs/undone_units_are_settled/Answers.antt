use Rattle.undo_laws.proofs.SettledLemmas.{undone_settle}
use Rattle.undo_laws.proofs.undone_units_are_settled.Goals as goal

pub returns : goal.returns
returns c = undone_settle
