use Rattle.undo_laws.proofs.UndoableLemmas.{units_are_undoable}
use Rattle.undo_laws.proofs.units_are_undoable.Goals as goal

pub returns : goal.returns
returns c = units_are_undoable
