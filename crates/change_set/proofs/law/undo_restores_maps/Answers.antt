use Rattle.change_set.proofs.Changes.{undone-applied}
use Rattle.change_set.proofs.law.undo_restores_maps.Goals as goal

pub returns : goal.returns
returns c = undone-applied
