use Rattle.tree_model.proofs.RoomLemmas.{tree_keeps_rooms}
use Rattle.tree_model.proofs.tree_keeps_rooms.Goals as goal

pub returns : goal.returns
returns c = tree_keeps_rooms
