use Rattle.world_laws.proofs.RoomLemmas.{changes_have_room, units_have_room}
use Rattle.world_laws.proofs.unrefused_changes_fit.Goals as goal

pub returns-clause-changes : goal.returns-clause-changes
returns-clause-changes c = changes_have_room

pub returns-clause-units : goal.returns-clause-units
returns-clause-units c = units_have_room
