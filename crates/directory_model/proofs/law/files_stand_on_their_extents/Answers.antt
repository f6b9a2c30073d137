use Rattle.directory_model.proofs.Standing.{stands_on_extents}
use Rattle.directory_model.proofs.law.files_stand_on_their_extents.Goals as goal

pub returns : goal.returns
returns c = stands_on_extents
