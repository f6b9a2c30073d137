use Rattle.image_laws.proofs.Following as laws
use Rattle.image_laws.proofs.images_follow.Goals as goal

pub returns-clause-read : goal.returns-clause-read
returns-clause-read c = laws.images_are_read

pub returns-clause-placed : goal.returns-clause-placed
returns-clause-placed c = laws.images_placed
