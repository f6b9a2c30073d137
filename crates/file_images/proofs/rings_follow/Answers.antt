use Rattle.file_images.proofs.Rings as rings
use Rattle.file_images.proofs.Following as laws
use Rattle.file_images.proofs.rings_follow.Goals as goal

pub returns-clause-stand : goal.returns-clause-stand
returns-clause-stand c = laws.images_stand

pub returns-clause-grow : goal.returns-clause-grow
returns-clause-grow c = laws.images_grow

pub returns-clause-begin : goal.returns-clause-begin
returns-clause-begin c = laws.images_begin

pub returns-clause-stays : goal.returns-clause-stays
returns-clause-stays c = rings.journal_stands
