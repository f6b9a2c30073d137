use Rattle.directory_model.proofs.Entering.{enters_images}
use Rattle.directory_model.proofs.law.images_are_entered.Goals as goal

pub returns : goal.returns
returns c = enters_images
