use Rattle.std.proofs.Common.{length}
use Rattle.reference_world.proofs.images.+with_images.Given as goal

abbrev pub decreases-with_images : goal.decreases-with_images
decreases-with_images l = length l.changes.now
