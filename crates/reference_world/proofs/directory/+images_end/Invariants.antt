use Rattle.std.proofs.Common.{length}
use Rattle.reference_world.proofs.directory.+images_end.Given as goal

abbrev pub decreases-images_end : goal.decreases-images_end
decreases-images_end l = length l.files.now
