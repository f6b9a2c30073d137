use Rattle.std.proofs.Common.{length}
use Rattle.reference_world.proofs.directory.+with_file.Given as goal

abbrev pub decreases-with_file : goal.decreases-with_file
decreases-with_file l = length l.files.items
