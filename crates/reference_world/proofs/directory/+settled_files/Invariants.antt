use Rattle.std.proofs.Common.{length}
use Rattle.reference_world.proofs.directory.+settled_files.Given as goal

abbrev pub decreases-settled_files : goal.decreases-settled_files
decreases-settled_files l = length l.files.items
