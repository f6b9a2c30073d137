use Rattle.std.proofs.Common.{length}
use Rattle.kept_files.proofs.keeping.+count.Given as goal

abbrev pub decreases-count : goal.decreases-count
decreases-count l = length l.files.now
