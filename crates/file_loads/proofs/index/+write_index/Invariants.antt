use Rattle.std.proofs.Common.{length}
use Rattle.file_loads.proofs.index.+write_index.Given as goal

abbrev pub decreases-write_index : goal.decreases-write_index
decreases-write_index g l = length l.keys.now.items
