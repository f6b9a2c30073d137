use Rattle.std.proofs.Common.{length}
use Rattle.reference_index.proofs.slots.+copy_slots.Given as goal

abbrev pub decreases-copy_slots : goal.decreases-copy_slots
decreases-copy_slots l = length l.all.now
