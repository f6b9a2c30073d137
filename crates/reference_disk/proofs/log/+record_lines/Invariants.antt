use Rattle.std.proofs.Common.{length}
use Rattle.reference_disk.proofs.log.+record_lines.Given as goal

abbrev pub decreases-record_lines : goal.decreases-record_lines
decreases-record_lines l = length l.slots.now
