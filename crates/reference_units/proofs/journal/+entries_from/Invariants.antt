use Rattle.std.proofs.Common.{length}
use Rattle.reference_units.proofs.journal.+entries_from.Given as goal

abbrev pub decreases-entries_from : goal.decreases-entries_from
decreases-entries_from l = length l.entries.items
