use Rattle.std.proofs.Common.{length}
use Rattle.reference_units.proofs.journal.+entries_for.Given as goal

abbrev pub decreases-entries_for : goal.decreases-entries_for
decreases-entries_for l = length l.changes.now
