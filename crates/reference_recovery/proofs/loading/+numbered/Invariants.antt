use Rattle.std.proofs.Common.{length}
use Rattle.reference_recovery.proofs.loading.+numbered.Given as goal

abbrev pub decreases-numbered : goal.decreases-numbered
decreases-numbered l = length l.rows.now
