use Rattle.std.proofs.Common.{length}
use Rattle.reference_records.proofs.keys.+keys_down.Given as goal

abbrev pub decreases-keys_down : goal.decreases-keys_down
decreases-keys_down l = length l.rows.now
