use Rattle.std.proofs.Common.{length}
use Rattle.reference_run.proofs.script.+feed_at.Given as goal

abbrev pub decreases-feed_at : goal.decreases-feed_at
decreases-feed_at l = length l.bytes.now
