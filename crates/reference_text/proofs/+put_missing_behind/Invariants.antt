use Rattle.std.proofs.Common.{length}
use Rattle.reference_text.proofs.+put_missing_behind.Given as goal

abbrev pub decreases-put_missing_behind : goal.decreases-put_missing_behind
decreases-put_missing_behind l = length l.ids.now
