use Rattle.std.proofs.Common.{length}
use Rattle.reference_text.proofs.+put_serials_behind.Given as goal

abbrev pub decreases-put_serials_behind : goal.decreases-put_serials_behind
decreases-put_serials_behind l = length l.serials.now
