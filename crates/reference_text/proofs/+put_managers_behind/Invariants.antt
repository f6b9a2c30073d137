use Rattle.std.proofs.Common.{length}
use Rattle.reference_text.proofs.+put_managers_behind.Given as goal

abbrev pub decreases-put_managers_behind : goal.decreases-put_managers_behind
decreases-put_managers_behind l = length l.rms.now
