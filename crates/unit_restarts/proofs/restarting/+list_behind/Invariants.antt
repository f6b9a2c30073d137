use Rattle.std.proofs.Common.{length}
use Rattle.unit_restarts.proofs.restarting.+list_behind.Given as goal

abbrev pub decreases-list_behind : goal.decreases-list_behind
decreases-list_behind l = length l.records.now
