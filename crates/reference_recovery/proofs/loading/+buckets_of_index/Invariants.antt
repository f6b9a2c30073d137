use Rattle.std.proofs.Common.{length}
use Rattle.reference_recovery.proofs.loading.+buckets_of_index.Given as goal

abbrev pub decreases-buckets_of_index : goal.decreases-buckets_of_index
decreases-buckets_of_index l = length l.index.now
