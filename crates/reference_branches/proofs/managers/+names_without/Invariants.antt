use Rattle.std.proofs.Common.{length}
use Rattle.reference_branches.proofs.managers.+names_without.Given as goal

abbrev pub decreases-names_without : goal.decreases-names_without
decreases-names_without l = length l.names.items
