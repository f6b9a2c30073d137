use Rattle.std.proofs.Common.{length}
use Rattle.reference_branches.proofs.shared.+find_label.Given as goal

abbrev pub decreases-find_label : goal.decreases-find_label
decreases-find_label l = length l.labels.now
