use Rattle.reference_index.proofs.parts.+best_below.Given as goal

abbrev pub decreases-best_below : goal.decreases-best_below
decreases-best_below l = l.bound
