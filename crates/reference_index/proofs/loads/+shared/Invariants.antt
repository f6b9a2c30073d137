use Rattle.reference_index.proofs.loads.+shared.Given as goal

abbrev pub decreases-shared : goal.decreases-shared
decreases-shared l = l.most
