use Rattle.reference_index.proofs.loads.+index_over.Given as goal

abbrev pub decreases-index_over : goal.decreases-index_over
decreases-index_over l = l.most
