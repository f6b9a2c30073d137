use Rattle.load_pages.proofs.counts.+index_counts.Given as goal

abbrev pub decreases-index_counts : goal.decreases-index_counts
decreases-index_counts l = l.count
