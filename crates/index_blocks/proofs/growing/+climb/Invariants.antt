use Rattle.index_blocks.proofs.growing.+climb.Given as goal

abbrev pub decreases-climb : goal.decreases-climb
decreases-climb g l = l.depth
