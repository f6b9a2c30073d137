use Rattle.reference_disk.proofs.log.+empty_log.Given as goal

abbrev pub decreases-empty_log : goal.decreases-empty_log
decreases-empty_log l = l.count
