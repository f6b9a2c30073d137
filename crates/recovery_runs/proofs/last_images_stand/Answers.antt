use Rattle.recovery_runs.proofs.RunLemmas.{last_images_hold, next_last_images_hold}
use Rattle.recovery_runs.proofs.last_images_stand.Goals as goal

pub returns-clause-run : goal.returns-clause-run
returns-clause-run c = last_images_hold

pub returns-clause-next : goal.returns-clause-next
returns-clause-next c = next_last_images_hold
