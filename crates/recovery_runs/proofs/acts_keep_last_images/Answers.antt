use Rattle.recovery_runs.proofs.LastImageLemmas.{acts_keep_last_images, fewer_last_images, last_images_are_values, more_last_images, still_files_stand}
use Rattle.recovery_runs.proofs.acts_keep_last_images.Goals as goal

pub returns-clause-values : goal.returns-clause-values
returns-clause-values c = last_images_are_values

pub returns-clause-acts : goal.returns-clause-acts
returns-clause-acts c = acts_keep_last_images

pub returns-clause-more : goal.returns-clause-more
returns-clause-more c = more_last_images

pub returns-clause-fewer : goal.returns-clause-fewer
returns-clause-fewer c = fewer_last_images

pub returns-clause-still : goal.returns-clause-still
returns-clause-still c = still_files_stand
