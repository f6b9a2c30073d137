use Rattle.recovery_chains.proofs.Chains.{files_agree_again, last_image_chains_agree, last_images_agree_again, recovery_chains_agree}
use Rattle.recovery_chains.proofs.files_agree_again.Goals as goal

pub returns-clause-again : goal.returns-clause-again
returns-clause-again c = files_agree_again c.promises_hold.ensures.agreed

pub returns-clause-chains : goal.returns-clause-chains
returns-clause-chains c = recovery_chains_agree c.promises_hold.ensures.agreed

pub returns-clause-lasts : goal.returns-clause-lasts
returns-clause-lasts c = last_images_agree_again c.promises_hold.ensures.agreed

pub returns-clause-last_chains : goal.returns-clause-last_chains
returns-clause-last_chains c = last_image_chains_agree c.promises_hold.ensures.agreed
