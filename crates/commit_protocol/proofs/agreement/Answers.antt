use Rattle.commit_protocol.proofs.Opened.{agreement_from, alike_from, dead_from, none_from}
use Rattle.commit_protocol.proofs.Left.{left_from}
use Rattle.commit_protocol.proofs.NewVolumes.{new_agree}
use Rattle.commit_protocol.proofs.agreement.Goals as goal

pub returns-clause-agrees : goal.returns-clause-agrees
returns-clause-agrees c = agreement_from

pub returns-clause-settles_alike : goal.returns-clause-settles_alike
returns-clause-settles_alike c = alike_from

pub returns-clause-none_aborted : goal.returns-clause-none_aborted
returns-clause-none_aborted c = none_from

pub returns-clause-stays_dead : goal.returns-clause-stays_dead
returns-clause-stays_dead c = dead_from

pub returns-clause-images_agree : goal.returns-clause-images_agree
returns-clause-images_agree c = left_from

pub returns-clause-new_volumes_agree : goal.returns-clause-new_volumes_agree
returns-clause-new_volumes_agree c = new_agree
