use Rattle.volume.proofs.Soundness.{sound_valid}
use Rattle.volume.proofs.law.sound_volumes_are_valid.Goals as goal

pub returns : goal.returns
returns c = sound_valid
