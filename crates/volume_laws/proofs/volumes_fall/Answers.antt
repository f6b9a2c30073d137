use Rattle.volume_laws.proofs.WholeLemmas.{volume_falls, volume_rests}
use Rattle.volume_laws.proofs.volumes_fall.Goals as goal

pub returns-clause-falls : goal.returns-clause-falls
returns-clause-falls c = volume_falls

pub returns-clause-rests : goal.returns-clause-rests
returns-clause-rests c = volume_rests
