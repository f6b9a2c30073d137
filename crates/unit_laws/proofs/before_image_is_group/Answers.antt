use Rattle.unit_laws.proofs.RestartLemmas as laws
use Rattle.unit_laws.proofs.before_image_is_group.Goals as goal

pub returns : goal.returns
returns c = laws.before_image_is_group
