use Rattle.volume_format.proofs.Homes.{sizes_of_home, version_of_home}
use Rattle.volume_format.proofs.laws.sizes_are_those_of_the_home.Goals as goal

pub returns-clause-sizes : goal.returns-clause-sizes
returns-clause-sizes c = sizes_of_home

pub returns-clause-version : goal.returns-clause-version
returns-clause-version c = λ h s block is _ long has fronts. version_of_home h s block is long has fronts
