use Rattle.std.proofs.Common.{refl}
use Rattle.volume_format.proofs.Homes.{home_stands, home_written}
use Rattle.volume_format.proofs.Heads.{head_stands}
use Rattle.volume_format.specs.Head.{head_block_of}
use Rattle.volume_format.proofs.laws.layouts_are_read_as_written.Goals as goal

pub returns-clause-home_stands : goal.returns-clause-home_stands
returns-clause-home_stands c = home_stands

pub returns-clause-home_written : goal.returns-clause-home_written
returns-clause-home_written c = home_written

pub returns-clause-head_stands : goal.returns-clause-head_stands
returns-clause-head_stands c = λ h is. head_stands h (head_block_of h) is refl
