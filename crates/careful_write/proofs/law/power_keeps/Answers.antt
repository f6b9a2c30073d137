use Rattle.careful_write.specs.State.{IsEither}
use Rattle.careful_write.proofs.Touched.{powered}
use Rattle.careful_write.proofs.law.power_keeps.Goals as goal

pub returns : goal.returns
returns c = λ before after old new leaves power. powered (IsEither before after) old new leaves power
