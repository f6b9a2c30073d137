use Rattle.volume.proofs.Places.{keeps_first}
use Rattle.volume.proofs.law.first_findings_are_kept.Goals as goal

pub returns : goal.returns
returns c = λ x found. keeps_first 1000 x found
