use Rattle.run_agreement.proofs.Told.{runs_tell_no_more, unused_are_told, used_tell_no_more}
use Rattle.run_agreement.proofs.images_are_told.Goals as goal

pub returns : goal.returns
returns c = record { unused = unused_are_told; used = used_tell_no_more; runs = runs_tell_no_more }
