use Rattle.run_agreement.specs.Following.{opening_of}
use Rattle.run_agreement.proofs.Openings.{reached_by}
use Rattle.run_agreement.proofs.Staying.{alike_of}
use Rattle.run_agreement.proofs.Committed.{committed_of}
use Rattle.run_agreement.proofs.Images.{images_of_run}
use Rattle.run_agreement.proofs.branches_agree.Goals as goal

pub returns-clause-runs : goal.returns-clause-runs
returns-clause-runs c = reached_by

pub returns-clause-agree : goal.returns-clause-agree
returns-clause-agree c = λ base v es h r. let x = reached_by base v es h r in (x, c.agreement.ensures.agrees (opening_of base) h.agrees x.steps)

pub returns-clause-alike : goal.returns-clause-alike
returns-clause-alike c = alike_of c.agreement.ensures.settles_alike c.agreement.ensures.none_aborted

pub returns-clause-images : goal.returns-clause-images
returns-clause-images c = images_of_run c.agreement.ensures.images_agree

pub returns-clause-committed : goal.returns-clause-committed
returns-clause-committed c = committed_of c.agreement.ensures.agrees
