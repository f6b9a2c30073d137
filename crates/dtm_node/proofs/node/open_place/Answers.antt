use Rattle.std.proofs.Common.{is_some}
use Rattle.dtm_node.proofs.Opening.{open_lacks}
use Rattle.dtm_node.proofs.node.open_place.Goals as goal

pub returns-in-Some-clause-opens : goal.returns-in-Some-clause-opens
returns-in-Some-clause-opens g c = λ clock. rw c.in-Down.is (c.open_with.ensures.opens clock (is_some c.in-Down.parts))

pub returns-in-Ok-clause-opens : goal.returns-in-Ok-clause-opens
returns-in-Ok-clause-opens g c = λ clock. rw c.in-Down.is (c.open_with-in-Ok.ensures.opens clock (is_some c.in-Down.parts))

pub returns-in-Err-clause-opens : goal.returns-in-Err-clause-opens
returns-in-Err-clause-opens g c = λ clock. rw (c.in-Down.is, c.in-None.is) (open_lacks c.args.boot.name clock (g.D.Disk.state c.in-Down.disk))
