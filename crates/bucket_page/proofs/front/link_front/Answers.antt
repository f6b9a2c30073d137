use Rattle.bucket_page.proofs.Fronts.{linked}
use Rattle.bucket_page.proofs.front.link_front.Goals as goal

pub returns-clause-packed : goal.returns-clause-packed
returns-clause-packed c = linked c.args.kind c.args.size c.args.next c.args.frame.now c.put_next.new.bytes c.requires.within c.requires.packed c.put_next.ensures
