use Rattle.std.proofs.Common.{inl, inr, ap}
use Rattle.change_set.specs.careful_write.State.{StoreState}
use Rattle.seq_file.specs.Frames.{page_in}
use Rattle.seq_file.proofs.bucket.settle_page.Goals as goal

pub returns-in-Some-clause-settles : goal.returns-in-Some-clause-settles
returns-in-Some-clause-settles g c = inl (c.in-Some.ensures.bucket, ap (λ (s : StoreState). page_in c.args.head.now s c.args.frame.now) c.count_slots.ensures.same)

pub returns-in-None-clause-settles : goal.returns-in-None-clause-settles
returns-in-None-clause-settles g c = inr (c.in-None.ensures.none, c.clear_page.ensures.page.are)
