use Rattle.std.proofs.Common.{ap, arith}
use Rattle.change_set.specs.careful_write.State.{StoreState}
use Rattle.change_set.specs.Buckets.{frame_of}
use Rattle.change_set.proofs.Frames.{put_more}
use Rattle.relative_file.proofs.bucket.read_bucket.Goals as goal

pub returns-in-Ok-clause-state : goal.returns-in-Ok-clause-state
returns-in-Ok-clause-state g c =
    (put_more c.args.frame.now (frame_of c.mend_frame.new.store.pool c.args.frame.now) c.args.store.now c.load_bucket.new.store c.mend_frame.new.store c.in-Ok.ensures.out c.in-Ok.ensures.state c.mend_frame.ensures.put).state

pub returns-in-Ok-clause-reads : goal.returns-in-Ok-clause-reads
returns-in-Ok-clause-reads g c = let mended = ap (λ (s : StoreState). s.reads) c.mend_frame.ensures.put in omega (arith, mended, c.load_bucket.ensures.reads)
