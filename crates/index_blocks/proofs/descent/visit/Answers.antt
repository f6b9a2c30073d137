use Rattle.std.proofs.Common.{◌≡◌, ◌*◌, List, ℕ, refl, arith}
use Rattle.change_set.specs.Buckets.{frame_of}
use Rattle.change_set.proofs.Frames.{frame_is}
use Rattle.index_bucket.specs.index_model.Indexes.{child_for}
use Rattle.index_bucket.specs.Entries.{entries_at, IsIndexBucket}
use Rattle.index_blocks.proofs.StageLaws.{bucket_read}
use Rattle.index_blocks.proofs.descent.visit.Goals as goal

pub returns-clause-child : goal.returns-clause-child
returns-clause-child g c =
    let h = c.args.head.now in
    let s = c.load_index.new.store in
    bucket_read c.args.store.now.current h c.args.n (512 * c.args.head.now.bucket) (frame_of s.pool c.args.frame.now) c.bytes.result.now (λ (x : List ℕ). IsIndexBucket h x → c.step.result ≡ child_for c.args.key.now (entries_at h x))
    (frame_is c.pool.result.now s.pool c.args.frame.now c.bytes.result.now c.pool.ensures.value c.bytes.ensures.value) refl (omega (arith, c.bytes.ensures.size, c.requires.placed.blocks))
    c.in_ok-load_index.ensures.read c.step.ensures.child
