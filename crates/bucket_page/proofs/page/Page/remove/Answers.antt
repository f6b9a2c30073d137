use Rattle.bucket_page.specs.Frames.{slots_in, next_in}
use Rattle.bucket_page.specs.Pages.{slots_of, next_of, removed}
use Rattle.bucket_page.proofs.Orders.{ascend-removed}
use Rattle.bucket_page.proofs.Fronts.{pool_held, plain_bucket_of}
use Rattle.bucket_page.proofs.page.Page.remove.Goals as goal

pub returns-clause-bucket : goal.returns-clause-bucket
returns-clause-bucket c =
    let slots = slots_in c.args.kind c.args.pool.now c.args.f.now c.args.size in
    plain_bucket_of c.args.kind c.args.size (removed slots c.args.i) (next_in c.args.pool.now c.args.f.now c.args.size) _
    (pool_held c.args.kind c.args.size c.args.pool.now c.args.f.now (λ b. removed (slots_of c.args.kind b) c.args.i) next_of c.bytes_mut-bytes.result.now c.remove_front.new.frame c.requires.out c.bytes_mut-bytes.ensures.value c.remove_front.ensures.packed)
    (ascend-removed c.args.kind c.args.i slots c.requires.there c.requires.bucket.order) c.requires.not_cells c.requires.bucket.next
