use Rattle.bucket_page.specs.Frames.{slots_in, next_in}
use Rattle.bucket_page.specs.Pages.{slots_of, next_of, inserted}
use Rattle.bucket_page.proofs.Fronts.{pool_held, plain_bucket_of}
use Rattle.bucket_page.proofs.page.Page.insert.Goals as goal

pub returns-clause-bucket : goal.returns-clause-bucket
returns-clause-bucket c = λ is.
    let slots = slots_in c.args.kind c.args.pool.now c.args.f.now c.args.size in
    plain_bucket_of c.args.kind c.args.size (inserted slots c.args.i c.args.slot.now) (next_in c.args.pool.now c.args.f.now c.args.size) _
    (pool_held c.args.kind c.args.size c.args.pool.now c.args.f.now (λ b. inserted (slots_of c.args.kind b) c.args.i c.args.slot.now) next_of c.bytes_mut-bytes.result.now c.insert_front.new.frame c.requires.out c.bytes_mut-bytes.ensures.value (c.insert_front.ensures.yes is))
    c.requires.order c.requires.not_cells c.requires.bucket.next
