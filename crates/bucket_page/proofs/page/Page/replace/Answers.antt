use Rattle.std.proofs.Common.{ap, ◌∙◌}
use Rattle.bucket_page.specs.Frames.{slots_in, next_in}
use Rattle.bucket_page.specs.Pages.{slots_of, next_of, replaced, may_count}
use Rattle.bucket_page.proofs.PageLaws.{length-replaced}
use Rattle.bucket_page.proofs.Fronts.{pool_held, bucket_of}
use Rattle.bucket_page.proofs.page.Page.replace.Goals as goal

pub returns-clause-bucket : goal.returns-clause-bucket
returns-clause-bucket c =
    let slots = slots_in c.args.kind c.args.pool.now c.args.f.now c.args.size in
    bucket_of c.args.kind c.args.size (replaced slots c.args.i c.args.slot.now) (next_in c.args.pool.now c.args.f.now c.args.size) _
    (pool_held c.args.kind c.args.size c.args.pool.now c.args.f.now (λ b. replaced (slots_of c.args.kind b) c.args.i c.args.slot.now) next_of c.bytes_mut-bytes.result.now c.replace_front.new.frame c.requires.out c.bytes_mut-bytes.ensures.value c.replace_front.ensures.packed)
    c.requires.order (ap (λ n. may_count c.args.kind c.args.size n) (length-replaced slots c.args.i c.args.slot.now c.requires.there) ∙ c.requires.bucket.number) c.requires.bucket.next
