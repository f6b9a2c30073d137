use Rattle.std.proofs.Common.{[], refl}
use Rattle.bucket_page.proofs.Fronts.{pool_held, plain_bucket_of}
use Rattle.bucket_page.proofs.page.Page.clear.Goals as goal

pub returns-clause-bucket : goal.returns-clause-bucket
returns-clause-bucket c =
    plain_bucket_of c.args.kind c.args.size [] c.args.next _
    (pool_held c.args.kind c.args.size c.args.pool.now c.args.f.now (λ _. []) (λ _. c.args.next) c.bytes_mut-bytes.result.now c.clear_front.new.frame c.requires.out c.bytes_mut-bytes.ensures.value c.clear_front.ensures.packed)
    refl c.requires.not_cells c.requires.next
