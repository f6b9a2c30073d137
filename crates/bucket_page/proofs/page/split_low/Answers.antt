use Rattle.std.proofs.Common.{take}
use Rattle.bucket_page.specs.Pages.{slots_of, next_of}
use Rattle.bucket_page.proofs.Fronts.{pool_held}
use Rattle.bucket_page.proofs.page.split_low.Goals as goal

pub returns-clause-low : goal.returns-clause-low
returns-clause-low c =
    pool_held c.args.kind c.args.size c.args.pool.now c.args.low.now (λ b. take c.args.at (slots_of c.args.kind b)) next_of c.bytes_mut-bytes.result.now c.split_front.new.low c.requires.out c.bytes_mut-bytes.ensures.value c.split_front.ensures.low
