use Rattle.std.proofs.Common.{◌≡◌, List, ℕ, IfSome, subst}
use Rattle.block_disk.specs.Disk.{DiskState}
use Rattle.block_disk.specs.Blocks.{block_at}
use Rattle.careful_write.proofs.Loading.{told_count, told_many}
use Rattle.careful_write.proofs.load.load_group.Goals as goal

pub returns-then-count-gt512-clause-found : goal.returns-then-count-gt512-clause-found
returns-then-count-gt512-clause-found g c =
    let seen = (g.D.Disk.state c.args.disk.now).seen in
    let index = subst (λ (s : DiskState). IfSome s.seen (λ (b : List (List ℕ)). c.read-2.new.out ≡ block_at b 1)) c.in_ok-read.ensures.state c.in_ok-read-2.ensures.read in
    told_many c.word_in-count.result c.read.new.out seen c.in_ok-read.ensures.read c.if-bytes-ne1.false
    (told_count c.word_in-count.result c.read-2.new.out seen c.word_in-count.ensures index) c.if-count-gt512.true
