use Rattle.std.proofs.Common.{◌≡◌, ◌+◌, ◌-◌, ◌*◌, ℕ, List, IfSome, ap, subst, arith}
use Rattle.seq_file.specs.Frames.{page_in}
use Rattle.change_set.specs.Buckets.{bucket_bytes}
use Rattle.seq_file.specs.Layout.{bucket_first}
use Rattle.change_set.specs.block_disk.Disk.{DiskState}
use Rattle.change_set.specs.careful_write.State.{StoreState}
use Rattle.change_set.proofs.careful_write.Reading.{same_so}
use Rattle.change_set.proofs.Frames.{read_again}
use Rattle.seq_file.proofs.FrameSteps.{reads}
use Rattle.seq_file.proofs.bucket.load_slots.Goals as goal

pub returns-in-Ok-clause-read : goal.returns-in-Ok-clause-read
returns-in-Ok-clause-read g c =
    let h = c.args.head.now in
    let loaded = page_in h c.load_bucket.new.store c.args.frame.now in
    let at : h.start + c.args.i * h.bucket - 518 ≡ bucket_first h c.args.i = omega (arith, c.requires.placed.from) in
    reads h c.args.i c.args.store.now.current loaded (page_in h c.settle_page.new.store c.args.frame.now)
    (subst (λ (m : ℕ). IfSome c.args.store.now.current (λ (b : List (List ℕ)). loaded ≡ bucket_bytes b m h.bucket)) at c.in-Ok.ensures.read) c.settle_page.ensures.settles

pub returns-in-Ok-clause-state : goal.returns-in-Ok-clause-state
returns-in-Ok-clause-state g c = read_again c.args.frame.now c.args.store.now c.load_bucket.new.store c.settle_page.new.store (λ (d : DiskState). d) c.in-Ok.ensures.state (same_so _ c.settle_page.new.store c.settle_page.ensures.state)

pub returns-in-Ok-clause-reads : goal.returns-in-Ok-clause-reads
returns-in-Ok-clause-reads g c = let settled = ap (λ (s : StoreState). s.reads) c.settle_page.ensures.state in omega (arith, settled, c.load_bucket.ensures.reads)
