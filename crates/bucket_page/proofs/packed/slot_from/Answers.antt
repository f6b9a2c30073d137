use Rattle.std.proofs.Common.{length, drop, ap, arith}
use Rattle.bucket_page.specs.Pages.{front_size}
use Rattle.bucket_page.proofs.PageLaws.{slot_stands}
use Rattle.bucket_page.proofs.packed.slot_from.Goals as goal

pub front_len-at-requires : goal.front_len-at-requires
front_len-at-requires c =
    let bytes = c.args.bytes.now in
    let stands = slot_stands c.args.kind (length bytes) c.loop-k.k bytes c.requires.packed (omega arith) in
    omega (arith, stands.long, stands.after, stands.within, c.loop-k.invariant, c.requires.packed.fits)

pub overflow_add-at : goal.overflow_add-at
overflow_add-at c =
    let bytes = c.args.bytes.now in
    let stands = slot_stands c.args.kind (length bytes) c.loop-k.k bytes c.requires.packed (omega arith) in
    omega (arith, stands.size, stands.after, stands.within, c.loop-k.invariant, c.requires.packed.fits, c.front_len-at.ensures, ap (λ n. front_size c.args.kind (drop n bytes)) c.loop-k.invariant)

pub loop-k-preserved : goal.loop-k-preserved
loop-k-preserved c =
    let bytes = c.args.bytes.now in
    let stands = slot_stands c.args.kind (length bytes) c.loop-k.k bytes c.requires.packed (omega arith) in
    omega (arith, stands.size, stands.after, c.loop-k.invariant, c.front_len-at.ensures, ap (λ n. front_size c.args.kind (drop n bytes)) c.loop-k.invariant)
