use Rattle.std.proofs.Common.{length, arith}
use Rattle.bucket_page.proofs.PageLaws.{replace_held, slot_stands}
use Rattle.bucket_page.proofs.packed.replace_slot.Goals as goal

pub splice-requires : goal.splice-requires
splice-requires c =
    let bytes = c.args.bytes.now in
    let stands = slot_stands c.args.kind (length bytes) c.args.i bytes c.requires.packed c.requires.there in
    omega (arith, c.requires.same, stands.after, stands.within, c.slot_start-at.ensures, c.requires.packed.fits)

pub returns : goal.returns
returns c =
    let bytes = c.args.bytes.now in
    replace_held c.args.kind (length bytes) c.args.i bytes c.args.slot.now c.splice.new.bytes c.slot_start-at.result c.requires.packed c.requires.slot c.requires.there
    c.slot_start-at.ensures c.requires.same c.splice.ensures
