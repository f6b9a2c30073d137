use Rattle.std.proofs.Common.{◌+◌, ◌++◌, ◌∙◌, length, ap, arith}
use Rattle.file_base.specs.Bytes.{spliced}
use Rattle.bucket_page.specs.Pages.{slots_of, u16_bytes}
use Rattle.bucket_page.proofs.PageLaws.{insert_held, reach_within, few_slots, used_is, count_is}
use Rattle.bucket_page.proofs.packed.insert_slot.Goals as goal

pub open_at-requires-clause-order : goal.open_at-requires-clause-order
open_at-requires-clause-order c =
    let bytes = c.args.bytes.now in
    omega (arith, c.slot_start-at.ensures, reach_within (slots_of c.args.kind bytes) c.args.i, c.read_u16-used.ensures, used_is c.args.kind (length bytes) bytes c.requires.packed)

pub put_counts-requires-clause-count : goal.put_counts-requires-clause-count
put_counts-requires-clause-count c =
    let bytes = c.args.bytes.now in
    omega (arith, c.read_u16-count.ensures, count_is c.args.kind (length bytes) bytes c.requires.packed, few_slots c.args.kind (slots_of c.args.kind bytes) c.requires.packed.suit, c.requires.packed.fits)

pub returns-clause-yes : goal.returns-clause-yes
returns-clause-yes c = λ is.
    let bytes = c.args.bytes.now in
    let slot = c.args.slot.now in
    let slots = slots_of c.args.kind bytes in
    let used = c.read_u16-used.ensures ∙ used_is c.args.kind (length bytes) bytes c.requires.packed in
    let count = c.read_u16-count.ensures ∙ count_is c.args.kind (length bytes) bytes c.requires.packed in
    insert_held c.args.kind (length bytes) c.args.i bytes slot c.open_at.new.bytes c.put_counts.new.bytes c.slot_start-at.result (16 + c.read_u16-used.result) c.requires.packed c.requires.slot
    (omega (arith, used, c.if-used-size.false)) c.slot_start-at.ensures (ap (λ n. 16 + n) used) c.open_at.ensures
    (c.put_counts.ensures ∙ (λ k. spliced c.open_at.new.bytes 2 (u16_bytes (count k + 1) ++ u16_bytes (used k + length slot))))
