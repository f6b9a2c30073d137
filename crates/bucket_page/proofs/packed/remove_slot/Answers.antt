use Rattle.std.proofs.Common.{◌+◌, ◌-◌, ◌++◌, ◌∙◌, length, drop, ap, arith}
use Rattle.file_base.specs.Bytes.{spliced}
use Rattle.bucket_page.specs.Pages.{u16_bytes, front_size}
use Rattle.bucket_page.proofs.PageLaws.{remove_held, slot_stands, used_is, count_is}
use Rattle.bucket_page.proofs.packed.remove_slot.Goals as goal

pub front_len-size-requires : goal.front_len-size-requires
front_len-size-requires c =
    let bytes = c.args.bytes.now in
    let stands = slot_stands c.args.kind (length bytes) c.args.i bytes c.requires.packed c.requires.there in
    omega (arith, stands.long, stands.after, stands.within, c.slot_start-at.ensures, c.requires.packed.fits)

pub close_at-requires-clause-order : goal.close_at-requires-clause-order
close_at-requires-clause-order c =
    let bytes = c.args.bytes.now in
    let kind = c.args.kind in
    let stands = slot_stands kind (length bytes) c.args.i bytes c.requires.packed c.requires.there in
    let used = c.read_u16-used.ensures ∙ used_is kind (length bytes) bytes c.requires.packed in
    let long = c.front_len-size.ensures ∙ ap (λ n. front_size kind (drop n bytes)) c.slot_start-at.ensures ∙ stands.size in
    omega (arith, used, long, stands.after, stands.within, c.slot_start-at.ensures)

pub overflow_sub-used : goal.overflow_sub-used
overflow_sub-used c =
    let bytes = c.args.bytes.now in
    let kind = c.args.kind in
    let stands = slot_stands kind (length bytes) c.args.i bytes c.requires.packed c.requires.there in
    let used = c.read_u16-used.ensures ∙ used_is kind (length bytes) bytes c.requires.packed in
    let long = c.front_len-size.ensures ∙ ap (λ n. front_size kind (drop n bytes)) c.slot_start-at.ensures ∙ stands.size in
    omega (arith, used, long, stands.after, stands.within, c.slot_start-at.ensures)

pub returns : goal.returns
returns c =
    let bytes = c.args.bytes.now in
    let kind = c.args.kind in
    let stands = slot_stands kind (length bytes) c.args.i bytes c.requires.packed c.requires.there in
    let used = c.read_u16-used.ensures ∙ used_is kind (length bytes) bytes c.requires.packed in
    let count = c.read_u16-count.ensures ∙ count_is kind (length bytes) bytes c.requires.packed in
    let long = c.front_len-size.ensures ∙ ap (λ n. front_size kind (drop n bytes)) c.slot_start-at.ensures ∙ stands.size in
    remove_held kind (length bytes) c.args.i bytes c.close_at.new.bytes c.put_counts.new.bytes c.slot_start-at.result (16 + c.read_u16-used.result) c.front_len-size.result c.requires.packed c.requires.there
    c.slot_start-at.ensures (ap (λ n. 16 + n) used) long c.close_at.ensures
    (c.put_counts.ensures ∙ (λ k. spliced c.close_at.new.bytes 2 (u16_bytes (count k - 1) ++ u16_bytes (used k - c.front_len-size.result))))
