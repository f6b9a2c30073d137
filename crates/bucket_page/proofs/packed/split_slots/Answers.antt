use Rattle.std.proofs.Common.{◌≡◌, ◌+◌, ◌-◌, ◌++◌, ◌∙◌, length, take, drop, ap, sym, arith, length-append}
use Rattle.file_base.specs.Bytes.{spliced}
use Rattle.bucket_page.specs.Pages.{slots_of, joined, u16_bytes}
use Rattle.bucket_page.proofs.PageLaws.{reach_within, used_is, count_is, joined_parts, high_held, low_held, piece_is}
use Rattle.bucket_page.proofs.packed.split_slots.Goals as goal

pub copy_piece-requires-clause-order : goal.copy_piece-requires-clause-order
copy_piece-requires-clause-order c =
    let low = c.args.low.now in
    let kind = c.args.kind in
    let used = c.read_u16-used.ensures ∙ used_is kind (length low) low c.requires.packed in
    let within = reach_within (slots_of kind low) c.args.at in
    omega (arith, used, within, c.slot_start-from.ensures, c.requires.packed.fits, c.requires.same)

pub overflow_sub-used : goal.overflow_sub-used
overflow_sub-used c =
    let low = c.args.low.now in
    let kind = c.args.kind in
    let used = c.read_u16-used.ensures ∙ used_is kind (length low) low c.requires.packed in
    let within = reach_within (slots_of kind low) c.args.at in
    omega (arith, used, within, c.slot_start-from.ensures, c.requires.packed.fits, c.requires.same)

pub overflow_sub-used-2 : goal.overflow_sub-used-2
overflow_sub-used-2 c =
    let low = c.args.low.now in
    let kind = c.args.kind in
    let used = c.read_u16-used.ensures ∙ used_is kind (length low) low c.requires.packed in
    let within = reach_within (slots_of kind low) c.args.at in
    omega (arith, used, within, c.slot_start-from.ensures, c.requires.packed.fits, c.requires.same)

pub splice_zeros-requires : goal.splice_zeros-requires
splice_zeros-requires c =
    let low = c.args.low.now in
    let kind = c.args.kind in
    let used = c.read_u16-used.ensures ∙ used_is kind (length low) low c.requires.packed in
    let within = reach_within (slots_of kind low) c.args.at in
    omega (arith, used, within, c.slot_start-from.ensures, c.requires.packed.fits, c.requires.same)

pub put_counts-requires-2-clause-used : goal.put_counts-requires-2-clause-used
put_counts-requires-2-clause-used c =
    let low = c.args.low.now in
    let kind = c.args.kind in
    let used = c.read_u16-used.ensures ∙ used_is kind (length low) low c.requires.packed in
    let within = reach_within (slots_of kind low) c.args.at in
    omega (arith, used, within, c.slot_start-from.ensures, c.requires.packed.fits, c.requires.same)

pub copy_piece-requires-clause-within : goal.copy_piece-requires-clause-within
copy_piece-requires-clause-within c =
    let low = c.args.low.now in
    let kind = c.args.kind in
    let used = c.read_u16-used.ensures ∙ used_is kind (length low) low c.requires.packed in
    let within = reach_within (slots_of kind low) c.args.at in
    omega (arith, used, within, c.slot_start-from.ensures, c.requires.packed.fits, c.requires.same)

pub copy_piece-requires-clause-room : goal.copy_piece-requires-clause-room
copy_piece-requires-clause-room c =
    let low = c.args.low.now in
    let kind = c.args.kind in
    let used = c.read_u16-used.ensures ∙ used_is kind (length low) low c.requires.packed in
    let within = reach_within (slots_of kind low) c.args.at in
    omega (arith, used, within, c.slot_start-from.ensures, c.requires.packed.fits, c.requires.same)

pub returns-clause-low : goal.returns-clause-low
returns-clause-low c =
    let low = c.args.low.now in
    let kind = c.args.kind in
    let used = c.read_u16-used.ensures ∙ used_is kind (length low) low c.requires.packed in
    let within = reach_within (slots_of kind low) c.args.at in
    let all = ap length (joined_parts (slots_of kind low) c.args.at) in
    let sum = length-append (joined (take c.args.at (slots_of kind low))) (joined (drop c.args.at (slots_of kind low))) in
    low_held kind (length low) c.args.at low c.splice_zeros.new.bytes c.put_counts-2.new.bytes c.slot_start-from.result (16 + c.read_u16-used.result - c.slot_start-from.result) c.requires.packed c.requires.there
    c.slot_start-from.ensures (omega (arith, used, all, sum, c.slot_start-from.ensures)) c.splice_zeros.ensures c.put_counts-2.ensures

pub returns-clause-high : goal.returns-clause-high
returns-clause-high c =
    let low = c.args.low.now in
    let kind = c.args.kind in
    let used = c.read_u16-used.ensures ∙ used_is kind (length low) low c.requires.packed in
    let within = reach_within (slots_of kind low) c.args.at in
    let high = c.args.high.now in
    let count = c.read_u16-count.ensures ∙ count_is kind (length low) low c.requires.packed in
    let end : 16 + c.read_u16-used.result ≡ 16 + length (joined (slots_of kind low)) = omega (arith, used) in
    let piece = piece_is kind (length low) c.args.at low c.slot_start-from.result (16 + c.read_u16-used.result) c.requires.packed c.slot_start-from.ensures end in
    let long : 16 + c.read_u16-used.result - c.slot_start-from.result ≡ length (joined (drop c.args.at (slots_of kind low))) =
    let all = ap length (joined_parts (slots_of kind low) c.args.at) in
    let sum = length-append (joined (take c.args.at (slots_of kind low))) (joined (drop c.args.at (slots_of kind low))) in
    omega (arith, used, all, sum, c.slot_start-from.ensures) in
    high_held kind (length low) c.args.at low high (take (16 + c.read_u16-used.result - c.slot_start-from.result) (drop c.slot_start-from.result low)) c.copy_piece.new.high c.put_counts.new.bytes c.requires.packed c.requires.empty c.requires.there
    piece c.copy_piece.ensures
    (c.put_counts.ensures ∙ (λ k. spliced c.copy_piece.new.high 2 (u16_bytes (count k - c.args.at) ++ u16_bytes ((long ∙ sym (ap length piece)) k))))
