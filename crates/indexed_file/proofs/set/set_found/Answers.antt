use Rattle.std.proofs.Common.{◌≡◌, ◌<◌, List, ℕ, length, take, Option, Some, None, subst, sym, ap, refl, ◌∙◌, arith}
use Rattle.vms_base.specs.vms_model.Keys.{Text}
use Rattle.std.specs.Option.{option_copied}
use Rattle.bucket_page.specs.declared.kind.PageKind.{PageKind}
use Rattle.bucket_page.specs.Pages.{u16_at, slots_of, next_of, slot_at, removed, IsPacked, Packs}
use Rattle.change_set.specs.records_model.Slots.{size_of}
use Rattle.indexed_file.specs.Chain.{kind_of, SuitsText}
use Rattle.indexed_file.specs.Raws.{slot_bytes, Means}
use Rattle.indexed_file.proofs.RawLaws.{means_some, record_key}
use Rattle.indexed_file.proofs.LeafSetLaws.{sets_in_place, sets_grown, sets_as, length_removed}
use Rattle.indexed_file.proofs.set.set_found.Goals as goal

pub change_slot-requires-clause-same : goal.change_slot-requires-clause-same
change_slot-requires-clause-same g c = omega (arith, c.slot.ensures.size, c.number_at-room.ensures, ap (λ (x : List ℕ). length x) c.slot.ensures.is)

pub change_slot-requires-clause-key_room : goal.change_slot-requires-clause-key_room
change_slot-requires-clause-key_room g c = omega (arith, c.slot.ensures.size, c.slot.ensures.key, c.number_at-room.ensures)

pub returns-then-long-room-clause-sets : goal.returns-then-long-room-clause-sets
returns-then-long-room-clause-sets g c = λ kept.
    let h = c.args.head.now in
    let size = c.args.size in
    let held = λ (t : List ℕ). g.H.Held.held c.args.held.now (Text t) in
    sets_in_place h held c.args.key.now (option_copied c.args.value) size h.used c.args.i c.number_at-room.result (take size c.args.low.now) (take size c.change_slot.new.low) (take size c.args.mid.now) (take size c.args.high.now) (omega (arith, c.requires.records))
    c.requires.bucket kept c.requires.place (c.number_at-room.ensures ∙ ap (λ (x : List ℕ). u16_at x 0) c.slot.ensures.is) (omega (arith, c.value_size-long.ensures, c.if-long-room.true)) c.change_slot.ensures

pub remove_front-requires-clause-there : goal.remove_front-requires-clause-there
remove_front-requires-clause-there g c = let below = c.requires.place.there refl in omega (arith, below, ap (λ (k : PageKind). length (slots_of k (take c.args.size c.args.low.now))) c.kind.ensures)

pub add_record-requires-clause-packed : goal.add_record-requires-clause-packed
add_record-requires-clause-packed g c = subst (λ (k : PageKind). IsPacked k c.args.size (take c.args.size c.remove_front.new.frame)) c.kind.ensures c.remove_front.ensures.packed.packed

pub add_record-requires-clause-counted : goal.add_record-requires-clause-counted
add_record-requires-clause-counted g c =
    let size = c.args.size in
    let old = take size c.args.low.now in
    let s = slots_of (kind_of c.args.head.now) old in
    let gone = subst (λ (k : PageKind). Packs k size (removed (slots_of k old) c.args.i) (next_of old) (take size c.remove_front.new.frame)) c.kind.ensures c.remove_front.ensures.packed in
    omega (arith, ap (λ (r : List (List ℕ)). length r) gone.slots_are, length_removed s c.args.i (c.requires.place.there refl), c.requires.counted)

pub add_record-requires-clause-place : goal.add_record-requires-clause-place
add_record-requires-clause-place g c = let below = c.requires.place.there refl in omega (arith, below, c.requires.counted)

pub add_record-requires-clause-key : goal.add_record-requires-clause-key
add_record-requires-clause-key g c =
    let is = ap option_copied c.in-Some.is ∙ ap Some (sym c.bytes.ensures.value) in
    record_key c.args.head.now c.args.key.now c.bytes.result.now c.requires.form.key (subst (λ (o : Option (List ℕ)). SuitsText c.args.head.now c.args.key.now o) is c.requires.suits)

pub add_record-requires-clause-alone : goal.add_record-requires-clause-alone
add_record-requires-clause-alone g c =
    let is = ap option_copied c.in-Some.is ∙ ap Some (sym c.bytes.ensures.value) in
    let suits : SuitsText c.args.head.now c.args.key.now (Some c.bytes.result.now) = subst (λ (o : Option (List ℕ)). SuitsText c.args.head.now c.args.key.now o) is c.requires.suits in
    omega (arith, suits.most, c.requires.records)

pub returns-in-Some-clause-sets : goal.returns-in-Some-clause-sets
returns-in-Some-clause-sets g c = λ kept.
    let h = c.args.head.now in
    let size = c.args.size in
    let k = c.args.key.now in
    let r = c.bytes.result.now in
    let old = take size c.args.low.now in
    let gone = take size c.remove_front.new.frame in
    let held = λ (t : List ℕ). g.H.Held.held c.args.held.now (Text t) in
    let is : option_copied c.args.value ≡ Some r = ap option_copied c.in-Some.is ∙ ap Some (sym c.bytes.ensures.value) in
    let suits : SuitsText h k (Some r) = subst (λ (o : Option (List ℕ)). SuitsText h k o) is c.requires.suits in
    let x = slot_bytes (length r) (length r) 0 r in
    let means : Means h k (length r) (Some r) x = means_some h k r (length r) (Some r) x refl c.requires.form.key c.requires.form.holds suits (omega arith) refl in
    let packs = subst (λ (q : PageKind). Packs q size (removed (slots_of q old) c.args.i) (next_of old) gone) c.kind.ensures c.remove_front.ensures.packed in
    let short : u16_at (slot_at (slots_of (kind_of h) old) c.args.i) 0 < length r =
    omega (arith, c.if-long-room.false, c.value_size-long.ensures, ap size_of is, c.number_at-room.ensures, ap (λ (y : List ℕ). u16_at y 0) c.slot.ensures.is) in
    sets_as h held k (option_copied c.args.value) (Some r) size h.used old c.add_record.result (take size c.add_record.new.low) (take size c.add_record.new.mid) (take size c.add_record.new.high) is
    (sets_grown h held k r size h.used c.args.i c.add_record.result x old gone (take size c.add_record.new.low) (take size c.add_record.new.mid) (take size c.add_record.new.high) (omega (arith, c.requires.records)) c.requires.form.key
    c.requires.bucket kept c.requires.place short means packs c.add_record.ensures.parted)

pub returns-in-None-clause-sets : goal.returns-in-None-clause-sets
returns-in-None-clause-sets g c = λ kept.
    let none : option_copied c.args.value ≡ None = ap option_copied c.in-None.is in
    absurd (omega (arith, c.if-long-room.false, c.value_size-long.ensures, ap size_of none))
