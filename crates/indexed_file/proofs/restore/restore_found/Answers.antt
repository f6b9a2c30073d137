use Rattle.std.proofs.Common.{true, inr, List, ℕ, take, is_some, refl, ap, ◌∙◌, arith, length}
use Rattle.std.specs.Option.{option_copied}
use Rattle.bucket_page.specs.Pages.{u16_at, slots_of}
use Rattle.change_set.specs.records_model.Slots.{room_in}
use Rattle.indexed_file.specs.Chain.{kind_of}
use Rattle.indexed_file.specs.Backs.{changed, lacking}
use Rattle.indexed_file.proofs.TargetLaws.{found_at}
use Rattle.indexed_file.proofs.LeafSetLaws.{sets_in_place}
use Rattle.indexed_file.proofs.restore.restore_found.Goals as goal

pub change_slot-requires-clause-same : goal.change_slot-requires-clause-same
change_slot-requires-clause-same c = omega (arith, c.slot.ensures.size, c.number_at-room.ensures, ap (λ (x : List ℕ). length x) c.slot.ensures.is)

pub change_slot-requires-clause-key_room : goal.change_slot-requires-clause-key_room
change_slot-requires-clause-key_room c = omega (arith, c.slot.ensures.size, c.slot.ensures.key, c.number_at-room.ensures)

pub returns-then-long-room : goal.returns-then-long-room
returns-then-long-room c = λ bucket kept.
    let h = c.args.head.now in
    let raws = slots_of (kind_of h) (take c.args.size c.args.low.now) in
    let place = c.requires.place in
    let found = found_at h c.args.key.now raws c.args.i place.lower (place.there refl) (place.here refl) in
    lacking refl (inr (omega (arith, ap room_in found, c.number_at-room.ensures, ap (λ (x : List ℕ). u16_at x 0) c.slot.ensures.is, c.value_size-long.ensures, c.if-long-room.true)))

pub returns : goal.returns
returns c = λ bucket kept.
    let h = c.args.head.now in
    let size = c.args.size in
    let raws = slots_of (kind_of h) (take size c.args.low.now) in
    let place = c.requires.place in
    let found = found_at h c.args.key.now raws c.args.i place.lower (place.there refl) (place.here refl) in
    let room = c.number_at-room.ensures ∙ ap (λ (x : List ℕ). u16_at x 0) c.slot.ensures.is in
    let new = take size c.change_slot.new.low in
    changed refl
    (record { slot = ap is_some found; holds = omega (arith, ap room_in found, room, c.value_size-long.ensures, c.if-long-room.false) })
    (sets_in_place h (λ t. true) c.args.key.now (option_copied c.args.value) size h.used c.args.i c.number_at-room.result (take size c.args.low.now) new new new (omega (arith, c.requires.records)) bucket kept place room
    (omega (arith, c.value_size-long.ensures, c.if-long-room.false)) c.change_slot.ensures)
