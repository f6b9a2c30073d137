-- The units stay in order with the volume, and each image tells the old or the new.
use Rattle.std.proofs.Common.{◌≡◌, ◌+◌, ◌*◌, ◌≤◌, ◌^◌, ℕ, true, List, Some, None, slice_set, ap, sym, subst, ◌∙◌, arith}
use Rattle.std.specs.List.{flat_map}
use Rattle.change_set.specs.Maps.{empty_map}
use Rattle.volume_files.specs.record_files.Any.{map_of}
use Rattle.image_room.specs.Room.{images_refused}
use Rattle.record_operations.specs.Causes.{first_cause}
use Rattle.unit_journal.specs.Room.{journal_refused}
use Rattle.unit_table.specs.Units.{OpenUnit, Units, has_changed, unit_at, with_unit}
use Rattle.vms_base.specs.Ids.{serial_of, tid_of}
use Rattle.vms_model.specs.Ids.{Id}
use Rattle.volume.specs.State.{VolumeState}
use Rattle.volume_files.proofs.Places.{within_list}
use Rattle.rms_units.specs.State.{UnitsState}
use Rattle.rms_units.specs.Truncating.{IsCut, with_positions}
use Rattle.key_changes.specs.unit_cuts.Truncating.{CutEntries, MakesCut, begins_at, entry_sizes, keys_cut}
use Rattle.key_changes.proofs.unit_cuts.CutMade.{breaks_cut_so}
use Rattle.rms_units.proofs.CutOrder.{order_cut}
use Rattle.key_changes.proofs.unit_cuts.Outcomes.{of_some, the_one}
use Rattle.rms_units.proofs.CutRooms.{had_fits, images_fit, late_none}
use Rattle.rms_units.proofs.ImageSound.{low_by}
use Rattle.rms_units.proofs.RoomLemmas.{room_for}
use Rattle.rms_units.proofs.EndLemmas.{ends_cut}
use Rattle.rms_units.proofs.truncating.make_cut.Goals as goal

pub cut_records-requires-clause-fits : goal.cut_records-requires-clause-fits
cut_records-requires-clause-fits g c =
    let v = c.args.volume.now in
    let us = c.args.table.now.places in
    let s : UnitsState = record { units = c.args.table.now; locks = c.args.locks.now.locks } in
    let one = the_one (unit_at us c.args.place) c.requires.there in
    had_fits s v one.0 c.args.size c.requires.order c.requires.early (of_some (λ (x : OpenUnit). journal_refused v.catalog.ru us x c.args.size ≡ None) (unit_at us c.args.place) one.0 one.1 c.requires.fits)

pub cut_records-requires-clause-low : goal.cut_records-requires-clause-low
cut_records-requires-clause-low g c =
    let v = c.args.volume.now in
    let us = c.args.table.now.places in
    let one = the_one (unit_at us c.args.place) c.requires.there in
    let room = room_for v.catalog.ru us one.0 c.args.size c.requires.order.room (of_some (λ (x : OpenUnit). journal_refused v.catalog.ru us x c.args.size ≡ None) (unit_at us c.args.place) one.0 one.1 c.requires.fits) in
    let low = c.requires.early.low in
    let blocks = c.requires.order.sound.ru_blocks in
    let most = c.requires.order.sound.sizes.most_journal in
    omega (arith, room, low, blocks, most)

pub cut_records-requires-clause-images : goal.cut_records-requires-clause-images
cut_records-requires-clause-images g c =
    let v = c.args.volume.now in
    let cut = c.args.cut.now in
    let us = c.args.table.now.places in
    let s : UnitsState = record { units = c.args.table.now; locks = c.args.locks.now.locks } in
    let one = the_one (unit_at us c.args.place) c.requires.there in
    let free = of_some (λ (x : OpenUnit). images_refused cut.head cut.file us (has_changed x cut.file) (entry_sizes empty_map (keys_cut cut.head cut.from)) c.args.size ≡ None) (unit_at us c.args.place) one.0 one.1 c.requires.rooms in
    images_fit s v cut.file cut.head c.requires.order c.requires.early c.requires.head (has_changed one.0 cut.file) cut.from c.args.size c.requires.most_bytes c.requires.few_records free

pub returns-clause-order : goal.returns-clause-order
returns-clause-order g c =
    let v = c.args.volume.now in
    let cut = c.args.cut.now in
    let us = c.args.table.now.places in
    let en = c.in-Ok.ensures.enters in
    let one = the_one (unit_at us c.args.place) c.requires.there in
    let u = one.0 in
    let gone = entry_sizes empty_map (keys_cut cut.head cut.from) in
    let s : UnitsState = record { units = c.args.table.now; locks = c.args.locks.now.locks } in
    let t : UnitsState = record { units = c.note_cut.new.table; locks = c.hold_cut.new.locks.locks } in
    let room = room_for v.catalog.ru us u c.args.size c.requires.order.room (of_some (λ (x : OpenUnit). journal_refused v.catalog.ru us x c.args.size ≡ None) (unit_at us c.args.place) u one.1 c.requires.fits) in
    let noted : c.note_cut.new.table ≡ with_unit c.args.place (with_positions c.positions.result.now cut.file u) c.args.table.now =
    of_some (λ (x : OpenUnit). c.note_cut.new.table ≡ with_unit c.args.place (with_positions c.positions.result.now cut.file x) c.args.table.now) (unit_at us c.args.place) u one.1 c.note_cut.ensures in
    let begins : c.positions.result.now ≡ begins_at v.catalog.ru.end en.0.had = c.positions.ensures ∙ en.3 in
    let free = of_some (λ (x : OpenUnit). images_refused cut.head cut.file us (has_changed x cut.file) gone c.args.size ≡ None) (unit_at us c.args.place) u one.1 c.requires.rooms in
    let few = en.2 in
    order_cut c.args.place cut.file cut.head cut.from en.0 gone c.args.size u s t v c.cut_records.new.volume c.requires.order (within_list us c.args.place u one.1) one.1 (let less = few.had in omega (arith, room, less)) c.requires.head few
    (low_by gone c.args.size (2 ^ 24) cut.file v.catalog.heads (let f = c.requires.few_records in omega (arith, f)) (let f = c.requires.most_bytes in omega (arith, f)) c.requires.early.images) free
    en.1.enters c.in-Ok.ensures.idle c.in-Ok.ensures.holds c.in-Ok.ensures.counts.size c.cut_records.ensures.pool
    (ap (λ (x : Units). x.places) noted ∙ ap (λ (ps : List ℕ). slice_set us c.args.place (Some (with_positions ps cut.file u))) begins)

pub returns-clause-makes : goal.returns-clause-makes
returns-clause-makes g c = λ u at.
    let v = c.args.volume.now in
    let cut = c.args.cut.now in
    let en = c.in-Ok.ensures.enters in
    let tid = tid_of c.args.branch.now.tid in
    let serial = serial_of c.args.branch.now.serial in
    let us = c.args.table.now.places in
    let same = of_some (λ (x : OpenUnit). (tid ≡ x.tid) × (serial ≡ x.serial)) (unit_at us c.args.place) u at c.requires.unit in
    let noted : c.note_cut.new.table ≡ with_unit c.args.place (with_positions c.positions.result.now cut.file u) c.args.table.now =
    of_some (λ (x : OpenUnit). c.note_cut.new.table ≡ with_unit c.args.place (with_positions c.positions.result.now cut.file x) c.args.table.now) (unit_at us c.args.place) u at c.note_cut.ensures in
    let begins : c.positions.result.now ≡ begins_at v.catalog.ru.end en.0.had = c.positions.ensures ∙ en.3 in (
      en.0,
      subst (λ (b : Id). MakesCut u.tid b cut.file cut.head cut.from en.0 v c.cut_records.new.volume) same.1 (subst (λ (a : Id). MakesCut a serial cut.file cut.head cut.from en.0 v c.cut_records.new.volume) same.0 en.1),
      noted ∙ ap (λ (ps : List ℕ). with_unit c.args.place (with_positions ps cut.file u) c.args.table.now) begins,
    )

pub returns-in-Err-clause-breaks : goal.returns-in-Err-clause-breaks
returns-in-Err-clause-breaks g c = λ u at.
    let v = c.args.volume.now in
    let cut = c.args.cut.now in
    let tid = tid_of c.args.branch.now.tid in
    let serial = serial_of c.args.branch.now.serial in
    let us = c.args.table.now.places in
    let gone = entry_sizes empty_map (keys_cut cut.head cut.from) in
    let s : UnitsState = record { units = c.args.table.now; locks = c.args.locks.now.locks } in
    let same = of_some (λ (x : OpenUnit). (tid ≡ x.tid) × (serial ≡ x.serial)) (unit_at us c.args.place) u at c.requires.unit in
    let fits = of_some (λ (x : OpenUnit). journal_refused v.catalog.ru us x c.args.size ≡ None) (unit_at us c.args.place) u at c.requires.fits in
    let free = of_some (λ (x : OpenUnit). images_refused cut.head cut.file us (has_changed x cut.file) gone c.args.size ≡ None) (unit_at us c.args.place) u at c.requires.rooms in
    breaks_cut_so cut.head (λ made. (es : CutEntries) × MakesCut tid serial cut.file cut.head cut.from es v made) (IsCut u cut.file cut.head cut.from s v) v c.cut_records.new.volume
    (λ made is. record {
      late = λ a told form laid. late_none u cut.file cut.head cut.from s v (map_of cut.head a) c.args.size (c.requires.size a told form laid) fits free;
      entries = is.0;
      makes = subst (λ (b : Id). MakesCut u.tid b cut.file cut.head cut.from is.0 v made) same.1 (subst (λ (a : Id). MakesCut a serial cut.file cut.head cut.from is.0 v made) same.0 is.1);
    })
    c.in-Err.ensures.breaks

pub returns-clause-images : goal.returns-clause-images
returns-clause-images g c =
    let cut = c.args.cut.now in
    let en = c.in-Ok.ensures.enters in
    ends_cut cut.file cut.head cut.from (entry_sizes empty_map (keys_cut cut.head cut.from)) c.args.size en.0 c.args.volume.now c.cut_records.new.volume c.requires.head c.requires.order.heads c.requires.few_records c.requires.most_bytes en.2 en.1.enters
