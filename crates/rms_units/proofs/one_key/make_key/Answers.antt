-- A unit changes a key: what it had and has then is told, and all stays in order.
use Rattle.std.proofs.Common.{◌≡◌, ◌+◌, ◌-◌, ◌≤◌, ◌^◌, ℕ, List, Option, Some, None, true, IfSome, length, sym, ap, subst, arith, ◌∙◌}
use Rattle.std.specs.Option.{option_copied}
use Rattle.std.specs.Prelude.{is_some}
use Rattle.file_base.specs.declared.head.Span.{Span}
use Rattle.journal_model.specs.Entries.{spelling}
use Rattle.journal_model.specs.Ring.{ring_size}
use Rattle.record_locks.specs.Locks.{holder}
use Rattle.unit_journal.specs.Entries.{change_entry}
use Rattle.unit_journal.specs.Room.{entry_size, journal_refused, owed_first}
use Rattle.unit_table.specs.Units.{OpenUnit, Units, has_changed, owed, unit_at, with_position, with_unit}
use Rattle.vms_base.specs.Ids.{serial_of, tid_of}
use Rattle.vms_base.specs.Keys.{key_of}
use Rattle.vms_model.specs.Keys.{Key}
use Rattle.volume_files.proofs.Places.{within_list}
use Rattle.rms_units.specs.Calls.{MakesEntry}
use Rattle.key_changes.specs.Changing.{after_change, before_change}
use Rattle.image_appends.specs.declared.side.Side.TheVariants.{After, Before}
use Rattle.image_appends.specs.Images.{FileHasRoom}
use Rattle.image_room.specs.Room.{images_refused}
use Rattle.journal_format.proofs.Decoding.{entry_size as bytes_few}
use Rattle.rms_units.proofs.ImageSound.{low_by, rooms_to_change}
use Rattle.rms_units.specs.Making.{EntersKey}
use Rattle.rms_units.specs.State.{UnitsState}
use Rattle.rms_units.proofs.MakingLemmas.{makes_entry}
use Rattle.rms_units.proofs.OrderLemmas.{order_changed}
use Rattle.key_changes.proofs.unit_cuts.Outcomes.{breaks_so, of_some, the_one}
use Rattle.rms_units.proofs.RoomLemmas.{room_for}
use Rattle.key_changes.proofs.unit_cuts.EntrySizes.{spelled_size}
use Rattle.rms_units.proofs.one_key.make_key.Goals as goal

pub set_key-requires-clause-afters : goal.set_key-requires-clause-afters
set_key-requires-clause-afters g c =
    let v = c.args.volume.now in
    let a = c.args.asked.now in
    let places = c.args.table.now.places in
    let s : UnitsState = record { units = c.args.table.now; locks = c.args.locks.now.locks } in
    let one = the_one (unit_at places c.args.place) c.requires.there in
    let after = entry_size (key_of a.key) (after_change a.change c.args.value.now) in
    let before = entry_size (key_of a.key) (before_change a.change c.args.found.now) in
    let free = of_some (λ (x : OpenUnit). images_refused a.head a.file places (has_changed x a.file) after before ≡ None) (unit_at places c.args.place) one.0 one.1 c.requires.rooms in
    subst (λ (o : Option (List ℕ)). FileHasRoom After (entry_size (key_of a.key) o) a.file v.catalog.heads v.store.disk) (sym c.after.ensures) (rooms_to_change s v a.file a.head c.requires.order c.requires.head (has_changed one.0 a.file) after before free).0

pub set_key-requires-clause-befores : goal.set_key-requires-clause-befores
set_key-requires-clause-befores g c =
    let v = c.args.volume.now in
    let a = c.args.asked.now in
    let places = c.args.table.now.places in
    let s : UnitsState = record { units = c.args.table.now; locks = c.args.locks.now.locks } in
    let one = the_one (unit_at places c.args.place) c.requires.there in
    let after = entry_size (key_of a.key) (after_change a.change c.args.value.now) in
    let before = entry_size (key_of a.key) (before_change a.change c.args.found.now) in
    let free = of_some (λ (x : OpenUnit). images_refused a.head a.file places (has_changed x a.file) after before ≡ None) (unit_at places c.args.place) one.0 one.1 c.requires.rooms in
    subst (λ (o : Option (List ℕ)). FileHasRoom Before (entry_size (key_of a.key) o) a.file v.catalog.heads v.store.disk) (sym c.before-2.ensures) (rooms_to_change s v a.file a.head c.requires.order c.requires.head (has_changed one.0 a.file) after before free).1

pub returns-in-Err-clause-breaks : goal.returns-in-Err-clause-breaks
returns-in-Err-clause-breaks g c = λ u at.
    let v = c.args.volume.now in
    let a = c.args.asked.now in
    let b = c.args.branch.now in
    let locks = c.args.locks.now.locks in
    let before = option_copied c.before-2.result in
    let after = option_copied c.after.result in
    let is = of_some (λ (x : OpenUnit). (tid_of b.tid ≡ x.tid) × (serial_of b.serial ≡ x.serial)) (unit_at c.args.table.now.places c.args.place) u at c.requires.unit in
    breaks_so (EntersKey a.file a.head (λ (k : Key). is_some (holder locks a.file k)) (key_of a.key) after (change_entry (tid_of b.tid) (serial_of b.serial) a.file (key_of a.key) after) (change_entry (tid_of b.tid) (serial_of b.serial) a.file (key_of a.key) before) v)
    (MakesEntry u a.file a.head a.change (key_of a.key) c.args.value.now c.args.found.now locks v) v c.set_key.new.volume
    (makes_entry u a.file a.head a.change (key_of a.key) c.args.value.now c.args.found.now locks (tid_of b.tid) (serial_of b.serial) before after is.0 is.1 c.before-2.ensures c.after.ensures v)
    c.in-Err.ensures.breaks

pub returns-clause-makes : goal.returns-clause-makes
returns-clause-makes g c = λ u at.
    let v = c.args.volume.now in
    let a = c.args.asked.now in
    let b = c.args.branch.now in
    let locks = c.args.locks.now.locks in
    let before = option_copied c.before-2.result in
    let after = option_copied c.after.result in
    let is = of_some (λ (x : OpenUnit). (tid_of b.tid ≡ x.tid) × (serial_of b.serial ≡ x.serial)) (unit_at c.args.table.now.places c.args.place) u at c.requires.unit in
    makes_entry u a.file a.head a.change (key_of a.key) c.args.value.now c.args.found.now locks (tid_of b.tid) (serial_of b.serial) before after is.0 is.1 c.before-2.ensures c.after.ensures v c.set_key.new.volume c.in-Ok.ensures.makes

pub returns-clause-order : goal.returns-clause-order
returns-clause-order g c =
    let v = c.args.volume.now in
    let a = c.args.asked.now in
    let b = c.args.branch.now in
    let locks = c.args.locks.now.locks in
    let w = c.set_key.new.volume in
    let o = c.requires.order in
    let places = c.args.table.now.places in
    let one = the_one (unit_at places c.args.place) c.requires.there in
    let u = one.0 in
    let at : unit_at places c.args.place ≡ Some u = one.1 in
    let before = option_copied c.before-2.result in
    let after = option_copied c.after.result in
    let e = change_entry (tid_of b.tid) (serial_of b.serial) a.file (key_of a.key) before in
    let entry = c.in-Ok.ensures.entry in
    let fits = of_some (λ (x : OpenUnit). journal_refused v.catalog.ru places x (entry_size (key_of a.key) (before_change a.change c.args.found.now)) ≡ None) (unit_at places c.args.place) u at c.requires.fits in
    let has = room_for v.catalog.ru places u (entry_size (key_of a.key) (before_change a.change c.args.found.now)) o.room fits in
    let size : length (spelling e) ≡ entry_size (key_of a.key) (before_change a.change c.args.found.now) = spelled_size (tid_of b.tid) (serial_of b.serial) a.file (key_of a.key) before entry ∙ ap (entry_size (key_of a.key)) c.before-2.ensures in
    let room : v.catalog.ru.end - v.catalog.ru.first + length (spelling e) + owed_first u.positions + owed places ≤ ring_size v.catalog.ru = omega (arith, size, has) in
    let noted = of_some (λ (x : OpenUnit). c.note.new.self ≡ with_unit c.args.place (with_position c.ru.result.now.end a.file x) c.args.table.now) (unit_at places c.args.place) u at c.note.ensures.noted in
    let now : c.note.new.self.places ≡ (with_unit c.args.place (with_position v.catalog.ru.end a.file u) c.args.table.now).places = ap (λ (x : Units). x.places) noted ∙ ap (λ (r : Span). (with_unit c.args.place (with_position r.end a.file u) c.args.table.now).places) c.ru.ensures in
    let s : UnitsState = record { units = c.args.table.now; locks = locks } in
    let t : UnitsState = record { units = c.note.new.self; locks = c.hold.new.locks.locks } in
    let ai = change_entry (tid_of b.tid) (serial_of b.serial) a.file (key_of a.key) after in
    let image = c.in-Ok.ensures.makes.image in
    let long : length (spelling ai) ≡ entry_size (key_of a.key) (after_change a.change c.args.value.now) = spelled_size (tid_of b.tid) (serial_of b.serial) a.file (key_of a.key) after image ∙ ap (entry_size (key_of a.key)) c.after.ensures in
    let free = of_some (λ (x : OpenUnit). images_refused a.head a.file places (has_changed x a.file) (entry_size (key_of a.key) (after_change a.change c.args.value.now)) (entry_size (key_of a.key) (before_change a.change c.args.found.now)) ≡ None) (unit_at places c.args.place) u at c.requires.rooms in
    order_changed c.args.place a.file a.head (λ (k : Key). is_some (holder locks a.file k)) (key_of a.key) after ai e u s t v w o (within_list places c.args.place u at) at entry room c.requires.head
    (let x = bytes_few ai image in let y = bytes_few e entry in low_by (length (spelling ai)) (length (spelling e)) (2 ^ 24) a.file v.catalog.heads (omega (arith, x.1)) (omega (arith, y.1)) c.requires.early.images)
    ((λ i. images_refused a.head a.file places (has_changed u a.file) (long i) (size i)) ∙ free)
    c.in-Ok.ensures.makes c.in-Ok.ensures.idle c.in-Ok.ensures.holds c.set_key.ensures.counts.size c.set_key.ensures.pool now

pub returns-clause-changed : goal.returns-clause-changed
returns-clause-changed g c =
    let v = c.args.volume.now in
    let a = c.args.asked.now in
    subst (λ (p : ℕ). IfSome (unit_at c.args.table.now.places c.args.place) (λ u. has_changed (with_position p a.file u) a.file ≡ true)) (ap (λ (r : Span). r.end) c.ru.ensures) c.note.ensures.changed
