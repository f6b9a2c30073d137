-- A key is changed and that is committed: what the key has after is told, and all stays in order.
use Rattle.std.proofs.Common.{◌≡◌, ◌+◌, ◌≤◌, ◌^◌, ℕ, List, Option, Some, None, length, ap, sym, subst, arith, ◌∙◌}
use Rattle.std.specs.Option.{option_copied}
use Rattle.std.specs.Prelude.{is_some}
use Rattle.std.proofs.lemmas.Result.{on_err_weaker, on_ok_weaker}
use Rattle.journal_format.proofs.Decoding.{entry_size as bytes_few}
use Rattle.journal_model.specs.Entries.{spelling}
use Rattle.record_locks.specs.Locks.{holder}
use Rattle.unit_journal.specs.Entries.{change_entry}
use Rattle.unit_journal.specs.Room.{entry_size}
use Rattle.vms_base.specs.Ids.{serial_of, tid_of}
use Rattle.vms_base.specs.Keys.{key_of}
use Rattle.vms_model.specs.Keys.{Key}
use Rattle.volume.specs.declared.catalog.Catalog.{Catalog}
use Rattle.volume.specs.State.{VolumeState}
use Rattle.image_appends.specs.declared.side.Side.TheVariants.{After, Before}
use Rattle.image_appends.specs.Images.{FileHasRoom}
use Rattle.image_room.specs.Room.{images_refused}
use Rattle.kept_files.specs.Own.{own_change}
use Rattle.key_changes.specs.Changing.{after_change, before_change}
use Rattle.rms_units.specs.Making.{AreLow, CommitsBranch, CommitsKey}
use Rattle.rms_units.specs.State.{UnitsState}
use Rattle.key_changes.proofs.unit_cuts.EntrySizes.{spelled_size}
use Rattle.key_changes.proofs.unit_cuts.Outcomes.{breaks_so, three_ok}
use Rattle.rms_units.proofs.ImageSound.{low_by, rooms_to_settle}
use Rattle.rms_units.proofs.MakingLemmas.{commits_own}
use Rattle.rms_units.proofs.OrderLemmas.{changed_grows, imaged_long, sound_imaged}
use Rattle.rms_units.proofs.SettledLemmas.{order_own}
use Rattle.rms_units.proofs.directly.make_directly.Goals as goal

pub commit_key-requires-clause-afters : goal.commit_key-requires-clause-afters
commit_key-requires-clause-afters g c =
    let v = c.args.volume.now in
    let a = c.args.asked.now in
    let s : UnitsState = record { units = c.args.table.now; locks = c.args.locks.now.locks } in
    let after = entry_size (key_of a.key) (after_change a.change c.args.value.now) in
    let before = entry_size (key_of a.key) (before_change a.change c.args.found.now) in
    subst (λ (o : Option (List ℕ)). FileHasRoom After (entry_size (key_of a.key) o + 48) a.file v.catalog.heads v.store.disk) (sym c.after-has.ensures) (rooms_to_settle s v a.file a.head c.requires.order c.requires.head after before c.requires.rooms).0

pub commit_key-requires-clause-befores : goal.commit_key-requires-clause-befores
commit_key-requires-clause-befores g c =
    let v = c.args.volume.now in
    let a = c.args.asked.now in
    let s : UnitsState = record { units = c.args.table.now; locks = c.args.locks.now.locks } in
    let after = entry_size (key_of a.key) (after_change a.change c.args.value.now) in
    let before = entry_size (key_of a.key) (before_change a.change c.args.found.now) in
    subst (λ (o : Option (List ℕ)). FileHasRoom Before (entry_size (key_of a.key) o + 48) a.file v.catalog.heads v.store.disk) (sym c.before-had.ensures) (rooms_to_settle s v a.file a.head c.requires.order c.requires.head after before c.requires.rooms).1

pub returns-clause-makes : goal.returns-clause-makes
returns-clause-makes g c =
    let v = c.args.volume.now in
    let a = c.args.asked.now in
    on_ok_weaker c.commit_key.result
    (λ m. commits_own a.file a.head (λ (k : Key). is_some (holder c.args.locks.now.locks a.file k)) a.change (key_of a.key) c.args.value.now c.args.found.now c.own_branch-branch.result c.args.tid c.args.moment.0 c.args.table.now.places
    (option_copied c.before-had.result) (option_copied c.after-has.result) c.own_branch-branch.ensures c.before-had.ensures c.after-has.ensures v c.commit_key.new.volume m)
    c.commit_key.ensures.makes

pub returns-clause-breaks : goal.returns-clause-breaks
returns-clause-breaks g c =
    let v = c.args.volume.now in
    let w = c.commit_key.new.volume in
    let a = c.args.asked.now in
    let held = (λ (k : Key). is_some (holder c.args.locks.now.locks a.file k)) in
    let b = c.own_branch-branch.result in
    let after = option_copied c.after-has.result in
    let before = option_copied c.before-had.result in
    on_err_weaker c.commit_key.result
    (λ broke. breaks_so (CommitsBranch a.file a.head held (key_of a.key) after (change_entry (tid_of b.tid) (serial_of b.serial) a.file (key_of a.key) after) (change_entry (tid_of b.tid) (serial_of b.serial) a.file (key_of a.key) before) b.tid b.serial c.args.moment.0 c.args.table.now.places v)
    (CommitsKey a.file a.head held (key_of a.key) (after_change a.change c.args.value.now) (own_change c.args.tid a.file (key_of a.key) (after_change a.change c.args.value.now)) (own_change c.args.tid a.file (key_of a.key) (before_change a.change c.args.found.now)) c.args.tid c.args.moment.0 c.args.table.now.places v) v w
    (commits_own a.file a.head held a.change (key_of a.key) c.args.value.now c.args.found.now b c.args.tid c.args.moment.0 c.args.table.now.places before after c.own_branch-branch.ensures c.before-had.ensures c.after-has.ensures v) broke)
    c.commit_key.ensures.breaks

pub returns-clause-order : goal.returns-clause-order
returns-clause-order g c =
    let v = c.args.volume.now in
    let w = c.commit_key.new.volume in
    let a = c.args.asked.now in
    let o = c.requires.order in
    let s : UnitsState = record { units = c.args.table.now; locks = c.args.locks.now.locks } in
    let b = c.own_branch-branch.result in
    let after = option_copied c.after-has.result in
    let before = option_copied c.before-had.result in
    let ai = change_entry (tid_of b.tid) (serial_of b.serial) a.file (key_of a.key) after in
    let e = change_entry (tid_of b.tid) (serial_of b.serial) a.file (key_of a.key) before in
    let sized = entry_size (key_of a.key) (after_change a.change c.args.value.now) in
    let sized_too = entry_size (key_of a.key) (before_change a.change c.args.found.now) in
    let r = c.commit_key.result in
    on_ok_weaker r
    (λ all.
    let m = all.0 in
    let long : length (spelling ai) ≡ sized = spelled_size (tid_of b.tid) (serial_of b.serial) a.file (key_of a.key) after m.each.0 ∙ ap (entry_size (key_of a.key)) c.after-has.ensures in
    let long_too : length (spelling e) ≡ sized_too = spelled_size (tid_of b.tid) (serial_of b.serial) a.file (key_of a.key) before m.each.1 ∙ ap (entry_size (key_of a.key)) c.before-had.ensures in
    let few = bytes_few ai m.each.0 in
    let few_too = bytes_few e m.each.1 in
    let low : AreLow (length (spelling ai) + 48) (length (spelling e) + 48) a.file v.catalog.heads = low_by (length (spelling ai) + 48) (length (spelling e) + 48) (2 ^ 24) a.file v.catalog.heads (omega (arith, few.1)) (omega (arith, few_too.1)) c.requires.early.images in
    let low_first : AreLow (length (spelling ai)) (length (spelling e)) a.file v.catalog.heads = low_by (length (spelling ai)) (length (spelling e)) (2 ^ 24) a.file v.catalog.heads (omega (arith, few.1)) (omega (arith, few_too.1)) c.requires.early.images in
    order_own a.file (length (spelling ai)) (length (spelling e)) sized sized_too a.head b.tid b.serial c.args.moment.0 s v m.imaged m.closed w o c.requires.head
    (ap (λ (x : Catalog). x.home) m.images.catalog ∙ ap (λ (x : Catalog). x.home) m.stages.catalog) (ap (λ (x : Catalog). x.ru) m.images.catalog ∙ ap (λ (x : Catalog). x.ru) m.stages.catalog)
    (imaged_long a.file 417 a.head m.head ai e v m.set m.imaged m.stages m.images ∙ o.heads) (sound_imaged a.file 417 a.head m.head ai e v m.set m.imaged o.heads o.sound c.requires.head m.stages m.images low_first)
    (changed_grows a.file 417 a.head m.head ai e v m.set m.imaged c.requires.head m.stages m.images) low (omega (arith, long)) (omega (arith, long_too)) c.requires.rooms c.requires.later c.requires.moment m.closing m.closes m.settles
    all.1 all.2 c.commit_key.ensures.counts.size c.commit_key.ensures.pool)
    (three_ok _ _ _ r c.commit_key.ensures.makes c.commit_key.ensures.idle c.commit_key.ensures.holds)
