-- A key was set and that was committed; or the disk went down meanwhile.
use Rattle.std.proofs.Common.{◌≡◌, ◌+◌, ◌≤◌, ◌^◌, length, refl, sym, subst, ap, ◌∙◌, arith}
use Rattle.journal_format.proofs.Decoding.{entry_size as bytes_few}
use Rattle.key_changes.proofs.unit_cuts.EntrySizes.{spelled_size}
use Rattle.rms_units.proofs.ImageSound.{low_by}
use Rattle.std.proofs.lemmas.Result.{on_err_weaker, on_ok_weaker}
use Rattle.std.specs.Option.{option_copied}
use Rattle.block_disk.specs.Disk.{DiskState}
use Rattle.careful_write.specs.State.{IsEither, Leaves, StoreState, content}
use Rattle.file_base.specs.declared.head.FileHead.{FileHead}
use Rattle.vms_base.specs.Ids.{serial_of, tid_of}
use Rattle.vms_base.specs.Keys.{key_of}
use Rattle.volume.specs.declared.catalog.Catalog.{Catalog}
use Rattle.image_appends.specs.declared.side.Side.TheVariants.{After, Before}
use Rattle.image_appends.specs.Images.{FileHasRoom, heads_with_both}
use Rattle.unit_journal.specs.Entries.{change_entry}
use Rattle.unit_journal.specs.Room.{entry_size}
use Rattle.unit_journal.proofs.Breaking.{breaks_made}
use Rattle.rms_units.specs.Making.{CommitsBranch}
use Rattle.rms_units.proofs.MakingLemmas.{commits_as, commits_branch, enters_images}
use Rattle.rms_units.proofs.ImageLemmas.{entered_room, room_less, staged_low, staged_room}
use Rattle.rms_units.proofs.making.commit_key.Goals as goal

pub append_change-requires-clause-afters : goal.append_change-requires-clause-afters
append_change-requires-clause-afters g c =
    let a = c.args.asked.now in
    let size = entry_size (key_of a.key) (option_copied c.args.after) in
    let mid = c.stage_key.new.volume in
    room_less After size a.file mid.catalog.heads mid.store.disk (staged_room After (size + 48) a.file a.head c.in-Ok.field-0 c.args.volume.now mid c.requires.there c.requires.whole c.in-Ok.ensures.stages c.requires.afters)

pub append_change-requires-clause-befores : goal.append_change-requires-clause-befores
append_change-requires-clause-befores g c =
    let a = c.args.asked.now in
    let size = entry_size (key_of a.key) (option_copied c.args.before) in
    let mid = c.stage_key.new.volume in
    room_less Before size a.file mid.catalog.heads mid.store.disk (staged_room Before (size + 48) a.file a.head c.in-Ok.field-0 c.args.volume.now mid c.requires.there c.requires.whole c.in-Ok.ensures.stages c.requires.befores)

pub settle_own-requires-clause-afters : goal.settle_own-requires-clause-afters
settle_own-requires-clause-afters g c =
    let a = c.args.asked.now in
    let v = c.args.volume.now in
    let after = entry_size (key_of a.key) (option_copied c.args.after) in
    let before = entry_size (key_of a.key) (option_copied c.args.before) in
    let mid = c.stage_key.new.volume in
    let h = c.in-Ok.field-0 in
    let b = c.args.branch.now in
    let is = c.in-Ok-append_change.ensures.images in
    let ai = change_entry (tid_of b.tid) (serial_of b.serial) a.file (key_of a.key) (option_copied c.args.after) in
    let e = change_entry (tid_of b.tid) (serial_of b.serial) a.file (key_of a.key) (option_copied c.args.before) in
    let long = spelled_size (tid_of b.tid) (serial_of b.serial) a.file (key_of a.key) (option_copied c.args.after) is.0 in
    let long_too = spelled_size (tid_of b.tid) (serial_of b.serial) a.file (key_of a.key) (option_copied c.args.before) is.1 in
    let few = bytes_few ai is.0 in
    let few_too = bytes_few e is.1 in
    let low = low_by after before (2 ^ 24) a.file v.catalog.heads (omega (arith, long, few.1)) (omega (arith, long_too, few_too.1)) c.requires.low in
    let both = entered_room a.file after before mid.catalog.heads mid.store.disk (staged_low after before a.file 417 a.head h v mid c.requires.there c.requires.whole c.in-Ok.ensures.stages low)
    (staged_room After (after + 48) a.file a.head h v mid c.requires.there c.requires.whole c.in-Ok.ensures.stages c.requires.afters) (staged_room Before (before + 48) a.file a.head h v mid c.requires.there c.requires.whole c.in-Ok.ensures.stages c.requires.befores) in
    subst (λ (x : Catalog). FileHasRoom After 48 a.file x.heads c.append_change.new.volume.store.disk) (sym c.in-Ok-append_change.ensures.catalog)
    (subst (λ (d : DiskState). FileHasRoom After 48 a.file (record mid.catalog { heads = heads_with_both a.file after before mid.catalog.heads }).heads d) (sym (ap (λ (s : StoreState). s.disk) c.in-Ok-append_change.ensures.rest)) both.0)

pub settle_own-requires-clause-befores : goal.settle_own-requires-clause-befores
settle_own-requires-clause-befores g c =
    let a = c.args.asked.now in
    let v = c.args.volume.now in
    let after = entry_size (key_of a.key) (option_copied c.args.after) in
    let before = entry_size (key_of a.key) (option_copied c.args.before) in
    let mid = c.stage_key.new.volume in
    let h = c.in-Ok.field-0 in
    let b = c.args.branch.now in
    let is = c.in-Ok-append_change.ensures.images in
    let ai = change_entry (tid_of b.tid) (serial_of b.serial) a.file (key_of a.key) (option_copied c.args.after) in
    let e = change_entry (tid_of b.tid) (serial_of b.serial) a.file (key_of a.key) (option_copied c.args.before) in
    let long = spelled_size (tid_of b.tid) (serial_of b.serial) a.file (key_of a.key) (option_copied c.args.after) is.0 in
    let long_too = spelled_size (tid_of b.tid) (serial_of b.serial) a.file (key_of a.key) (option_copied c.args.before) is.1 in
    let few = bytes_few ai is.0 in
    let few_too = bytes_few e is.1 in
    let low = low_by after before (2 ^ 24) a.file v.catalog.heads (omega (arith, long, few.1)) (omega (arith, long_too, few_too.1)) c.requires.low in
    let both = entered_room a.file after before mid.catalog.heads mid.store.disk (staged_low after before a.file 417 a.head h v mid c.requires.there c.requires.whole c.in-Ok.ensures.stages low)
    (staged_room After (after + 48) a.file a.head h v mid c.requires.there c.requires.whole c.in-Ok.ensures.stages c.requires.afters) (staged_room Before (before + 48) a.file a.head h v mid c.requires.there c.requires.whole c.in-Ok.ensures.stages c.requires.befores) in
    subst (λ (x : Catalog). FileHasRoom Before 48 a.file x.heads c.append_change.new.volume.store.disk) (sym c.in-Ok-append_change.ensures.catalog)
    (subst (λ (d : DiskState). FileHasRoom Before 48 a.file (record mid.catalog { heads = heads_with_both a.file after before mid.catalog.heads }).heads d) (sym (ap (λ (s : StoreState). s.disk) c.in-Ok-append_change.ensures.rest)) both.1)

pub returns-clause-makes : goal.returns-clause-makes
returns-clause-makes g c =
    let v = c.args.volume.now in
    let mid = c.stage_key.new.volume in
    let imaged = c.append_change.new.volume in
    let closed = c.settle_own.new.volume in
    let made = c.stage_settlement.new.volume in
    let a = c.args.asked.now in
    let b = c.args.branch.now in
    let held = g.H.Held.held c.args.held.now in
    let after = option_copied c.args.after in
    let before = option_copied c.args.before in
    let ai = change_entry (tid_of b.tid) (serial_of b.serial) a.file (key_of a.key) after in
    let e = change_entry (tid_of b.tid) (serial_of b.serial) a.file (key_of a.key) before in
    let both = c.in-Ok-append_change.ensures in
    on_ok_weaker c.apply.result
    (λ current. commits_as a.file a.head held (key_of a.key) after ai e b.tid b.serial c.args.moment.0 c.args.units.now.places v made (record made { store = c.apply.new.self }) (current ∙ ap (λ (s : StoreState). s.current) c.store.ensures.value) refl
    (commits_branch a.file a.head c.in-Ok.field-0 held (key_of a.key) after ai e b.tid b.serial c.args.moment.0 c.args.units.now.places v mid imaged closed made both.images c.settle_own.ensures.is c.in-Ok.ensures.stages c.in-Ok.ensures.sets
    (enters_images a.file (tid_of b.tid) (serial_of b.serial) (key_of a.key) after before mid imaged both.images.0 both.images.1 both.current both.catalog) c.in-Ok-settle_own.ensures.closes c.stage_settlement.ensures.store c.stage_settlement.ensures.catalog))
    c.apply.ensures.current

pub returns-clause-breaks : goal.returns-clause-breaks
returns-clause-breaks g c =
    let v = c.args.volume.now in
    let mid = c.stage_key.new.volume in
    let imaged = c.append_change.new.volume in
    let closed = c.settle_own.new.volume in
    let made = c.stage_settlement.new.volume in
    let a = c.args.asked.now in
    let b = c.args.branch.now in
    let held = g.H.Held.held c.args.held.now in
    let after = option_copied c.args.after in
    let before = option_copied c.args.before in
    let ai = change_entry (tid_of b.tid) (serial_of b.serial) a.file (key_of a.key) after in
    let e = change_entry (tid_of b.tid) (serial_of b.serial) a.file (key_of a.key) before in
    let both = c.in-Ok-append_change.ensures in
    on_err_weaker c.apply.result
    (λ leaves. breaks_made (CommitsBranch a.file a.head held (key_of a.key) after ai e b.tid b.serial c.args.moment.0 c.args.units.now.places v) v made (record made { store = c.apply.new.self })
    (commits_branch a.file a.head c.in-Ok.field-0 held (key_of a.key) after ai e b.tid b.serial c.args.moment.0 c.args.units.now.places v mid imaged closed made both.images c.settle_own.ensures.is c.in-Ok.ensures.stages c.in-Ok.ensures.sets
    (enters_images a.file (tid_of b.tid) (serial_of b.serial) (key_of a.key) after before mid imaged both.images.0 both.images.1 both.current both.catalog) c.in-Ok-settle_own.ensures.closes c.stage_settlement.ensures.store c.stage_settlement.ensures.catalog)
    (ap content c.stage_settlement.ensures.store ∙ ap content c.in-Ok-settle_own.ensures.rest ∙ ap content both.rest ∙ ap content c.in-Ok.ensures.stages.rest)
    (subst (λ (s : StoreState). Leaves (IsEither (content s) s.current) c.apply.new.self.disk) c.store.ensures.value leaves))
    c.apply.ensures.err
