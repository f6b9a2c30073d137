use Rattle.std.proofs.Common.{◌≡◌, ◌∙◌, ℕ, length, sym, ap, subst, arith}
use Rattle.std.specs.Option.{option_copied}
use Rattle.std.proofs.lemmas.Result.{on_ok_weaker}
use Rattle.journal_format.proofs.Decoding.{entry_size as entry_bounds}
use Rattle.vms_base.specs.Ids.{serial_of, tid_of}
use Rattle.vms_base.specs.Keys.{key_of}
use Rattle.unit_journal.specs.Entries.{change_entry}
use Rattle.unit_journal.specs.Room.{entry_size}
use Rattle.image_appends.specs.Images.{FileHasRoom, heads_with}
use Rattle.image_appends.proofs.Growing.{change_long}
use Rattle.image_appends.proofs.changes.append_side.Goals as goal

pub returns-clause-size : goal.returns-clause-size
returns-clause-size g c =
    let b = c.args.branch.now in
    change_long (tid_of b.tid) (serial_of b.serial) c.args.file (key_of c.args.key.now) (option_copied c.args.image) c.encode_change.ensures.is

pub append_image-requires-clause-room : goal.append_image-requires-clause-room
append_image-requires-clause-room g c =
    let b = c.args.branch.now in
    let v = c.args.volume.now in
    let size : length c.encode_change.new.out ≡ entry_size (key_of c.args.key.now) (option_copied c.args.image) =
    ap length c.encode_change.ensures.spelled ∙ change_long (tid_of b.tid) (serial_of b.serial) c.args.file (key_of c.args.key.now) (option_copied c.args.image) c.encode_change.ensures.is in
    subst (λ (n : ℕ). FileHasRoom c.args.side n c.args.file v.catalog.heads v.store.disk) (sym size) c.requires.room

pub returns-clause-catalog : goal.returns-clause-catalog
returns-clause-catalog g c =
    let b = c.args.branch.now in
    let v = c.args.volume.now in
    let size : length c.encode_change.new.out ≡ entry_size (key_of c.args.key.now) (option_copied c.args.image) =
    ap length c.encode_change.ensures.spelled ∙ change_long (tid_of b.tid) (serial_of b.serial) c.args.file (key_of c.args.key.now) (option_copied c.args.image) c.encode_change.ensures.is in
    on_ok_weaker c.append_image.result (λ is. is ∙ (λ i. record v.catalog { heads = heads_with c.args.file c.args.side (size i) v.catalog.heads })) c.append_image.ensures.catalog

pub returns-clause-few : goal.returns-clause-few
returns-clause-few g c =
    let b = c.args.branch.now in
    let e = change_entry (tid_of b.tid) (serial_of b.serial) c.args.file (key_of c.args.key.now) (option_copied c.args.image) in
    let spelled = ap length c.encode_change.ensures.spelled in
    let most = (entry_bounds e c.encode_change.ensures.is).1 in
    on_ok_weaker c.append_image.result (λ few. omega (arith, few, spelled, most)) c.append_image.ensures.few
