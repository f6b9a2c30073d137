-- The disk went down while a key was set and its entry entered.
use Rattle.std.proofs.Common.{◌≡◌, ◌+◌, ◌-◌, ◌≤◌, length, refl, sym, subst, ap, ◌∙◌, arith}
use Rattle.std.proofs.lemmas.Result.{on_err_weaker, on_ok_weaker}
use Rattle.std.specs.Option.{option_copied}
use Rattle.careful_write.specs.State.{IsEither, Leaves, StoreState, content}
use Rattle.file_base.specs.declared.head.Span.{Span}
use Rattle.journal_model.specs.Ring.{ring_size}
use Rattle.volume.specs.declared.catalog.Catalog.{Catalog}
use Rattle.unit_journal.specs.Room.{entry_size}
use Rattle.vms_base.specs.Ids.{serial_of, tid_of}
use Rattle.vms_base.specs.Keys.{key_of}
use Rattle.unit_journal.specs.Entries.{change_entry}
use Rattle.unit_journal.proofs.Breaking.{breaks_made}
use Rattle.rms_units.specs.Making.{EntersKey}
use Rattle.rms_units.proofs.MakingLemmas.{enters_as, enters_grows, enters_images, enters_key}
use Rattle.rms_units.proofs.ImageLemmas.{staged_room}
use Rattle.image_appends.specs.declared.side.Side.TheVariants.{After, Before}
use Rattle.key_changes.proofs.unit_cuts.EntrySizes.{spelled_size}
use Rattle.rms_units.proofs.making.set_key.Goals as goal

pub append_change-requires-clause-afters : goal.append_change-requires-clause-afters
append_change-requires-clause-afters g c =
    let a = c.args.asked.now in
    staged_room After (entry_size (key_of a.key) (option_copied c.args.after)) a.file a.head c.in-Ok.field-0 c.args.volume.now c.stage_key.new.volume c.requires.there c.requires.whole c.in-Ok.ensures.stages c.requires.afters

pub append_change-requires-clause-befores : goal.append_change-requires-clause-befores
append_change-requires-clause-befores g c =
    let a = c.args.asked.now in
    staged_room Before (entry_size (key_of a.key) (option_copied c.args.before)) a.file a.head c.in-Ok.field-0 c.args.volume.now c.stage_key.new.volume c.requires.there c.requires.whole c.in-Ok.ensures.stages c.requires.befores

pub enter-requires-clause-room : goal.enter-requires-clause-room
enter-requires-clause-room g c =
    let stages = c.in-Ok.ensures.stages in
    let a = c.args.asked.now in
    let before = option_copied c.args.before in
    let size : length c.encode_change.new.out ≡ entry_size (key_of a.key) before = ap length c.encode_change.ensures.spelled ∙ spelled_size (tid_of c.args.branch.now.tid) (serial_of c.args.branch.now.serial) a.file (key_of a.key) before c.encode_change.ensures.is in
    subst (λ (r : Span). r.end - r.first + length c.encode_change.new.out ≤ ring_size r) (sym (ap (λ (x : Catalog). x.ru) c.in-Ok-append_change.ensures.catalog ∙ ap (λ (x : Catalog). x.ru) stages.catalog)) (omega (arith, size, c.requires.room))

pub returns-clause-makes : goal.returns-clause-makes
returns-clause-makes g c =
    let v = c.args.volume.now in
    let mid = c.stage_key.new.volume in
    let imaged = c.append_change.new.volume in
    let made = c.enter.new.volume in
    let a = c.args.asked.now in
    let held = g.H.Held.held c.args.held.now in
    let after = option_copied c.args.after in
    let before = option_copied c.args.before in
    let tid = tid_of c.args.branch.now.tid in
    let serial = serial_of c.args.branch.now.serial in
    let ai = change_entry tid serial a.file (key_of a.key) after in
    let e = change_entry tid serial a.file (key_of a.key) before in
    let both = c.in-Ok-append_change.ensures in
    on_ok_weaker c.apply.result
    (λ current. enters_as a.file a.head held (key_of a.key) after ai e v made (record made { store = c.apply.new.self }) (current ∙ ap (λ (s : StoreState). s.current) c.store.ensures.value) refl
    (enters_key a.file a.head c.in-Ok.field-0 held (key_of a.key) after ai e c.encode_change.new.out v mid imaged made both.images.0 c.encode_change.ensures.is c.in-Ok.ensures.stages c.in-Ok.ensures.sets
    (enters_images a.file tid serial (key_of a.key) after before mid imaged both.images.0 both.images.1 both.current both.catalog) c.encode_change.ensures.spelled c.in-Ok-enter.ensures.current c.in-Ok-enter.ensures.catalog))
    c.apply.ensures.current

pub returns-clause-breaks : goal.returns-clause-breaks
returns-clause-breaks g c =
    let v = c.args.volume.now in
    let mid = c.stage_key.new.volume in
    let imaged = c.append_change.new.volume in
    let made = c.enter.new.volume in
    let a = c.args.asked.now in
    let held = g.H.Held.held c.args.held.now in
    let after = option_copied c.args.after in
    let before = option_copied c.args.before in
    let tid = tid_of c.args.branch.now.tid in
    let serial = serial_of c.args.branch.now.serial in
    let ai = change_entry tid serial a.file (key_of a.key) after in
    let e = change_entry tid serial a.file (key_of a.key) before in
    let stages = c.in-Ok.ensures.stages in
    let both = c.in-Ok-append_change.ensures in
    on_err_weaker c.apply.result
    (λ leaves. breaks_made (EntersKey a.file a.head held (key_of a.key) after ai e v) v made (record made { store = c.apply.new.self })
    (enters_key a.file a.head c.in-Ok.field-0 held (key_of a.key) after ai e c.encode_change.new.out v mid imaged made both.images.0 c.encode_change.ensures.is stages c.in-Ok.ensures.sets
    (enters_images a.file tid serial (key_of a.key) after before mid imaged both.images.0 both.images.1 both.current both.catalog) c.encode_change.ensures.spelled c.in-Ok-enter.ensures.current c.in-Ok-enter.ensures.catalog)
    (ap content c.in-Ok-enter.ensures.rest ∙ ap content both.rest ∙ ap content stages.rest)
    (subst (λ (s : StoreState). Leaves (IsEither (content s) s.current) c.apply.new.self.disk) c.store.ensures.value leaves))
    c.apply.ensures.err

pub returns-clause-grows : goal.returns-clause-grows
returns-clause-grows g c =
    let v = c.args.volume.now in
    let mid = c.stage_key.new.volume in
    let imaged = c.append_change.new.volume in
    let made = c.enter.new.volume in
    let a = c.args.asked.now in
    let held = g.H.Held.held c.args.held.now in
    let after = option_copied c.args.after in
    let before = option_copied c.args.before in
    let tid = tid_of c.args.branch.now.tid in
    let serial = serial_of c.args.branch.now.serial in
    let ai = change_entry tid serial a.file (key_of a.key) after in
    let e = change_entry tid serial a.file (key_of a.key) before in
    let both = c.in-Ok-append_change.ensures in
    enters_grows a.file a.head held (key_of a.key) after ai e v made (record made { store = c.apply.new.self }) c.encode_change.ensures.is
    (enters_key a.file a.head c.in-Ok.field-0 held (key_of a.key) after ai e c.encode_change.new.out v mid imaged made both.images.0 c.encode_change.ensures.is c.in-Ok.ensures.stages c.in-Ok.ensures.sets
    (enters_images a.file tid serial (key_of a.key) after before mid imaged both.images.0 both.images.1 both.current both.catalog) c.encode_change.ensures.spelled c.in-Ok-enter.ensures.current c.in-Ok-enter.ensures.catalog) refl
