-- A key's change, from what is staged of it and what is entered.
use Rattle.std.proofs.Common.{◌≡◌, ℕ, ◌+◌, ◌*◌, ◌≤◌, ◌^◌, List, Bool, Option, Some, None, length, option_map, refl, sym, ap, subst, arith, ◌∙◌}
use Rattle.std.specs.Prelude.{is_some}
use Rattle.file_base.specs.declared.head.FileHead.{FileHead}
use Rattle.file_base.specs.declared.head.Span.{Span}
use Rattle.journal_format.proofs.Decoding.{entry_size}
use Rattle.journal_model.specs.Entries.{Entry, IsEntry, spelling}
use Rattle.unit_table.specs.Units.{OpenUnit}
use Rattle.unit_table.specs.declared.place.Branch.{Branch}
use Rattle.vms_base.specs.Ids.{serial_of, tid_of}
use Rattle.vms_base.specs.declared.ids.Serial.{Serial}
use Rattle.vms_base.specs.declared.ids.Tid.{Tid}
use Rattle.vms_model.specs.Transactions.{Commit}
use Rattle.volume_format.specs.declared.home.Ending.TheVariants as ending
use Rattle.vms_model.specs.Keys.{Key}
use Rattle.volume.specs.declared.catalog.Catalog.{Catalog}
use Rattle.volume.specs.State.{VolumeState}
use Rattle.volume_files.specs.Staging.{StagesFile, TellsSet}
use Rattle.record_locks.specs.Locks.{Lock, holder}
use Rattle.vms_model.specs.Ids.{Id}
use Rattle.key_changes.specs.declared.asked.KeyChange.{KeyChange}
use Rattle.rms_units.specs.Calls.{MakesEntry}
use Rattle.key_changes.specs.Changing.{after_change, before_change}
use Rattle.rms_units.specs.Making.{CommitsBranch, CommitsKey, EntersImages, EntersKey}
use Rattle.unit_journal.specs.Entries.{change_entry, settled_entry}
use Rattle.kept_files.specs.file_settlements.Settling.{EntersSettled}
use Rattle.image_appends.proofs.Growing.{change_long}
use Rattle.image_appends.specs.Images.{content_with_both, heads_with_both}
use Rattle.kept_files.specs.Own.{only, own_change}
use Rattle.unit_journal.specs.Room.{entry_size as size_said}
use Rattle.unit_journal.specs.Groups.{Grows}
use Rattle.unit_journal.specs.Settling.{content_with, from_earliest, settled_home}
use Rattle.unit_journal.specs.Spans.{entered, longer}
use Rattle.unit_journal.proofs.Growing.{grows_as}
use Rattle.unit_journal.proofs.Settled.{IsStaged, makes}

-- What is staged and entered is a key's change.

ru_same : (file : ℕ) (h : FileHead) (v mid : VolumeState) (head : FileHead) → StagesFile file h 417 v mid head → mid.catalog.ru ≡ v.catalog.ru
ru_same file h v mid head stages = ap (λ (c : Catalog). c.ru) stages.catalog

ru_imaged : (file : ℕ) (h : FileHead) (a e : Entry) (v mid imaged : VolumeState) (head : FileHead) → StagesFile file h 417 v mid head → EntersImages file a e mid imaged → imaged.catalog.ru ≡ v.catalog.ru
ru_imaged file h a e v mid imaged head stages images = ap (λ (c : Catalog). c.ru) images.catalog ∙ ru_same file h v mid head stages

pub enters_key : (file : ℕ) (h head : FileHead) (held : Key → Bool) (key : Key) (after : Option (List ℕ)) (a e : Entry) (bytes : List ℕ) (v mid imaged made : VolumeState) → IsEntry a → IsEntry e → StagesFile file h 417 v mid head → TellsSet h held key after v mid head →
    EntersImages file a e mid imaged → bytes ≡ spelling e → made.store.current ≡ option_map (entered imaged.catalog.ru bytes) imaged.store.current → made.catalog ≡ record imaged.catalog { ru = longer (length bytes) imaged.catalog.ru } → EntersKey file h held key after a e v made
enters_key file h head held key after a e bytes v mid imaged made image entry stages sets images spelled current catalog = record {
  image = image;
  entry = entry;
  set = mid;
  head = head;
  stages = stages;
  sets = sets;
  imaged = imaged;
  images = images;
  current = current ∙ (λ i. option_map (entered (ru_imaged file h a e v mid imaged head stages images i) (spelled i)) imaged.store.current);
  catalog = catalog ∙ (λ i. record imaged.catalog { ru = longer (length (spelled i)) (ru_imaged file h a e v mid imaged head stages images i) });
}

-- the images of a key, where both are entries
pub enters_images : (file : ℕ) (tid serial : Id) (key : Key) (after before : Option (List ℕ)) (v mid : VolumeState) → IsEntry (change_entry tid serial file key after) → IsEntry (change_entry tid serial file key before) →
    mid.store.current ≡ option_map (content_with_both file (spelling (change_entry tid serial file key after)) (spelling (change_entry tid serial file key before)) v.catalog.heads) v.store.current →
    mid.catalog ≡ record v.catalog { heads = heads_with_both file (size_said key after) (size_said key before) v.catalog.heads } → EntersImages file (change_entry tid serial file key after) (change_entry tid serial file key before) v mid
enters_images file tid serial key after before v mid is was current catalog = record {
  current = current;
  catalog = catalog ∙ (λ i. record v.catalog { heads = heads_with_both file (sym (change_long tid serial file key after is) i) (sym (change_long tid serial file key before was) i) v.catalog.heads });
}

-- and how numbers have grown by it
pub enters_as : (file : ℕ) (h : FileHead) (held : Key → Bool) (key : Key) (after : Option (List ℕ)) (a e : Entry) (v made w : VolumeState) → w.store.current ≡ made.store.current → w.catalog ≡ made.catalog →
    EntersKey file h held key after a e v made → EntersKey file h held key after a e v w
enters_as file h held key after a e v made w current catalog is = record {
  image = is.image;
  entry = is.entry;
  set = is.set;
  head = is.head;
  stages = is.stages;
  sets = is.sets;
  imaged = is.imaged;
  images = is.images;
  current = current ∙ is.current;
  catalog = catalog ∙ is.catalog;
}

pub enters_grows : (file : ℕ) (h : FileHead) (held : Key → Bool) (key : Key) (after : Option (List ℕ)) (a e : Entry) (v made w : VolumeState) → IsEntry e → EntersKey file h held key after a e v made → w.catalog ≡ made.catalog → Grows 0 0 v w
enters_grows file h held key after a e v made w is enters same =
    let sizes = entry_size e is in
    let end : w.catalog.ru.end ≡ v.catalog.ru.end + length (spelling e) = ap (λ (c : Catalog). c.ru.end) same ∙ ap (λ (c : Catalog). c.ru.end) enters.catalog in
    grows_as 0 0 v w (ap (λ (c : Catalog). c.home) same ∙ ap (λ (c : Catalog). c.home) enters.catalog ∙ ap (λ (c : Catalog). c.home) enters.images.catalog ∙ ap (λ (c : Catalog). c.home) enters.stages.catalog) (omega (arith, end, sizes.1))

-- A key's change that is committed, from what is staged of it and of its settlement.

as_it_was : (ru : Span) (o : Option (List (List ℕ))) → o ≡ option_map (content_with None ru) o
as_it_was ru None = refl
as_it_was ru (Some c) = refl

pub commits_branch : (file : ℕ) (h head : FileHead) (held : Key → Bool) (key : Key) (after : Option (List ℕ)) (a e : Entry) (tid : Tid) (serial : Serial) (moment : ℕ) (left : List (Option OpenUnit)) (v mid imaged closed made : VolumeState) → IsEntry a × IsEntry e → IsEntry (settled_entry (tid_of tid) (serial_of serial) Commit moment) → StagesFile file h 417 v mid head → TellsSet h held key after v mid head →
    EntersImages file a e mid imaged → EntersSettled (only file) (Some (settled_entry (tid_of tid) (serial_of serial) Commit moment)) imaged closed →
    IsStaged tid serial ending.Commit moment None left v closed made → made.catalog ≡ record closed.catalog { home = settled_home tid serial ending.Commit moment closed.catalog.home; ru = from_earliest left closed.catalog.ru } →
    CommitsBranch file h held key after a e tid serial moment left v made
commits_branch file h head held key after a e tid serial moment left v mid imaged closed made each closing stages sets images closes staged catalog = record {
  set = mid;
  head = head;
  stages = stages;
  sets = sets;
  each = each;
  imaged = imaged;
  images = images;
  closing = closing;
  closed = closed;
  closes = closes;
  settles = makes tid serial ending.Commit moment None left closed closed made (as_it_was closed.catalog.ru closed.store.current) refl staged catalog;
}

-- it is told by the content and by what is kept of it
pub commits_as : (file : ℕ) (h : FileHead) (held : Key → Bool) (key : Key) (after : Option (List ℕ)) (a e : Entry) (tid : Tid) (serial : Serial) (moment : ℕ) (left : List (Option OpenUnit)) (v made w : VolumeState) → w.store.current ≡ made.store.current → w.catalog ≡ made.catalog →
    CommitsBranch file h held key after a e tid serial moment left v made → CommitsBranch file h held key after a e tid serial moment left v w
commits_as file h held key after a e tid serial moment left v made w current catalog is = record {
  set = is.set;
  head = is.head;
  stages = is.stages;
  sets = is.sets;
  each = is.each;
  imaged = is.imaged;
  images = is.images;
  closing = is.closing;
  closed = is.closed;
  closes = is.closes;
  settles = record { current = current ∙ is.settles.current; catalog = catalog ∙ is.settles.catalog };
}

-- A unit's change, by what is told of its branch, of what the key has before and of what it has after.
module _ (u : OpenUnit) (file : ℕ) (h : FileHead) (how : KeyChange) (key : Key) (value found : List ℕ) (locks : List Lock) (tid serial : Id) (before after : Option (List ℕ))
    (same_tid : tid ≡ u.tid) (same_serial : serial ≡ u.serial) (had : before ≡ before_change how found) (has : after ≡ after_change how value) where
  abbrev told : Entry
  told = change_entry tid serial file key before

  abbrev made_after : Entry
  made_after = change_entry tid serial file key after

  abbrev held : Key → Bool
  held k = is_some (holder locks file k)

  pub told_is : told ≡ change_entry u.tid u.serial file key (before_change how found)
  told_is = λ i. change_entry (same_tid i) (same_serial i) file key (had i)

  pub makes_entry : (v x : VolumeState) → EntersKey file h held key after made_after told v x → MakesEntry u file h how key value found locks v x
  makes_entry v x enters = subst (λ (a : Option (List ℕ)). EntersKey file h held key a (change_entry u.tid u.serial file key a) (change_entry u.tid u.serial file key (before_change how found)) v x) has
      (subst (λ (s : Id). EntersKey file h held key after (change_entry u.tid s file key after) (change_entry u.tid u.serial file key (before_change how found)) v x) same_serial
      (subst (λ (t : Id). EntersKey file h held key after (change_entry t serial file key after) (change_entry u.tid u.serial file key (before_change how found)) v x) same_tid
      (subst (λ (e : Entry). EntersKey file h held key after made_after e v x) told_is enters)))

-- So it is of a change by no unit, whose branch has the transaction's id.
module _ (file : ℕ) (h : FileHead) (held : Key → Bool) (how : KeyChange) (key : Key) (value found : List ℕ) (b : Branch) (tid : Tid) (moment : ℕ) (left : List (Option OpenUnit)) (before after : Option (List ℕ))
    (own : b ≡ record { tid = tid; serial = record { 0 = tid.0 } }) (had : before ≡ before_change how found) (has : after ≡ after_change how value) where
  pub commits_own : (v x : VolumeState) → CommitsBranch file h held key after (change_entry (tid_of b.tid) (serial_of b.serial) file key after) (change_entry (tid_of b.tid) (serial_of b.serial) file key before) b.tid b.serial moment left v x →
      CommitsKey file h held key (after_change how value) (own_change tid file key (after_change how value)) (own_change tid file key (before_change how found)) tid moment left v x
  commits_own v x commits = subst (λ (a : Option (List ℕ)). CommitsKey file h held key a (own_change tid file key a) (own_change tid file key (before_change how found)) tid moment left v x) has
      (subst (λ (e : Option (List ℕ)). CommitsKey file h held key after (own_change tid file key after) (own_change tid file key e) tid moment left v x) had
      (subst (λ (y : Branch). CommitsBranch file h held key after (change_entry (tid_of y.tid) (serial_of y.serial) file key after) (change_entry (tid_of y.tid) (serial_of y.serial) file key before) y.tid y.serial moment left v x) own commits))
