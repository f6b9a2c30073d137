-- What the calls on records promise, by the units, the volume and the records that stand.
use Rattle.std.specs.Prelude.{◌≡◌, ◌⊎◌, ◌≤◌, ℕ, ◌+◌, List, [], ◌∷◌, Bool, true, false, not, Option, Some, None, IfSome, length, option_map, slice_set, is_some, unwrap_or, Result, Err, nat_le, min, if◌then◌else◌, ⊤}
use Rattle.file_base.specs.declared.head.FileHead.{FileHead}
use Rattle.file_base.specs.declared.head.Organization.{Organization}
use Rattle.file_base.specs.declared.head.Organization.TheVariants.{Sequential, Relative, Indexed}
use Rattle.volume_files.specs.record_files.Any.{IsFile, IsLaidOut, map_of, reads_of}
use Rattle.record_locks.specs.Locks.{Lock, holder, with_locks}
use Rattle.unit_table.specs.Units.{OpenUnit, has_changed, with_position, with_unit, unit_at, earliest}
use Rattle.vms_base.specs.Keys.{key_of}
use Rattle.vms_base.specs.Ids.{serial_of, tid_of}
use Rattle.vms_base.specs.declared.ids.Serial.{Serial}
use Rattle.vms_base.specs.declared.ids.Tid.{Tid}
use Rattle.vms_model.specs.Ids.{Id}
use Rattle.vms_model.specs.Keys.{Key, Number, Text, End}
use Rattle.vms_model.specs.Transactions.{Outcome, Commit, Abort}
use Rattle.volume.specs.State.{SameVolume, VolumeState}
use Rattle.volume_format.specs.declared.home.Ending.TheVariants as ending
use Rattle.record_operations.specs.declared.ops.RecordOp.{RecordOp}
use Rattle.record_operations.specs.declared.ops.RecordOp.TheVariants as op
use Rattle.record_operations.specs.declared.ops.ReadOp.{ReadOp}
use Rattle.record_operations.specs.declared.ops.ReadOp.TheVariants as read
use Rattle.key_changes.specs.declared.asked.KeyChange.{KeyChange}
use Rattle.key_changes.specs.declared.asked.KeyChange.TheVariants as change
use Rattle.record_operations.specs.declared.errors.RecErr.{RecErr}
use Rattle.record_operations.specs.Asking.{file_in, is_of_key, read_file_in, written}
use Rattle.record_operations.specs.Causes.{Cause, NotForUnits, NeedsUnit, cause_of, cause_if, first_cause, IfRefused}
use Rattle.key_changes.specs.Changing.{after_change, before_change, file_refused, found_refused, changes_refused, keys_asked, keys_refused, locks_refuse, need_of}
use Rattle.unit_journal.specs.Entries.{change_entry, settled_entry}
use Rattle.key_changes.specs.Keys.{change_in, key_in, position_by}
use Rattle.image_room.specs.Room.{images_refused}
use Rattle.kept_files.specs.Own.{own_change}
use Rattle.rms_units.specs.Making.{CommitsKey, EntersKey}
use Rattle.record_operations.specs.Forms.{form_refused, read_form_refused}
use Rattle.unit_journal.specs.Groups.{Breaks}
use Rattle.unit_journal.specs.Leaving.{FellIn}
use Rattle.unit_journal.specs.Room.{entry_size, journal_refused}
use Rattle.unit_journal.specs.Settling.{entry_if, next_moment}
use Rattle.kept_files.specs.file_settlements.Settling.{SettlesFiles}
use Rattle.rms_units.specs.Reading.{Finds, FindsNone, read_keys}
use Rattle.key_changes.specs.unit_cuts.Records.{OfRecords}
use Rattle.rms_units.specs.State.{UnitsState, unit_of, without_place}
use Rattle.rms_units.specs.Truncating.{ChangesCut, CutBroke, CutRefused, DirectCutBroke, DirectCutRefused, DirectsCut}

-- Reads.

-- the units once one of them holds a key of a file
abbrev pub holding : (serial : Id) → (file : ℕ) → List Key → UnitsState → UnitsState
holding serial file keys s = record s { locks = with_locks serial file keys s.locks }

-- what refuses a read for a unit before a record is looked for
abbrev pub read_refused_before_reading : FileHead → ReadOp → Option Cause
read_refused_before_reading h op = first_cause (read_form_refused h op) (cause_if (not h.marks.ru) NotForUnits)

-- A read for a unit is refused: before a record is looked for; by what is found; or since too many keys would be held with it.
abbrev pub ReadRefused : OpenUnit → FileHead → ReadOp → Cause → UnitsState → VolumeState → Type 0
ReadRefused u h op cause s v =
    (read_refused_before_reading h op ≡ Some cause)
    ⊎ ((read_refused_before_reading h op ≡ None) × OfRecords h v (FindsNone op (Some u.serial) s.locks cause))
    ⊎ ((read_refused_before_reading h op ≡ None) × ((key : Key) × (bytes : List ℕ) × OfRecords h v (Finds op (Some u.serial) s.locks key bytes) × (keys_refused (read_file_in op) (key ∷ []) s.locks ≡ Some cause)))

-- A read of a key reads as many blocks at the most as a walk to it in the file.
abbrev pub ReadsFew : FileHead → ReadOp → VolumeState → VolumeState → Type 0
ReadsFew h (read.Get file key) v w = w.store.reads ≤ v.store.reads + reads_of h
ReadsFew h (read.Next file after) v w = ⊤

-- A unit has read a record, which it holds from then on.
pub record ReadsOk (u : OpenUnit) (h : FileHead) (op : ReadOp) (key : Key) (bytes : List ℕ) (s : UnitsState) (v : VolumeState) (t : UnitsState) (w : VolumeState) : Type 0 where
  pub early : read_refused_before_reading h op ≡ None
  pub finds : OfRecords h v (Finds op (Some u.serial) s.locks key bytes)
  pub few : keys_refused (read_file_in op) (key ∷ []) s.locks ≡ None
  pub held : t ≡ holding u.serial (read_file_in op) (key ∷ []) s
  pub same : SameVolume v w

-- nothing refuses a read for a unit before a record is read
abbrev pub MayRead : OpenUnit → FileHead → ReadOp → UnitsState → Type 0
MayRead u h op s = (read_refused_before_reading h op ≡ None) × (locks_refuse (Some u.serial) (read_file_in op) (read_keys op) s.locks ≡ None)

-- A read was refused, and nothing changed; or the disk went down in one that nothing had refused.
abbrev pub ReadsErr : OpenUnit → FileHead → ReadOp → RecErr → UnitsState → VolumeState → UnitsState → VolumeState → Type 0
ReadsErr u h op e s v t w = (t ≡ s) × IfRefused e (λ cause. ReadRefused u h op cause s v × SameVolume v w) (λ down. MayRead u h op s × FellIn down v w)

-- a read for no unit
abbrev pub LookRefused : FileHead → ReadOp → Cause → UnitsState → VolumeState → Type 0
LookRefused h op cause s v = (read_form_refused h op ≡ Some cause) ⊎ ((read_form_refused h op ≡ None) × OfRecords h v (FindsNone op None s.locks cause))

pub record LooksOk (h : FileHead) (op : ReadOp) (key : Key) (bytes : List ℕ) (s : UnitsState) (v w : VolumeState) : Type 0 where
  pub early : read_form_refused h op ≡ None
  pub finds : OfRecords h v (Finds op None s.locks key bytes)
  pub same : SameVolume v w

abbrev pub MayLook : FileHead → ReadOp → UnitsState → Type 0
MayLook h op s = (read_form_refused h op ≡ None) × (locks_refuse None (read_file_in op) (read_keys op) s.locks ≡ None)

abbrev pub LooksErr : FileHead → ReadOp → RecErr → UnitsState → VolumeState → VolumeState → Type 0
LooksErr h op e s v w = IfRefused e (λ cause. LookRefused h op cause s v × SameVolume v w) (λ down. MayLook h op s × FellIn down v w)

-- Changes of one key.

-- what refuses a unit's change of a file before its keys are looked at
abbrev pub change_refused_before_reading : FileHead → RecordOp → (value : List ℕ) → Option Cause
change_refused_before_reading h o value = first_cause (form_refused h o (length value)) (cause_if (not h.marks.ru) NotForUnits)

-- what refuses a unit's change of one key then, where this is the content: what the key has, a quota, or want of space
abbrev pub change_refused_after_reading : OpenUnit → (file : ℕ) → FileHead → KeyChange → Key → (value : List ℕ) → UnitsState → VolumeState → List (List ℕ) → Option Cause
change_refused_after_reading u file h how key value s v content =
    let found = map_of h content key in
    first_cause (found_refused h how key found value) (first_cause (changes_refused 1 u) (first_cause (keys_refused file (keys_asked h how key) s.locks)
    (first_cause (file_refused h (need_of h content how (length value))) (first_cause (journal_refused v.catalog.ru s.units.places u (entry_size key (before_change how (unwrap_or found []))))
    (images_refused h file s.units.places (has_changed u file) (entry_size key (after_change how value)) (entry_size key (before_change how (unwrap_or found []))))))))

-- A unit's change of one key is refused: another branch holds it, or the end of the file that it asks for; or by what stands, a quota or for want of space.
abbrev pub KeyRefused : OpenUnit → (file : ℕ) → FileHead → KeyChange → Key → (value : List ℕ) → Cause → UnitsState → VolumeState → Type 0
KeyRefused u file h how key value cause s v =
    (locks_refuse (Some u.serial) file (keys_asked h how key) s.locks ≡ Some cause)
    ⊎ ((locks_refuse (Some u.serial) file (keys_asked h how key) s.locks ≡ None) × ((a : List (List ℕ)) → v.store.current ≡ Some a → IsFile h → IsLaidOut h a → change_refused_after_reading u file h how key value s v a ≡ Some cause))

-- A volume has what a unit's change makes of it, with an entry in the journal that tells that the key had what was found.
abbrev pub MakesEntry : OpenUnit → (file : ℕ) → FileHead → KeyChange → Key → (value found : List ℕ) → List Lock → VolumeState → VolumeState → Type 0
MakesEntry u file h how key value found locks v made = EntersKey file h (λ k. is_some (holder locks file k)) key (after_change how value) (change_entry u.tid u.serial file key (after_change how value)) (change_entry u.tid u.serial file key (before_change how found)) v made

-- so with what the key had, where nothing that stands, no quota and no want of space refuses it
pub record MakesKey (u : OpenUnit) (file : ℕ) (h : FileHead) (how : KeyChange) (key : Key) (value : List ℕ) (s : UnitsState) (v made : VolumeState) : Type 0 where
  pub late : (a : List (List ℕ)) → v.store.current ≡ Some a → IsFile h → IsLaidOut h a → change_refused_after_reading u file h how key value s v a ≡ None
  pub found : List ℕ
  pub had : OfRecords h v (λ m. before_change how (unwrap_or (m key) []) ≡ before_change how found)
  pub enters : MakesEntry u file h how key value found s.locks v made

-- A unit has changed one key: no lock refuses it, and it is made; the unit knows where its entry stands and that it changed the file, and holds the keys that were asked for.
pub record ChangesKey (place : ℕ) (u : OpenUnit) (file : ℕ) (h : FileHead) (how : KeyChange) (key : Key) (value : List ℕ) (s : UnitsState) (v : VolumeState) (t : UnitsState) (w : VolumeState) : Type 0 where
  pub early : locks_refuse (Some u.serial) file (keys_asked h how key) s.locks ≡ None
  pub made : MakesKey u file h how key value s v w
  pub units : t.units ≡ with_unit place (with_position v.catalog.ru.end file u) s.units
  pub changed : has_changed (with_position v.catalog.ru.end file u) file ≡ true
  pub locks : t.locks ≡ with_locks u.serial file (keys_asked h how key) s.locks

-- the disk went down in a change of one key that no lock refuses, and it was perhaps under way
pub record KeyBroke (u : OpenUnit) (file : ℕ) (h : FileHead) (how : KeyChange) (key : Key) (value : List ℕ) (s : UnitsState) (v w : VolumeState) : Type 0 where
  pub early : locks_refuse (Some u.serial) file (keys_asked h how key) s.locks ≡ None
  pub breaks : Breaks (MakesKey u file h how key value s v) v w

-- A change of one key was refused, and nothing changed; or the disk went down.
abbrev pub ChangesKeyErr : OpenUnit → (file : ℕ) → FileHead → KeyChange → Key → (value : List ℕ) → RecErr → UnitsState → VolumeState → UnitsState → VolumeState → Type 0
ChangesKeyErr u file h how key value e s v t w = (t ≡ s) × IfRefused e (λ cause. KeyRefused u file h how key value cause s v × SameVolume v w) (λ down. KeyBroke u file h how key value s v w)

-- A change that a unit asked for is made, of a key or of the records from a position on, and its position is told: that of a record that was put into a
-- sequential file, else 0.
pub record ChangesOk (place : ℕ) (u : OpenUnit) (h : FileHead) (o : RecordOp) (bytes : List ℕ) (told : ℕ) (s : UnitsState) (v : VolumeState) (t : UnitsState) (w : VolumeState) : Type 0 where
  pub early : change_refused_before_reading h o (written o bytes) ≡ None
  pub changes : is_of_key o ≡ true → ChangesKey place u (file_in o) h (change_in o) (key_in h o (written o bytes)) (written o bytes) s v t w
  pub cuts : (file from : ℕ) → o ≡ op.Truncate file from → ChangesCut place u file h from s v t w
  pub position : told ≡ position_by h.organization (change_in o) (key_in h o (written o bytes))

-- what refuses it behind its form and the file's mark
pub record IsRefusedLate (u : OpenUnit) (h : FileHead) (o : RecordOp) (value : List ℕ) (cause : Cause) (s : UnitsState) (v : VolumeState) : Type 0 where
  pub allowed : change_refused_before_reading h o value ≡ None
  pub key : is_of_key o ≡ true → KeyRefused u (file_in o) h (change_in o) (key_in h o value) value cause s v
  pub cut : (file from : ℕ) → o ≡ op.Truncate file from → CutRefused u file h from cause s v

abbrev pub ChangeRefused : OpenUnit → FileHead → RecordOp → (value : List ℕ) → Cause → UnitsState → VolumeState → Type 0
ChangeRefused u h o value cause s v = (change_refused_before_reading h o value ≡ Some cause) ⊎ IsRefusedLate u h o value cause s v

-- the disk went down in one that nothing had refused, and it was perhaps under way
pub record ChangeBroke (u : OpenUnit) (h : FileHead) (o : RecordOp) (value : List ℕ) (s : UnitsState) (v w : VolumeState) : Type 0 where
  pub allowed : change_refused_before_reading h o value ≡ None
  pub key : is_of_key o ≡ true → KeyBroke u (file_in o) h (change_in o) (key_in h o value) value s v w
  pub cut : (file from : ℕ) → o ≡ op.Truncate file from → CutBroke u file h from s v w

-- It was refused, and nothing changed; or the disk went down.
abbrev pub ChangesErr : OpenUnit → FileHead → RecordOp → (bytes : List ℕ) → RecErr → UnitsState → VolumeState → UnitsState → VolumeState → Type 0
ChangesErr u h o bytes e s v t w = (t ≡ s) × IfRefused e (λ cause. ChangeRefused u h o (written o bytes) cause s v × SameVolume v w) (λ down. ChangeBroke u h o (written o bytes) s v w)

-- Changes without a unit.

-- what refuses a change of a file without a unit before its keys are looked at
abbrev pub direct_refused_before_reading : FileHead → RecordOp → (value : List ℕ) → Option Cause
direct_refused_before_reading h o value = first_cause (form_refused h o (length value)) (cause_if h.marks.ru NeedsUnit)

-- what refuses one of one key then, where this is the content: what the key has, or want of space
abbrev pub direct_refused_after_reading : (file : ℕ) → FileHead → KeyChange → Key → (value : List ℕ) → UnitsState → List (List ℕ) → Option Cause
direct_refused_after_reading file h how key value s content =
    let found = map_of h content key in
    first_cause (found_refused h how key found value) (first_cause (file_refused h (need_of h content how (length value)))
    (images_refused h file s.units.places false (entry_size key (after_change how value)) (entry_size key (before_change how (unwrap_or found [])))))

-- It is refused: a branch holds the key, or the end of the file that it asks for; or by what stands, or for want of space.
abbrev pub DirectKeyRefused : (file : ℕ) → FileHead → KeyChange → Key → (value : List ℕ) → Cause → UnitsState → VolumeState → Type 0
DirectKeyRefused file h how key value cause s v =
    (locks_refuse None file (keys_asked h how key) s.locks ≡ Some cause)
    ⊎ ((locks_refuse None file (keys_asked h how key) s.locks ≡ None) × ((a : List (List ℕ)) → v.store.current ≡ Some a → IsFile h → IsLaidOut h a → direct_refused_after_reading file h how key value s a ≡ Some cause))

-- a volume has what it makes of another at this clock, where nothing that stands and no want of space refuses it: the entries tell what was found at the key
pub record CommitsChange (tid : Tid) (clock : ℕ) (file : ℕ) (h : FileHead) (how : KeyChange) (key : Key) (value : List ℕ) (s : UnitsState) (v made : VolumeState) : Type 0 where
  pub late : (a : List (List ℕ)) → v.store.current ≡ Some a → IsFile h → IsLaidOut h a → direct_refused_after_reading file h how key value s a ≡ None
  pub found : List ℕ
  pub had : OfRecords h v (λ m. before_change how (unwrap_or (m key) []) ≡ before_change how found)
  pub commits : CommitsKey file h (λ k. is_some (holder s.locks file k)) key (after_change how value) (own_change tid file key (after_change how value)) (own_change tid file key (before_change how found)) tid (next_moment clock v.catalog.home) s.units.places v made

-- One key is changed: no lock refuses it, and it is made.
pub record DirectsKey (tid : Tid) (clock : ℕ) (file : ℕ) (h : FileHead) (how : KeyChange) (key : Key) (value : List ℕ) (s : UnitsState) (v w : VolumeState) : Type 0 where
  pub early : locks_refuse None file (keys_asked h how key) s.locks ≡ None
  pub made : CommitsChange tid clock file h how key value s v w

-- the disk went down in a change of one key that no lock refuses, and it was perhaps under way
pub record DirectKeyBroke (tid : Tid) (clock : ℕ) (file : ℕ) (h : FileHead) (how : KeyChange) (key : Key) (value : List ℕ) (s : UnitsState) (v w : VolumeState) : Type 0 where
  pub early : locks_refuse None file (keys_asked h how key) s.locks ≡ None
  pub breaks : Breaks (CommitsChange tid clock file h how key value s v) v w

-- It was refused, and nothing changed; or the disk went down.
abbrev pub DirectsKeyErr : (tid : Tid) → (clock : ℕ) → (file : ℕ) → FileHead → KeyChange → Key → (value : List ℕ) → RecErr → UnitsState → VolumeState → VolumeState → Type 0
DirectsKeyErr tid clock file h how key value e s v w = IfRefused e (λ cause. DirectKeyRefused file h how key value cause s v × SameVolume v w) (λ down. DirectKeyBroke tid clock file h how key value s v w)

-- A change without a unit is made, and its position is told as that of a unit's change.
pub record DirectsOk (tid : Tid) (clock : ℕ) (h : FileHead) (o : RecordOp) (bytes : List ℕ) (told : ℕ) (s : UnitsState) (v w : VolumeState) : Type 0 where
  pub early : direct_refused_before_reading h o (written o bytes) ≡ None
  pub changes : is_of_key o ≡ true → DirectsKey tid clock (file_in o) h (change_in o) (key_in h o (written o bytes)) (written o bytes) s v w
  pub cuts : (file from : ℕ) → o ≡ op.Truncate file from → DirectsCut tid clock file h from s v w
  pub position : told ≡ position_by h.organization (change_in o) (key_in h o (written o bytes))

-- what refuses it behind its form and the file's mark
pub record IsRefusedAlone (h : FileHead) (o : RecordOp) (value : List ℕ) (cause : Cause) (s : UnitsState) (v : VolumeState) : Type 0 where
  pub allowed : direct_refused_before_reading h o value ≡ None
  pub key : is_of_key o ≡ true → DirectKeyRefused (file_in o) h (change_in o) (key_in h o value) value cause s v
  pub cut : (file from : ℕ) → o ≡ op.Truncate file from → DirectCutRefused file h from cause s v

abbrev pub DirectRefused : FileHead → RecordOp → (value : List ℕ) → Cause → UnitsState → VolumeState → Type 0
DirectRefused h o value cause s v = (direct_refused_before_reading h o value ≡ Some cause) ⊎ IsRefusedAlone h o value cause s v

-- the disk went down in one that nothing had refused, and it was perhaps under way
pub record DirectBroke (tid : Tid) (clock : ℕ) (h : FileHead) (o : RecordOp) (value : List ℕ) (s : UnitsState) (v w : VolumeState) : Type 0 where
  pub allowed : direct_refused_before_reading h o value ≡ None
  pub key : is_of_key o ≡ true → DirectKeyBroke tid clock (file_in o) h (change_in o) (key_in h o value) value s v w
  pub cut : (file from : ℕ) → o ≡ op.Truncate file from → DirectCutBroke tid clock file h from s v w

abbrev pub DirectsErr : (tid : Tid) → (clock : ℕ) → FileHead → RecordOp → (bytes : List ℕ) → RecErr → UnitsState → VolumeState → VolumeState → Type 0
DirectsErr tid clock h o bytes e s v w = IfRefused e (λ cause. DirectRefused h o (written o bytes) cause s v × SameVolume v w) (λ down. DirectBroke tid clock h o (written o bytes) s v w)

-- Settlements.

-- whether a unit changed something
abbrev pub is_some_change : List ℕ → Bool
is_some_change [] = false
is_some_change (p ∷ ps) = true

-- A unit is committed: it is no more, and its settlement is made at this moment.
pub record Commits (place : ℕ) (u : OpenUnit) (told_tid : Tid) (told_serial : Serial) (clock told_moment : ℕ) (s : UnitsState) (v : VolumeState) (t : UnitsState) (w : VolumeState) : Type 0 where
  pub spent : t ≡ without_place place u.serial s
  pub tid : tid_of told_tid ≡ u.tid
  pub serial : serial_of told_serial ≡ u.serial
  pub moment : told_moment ≡ next_moment clock v.catalog.home
  pub makes : SettlesFiles u.files told_tid told_serial ending.Commit told_moment (entry_if (is_some_change u.positions) (settled_entry u.tid u.serial Commit told_moment)) t.units.places v w

-- The disk went down in it, and the unit is no more: the settlement was perhaps under way.
pub record CommitsNot (place : ℕ) (u : OpenUnit) (clock : ℕ) (s : UnitsState) (v : VolumeState) (t : UnitsState) (w : VolumeState) : Type 0 where
  pub spent : t ≡ without_place place u.serial s
  pub tid : Tid
  pub serial : Serial
  pub same_tid : tid_of tid ≡ u.tid
  pub same_serial : serial_of serial ≡ u.serial
  pub breaks : Breaks (SettlesFiles u.files tid serial ending.Commit (next_moment clock v.catalog.home) (entry_if (is_some_change u.positions) (settled_entry u.tid u.serial Commit (next_moment clock v.catalog.home))) t.units.places v) v w
