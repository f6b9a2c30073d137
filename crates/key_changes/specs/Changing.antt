-- A change of one key of a file, by the file's head and the records that stand.
use Rattle.std.specs.Prelude.{◌≡◌, ◌≤◌, ◌+◌, ◌-◌, ◌==◌, ℕ, List, [], ◌∷◌, Bool, true, false, not, Option, Some, None, IfSome, length, nat_lt, take, drop, if◌then◌else◌}
use Rattle.std.specs.Ordering.{eq_by_cmp}
use Rattle.vms_model.specs.Limits.{change_limit, key_limit, lock_limit, record_limit}
use Rattle.change_set.specs.declared.walk.Place.{Place}
use Rattle.file_base.specs.declared.head.FileHead.{FileHead}
use Rattle.file_base.specs.declared.head.Organization.{Organization}
use Rattle.file_base.specs.declared.head.Organization.TheVariants.{Sequential, Relative, Indexed}
use Rattle.volume_files.specs.record_files.Any.{Begins, IsFile, IsLaidOut, asks}
use Rattle.record_locks.specs.Locks.{Lock, holder, not_locked}
use Rattle.records_model.specs.Records.{key_cmp}
use Rattle.records_model.specs.History.{same_id}
use Rattle.unit_table.specs.Units.{OpenUnit}
use Rattle.vms_model.specs.Ids.{Id}
use Rattle.vms_model.specs.Keys.{Key, Number, Text, End}
use Rattle.vms_base.specs.Keys.{key_of}
use Rattle.volume.specs.State.{VolumeState}
use Rattle.key_changes.specs.declared.asked.Asked.{Asked}
use Rattle.key_changes.specs.declared.asked.KeyChange.{KeyChange}
use Rattle.key_changes.specs.declared.asked.KeyChange.TheVariants.{Put, Replace, Remove}
use Rattle.record_operations.specs.Causes.{Cause, RecordExists, KeyExists, RecordNotFound, BadRecordSize, KeyChanged, Locked, Changes, Locks, FileFull, first_cause, cause_if}
use Rattle.unit_cuts.specs.unit_journal.Entries.{key_bytes}

-- What a key has.

-- before a change, where these bytes were found
abbrev pub before_change : KeyChange → (found : List ℕ) → Option (List ℕ)
before_change Put found = None
before_change Replace found = Some found
before_change Remove found = Some found

-- after it, where these bytes are written
abbrev pub after_change : KeyChange → (value : List ℕ) → Option (List ℕ)
after_change Put value = Some value
after_change Replace value = Some value
after_change Remove value = None

-- a walk to a key of a file may begin at a place
abbrev pub MayBegin : FileHead → VolumeState → Key → Place → Type 0
MayBegin h v key place = IfSome v.store.current (λ a. IsFile h → IsLaidOut h a → Begins h a (Some key) place)

-- Refusals by what stands.

-- a record that is to be new is there
abbrev pub exists_by : Organization → Cause
exists_by Sequential = RecordExists
exists_by Relative = RecordExists
exists_by Indexed = KeyExists

-- the bytes of so many from a position on: the key of a record
abbrev pub key_within : (position size : ℕ) → List ℕ → List ℕ
key_within position size bytes = take size (drop position bytes)

-- a record may not take the place of one that has another length, in a sequential file, nor stand at a key that is not its own
abbrev pub other_refused_by : Organization → FileHead → Key → (old new : List ℕ) → Option Cause
other_refused_by Sequential h key old new = cause_if (not (length old == length new)) BadRecordSize
other_refused_by Relative h key old new = None
other_refused_by Indexed h key old new = cause_if (not (eq_by_cmp key_cmp key (Text (key_within h.key_pos h.key_size new)))) KeyChanged

-- what a key has refuses its change
abbrev pub found_refused : FileHead → KeyChange → Key → (found : Option (List ℕ)) → (value : List ℕ) → Option Cause
found_refused h Put key None value = None
found_refused h Put key (Some old) value = Some (exists_by h.organization)
found_refused h Replace key None value = Some RecordNotFound
found_refused h Replace key (Some old) value = other_refused_by h.organization h key old value
found_refused h Remove key None value = Some RecordNotFound
found_refused h Remove key (Some old) value = None

-- Refusals by locks.

-- the keys that a change asks for: a record behind the others of a sequential file asks for its end first
abbrev pub keys_by : Organization → KeyChange → Key → List Key
keys_by Sequential Put key = End ∷ key ∷ []
keys_by Sequential Replace key = key ∷ []
keys_by Sequential Remove key = key ∷ []
keys_by Relative change key = key ∷ []
keys_by Indexed change key = key ∷ []

abbrev pub keys_asked : FileHead → KeyChange → Key → List Key
keys_asked h change key = keys_by h.organization change key

-- a key that is asked for by a branch, or by none, is another branch's
abbrev pub held_against : (asking holder : Option Id) → Option Cause
held_against asking None = None
held_against None (Some by) = Some (Locked by)
held_against (Some serial) (Some by) = if same_id serial by then None else Some (Locked by)

-- of some keys, the first that is another branch's
abbrev pub locks_refuse : (asking : Option Id) → (file : ℕ) → List Key → List Lock → Option Cause
locks_refuse asking file [] locks = None
locks_refuse asking file (k ∷ ks) locks = first_cause (held_against asking (holder locks file k)) (locks_refuse asking file ks locks)

-- Refusals by quotas and room.

-- a unit makes so many changes more
abbrev pub changes_refused : ℕ → OpenUnit → Option Cause
changes_refused more u = cause_if (nat_lt change_limit (length u.positions + more)) Changes

-- keys that nobody holds are locked
abbrev pub keys_refused : (file : ℕ) → List Key → List Lock → Option Cause
keys_refused file ks locks = cause_if (nat_lt lock_limit (length locks + length (not_locked locks file ks))) Locks

-- whether a file so organized asks for free buckets: for each new record, and where records are found by a key within them also for one that takes the place
-- of another
abbrev pub asks_by : Organization → KeyChange → Bool
asks_by organization Put = true
asks_by Sequential Replace = false
asks_by Relative Replace = false
asks_by Indexed Replace = true
asks_by organization Remove = false

-- how many free buckets a change wants
abbrev pub need_of : FileHead → List (List ℕ) → KeyChange → (size : ℕ) → ℕ
need_of h content change size = if asks_by h.organization change then asks h content size else 0

-- fewer buckets are free than are needed
abbrev pub file_refused : FileHead → (need : ℕ) → Option Cause
file_refused h need = cause_if (nat_lt (h.alloc - h.used) need) (FileFull (h.alloc - h.used) need)

-- What is asked for.

-- A change that nothing refuses by its form: its key is one of a record, the record that is written has a length that records have, and one that takes the
-- place of another in an indexed file holds a key.
pub record IsFormed (a : Asked) (value : List ℕ) : Type 0 where
  pub key : 1 ≤ length (key_bytes (key_of a.key))
  pub size : length value ≤ record_limit
  pub within : a.change ≡ Replace → a.head.organization ≡ Indexed → (a.head.key_pos + a.head.key_size ≤ length value) × (1 ≤ a.head.key_size) × (a.head.key_size ≤ key_limit)
