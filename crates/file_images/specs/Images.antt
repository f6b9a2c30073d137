-- A journal of images and the bytes of its ring.
use Rattle.std.specs.Prelude.{◌≡◌, ℕ, List, [], true, map, reverse, Option, Some, None, is_some, if◌then◌else◌}
use Rattle.std.specs.Int.{w32, to_le_bytes}
use Rattle.std.specs.List.{AllByRecursion}
use Rattle.unit_entries.specs.file_base.declared.head.FileHead.{FileHead}
use Rattle.unit_entries.specs.file_base.declared.head.Organization.{Organization}
use Rattle.unit_entries.specs.file_base.declared.head.Span.{Span}
use Rattle.vms_model.specs.Ids.{Id}
use Rattle.vms_model.specs.Keys.{Key, Number, Text, End}
use Rattle.vms_model.specs.Transactions.{Outcome, Commit, Abort}
use Rattle.unit_entries.specs.journal_model.Entries.{Entry}
use Rattle.unit_entries.specs.journal_model.Ring.{IsJournal}
use Rattle.save_laws.specs.record_files.Any.{Suits}
use Rattle.unit_entries.specs.Keys.{key_in}
use Rattle.unit_entries.specs.recovery_model.Journal.{Changed, Settled}
use Rattle.unit_entries.specs.recovery_model.Journal as image
use Rattle.unit_entries.specs.recovery_model.File.{Placed, ImageJournal, StandFrom}

-- the bytes of a key in an entry
abbrev pub key_bytes : Key → List ℕ
key_bytes (Number n) = to_le_bytes w32 n
key_bytes (Text bytes) = bytes
key_bytes End = []

abbrev pub image_bytes : Option (List ℕ) → List ℕ
image_bytes (Some bytes) = bytes
image_bytes None = []

abbrev pub outcome_code : Outcome → ℕ
outcome_code Commit = 1
outcome_code Abort = 2

-- an entry of a branch of this transaction, of the file of this number
abbrev pub entry_by : (f : ℕ) → (tid : Id) → image.Entry → Entry
entry_by f tid (Changed s k v) = record { kind = 1; flag = if is_some v then 1 else 0; file = f; tid = tid; serial = s; moment = 0; key = key_bytes k; image = image_bytes v }
entry_by f tid (Settled s outcome t) = record { kind = 3; flag = outcome_code outcome; file = 0; tid = tid; serial = s; moment = t; key = []; image = [] }

-- the entry on the disk, in the journal of the file of this number
abbrev pub disk_entry : ℕ → Placed → Entry
disk_entry f x = entry_by f x.tid x.entry

-- the entries on the disk, the oldest first
abbrev pub disk_entries : ℕ → List Placed → List Entry
disk_entries f xs = map (disk_entry f) (reverse xs)

-- the ring has the journal of images of the file of this number
pub record HasImageJournal (content : List (List ℕ)) (s : Span) (f : ℕ) (j : ImageJournal) : Type 0 where
  pub on : j.on ≡ true
  pub start : s.start ≡ j.start
  pub blocks : s.blocks ≡ j.blocks
  pub first : s.first ≡ j.first
  pub end : s.end ≡ j.end
  pub spelled : IsJournal content s (disk_entries f j.entries)
  pub places : StandFrom j.first j.entries

-- An entry is of a file that keeps its records so: a change's key is the one that its spelling stands for.
abbrev pub IsOf : Organization → image.Entry → Type 0
IsOf o (Changed s k v) = key_in o (key_bytes k) ≡ Some k
IsOf o (Settled s outcome t) = Unit {0}

abbrev pub AreOf : Organization → List image.Entry → Type 0
AreOf o es = AllByRecursion (IsOf o) es

-- The file of this head may have a change's key, and its image there.
abbrev pub IsSuited : FileHead → image.Entry → Type 0
IsSuited h (Changed s k v) = Suits h k v
IsSuited h (Settled s outcome t) = Unit {0}

abbrev pub AreSuited : FileHead → List image.Entry → Type 0
AreSuited h es = AllByRecursion (IsSuited h) es
