-- What the entries of a unit tell of a file: what its keys had before, and which of its keys are changed.
use Rattle.std.specs.Prelude.{◌≡◌, ℕ, ◌==◌, ◌&&◌, true, List, [], ◌∷◌, ◌++◌, Option, Some, None, if◌then◌else◌}
use Rattle.std.specs.List.{list_any, AllByRecursion}
use Rattle.file_base.specs.declared.head.FileHead.{FileHead}
use Rattle.file_base.specs.declared.head.Span.{Span}
use Rattle.vms_base.specs.vms_model.Keys.{Key}
use Rattle.table_keys.specs.records_model.Records.{Change}
use Rattle.table_keys.specs.records_model.History.{changes_key}
use Rattle.sequence_laws.specs.change_set.Maps.{same_key}
use Rattle.run_model.specs.unit_laws.Units.{earliest_before}
use Rattle.run_model.specs.unit_laws.Journal.{Note}
use Rattle.sequence_laws.specs.Undoing.{lowest_absent}
use Rattle.journal_format.specs.journal_model.Entries.{Entry, has_image}
use Rattle.unit_entries.specs.Collecting.{IsChangeAt}
use Rattle.unit_entries.specs.Keys.{KeyTold, key_told, lowest_in}

-- the record that an entry has as its image, where it has one
abbrev pub before_in : Entry → Option (List ℕ)
before_in e = if has_image e.kind e.flag then Some e.image else None

-- the note that an entry is of a key
abbrev pub noted : Entry → Option Key → List Note
noted e None = []
noted e (Some key) = (key, before_in e) ∷ []

abbrev pub noted_of : (file : ℕ) → List (Option FileHead) → Entry → List Note
noted_of file heads e = if e.file == file then noted e (key_told heads e) else []

-- what entries note of a file, of which the oldest is the first: the newest note stands first
abbrev pub notes_of : (file : ℕ) → List (Option FileHead) → List Entry → List Note
notes_of file heads [] = []
notes_of file heads (e ∷ es) = notes_of file heads es ++ noted_of file heads e

-- a key that was changed, and the entry that has what it had before the first of these changes
pub record TellsKey (s : Span) (c : List (List ℕ)) (cs : List Change) (k : KeyTold) : Type 0 where
  pub changed : changes_key k.key cs ≡ true
  pub entry : Entry
  pub stands : IsChangeAt s k.first entry c
  pub earliest : earliest_before cs k.key ≡ before_in entry
  pub had : k.had ≡ has_image entry.kind entry.flag

-- These are the keys of a file that such changes changed, each with its earliest entry, and the lowest position without a record.
pub record TellsKeys (s : Span) (c : List (List ℕ)) (file : ℕ) (ks : List KeyTold) (cs : List Change) : Type 0 where
  pub each : AllByRecursion (λ (k : KeyTold). (k.file == file) ≡ true → TellsKey s c cs k) ks
  pub all : (key : Key) → changes_key key cs ≡ true → list_any (λ (k : KeyTold). (k.file == file) && same_key key k.key) ks ≡ true
  pub lowest : lowest_in file ks ≡ lowest_absent cs
