-- Which entry of the world's journal an entry on the disk is.
use Rattle.std.specs.Prelude.{◌≡◌, ℕ, List, [], ◌∷◌, Option, Some, is_some, if◌then◌else◌}
use Rattle.lmcp_log.specs.file_base.declared.head.FileHead.{FileHead}
use Rattle.directory_model.specs.journal_model.Entries.{Entry}
use Rattle.directory_model.specs.file_images.Images.{key_bytes, image_bytes, outcome_code}
use Rattle.directory_model.specs.Files.{head_at}
use Rattle.unit_laws.specs.Journal.{JournalEntry, ChangeEntry, PreparedEntry, SettledEntry}

-- the entry on the disk, where its file has this number
abbrev pub entry_for : ℕ → JournalEntry → Entry
entry_for f (ChangeEntry tid serial file key before) = record { kind = 1; flag = if is_some before then 1 else 0; file = f; tid = tid; serial = serial; moment = 0; key = key_bytes key; image = image_bytes before }
entry_for f (PreparedEntry tid serial) = record { kind = 2; flag = 0; file = 0; tid = tid; serial = serial; moment = 0; key = []; image = [] }
entry_for f (SettledEntry tid serial outcome moment) = record { kind = 3; flag = outcome_code outcome; file = 0; tid = tid; serial = serial; moment = moment; key = []; image = [] }

-- the number of its file: that of a head of this name
abbrev pub IsFileOf : List (Option FileHead) → JournalEntry → ℕ → Type 0
IsFileOf heads (ChangeEntry tid serial file key before) f = (h : FileHead) × (head_at heads f ≡ Some h) × (h.name ≡ file)
IsFileOf heads (PreparedEntry tid serial) f = Unit {0}
IsFileOf heads (SettledEntry tid serial outcome moment) f = Unit {0}

-- the entries on the disk are those of the world
abbrev pub AreEntries : List (Option FileHead) → List JournalEntry → List Entry → Type 0
AreEntries heads [] [] = Unit {0}
AreEntries heads [] (d ∷ ds) = ⊥
AreEntries heads (e ∷ es) [] = ⊥
AreEntries heads (e ∷ es) (d ∷ ds) = (f : ℕ) × IsFileOf heads e f × (d ≡ entry_for f e) × AreEntries heads es ds
