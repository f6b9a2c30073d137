-- The records that a recovery makes of a file.
use Rattle.std.specs.Prelude.{◌≡◌, ℕ, true, List, Option, Some, None}
use Rattle.block_disk.specs.Disk.{DiskState}
use Rattle.image_entries.specs.change_set.Files.{IsPlaced}
use Rattle.file_base.specs.declared.head.FileHead.{FileHead}
use Rattle.journal_store.specs.Rings.{IsRing}
use Rattle.records_model.specs.Records.{Records}
use Rattle.records_model.specs.History.{current}
use Rattle.image_entries.specs.recovery_model.File.{FileState}
use Rattle.image_entries.specs.recovery_model.Recovery.{rolled}
use Rattle.rolled_records.specs.save_laws.Saves.{save_head}
use Rattle.vms_base.specs.declared.moments.Moment.{Moment}
use Rattle.file_recoveries.specs.Causes.{way_of}
use Rattle.file_recoveries.specs.Files.{HasFile}
use Rattle.file_recoveries.specs.declared.causes.Way.{Way}
use Rattle.file_recoveries.specs.declared.causes.Way.TheVariants.{Forward, Backward}

-- the last moment that counts: the one that is asked for, or the greatest number
abbrev pub last_of : Option Moment → ℕ
last_of (Some until) = until.0
last_of None = 18446744073709551615

-- what the file has lies on the disk: its buckets, its save where it has one, and its journals where it has them
pub record IsReadable (h : FileHead) (disk : DiskState) : Type 0 where
  pub buckets : IsPlaced h disk
  pub save : h.marks.save ≡ true → IsPlaced (save_head h) disk
  pub ai : h.marks.ai ≡ true → IsRing h.ai disk
  pub bi : h.marks.bi ≡ true → IsRing h.bi disk

-- these are the records that a recovery of the file makes, where the content has it
abbrev pub RollsFile : FileHead → Way → Records → List (List ℕ) → Type 0
RollsFile h way m c = (f : ℕ) (s : FileState) → HasFile c f h (current s.timeline.history) s → m ≡ rolled (way_of way) s

-- forward, where the head refuses nothing
abbrev pub RollsOn : FileHead → Option Moment → Records → List (List ℕ) → Type 0
RollsOn h until m c = h.marks.ai ≡ true → h.marks.save ≡ true → RollsFile h (Forward until) m c

-- and backward
abbrev pub RollsOff : FileHead → Moment → Records → List (List ℕ) → Type 0
RollsOff h until m c = h.marks.bi ≡ true → RollsFile h (Backward until) m c
