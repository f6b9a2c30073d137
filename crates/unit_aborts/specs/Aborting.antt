-- What an abort makes of a volume, and what it leaves of one whose disk went down meanwhile.
use Rattle.std.specs.Prelude.{◌≡◌, ◌⊎◌, ◌≤◌, ◌+◌, ◌-◌, ℕ, Bool, true, false, List, [], ◌∷◌, Option}
use Rattle.block_disk.specs.Sizes.{greatest_disk_size, least_disk_size}
use Rattle.careful_write.specs.State.{IsIdle}
use Rattle.unit_journal.specs.change_set.Files.{free_frames}
use Rattle.journal_format.specs.journal_model.Entries.{Entry}
use Rattle.journal_format.specs.journal_model.Ring.{ring_size}
use Rattle.unit_journal.specs.journal_store.Rings.{IsRing}
use Rattle.unit_table.specs.Units.{OpenUnit}
use Rattle.vms_base.specs.Ids.{serial_of, tid_of}
use Rattle.vms_base.specs.declared.ids.Serial.{Serial}
use Rattle.vms_base.specs.declared.ids.Tid.{Tid}
use Rattle.vms_base.specs.declared.outcomes.Reason.{Reason}
use Rattle.vms_model.specs.Transactions.{Abort}
use Rattle.volume.specs.Catalogs.{IsSound}
use Rattle.volume.specs.State.{VolumeState, Holds}
use Rattle.volume_format.specs.declared.home.Ending.TheVariants as ending
use Rattle.unit_journal.specs.Entries.{settled_entry}
use Rattle.unit_journal.specs.Groups.{Breaks}
use Rattle.unit_journal.specs.Settling.{entry_if}
use Rattle.image_room.specs.image_appends.Settling.{AllHaveRoom}
use Rattle.kept_files.specs.file_settlements.Settling.{SettlesFiles}
use Rattle.unit_undo.specs.Undoing.{GoesOn}
use Rattle.unit_undo.specs.Way.{Undoes, FailsOnTheWay}

-- whether a unit changed something, by where its changes begin
abbrev pub has_changes : List ℕ → Bool
has_changes [] = false
has_changes (p ∷ ps) = true

-- A unit may be aborted on a volume, whatever that tells.
pub record MayAbort (v : VolumeState) : Type 0 where
  pub idle : IsIdle v.store
  pub holds : Holds v
  pub node : List ℕ
  pub sound : IsSound node v.store.disk.size v.catalog
  pub least : least_disk_size ≤ v.store.disk.size
  pub most : v.store.disk.size ≤ greatest_disk_size
  pub frames : 32 ≤ free_frames v.store.pool
  pub ring : IsRing v.catalog.ru v.store.disk

-- the journal has room for the entry of the settlement of a unit with these changes
abbrev pub HasRoom : (ps : List ℕ) → VolumeState → Type 0
HasRoom ps v = has_changes ps ≡ true → v.catalog.ru.end - v.catalog.ru.first + 48 ≤ ring_size v.catalog.ru

-- and the journals of images of the files that it changed have it too
abbrev pub ImagesHaveRoom : (ps : List ℕ) → (files : List Bool) → VolumeState → Type 0
ImagesHaveRoom ps files v = has_changes ps ≡ true → AllHaveRoom files 48 v.catalog.heads v.store.disk

-- A branch was aborted for a reason at a moment, these are its changes and the files that they are of, and these units are left.
pub record Abortion : Type 0 where
  pub positions : List ℕ
  pub files : List Bool
  pub tid : Tid
  pub serial : Serial
  pub reason : Reason
  pub moment : ℕ
  pub left : List (Option OpenUnit)

-- the entry of its settlement, where it changed something
abbrev pub abort_entry : Abortion → Option Entry
abort_entry x = entry_if (has_changes x.positions) (settled_entry (tid_of x.tid) (serial_of x.serial) Abort x.moment)

-- a volume has what its settlement makes of another
abbrev pub MakesAbort : Abortion → (v made : VolumeState) → Type 0
MakesAbort x v made = SettlesFiles x.files x.tid x.serial (ending.Abort x.reason) x.moment (abort_entry x) x.left v made

-- What the branch changed is set back in a volume, and what is staged of that is in one group with its settlement.
pub record Aborts (x : Abortion) (v w : VolumeState) : Type 0 where
  pub mid : VolumeState
  pub goes : GoesOn v mid
  pub undoes : Undoes x.positions v mid
  pub makes : MakesAbort x mid w

-- The disk went down in the last group: its settlement was perhaps made.
pub record BreaksLast (x : Abortion) (v w : VolumeState) : Type 0 where
  pub mid : VolumeState
  pub goes : GoesOn v mid
  pub undoes : Undoes x.positions v mid
  pub breaks : Breaks (MakesAbort x mid) mid w

-- The disk went down: each image is on the way of the undo, or the last group was under way.
abbrev pub BreaksOff : Abortion → (v w : VolumeState) → Type 0
BreaksOff x v w = FailsOnTheWay x.positions v w ⊎ BreaksLast x v w
