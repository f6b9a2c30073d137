-- What one group makes of the log of a volume.
use Rattle.std.specs.Prelude.{◌≡◌, ℕ, ◌+◌, ◌<◌, ◌≤◌, ◌⊎◌, true, false, Option, None, IfSome, length, option_map, slice_set}
use Rattle.vms_model.specs.Blocks.{log_start}
use Rattle.commit_protocol.specs.Messages.{LogRecord}
use Rattle.unit_entries.specs.log_laws.Slots.{Slots, has_free, has_slot, settled_in}
use Rattle.lmcp_log.specs.Keeping.{Keeps}
use Rattle.lmcp_log.specs.Log.{block_of}
use Rattle.lmcp_log.specs.Slot.{HasForm}
use Rattle.vms_model.specs.Ids.{Id}
use Rattle.volume.specs.State.{VolumeState}

-- The log is that of a volume: it has as many slots as lie before the journal, and what they have is what the content tells, with the staged blocks.
pub record HasLog (ss : Slots) (v : VolumeState) : Type 0 where
  pub before : log_start + length ss ≤ v.catalog.ru.start
  pub keeps : IfSome v.store.current (Keeps ss)

-- A branch's record may be put into the log: it is of that branch, it waits for what its kind may wait for, and there is a slot for it.
pub record MayPut (serial : Id) (r : LogRecord) (ss : Slots) : Type 0 where
  pub own : r.serial ≡ serial
  pub form : HasForm r.kind r.waiting r.rms
  pub slot : (has_slot serial ss ≡ true) ⊎ (has_free ss ≡ true)

-- what the log is to have of a branch: a record, or none
abbrev pub MayHave : Id → Option LogRecord → Slots → Type 0
MayHave serial entry ss = IfSome entry (λ r. MayPut serial r ss)

-- One slot of the log is written: it has a record from now on, or is free.
pub record WritesSlot (entry : Option LogRecord) (ss ts : Slots) (v w : VolumeState) : Type 0 where
  pub place : ℕ
  pub within : place < length ss
  pub slots : ts ≡ slice_set ss place entry
  pub current : w.store.current ≡ option_map (λ c. slice_set c (66 + place) (block_of entry)) v.store.current
  pub catalog : w.catalog ≡ v.catalog

-- The log has this of a branch from now on: its slot is written, unless it is to have nothing and had nothing.
pub data SetsRecord (serial : Id) (entry : Option LogRecord) (ss ts : Slots) (v w : VolumeState) : Type 0 where
  written : ts ≡ settled_in serial entry ss → WritesSlot entry ss ts v w → SetsRecord serial entry ss ts v w
  nothing : entry ≡ None → has_slot serial ss ≡ false → ts ≡ ss → w.store.current ≡ v.store.current → w.catalog ≡ v.catalog → SetsRecord serial entry ss ts v w
