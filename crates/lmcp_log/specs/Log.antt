-- The log of a node: its slots, what a content tells of them, and what a call stages.
use Rattle.std.specs.Prelude.{◌≡◌, ℕ, ◌+◌, ◌-◌, ◌<◌, ◌==◌, ◌&&◌, Bool, true, false, List, [], ◌∷◌, length, take, if◌then◌else◌, Option, Some, None, option_map, slice_set, slice_index_or}
use Rattle.vms_base.specs.vms_model.Ids.{Id}
use Rattle.vms_base.specs.vms_model.Blocks.{log_start}
use Rattle.vms_base.specs.declared.protocol.LogRec.{LogRec}
use Rattle.block_disk.specs.Blocks.{block_at, with_number}
use Rattle.block_disk.specs.Disk.{MayLeave}
use Rattle.careful_write.specs.State.{StoreState, IsReady, content}
use Rattle.log_laws.specs.commit_protocol.Messages.{LogRecord, same_id}
use Rattle.log_laws.specs.Slots.{Slots, has_slot, is_prepared_record}
use Rattle.tm_types.specs.Parts.{log_record_of}
use Rattle.lmcp_log.specs.Slot.{slot_block, free_block, IsRecord}

-- what a slot of the code's has
abbrev pub slot_of : Option LogRec → Option LogRecord
slot_of o = option_map log_record_of o

-- the record at a place, or none
abbrev pub slot_at : Slots → ℕ → Option LogRecord
slot_at ss i = slice_index_or ss i None

-- a slot has the record of this serial
abbrev pub is_of : Id → Option LogRecord → Bool
is_of s None = false
is_of s (Some r) = same_id r.serial s

-- a slot is free
abbrev pub is_free : Option LogRecord → Bool
is_free None = true
is_free (Some r) = false

-- the first slot for which a test holds
pub record IsFirst (test : Option LogRecord → Bool) (ss : Slots) (i : ℕ) : Type 0 where
  pub within : i < length ss
  pub here : test (slot_at ss i) ≡ true
  pub before : (k : ℕ) → k < i → test (slot_at ss k) ≡ false

-- where slot i stands in a content, which begins with block 518: the slots begin with block 584
abbrev pub block_of_slot : List (List ℕ) → ℕ → List ℕ
block_of_slot c i = block_at c (66 + i)

-- A slot is read from its block: it has the record that the block has, unless a lower slot has that record's serial. Any other bytes are a free slot.
pub record IsReadAt (c : List (List ℕ)) (ss : Slots) (i : ℕ) : Type 0 where
  pub some : (r : LogRecord) → slot_at ss i ≡ Some r → IsRecord r × (slot_block r ≡ block_of_slot c i) × (has_slot r.serial (take i ss) ≡ false)
  pub none : slot_at ss i ≡ None → (r : LogRecord) → IsRecord r → slot_block r ≡ block_of_slot c i → has_slot r.serial (take i ss) ≡ true

-- each slot is read so
abbrev pub IsReading : Slots → List (List ℕ) → Type 0
IsReading ss c = (i : ℕ) → i < length ss → IsReadAt c ss i

-- the block of a slot
abbrev pub block_of : Option LogRecord → List ℕ
block_of None = free_block
block_of (Some r) = slot_block r

-- the disk under a store has the same content, in each image too, and the store is ready as before
pub record SameDisk (old new : StoreState) : Type 0 where
  pub content : content new ≡ content old
  pub images : (image : List (List ℕ)) → MayLeave new.disk image → MayLeave old.disk image
  pub size : new.disk.size ≡ old.disk.size
  pub fits : new.fits ≡ old.fits
  pub ready : IsReady old → IsReady new
  pub pool : new.pool ≡ old.pool

-- nothing but reads was done
pub record OnlyRead (old new : StoreState) : Type 0 where
  pub disk : SameDisk old new
  pub current : new.current ≡ old.current
  pub touched : new.touched ≡ old.touched

-- one slot's block was staged with what the slot has from now on
pub record StagesSlot (old new : Slots) (s t : StoreState) (entry : Option LogRecord) : Type 0 where
  pub place : ℕ
  pub within : place < length old
  pub slots : new ≡ slice_set old place entry
  pub current : t.current ≡ option_map (λ c. slice_set c (66 + place) (block_of entry)) s.current
  pub touched : t.touched ≡ with_number (log_start + place) s.touched
  pub rest : t ≡ record s { current = t.current; touched = t.touched }
  pub disk : SameDisk s t

-- the record of a serial
abbrev pub record_with : Id → Slots → Option LogRecord
record_with s [] = None
record_with s (None ∷ ss) = record_with s ss
record_with s (Some r ∷ ss) = if same_id r.serial s then Some r else record_with s ss

-- a slot has a prepared record
abbrev pub is_prepared : Option LogRecord → Bool
is_prepared None = false
is_prepared (Some r) = is_prepared_record r.kind

-- what is left of a slot where so many prepared records may stand from it on, and how many may behind it
abbrev pub passed : (most : ℕ) → Option LogRecord → Option LogRecord
passed most o = if is_prepared o && (most == 0) then None else o

abbrev pub fewer : (most : ℕ) → Option LogRecord → ℕ
fewer most o = if is_prepared o then most - 1 else most

-- the slots, of which those are free that have a prepared record behind so many of them
abbrev pub with_few_prepared : (most : ℕ) → Slots → Slots
with_few_prepared most [] = []
with_few_prepared most (o ∷ ss) = passed most o ∷ with_few_prepared (fewer most o) ss
