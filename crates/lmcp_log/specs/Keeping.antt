-- A content keeps the slots that the memory has, so that a load of it gives them again.
use Rattle.std.specs.Prelude.{◌≡◌, ℕ, ◌<◌, ◌+◌, List, length, Option, Some, None}
use Rattle.block_disk.specs.Blocks.{block_at}
use Rattle.log_laws.specs.commit_protocol.Messages.{LogRecord}
use Rattle.log_laws.specs.commit_protocol.Table.{record_serials}
use Rattle.log_laws.specs.commit_protocol.Agreement.{Distinct}
use Rattle.log_laws.specs.Slots.{Slots, records_in}
use Rattle.lmcp_log.specs.Slot.{slot_block, IsRecord}
use Rattle.lmcp_log.specs.Log.{slot_at, block_of_slot, block_of, IsReading}

-- a block has this record, or that of none
abbrev pub Has : Option LogRecord → List ℕ → Type 0
Has None block = (r : LogRecord) → IsRecord r → slot_block r ≡ block → ⊥
Has (Some r) block = IsRecord r × (slot_block r ≡ block)

-- the block of each slot has the slot's record, or that of none where the slot is free, and no serial stands twice
pub record Keeps (ss : Slots) (c : List (List ℕ)) : Type 0 where
  pub blocks : (i : ℕ) → i < length ss → Has (slot_at ss i) (block_of_slot c i)
  pub distinct : Distinct (record_serials (records_in ss))

-- And no other bytes stand in them, as on a valid volume: a free slot is all zeros.
abbrev pub IsWhole : Slots → List (List ℕ) → Type 0
IsWhole ss c = (i : ℕ) → i < length ss → block_of_slot c i ≡ block_of (slot_at ss i)

-- no two of so many slots have records of one serial
abbrev pub AreApart : ℕ → List (List ℕ) → Type 0
AreApart n c = (i j : ℕ) (r q : LogRecord) → i < n → j < n → IsRecord r → slot_block r ≡ block_of_slot c i → IsRecord q → slot_block q ≡ block_of_slot c j → r.serial ≡ q.serial → i ≡ j

-- a load of so many slots from this content gives these, and no others
pub record Loads (c : List (List ℕ)) (ss : Slots) : Type 0 where
  pub reads : IsReading ss c
  pub only : (ts : Slots) → length ts ≡ length ss → IsReading ts c → ts ≡ ss

-- two contents have the same bytes in so many slots
abbrev pub SameSlots : ℕ → List (List ℕ) → List (List ℕ) → Type 0
SameSlots n c d = (i : ℕ) → i < n → block_of_slot d i ≡ block_of_slot c i
