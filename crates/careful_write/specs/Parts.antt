-- What stands on the disk between the parts of a group.
use Rattle.std.specs.Prelude.{◌≡◌, ◌+◌, ◌/◌, ◌<◌, ◌==◌, ◌&&◌, ◌||◌, nat_lt, nat_le, ℕ, Bool, true, List, length, Option, Some, None}
use Rattle.block_disk.specs.Blocks.{has_number, numbers_of}
use Rattle.block_disk.specs.Disk.{DiskState}
use Rattle.careful_write.specs.Content.{home, intents, gate_open, fits}

-- the blocks of the index that names so many blocks: those that the count needs
abbrev pub in_index : ℕ → ℕ → Bool
in_index count n = nat_lt 0 n && nat_le n (count / 128 + 1)

-- the blocks that keep the data of so many blocks
abbrev pub in_data : ℕ → ℕ → Bool
in_data count n = nat_le 6 n && nat_lt n (6 + count)

-- the blocks of the intents of so many blocks
abbrev pub in_intents : ℕ → ℕ → Bool
in_intents count n = in_index count n || in_data count n

-- the block of the gate
abbrev pub in_gate : ℕ → Bool
in_gate n = n == 0

-- the blocks that the group names
abbrev pub in_group : List (ℕ × List ℕ) → ℕ → Bool
in_group es n = has_number n (numbers_of es)

-- the gate's block, and those that the group names
abbrev pub in_finish : List (ℕ × List ℕ) → ℕ → Bool
in_finish es n = in_gate n || in_group es n

-- all blocks that a group of blocks of these numbers writes
abbrev pub written_by : List ℕ → ℕ → Bool
written_by ns n = in_gate n || (in_intents (length ns) n || has_number n ns)

-- the data of so many blocks is pending
abbrev pub HasData : ℕ → List ℕ → Type 0
HasData count pending = (k : ℕ) → k < count → has_number (6 + k) pending ≡ true

-- no block of the index that names so many blocks is pending before the data of them all
abbrev pub DataFirst : ℕ → List ℕ → Type 0
DataFirst count pending = (n : ℕ) → in_index count n ≡ true → has_number n pending ≡ true → HasData count pending

-- the blocks have this home, made of the home before the group, the group's intents, and this gate
pub record StandsAt (before : Option (List (List ℕ))) (es : List (ℕ × List ℕ)) (H : List (List ℕ) → List (List ℕ)) (g : Bool) (blocks : List (List ℕ)) : Type 0 where
  pub old : List (List ℕ)
  pub was : before ≡ Some old
  pub home_is : home blocks ≡ H (home old)
  pub intents_are : intents blocks ≡ es
  pub gate_is : gate_open blocks ≡ g
  pub fit : fits (length blocks) es ≡ true

-- so do the blocks that are seen now, where they are told; s0 is the disk before the group
pub record Stands (s0 : DiskState) (es : List (ℕ × List ℕ)) (s : DiskState) (H : List (List ℕ) → List (List ℕ)) (g : Bool) : Type 0 where
  pub untold : s.seen ≡ None → s0.seen ≡ None
  pub each : (blocks : List (List ℕ)) → s.seen ≡ Some blocks → StandsAt s0.seen es H g blocks
