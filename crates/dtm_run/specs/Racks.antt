-- What a rack has, and what it is refused.
use Rattle.std.specs.Prelude.{ℕ, ◌≤◌, ◌||◌, List, [], ◌∷◌, Option, Some, None, map, length, if◌then◌else◌, nat_lt, nat_le}
use Rattle.block_disk.specs.Disk.{DiskState}
use Rattle.block_disk.specs.Sizes.{greatest_disk_size, least_disk_size}
use Rattle.day_run.specs.run_nodes.Names.{AreApart, is_among}
use Rattle.dtm_run.specs.declared.rack.Rack.{Rack}
use Rattle.dtm_run.specs.declared.rack.RackCause.{RackCause}
use Rattle.dtm_run.specs.declared.rack.RackCause.TheVariants as cause

-- the names of the nodes, in the rack's order
abbrev pub names_in : {D : Type 0} → Rack D → List (List ℕ)
names_in rack = map (λ node. node.0) rack.nodes.entries

-- the disks, in the same order
abbrev pub disks_in : {D : Type 0} → Rack D → List D
disks_in rack = map (λ node. node.1) rack.nodes.entries

-- what the disks tell
abbrev pub states_in : {D : Type 0} → (D → DiskState) → Rack D → List DiskState
states_in state rack = map (λ node. state node.1) rack.nodes.entries

-- Why a rack with these names refuses a node of this name and with a disk of so many blocks, where it does: the name is there, the disk is too small or too
-- large, or there are 8 nodes.
abbrev pub refusal_of : List (List ℕ) → List ℕ → ℕ → Option RackCause
refusal_of names name size = if is_among name names then Some cause.Name else (if nat_lt size least_disk_size || nat_lt greatest_disk_size size then Some cause.Size else (if nat_le 8 (length names) then Some cause.Full else None))

-- each disk has 4,096 to 65,536 blocks
abbrev pub AreSized : List DiskState → Type 0
AreSized [] = Unit {0}
AreSized (disk ∷ disks) = (least_disk_size ≤ disk.size) × (disk.size ≤ greatest_disk_size) × AreSized disks

-- A rack: nodes of different names, at most 8, whose disks are neither too small nor too large.
pub record IsRack {D : Type 0} (state : D → DiskState) (rack : Rack D) : Type 0 where
  pub apart : AreApart (names_in rack)
  pub few : length (names_in rack) ≤ 8
  pub sized : AreSized (states_in state rack)
