-- A store as its callers see it.
use Rattle.std.specs.Prelude.{◌≡◌, ℕ, ◌+◌, min, ◌<◌, ◌≤◌, ◌⊎◌, Bool, true, false, List, [], length, Option, Some, IfSome, IsSomeAnd, option_map}
use Rattle.block_disk.specs.Blocks.{AllWhole, Table, ascends, block_at, has_number, numbers_of}
use Rattle.block_disk.specs.Disk.{DiskState, IsPowered, MayLeave}
use Rattle.block_disk.specs.Sizes.{content_start, least_disk_size}
use Rattle.careful_write.specs.Content.{content_of, gate_open}
use Rattle.careful_write.specs.Load.{fitting}
use Rattle.careful_write.specs.Sizes.{group_limit}

-- what a store is to its callers
pub record StoreState : Type 0 where
  pub disk : DiskState
  -- what reads give: the content with the staged blocks
  pub current : Option (List (List ℕ))
  -- the numbers of the staged blocks
  pub touched : List ℕ
  -- the frames
  pub pool : List (Option (List ℕ))
  -- false exactly where the gate was open and the index did not fit
  pub fits : Bool
  -- how many reads were asked for; the greatest number of 64 bits stands for more
  pub reads : ℕ

-- one read more
abbrev pub raised : ℕ → ℕ
raised n = min (n + 1) 18446744073709551615

-- a block of the content
abbrev pub InHome : DiskState → ℕ → Type 0
InHome disk n = (content_start ≤ n) × (n < disk.size)

-- the content of the disk
abbrev pub content : StoreState → Option (List (List ℕ))
content s = option_map content_of s.disk.seen

-- every image that a power loss may leave has a content with P, and its gate is closed or its group fits
abbrev pub Leaves : (List (List ℕ) → Type 0) → DiskState → Type 0
Leaves P disk = (image : List (List ℕ)) → MayLeave disk image → (fitting image ≡ true) × P (content_of image)

-- every image that a power loss may leave has the content that these blocks had, and its gate is closed or its group fits exactly where that was so of them
abbrev pub LeavesAsItWas : Option (List (List ℕ)) → DiskState → Type 0
LeavesAsItWas before disk = (image : List (List ℕ)) → MayLeave disk image → IsSomeAnd before (λ b. (content_of image ≡ content_of b) × (fitting image ≡ fitting b))

-- a group may be applied: the store fits, nothing is pending and the gate is closed
pub record IsReady (s : StoreState) : Type 0 where
  pub fitting : s.fits ≡ true
  pub settled : s.disk.pending ≡ []
  pub closed : IfSome s.disk.seen (λ blocks. gate_open blocks ≡ false)

-- a store between two groups: the next may be applied, nothing is staged, and reads give the content
pub record IsIdle (s : StoreState) : Type 0 where
  pub ready : IsReady s
  pub unstaged : s.touched ≡ []
  pub current : s.current ≡ content s

-- each block has 512 bytes
abbrev pub EachWhole : List (List ℕ) → Type 0
EachWhole blocks = (n : ℕ) → n < length blocks → length (block_at blocks n) ≡ 512

-- what a store keeps of the blocks that are staged on a disk of this size
pub record IsStaged (size : ℕ) (staged : Table) : Type 0 where
  pub room : staged.room ≡ 513
  pub few : length staged.entries ≤ group_limit
  pub ascending : ascends 0 staged.entries ≡ true
  pub big : least_disk_size ≤ size
  pub in_home : (n : ℕ) → has_number n (numbers_of staged.entries) ≡ true → (content_start ≤ n) × (n < size)
  pub whole : AllWhole staged.entries

-- one of two contents
abbrev pub IsEither : Option (List (List ℕ)) → Option (List (List ℕ)) → List (List ℕ) → Type 0
IsEither before after c = (Some c ≡ before) ⊎ (Some c ≡ after)

-- each image of a ready store has its content, so one list of blocks stands for them all
abbrev pub OneContent : Type 0
OneContent = (s : StoreState) → IsReady s → Leaves (λ c. Some c ≡ content s) s.disk

-- one of two contents that every image has, the disk has after `power`, and its gate is closed or its group fits
abbrev pub PowerKeeps : Type 0
PowerKeeps = (before after : Option (List (List ℕ))) (old new : DiskState) → Leaves (IsEither before after) old → IsPowered old new
    → IfSome new.seen (λ blocks. (fitting blocks ≡ true) × IsEither before after (content_of blocks))
