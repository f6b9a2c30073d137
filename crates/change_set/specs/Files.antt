-- Where a file lies, and what its calls leave of the store.
use Rattle.std.specs.Prelude.{◌≡◌, ◌≤◌, ◌⊎◌, ℕ, ◌+◌, ◌-◌, ◌*◌, ◌/◌, ◌&&◌, Bool, true, List, [], Option, None, MatchOption, IsSomeAnd, IfSome, length, nat_lt, nat_le, option_map, Result, count_by, is_none}
use Rattle.careful_write.specs.block_disk.Blocks.{block_at, has_number}
use Rattle.careful_write.specs.block_disk.Disk.{DiskState}
use Rattle.careful_write.specs.block_disk.Sizes.{content_start, greatest_disk_size}
use Rattle.tree_model.specs.vms_model.Limits.{record_limit}
use Rattle.careful_write.specs.Content.{home}
use Rattle.careful_write.specs.declared.down.Down.{Down}
use Rattle.careful_write.specs.Down.{answered}
use Rattle.careful_write.specs.Reads.{SameButReads}
use Rattle.careful_write.specs.State.{StoreState, Leaves}
use Rattle.careful_write.specs.Steps.{AgreesOff}
use Rattle.change_set.specs.declared.walk.Place.{Place}
use Rattle.file_base.specs.declared.head.FileHead.{FileHead}
use Rattle.tree_model.specs.Layouts.{Sizes}

-- the block of the content of this number lies in the file's extent
abbrev pub in_extent : FileHead → ℕ → Bool
in_extent h n = nat_le (h.start - content_start) n && nat_lt n (h.start - content_start + h.alloc * h.bucket)

-- the extent lies in the content, a bucket has 1 to 16 blocks, and a record leaves 32 bytes of a bucket
pub record IsPlaced (h : FileHead) (disk : DiskState) : Type 0 where
  pub from : content_start ≤ h.start
  pub to : h.start + h.alloc * h.bucket ≤ disk.size
  pub fits : disk.size ≤ greatest_disk_size
  pub blocks : h.bucket ≤ 16
  pub one : 1 ≤ h.bucket
  pub least : 1 ≤ h.mrs
  pub records : h.mrs + 32 ≤ 512 * h.bucket
  pub greatest : h.mrs ≤ record_limit

-- two lists of blocks agree on the file's extent
abbrev pub AgreesOn : FileHead → List (List ℕ) → List (List ℕ) → Type 0
AgreesOn h a b = (n : ℕ) → in_extent h n ≡ true → block_at a n ≡ block_at b n

-- how many frames are free
abbrev pub free_frames : List (Option (List ℕ)) → ℕ
free_frames pool = count_by is_none pool

-- nothing is staged
abbrev pub unstaged : StoreState → StoreState
unstaged s = record s { current = option_map home s.disk.seen; touched = [] }

-- the store after an answer that wrote nothing and left nothing staged
abbrev pub fell : {T : Type 0} → Result T Down → StoreState → StoreState
fell r s = unstaged (record s { disk = answered r s.disk })

-- only the content and the staged blocks are other; all are blocks of the file's extent, and at most so many are staged more
pub record StagesIn (h : FileHead) (limit : ℕ) (old new : StoreState) : Type 0 where
  pub rest : SameButReads (record old { current = new.current; touched = new.touched }) new
  pub blocks : MatchOption old.current (new.current ≡ None) (λ before. IsSomeAnd new.current (AgreesOff (in_extent h) before))
  pub touched : (n : ℕ) → has_number n new.touched ≡ true → (has_number n old.touched ≡ true) ⊎ (in_extent h (n - content_start) ≡ true)
  pub few : length new.touched ≤ length old.touched + limit

-- the head of the same file: only what a changed record may change differs
pub record SameFile (old new : FileHead) : Type 0 where
  pub is : new ≡ record old { used = new.used; root = new.root; levels = new.levels; count = new.count }

-- the same blocks but where the test holds, where they are told
abbrev pub AgreesOut : (ℕ → Bool) → Option (List (List ℕ)) → Option (List (List ℕ)) → Type 0
AgreesOut p old new = MatchOption old (new ≡ None) (λ before. IsSomeAnd new (AgreesOff p before))

-- each image has the old content but where the test holds
abbrev pub LeavesOut : (ℕ → Bool) → Option (List (List ℕ)) → DiskState → Type 0
LeavesOut p old disk = Leaves (λ c. IfSome old (λ before. AgreesOff p before c)) disk

-- the front of a file, before which nothing was passed
abbrev pub first_place : Place
first_place = record { bucket = 0; passed = 0 }

-- the bytes of a bucket for slots, and how many entries an index bucket of an indexed file holds
abbrev pub sizes_of : FileHead → Sizes
sizes_of h = record { capacity = 512 * h.bucket - 16; fan_out = (512 * h.bucket - 16) / (h.key_size + 4) }
