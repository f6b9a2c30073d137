-- A file's save, and the head by which it is read.
use Rattle.std.specs.Prelude.{◌≡◌, ℕ, ◌<◌, ◌+◌, ◌-◌, ◌*◌, List}
use Rattle.record_files.specs.block_disk.Blocks.{block_at}
use Rattle.record_files.specs.block_disk.Sizes.{content_start}
use Rattle.record_files.specs.file_base.declared.head.FileHead.{FileHead}
use Rattle.record_files.specs.file_base.declared.head.Save.{Save}

-- A head that is kept in the way of another, with as many buckets, used ones and records; and its own place, name, marks, journals and save.
abbrev pub kept_as : FileHead → FileHead → FileHead
kept_as h own = record own { organization = h.organization; bucket = h.bucket; mrs = h.mrs; mrn = h.mrn; key_pos = h.key_pos; key_size = h.key_size; alloc = h.alloc; used = h.used; root = h.root; levels = h.levels; count = h.count }

-- the blocks of a file's buckets stand in another content from a block on
abbrev pub StandAt : FileHead → (to : ℕ) → (old new : List (List ℕ)) → Type 0
StandAt h to old new = (i : ℕ) → i < h.alloc * h.bucket → block_at new (to - content_start + i) ≡ block_at old (h.start - content_start + i)

-- the head by which a file's save is read: the file's, with the place and the numbers of the save
abbrev pub save_head : FileHead → FileHead
save_head h = record h { start = h.save.start; alloc = h.save.alloc; used = h.save.used; root = h.save.root; levels = h.save.levels; count = h.save.count }

-- the save has the numbers of the file as it is
pub record IsOfNow (h : FileHead) (v : Save) : Type 0 where
  pub alloc : v.alloc ≡ h.alloc
  pub used : v.used ≡ h.used
  pub root : v.root ≡ h.root
  pub levels : v.levels ≡ h.levels
  pub count : v.count ≡ h.count

-- a later head of the same file has the same save, and sizes its buckets and records alike
pub record KeepsSave (h k : FileHead) : Type 0 where
  pub organization : k.organization ≡ h.organization
  pub bucket : k.bucket ≡ h.bucket
  pub mrs : k.mrs ≡ h.mrs
  pub mrn : k.mrn ≡ h.mrn
  pub key_pos : k.key_pos ≡ h.key_pos
  pub key_size : k.key_size ≡ h.key_size
  pub save : k.save ≡ h.save
