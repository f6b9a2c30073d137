-- Buckets that are written into an extent, while all else stays as it was.
use Rattle.std.specs.Prelude.{◌≡◌, ◌≤◌, ◌+◌, ℕ, List, length, Option, IfSome, option_map}
use Rattle.block_disk.specs.Sizes.{content_start}
use Rattle.careful_write.specs.State.{StoreState, IsReady, content}
use Rattle.file_base.specs.declared.head.FileHead.{FileHead}
use Rattle.change_set.specs.Buckets.{with_bucket}
use Rattle.change_set.specs.Files.{in_extent, AgreesOut, LeavesOut}
use Rattle.index_blocks.specs.Buckets.{bucket_first}

-- the front of some bytes is staged as bucket n
pub record StagesBucket (h : FileHead) (n : ℕ) (bytes : List ℕ) (old new : StoreState) : Type 0 where
  pub rest : new ≡ record old { current = new.current; touched = new.touched }
  pub current : new.current ≡ option_map (λ blocks. with_bucket bytes blocks (bucket_first h n) h.bucket) old.current
  pub touched : length new.touched ≤ length old.touched + h.bucket
  pub whole : IfSome old.current (λ blocks. length blocks + content_start ≡ old.disk.size)

-- outside of the extent both what reads give and the content are as they were told
pub record IsApart (h : FileHead) (told : Option (List (List ℕ))) (s : StoreState) : Type 0 where
  pub current : AgreesOut (in_extent h) told s.current
  pub content : AgreesOut (in_extent h) told (content s)

-- buckets were written, at most so many blocks of them are staged, and outside of the extent all is as it was
pub record HasWritten (h : FileHead) (staged : ℕ) (old new : StoreState) : Type 0 where
  pub apart : (told : Option (List (List ℕ))) → IsApart h told old → IsApart h told new
  pub ready : IsReady new
  pub counted : length new.touched ≤ staged
  pub room : staged ≤ 496

-- the disk went down, and each image has outside of the extent what was there
abbrev pub LeavesApart : FileHead → StoreState → StoreState → Type 0
LeavesApart h old new = (told : Option (List (List ℕ))) → IsApart h told old → LeavesOut (in_extent h) told new.disk
