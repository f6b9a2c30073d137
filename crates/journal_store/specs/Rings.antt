-- Where a journal's ring lies.
use Rattle.std.specs.Prelude.{◌+◌, ◌-◌, ◌<◌, ◌≤◌, ◌^◌}
use Rattle.careful_write.specs.block_disk.Disk.{DiskState}
use Rattle.careful_write.specs.block_disk.Sizes.{content_start, greatest_disk_size}
use Rattle.file_base.specs.declared.head.Span.{Span}
use Rattle.journal_format.specs.journal_model.Ring.{ring_size}

-- the ring lies in the content of a disk, its entries fit it, and its positions are low
pub record IsRing (s : Span) (disk : DiskState) : Type 0 where
  pub from : content_start ≤ s.start
  pub to : s.start + s.blocks ≤ disk.size
  pub fits : disk.size ≤ greatest_disk_size
  pub some : 0 < s.blocks
  pub order : s.first ≤ s.end
  pub low : s.end ≤ 2 ^ 62
  pub room : s.end - s.first ≤ ring_size s
