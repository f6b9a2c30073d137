-- What bars a boot of a volume whose blocks are in order.
use Rattle.std.specs.Prelude.{◌+◌, ◌-◌, ◌*◌, ◌^◌, ◌&&◌, ◌==◌, ℕ, List, [], ◌∷◌, Bool, true, false, Option, Some, None, if◌then◌else◌, max, min, nat_le, nat_lt}
use Rattle.unit_laws.specs.vms_model.Limits.{boot_limit, moment_limit, position_limit}
use Rattle.block_disk.specs.Sizes.{greatest_disk_size}
use Rattle.lmcp_log.specs.file_base.declared.head.FileHead.{FileHead}
use Rattle.lmcp_log.specs.file_base.declared.head.Organization.{Organization}
use Rattle.lmcp_log.specs.file_base.declared.head.Organization.TheVariants.{Sequential, Relative, Indexed}
use Rattle.lmcp_log.specs.file_base.declared.head.Span.{Span}
use Rattle.image_room.specs.Room.{images_end}
use Rattle.directory_model.specs.journal_model.Ring.{ring_size}
use Rattle.world_laws.specs.run_model.World.{Bar, NoRing, NoIndex, AllBoots, LateMoment, FarPosition}
use Rattle.lmcp_log.specs.volume.declared.catalog.Catalog.{Catalog}

-- whether a journal lies in its ring, and whether its positions are low too
abbrev pub is_within : Span → Bool
is_within s = nat_le s.first s.end && nat_le (s.end - s.first) (ring_size s)

abbrev pub is_in_ring : Span → Bool
is_in_ring s = nat_le s.first s.end && (nat_le (s.end - s.first) (ring_size s) && nat_le s.end (2 ^ 62))

-- the first block of the journal of recovery units
abbrev pub units_block : ℕ
units_block = 583

-- more than the number of any block
abbrev pub no_block : ℕ
no_block = greatest_disk_size

-- the block at which the root of a file begins, where that is an indexed one with several buckets and no index, or with an index and one bucket
abbrev pub odd_root_by : Organization → FileHead → ℕ
odd_root_by Sequential h = no_block
odd_root_by Relative h = no_block
odd_root_by Indexed h = if h.levels == 1 then (if h.used == 1 then no_block else h.start + h.root * h.bucket) else (if h.used == 1 then h.start + h.root * h.bucket else no_block)

abbrev pub odd_root : FileHead → ℕ
odd_root h = odd_root_by h.organization h

-- the first block of a journal of images that a file has and that does not lie in its ring
abbrev pub odd_span : (marked : Bool) → Span → ℕ
odd_span true s = if is_within s then no_block else s.start
odd_span false s = no_block

abbrev pub odd_ring : FileHead → ℕ
odd_ring h = min (odd_span h.marks.ai h.ai) (odd_span h.marks.bi h.bi)

-- the lowest of such blocks
abbrev pub lowest_by : (FileHead → ℕ) → List (Option FileHead) → ℕ
lowest_by block [] = no_block
lowest_by block (None ∷ hs) = lowest_by block hs
lowest_by block (Some h ∷ hs) = min (block h) (lowest_by block hs)

abbrev pub lowest_odd_root : List (Option FileHead) → ℕ
lowest_odd_root hs = lowest_by odd_root hs

abbrev pub lowest_odd_ring : List (Option FileHead) → ℕ
lowest_odd_ring hs = lowest_by odd_ring hs

-- the first of the bars that is so of a volume
abbrev pub first_bar : Catalog → Option Bar
first_bar v =
    if is_in_ring v.ru then (
    if nat_lt (lowest_odd_ring v.heads) no_block then Some (NoRing (lowest_odd_ring v.heads))
    else (if nat_lt (lowest_odd_root v.heads) no_block then Some (NoIndex (lowest_odd_root v.heads))
    else (if v.home.boot == boot_limit then Some AllBoots
    else (if nat_lt moment_limit v.home.greatest_moment.0 then Some LateMoment
    else (if nat_lt position_limit (max v.ru.end (images_end v.heads)) then Some FarPosition else None))))
    ) else Some (NoRing units_block)
