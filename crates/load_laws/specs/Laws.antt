-- What holds of a file into which records were loaded.
use Rattle.std.specs.Prelude.{◌≡◌, ◌≤◌, ℕ, List, length}
use Rattle.record_files.specs.block_disk.Disk.{DiskState}
use Rattle.record_files.specs.file_base.declared.head.FileHead.{FileHead}
use Rattle.record_files.specs.change_set.Files.{IsPlaced}
use Rattle.record_files.specs.Any.{IsFile}
use Rattle.load_laws.specs.Records.{Keyed}
use Rattle.load_laws.specs.Pages.{Stand}
use Rattle.load_laws.specs.Loads.{AreLoadable, IsLoaded, loaded_head, loaded_buckets, loaded_pages}

-- where the pages stand in the buckets of a file, it has just the records
abbrev pub PagesLoad : Type 0
PagesLoad = (h : FileHead) (disk : DiskState) (blocks : List (List ℕ)) (es : List Keyed) → IsPlaced h disk → AreLoadable h es → Stand h blocks 0 (loaded_pages h es) → IsLoaded (loaded_head h es) blocks es

-- its head is that of a file
abbrev pub HeadLoads : Type 0
HeadLoads = (h : FileHead) (disk : DiskState) (es : List Keyed) → IsPlaced h disk → AreLoadable h es → IsFile (loaded_head h es)

-- and there are as many pages as buckets that the load takes
abbrev pub PagesCount : Type 0
PagesCount = (h : FileHead) (disk : DiskState) (es : List Keyed) → IsPlaced h disk → AreLoadable h es → length (loaded_pages h es) ≡ loaded_buckets h es
