-- Changes of the directory's files, and runs of free blocks.
use Rattle.std.specs.Prelude.{◌≡◌, ℕ, Bool, List, None, map}
use Rattle.std.specs.FinMap.{entries}
use Rattle.vms_base.specs.vms_model.Keys.{Key}
use Rattle.reference_index.specs.run_model.World as world
use Rattle.reference_index.specs.run_model.Extents.{Extent, run_from, longest_run, lowest_run}
use Rattle.reference_world.specs.declared.directory.FileChange.{FileChange}
use Rattle.reference_world.specs.declared.directory.FileChange.TheVariants as change
use Rattle.reference_world.specs.declared.directory.Mark.{Mark}
use Rattle.reference_world.specs.declared.directory.Mark.TheVariants as mark
use Rattle.reference_world.specs.declared.directory.Runs.{Runs}
use Rattle.vms_base.specs.Ids.{id_of}
use Rattle.reference_index.specs.Standing.{changes_of}
use Rattle.reference_world.specs.Standing.{kept_of, rows_of, settlement_of, side_of}

-- what a file is marked with
abbrev pub mark_of : Mark → world.Mark
mark_of (mark.Units units) = world.ForUnits units
mark_of (mark.Begins s start blocks) = world.BeginsImages (side_of s) start blocks
mark_of (mark.Ends s) = world.EndsImages (side_of s)

-- the change of a file, while these keys of it are held
abbrev pub file_change_of : (held : Key → Bool) → FileChange → world.File → world.File
file_change_of held (change.Mark m greatest) f = world.marked_file (mark_of m) greatest f
file_change_of held (change.Save start greatest) f = world.saved_file start greatest f
file_change_of held (change.Recover start buckets rows greatest) f = world.recovered_file start buckets (rows_of rows.items) greatest f
file_change_of held (change.Set branch cs) f = world.changed_file held (id_of branch.tid) (id_of branch.serial) (changes_of cs.items) f
file_change_of held (change.Direct branch moment cs) f = world.directly_changed held (settlement_of (record { tid = branch.tid; serial = branch.serial; reason = None; moment = moment })) (changes_of cs.items) f

-- the runs of free blocks among so many from the first on
pub record IsRuns (extents : List Extent) (need start count : ℕ) (runs : Runs) : Type 0 where
  pub first : runs.first ≡ run_from extents start count
  pub longest : runs.longest ≡ longest_run extents start count
  pub lowest : runs.lowest ≡ lowest_run extents need start count

-- rows that are recovered are those of a map, in the order of its keys
abbrev pub IsFileChange : FileChange → Type 0
IsFileChange (change.Mark m greatest) = Unit {0}
IsFileChange (change.Save start greatest) = Unit {0}
IsFileChange (change.Recover start buckets rows greatest) = map kept_of rows.items ≡ entries (rows_of rows.items)
IsFileChange (change.Set branch cs) = Unit {0}
IsFileChange (change.Direct branch moment cs) = Unit {0}
