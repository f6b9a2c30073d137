-- A file on a disk, as a recovery knows it.
use Rattle.std.specs.Prelude.{◌≡◌, ℕ, true, List, Some}
use Rattle.std.specs.FinMap.{get}
use Rattle.file_base.specs.declared.head.FileHead.{FileHead}
use Rattle.vms_model.specs.Keys.{Key}
use Rattle.records_model.specs.Records.{Records}
use Rattle.rolled_records.specs.record_files.Any.{IsFile, IsLaidOut, map_of}
use Rattle.image_entries.specs.recovery_model.File.{Save, FileState, IsPlace, IsCovering}
use Rattle.rolled_records.specs.file_images.Files.{HasSide, HasSave, form_of}

-- The file of this number has these records in its buckets, and the journals and the save of a file of which recovery knows this.
pub record HasFile (content : List (List ℕ)) (f : ℕ) (h : FileHead) (m : Records) (s : FileState) : Type 0 where
  pub form : IsFile h
  pub laid : IsLaidOut h content
  pub records : (key : Key) → map_of h content key ≡ get m key
  pub ai : HasSide content h.marks.ai h.ai f (form_of h) s.ai
  pub bi : HasSide content h.marks.bi h.bi f (form_of h) s.bi
  pub since : h.bi_since.0 ≡ s.bi_since
  pub save : HasSave content h.marks.save h s.save
  -- where the journal of after images reaches back to the save, that was made where an entry begins, or at the end
  pub place : (v : Save) → s.save ≡ Some v → s.ai.on ≡ true → IsCovering s.ai v → IsPlace v.position s.ai
