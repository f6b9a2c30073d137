-- What a copy of a file's buckets has.
use Rattle.std.specs.Prelude.{◌≡◌, ℕ, List}
use Rattle.record_files.specs.file_base.declared.head.FileHead.{FileHead}
use Rattle.record_files.specs.file_base.declared.head.Marks.{Marks}
use Rattle.record_files.specs.file_base.declared.head.Save.{Save}
use Rattle.record_files.specs.Any.{IsFile, IsLaidOut, map_of, layout_of}
use Rattle.save_laws.specs.Saves.{kept_as, StandAt, save_head, IsOfNow, KeepsSave}

-- A head in another content has what a file has: it is one too, and where the file is laid out, it has the same records and the same layout, and is laid out too.
-- An index that is not laid out may lead to blocks of others.
pub record ReadsAs (h : FileHead) (old : List (List ℕ)) (k : FileHead) (new : List (List ℕ)) : Type 0 where
  pub file : IsFile k
  pub map : IsLaidOut h old → map_of k new ≡ map_of h old
  pub layout : IsLaidOut h old → layout_of k new ≡ layout_of h old
  pub laid_out : IsLaidOut h old → IsLaidOut k new

-- a head that is kept as a file and lies where a copy of its buckets stands
abbrev pub CopiesAreRead : Type 0
CopiesAreRead = (h own : FileHead) (old new : List (List ℕ)) → IsFile h → StandAt h own.start old new → ReadsAs h old (kept_as h own) new

-- and the head of the save of a file, once it has the numbers of the file as it is
abbrev pub SavesAreRead : Type 0
SavesAreRead = (h : FileHead) (marks : Marks) (v : Save) (old new : List (List ℕ)) → IsFile h → IsOfNow h v → StandAt h v.start old new → ReadsAs h old (save_head (record h { marks = marks; save = v })) new

-- and the head of a save later on, while its blocks stand, whatever became of the file
abbrev pub SavesStay : Type 0
SavesStay = (h k : FileHead) (old new : List (List ℕ)) → KeepsSave h k → IsFile (save_head h) → StandAt (save_head h) k.save.start old new → ReadsAs (save_head h) old (save_head k) new
