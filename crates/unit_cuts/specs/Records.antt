-- What holds of the records of a file.
use Rattle.std.specs.Prelude.{◌≡◌, ℕ, List, Some}
use Rattle.change_set.specs.Maps.{Map}
use Rattle.file_base.specs.declared.head.FileHead.{FileHead}
use Rattle.volume_files.specs.record_files.Any.{IsFile, IsLaidOut, map_of}
use Rattle.volume.specs.State.{VolumeState}

-- this holds of the records of a file, where the disk tells them and they are laid out as the file's
abbrev pub OfRecords : FileHead → VolumeState → (Map → Type 0) → Type 0
OfRecords h v P = (a : List (List ℕ)) → v.store.current ≡ Some a → IsFile h → IsLaidOut h a → P (map_of h a)
