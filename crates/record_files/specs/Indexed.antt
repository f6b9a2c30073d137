-- The laws of an indexed file: its map, that it is laid out, its rooms and its layout rest on the file's extent alone.
use Rattle.std.specs.Prelude.{◌≡◌, ℕ, List}
use Rattle.file_base.specs.declared.head.FileHead.{FileHead}
use Rattle.vms_base.specs.vms_model.Keys.{Key}
use Rattle.relative_file.specs.change_set.Files.{AgreesOn}
use Rattle.indexed_tree.specs.Files.{IsTreeHead, map_of, room_at}
use Rattle.indexed_tree.specs.Rooted.{layout_in, IsRooted}
use Rattle.indexed_tree.proofs.FileLaws.{map_stays, valid_stays, rooms_stay, layout_stays}

pub local_law : (h : FileHead) (a b : List (List ℕ)) → IsTreeHead h → AgreesOn h a b → IsRooted h a → map_of h a ≡ map_of h b
local_law = map_stays

pub valid_local_law : (h : FileHead) (a b : List (List ℕ)) → IsTreeHead h → AgreesOn h a b → IsRooted h a → IsRooted h b
valid_local_law = valid_stays

pub room_local_law : (h : FileHead) (a b : List (List ℕ)) → IsTreeHead h → AgreesOn h a b → IsRooted h a → (key : Key) → room_at h a key ≡ room_at h b key
room_local_law = rooms_stay

pub layout_local_law : (h : FileHead) (a b : List (List ℕ)) → IsTreeHead h → AgreesOn h a b → IsRooted h a → layout_in h a ≡ layout_in h b
layout_local_law = layout_stays
