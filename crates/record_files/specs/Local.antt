-- The laws of a file of any organization: its map, that it is laid out, its rooms and its layout rest on the file's extent alone, and walks begin at its front.
use Rattle.std.specs.Prelude.{◌≡◌, List, ℕ, Option, refl}
use Rattle.file_base.specs.declared.head.FileHead.{FileHead}
use Rattle.file_base.specs.declared.head.Organization.{Organization}
use Rattle.file_base.specs.declared.head.Organization.TheVariants.{Sequential, Relative, Indexed}
use Rattle.vms_base.specs.vms_model.Keys.{Key}
use Rattle.relative_file.specs.change_set.Files.{AgreesOn, first_place}
use Rattle.relative_file.specs.Local as relative
use Rattle.seq_file.specs.Local as sequential
use Rattle.record_files.specs.Indexed as indexed
use Rattle.record_files.specs.Any.{map_by, FormBy, LaidOutBy, room_by, layout_by, BeginsBy, Begins, map_of, IsFile, IsLaidOut, room_at, layout_of}

map_local_by : (o : Organization) (h : FileHead) (a b : List (List ℕ)) → FormBy o h → AgreesOn h a b → LaidOutBy o h a → map_by o h a ≡ map_by o h b
map_local_by Sequential h a b form agrees laid = sequential.local_law h a b form agrees
map_local_by Relative h a b form agrees laid = relative.local_law h a b form agrees
map_local_by Indexed h a b form agrees laid = indexed.local_law h a b form agrees laid

valid_local_by : (o : Organization) (h : FileHead) (a b : List (List ℕ)) → FormBy o h → AgreesOn h a b → LaidOutBy o h a → LaidOutBy o h b
valid_local_by Sequential = sequential.valid_local_law
valid_local_by Relative = relative.valid_local_law
valid_local_by Indexed = indexed.valid_local_law

room_local_by : (o : Organization) (h : FileHead) (a b : List (List ℕ)) → FormBy o h → AgreesOn h a b → LaidOutBy o h a → (key : Key) → room_by o h a key ≡ room_by o h b key
room_local_by Sequential h a b form agrees laid key = refl
room_local_by Relative h a b form agrees laid key = refl
room_local_by Indexed h a b form agrees laid key = indexed.room_local_law h a b form agrees laid key

layout_local_by : (o : Organization) (h : FileHead) (a b : List (List ℕ)) → FormBy o h → AgreesOn h a b → LaidOutBy o h a → layout_by o h a ≡ layout_by o h b
layout_local_by Sequential h a b form agrees laid = refl
layout_local_by Relative h a b form agrees laid = refl
layout_local_by Indexed h a b form agrees laid = indexed.layout_local_law h a b form agrees laid

pub local_law : (h : FileHead) (a b : List (List ℕ)) → IsFile h → AgreesOn h a b → IsLaidOut h a → map_of h a ≡ map_of h b
local_law h = map_local_by h.organization h

pub valid_local_law : (h : FileHead) (a b : List (List ℕ)) → IsFile h → AgreesOn h a b → IsLaidOut h a → IsLaidOut h b
valid_local_law h = valid_local_by h.organization h

pub room_local_law : (h : FileHead) (a b : List (List ℕ)) → IsFile h → AgreesOn h a b → IsLaidOut h a → (key : Key) → room_at h a key ≡ room_at h b key
room_local_law h = room_local_by h.organization h

pub layout_local_law : (h : FileHead) (a b : List (List ℕ)) → IsFile h → AgreesOn h a b → IsLaidOut h a → layout_of h a ≡ layout_of h b
layout_local_law h = layout_local_by h.organization h

begins_first_by : (o : Organization) (h : FileHead) (b : List (List ℕ)) (key : Option Key) → FormBy o h → BeginsBy o h b key first_place
begins_first_by Sequential h b key form = refl
begins_first_by Relative h b key form = tt
begins_first_by Indexed h b key form = tt

pub begins_first_law : (h : FileHead) (b : List (List ℕ)) (key : Option Key) → IsFile h → Begins h b key first_place
begins_first_law h = begins_first_by h.organization h
