-- What a file of any organization is: by the head's organization, what its own organization says.
use Rattle.std.specs.Prelude.{◌≡◌, ℕ, ◌*◌, Bool, List, Option, Some}
use Rattle.file_base.specs.declared.head.FileHead.{FileHead}
use Rattle.file_base.specs.declared.head.Organization.{Organization}
use Rattle.file_base.specs.declared.head.Organization.TheVariants.{Sequential, Relative, Indexed}
use Rattle.vms_base.specs.vms_model.Keys.{Key}
use Rattle.relative_file.specs.tree_model.Layouts.{Layout, no_layout}
use Rattle.relative_file.specs.change_set.Maps.{Map}
use Rattle.relative_file.specs.change_set.declared.walk.Place.{Place}
use Rattle.relative_file.specs.Cells as relative
use Rattle.seq_file.specs.Layout as sequential
use Rattle.indexed_tree.specs.indexed_file.Chain as slots
use Rattle.indexed_tree.specs.Files as indexed
use Rattle.indexed_tree.specs.Rooted as rooted

-- the map of a file that is kept so
abbrev pub map_by : Organization → FileHead → List (List ℕ) → Map
map_by Sequential = sequential.map_of
map_by Relative = relative.map_of
map_by Indexed = indexed.map_of

-- the head is that of a file that is kept so
abbrev pub FormBy : Organization → FileHead → Type 0
FormBy Sequential = sequential.IsSequential
FormBy Relative = relative.IsRelative
FormBy Indexed = indexed.IsTreeHead

-- the head is that of a new file that is kept so
abbrev pub FreshBy : Organization → FileHead → Type 0
FreshBy Sequential = sequential.IsFresh
FreshBy Relative = λ h. relative.Anything
FreshBy Indexed = indexed.IsNewHead

-- the blocks are laid out as those of a file that is kept so
abbrev pub LaidOutBy : Organization → FileHead → List (List ℕ) → Type 0
LaidOutBy Sequential = sequential.IsLaidOut
LaidOutBy Relative = relative.IsLaidOut
LaidOutBy Indexed = rooted.IsRooted

-- a used bucket that is laid out has this record under this key
abbrev pub StandsBy : Organization → FileHead → List (List ℕ) → Key → List ℕ → Type 0
StandsBy Sequential = λ h blocks key bytes. sequential.Stands h bytes blocks
StandsBy Relative = λ h blocks key bytes. relative.map_of h blocks key ≡ Some bytes
StandsBy Indexed = slots.StandsAt

-- a key and a record of a file that is kept so
abbrev pub SuitsBy : Organization → FileHead → Key → Option (List ℕ) → Type 0
SuitsBy Sequential = sequential.Suits
SuitsBy Relative = relative.Suits
SuitsBy Indexed = slots.Suits

-- the key may be set to the value
abbrev pub TakesBy : Organization → FileHead → List (List ℕ) → Key → Option (List ℕ) → Type 0
TakesBy Sequential = sequential.Takes
TakesBy Relative = λ h blocks key value. relative.Anything
TakesBy Indexed = indexed.Takes

-- the length that a key may be set to in place
abbrev pub room_by : Organization → FileHead → List (List ℕ) → Key → ℕ
room_by Sequential = λ h blocks key. 0
room_by Relative = λ h blocks key. h.mrs
room_by Indexed = indexed.room_at

-- the free buckets that a record of this length asks for
abbrev pub asks_by : Organization → FileHead → List (List ℕ) → ℕ → ℕ
asks_by Sequential = sequential.asks
asks_by Relative = λ h blocks size. 0
asks_by Indexed = indexed.asks

-- how many blocks a walk to a key reads at most
abbrev pub reads_by : Organization → FileHead → ℕ
reads_by Sequential = λ h. h.used * h.bucket
reads_by Relative = λ h. h.bucket
reads_by Indexed = λ h. h.levels * h.bucket

-- the used buckets once the key is set to the value, while these keys are held
abbrev pub used_by : Organization → FileHead → List (List ℕ) → (Key → Bool) → Key → Option (List ℕ) → ℕ
used_by Sequential = λ h blocks held key value. sequential.used_after h blocks key value
used_by Relative = λ h blocks held key value. h.used
used_by Indexed = indexed.used_after

-- the layout of its buckets; only an indexed file has one
abbrev pub layout_by : Organization → FileHead → List (List ℕ) → Layout
layout_by Sequential = λ h blocks. no_layout
layout_by Relative = λ h blocks. no_layout
layout_by Indexed = rooted.layout_in

-- that of a new file
abbrev pub first_by : Organization → FileHead → Layout
first_by Sequential = λ h. no_layout
first_by Relative = λ h. no_layout
first_by Indexed = indexed.first_layout_of

-- the key may be set back to the value in place
abbrev pub RestoresBy : Organization → FileHead → List (List ℕ) → Key → Option (List ℕ) → Type 0
RestoresBy Sequential = sequential.Takes
RestoresBy Relative = λ h blocks key value. relative.Anything
RestoresBy Indexed = indexed.Restores

-- a walk to what is behind a key, or to the first key, may begin at a place
abbrev pub BeginsBy : Organization → FileHead → List (List ℕ) → Option Key → Place → Type 0
BeginsBy Sequential = λ h blocks key place. sequential.CountsBefore h blocks place
BeginsBy Relative = λ h blocks key place. relative.Anything
BeginsBy Indexed = λ h blocks key place. relative.Anything

-- the map of a file
abbrev pub map_of : FileHead → List (List ℕ) → Map
map_of h = map_by h.organization h

-- the head is that of a file of its organization
abbrev pub IsFile : FileHead → Type 0
IsFile h = FormBy h.organization h

-- the head is that of a new file
abbrev pub IsNew : FileHead → Type 0
IsNew h = FreshBy h.organization h

-- the blocks of the extent are laid out as those of the file
abbrev pub IsLaidOut : FileHead → List (List ℕ) → Type 0
IsLaidOut h = LaidOutBy h.organization h

-- a used bucket of the file that is laid out has this record under this key
abbrev pub Stands : FileHead → List (List ℕ) → Key → List ℕ → Type 0
Stands h = StandsBy h.organization h

-- a key that the file may have, and a record that it may keep there
abbrev pub Suits : FileHead → Key → Option (List ℕ) → Type 0
Suits h = SuitsBy h.organization h

-- the key may be set to the value: its slot's room holds it, or enough buckets are free
abbrev pub Takes : FileHead → List (List ℕ) → Key → Option (List ℕ) → Type 0
Takes h = TakesBy h.organization h

-- the length that a key of the file may be set to in place
abbrev pub room_at : FileHead → List (List ℕ) → Key → ℕ
room_at h = room_by h.organization h

-- the free buckets that a record of this length asks for in the file
abbrev pub asks : FileHead → List (List ℕ) → ℕ → ℕ
asks h = asks_by h.organization h

-- how many blocks a walk to a key of the file reads at most
abbrev pub reads_of : FileHead → ℕ
reads_of h = reads_by h.organization h

-- the used buckets of the file once the key is set to the value, while these keys are held
abbrev pub used_after : FileHead → List (List ℕ) → (Key → Bool) → Key → Option (List ℕ) → ℕ
used_after h = used_by h.organization h

-- the layout of a file
abbrev pub layout_of : FileHead → List (List ℕ) → Layout
layout_of h = layout_by h.organization h

-- the layout of a new file
abbrev pub first_layout_of : FileHead → Layout
first_layout_of h = first_by h.organization h

-- a key of the file may be set back to the value in place
abbrev pub Restores : FileHead → List (List ℕ) → Key → Option (List ℕ) → Type 0
Restores h = RestoresBy h.organization h

-- a walk of the file to what is behind a key, or to the first key, may begin at a place
abbrev pub Begins : FileHead → List (List ℕ) → Option Key → Place → Type 0
Begins h = BeginsBy h.organization h
