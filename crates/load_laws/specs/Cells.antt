-- Records in the cells of their numbers.
use Rattle.std.specs.Prelude.{◌≡◌, ◌≤◌, ◌<◌, ◌+◌, ◌*◌, ℕ, zero, suc, List, [], ◌∷◌, length, map, Option, Some, None, unwrap_or, if◌then◌else◌}
use Rattle.record_files.specs.file_base.declared.head.FileHead.{FileHead}
use Rattle.vms_model.specs.Keys.{Key, Number, Text, End}
use Rattle.record_files.specs.relative_file.Cells.{cells_in}
use Rattle.load_laws.specs.Pages.{Page, Cells}
use Rattle.load_laws.specs.Records.{Keyed, what_has}

-- the number of a key
abbrev pub number_in : Key → ℕ
number_in (Number n) = n
number_in (Text t) = 0
number_in End = 0

-- the bytes of the record of this number, or none
abbrev pub value_at : List Keyed → ℕ → List ℕ
value_at es n = unwrap_or (what_has es (Number n)) []

-- the records of a bucket whose cells are those of the numbers behind this one
abbrev pub values_behind : List Keyed → ℕ → ℕ → List ℕ
values_behind es n k = value_at es (n + k + 1)

-- so many buckets of cells, from bucket i on
abbrev pub cell_pages : FileHead → List Keyed → ℕ → ℕ → List Page
cell_pages h es i zero = []
cell_pages h es i (suc more) = Cells (values_behind es (i * cells_in h)) ∷ cell_pages h es (suc i) more

-- the key is a number of at most this one, or of more
abbrev pub IsTo : ℕ → Key → Type 0
IsTo n (Number m) = m ≤ n
IsTo n (Text t) = ⊥
IsTo n End = ⊥

abbrev pub IsBehind : ℕ → Key → Type 0
IsBehind n (Number m) = n < m
IsBehind n (Text t) = ⊥
IsBehind n End = ⊥

-- so are all of these
abbrev pub AllTo : ℕ → List Keyed → Type 0
AllTo n [] = Unit {0}
AllTo n (e ∷ es) = IsTo n e.0 × AllTo n es

abbrev pub AllBehind : ℕ → List Keyed → Type 0
AllBehind n [] = Unit {0}
AllBehind n (e ∷ es) = IsBehind n e.0 × AllBehind n es

-- the numbers ascend strictly, from one behind this on
abbrev pub Climbs : ℕ → List Keyed → Type 0
Climbs n [] = Unit {0}
Climbs n (e ∷ es) = IsBehind n e.0 × Climbs (number_in e.0) es

-- a record may stand in a cell of so many bytes
abbrev pub AllShort : ℕ → List Keyed → Type 0
AllShort mrs [] = Unit {0}
AllShort mrs (e ∷ es) = (length e.1 ≤ mrs) × AllShort mrs es
