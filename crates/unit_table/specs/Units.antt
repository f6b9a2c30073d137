-- The unsettled units of a node, as its memory has them.
use Rattle.std.specs.Prelude.{◌≡◌, ℕ, ◌+◌, ◌≤◌, ◌==◌, List, [], ◌∷◌, ◌++◌, Bool, true, false, not, Option, Some, None, min, replicate, slice_set, slice_index_or, if◌then◌else◌}
use Rattle.std.specs.List.{filter}
use Rattle.vms_base.specs.vms_model.Ids.{Id}
use Rattle.vms_base.specs.vms_model.Limits.{branch_limit, file_limit}
use Rattle.records_model.specs.History.{same_id}

-- A unit that is not settled: its branch, where its changes begin in the journal, the oldest first, of each file number whether it changed the file, and
-- whether it is prepared.
pub record OpenUnit : Type 0 where
  pub tid : Id
  pub serial : Id
  pub positions : List ℕ
  pub files : List Bool
  pub prepared : Bool

-- the units at their places, and the places that have one in the order in which their units were begun
pub record Units : Type 0 where
  pub places : List (Option OpenUnit)
  pub order : List ℕ

-- the unit at a place
abbrev pub unit_at : List (Option OpenUnit) → ℕ → Option OpenUnit
unit_at places p = slice_index_or places p None

-- of no file
abbrev pub no_files : List Bool
no_files = replicate file_limit false

-- a unit that has changed nothing
abbrev pub new_unit : (tid serial : Id) → OpenUnit
new_unit tid serial = record { tid = tid; serial = serial; positions = []; files = no_files; prepared = false }

-- a unit after one change more of a file, whose entry begins at this position
abbrev pub with_position : (position file : ℕ) → OpenUnit → OpenUnit
with_position position file u = record u { positions = u.positions ++ position ∷ []; files = slice_set u.files file true }

-- a unit that is prepared from now on
abbrev pub prepared_unit : OpenUnit → OpenUnit
prepared_unit u = record u { prepared = true }

-- a prepared unit whose changes begin at these positions, and are of these files
abbrev pub unit_back : List ℕ → List Bool → OpenUnit → OpenUnit
unit_back positions files u = record u { positions = positions; files = files; prepared = true }

-- a unit that is known to have changed a file
abbrev pub with_file : (file : ℕ) → OpenUnit → OpenUnit
with_file file u = record u { files = slice_set u.files file true }

-- positions ascend, each from this one on and below the end
abbrev pub Ascend : (from end : ℕ) → List ℕ → Type 0
Ascend from end [] = from ≤ end
Ascend from end (p ∷ ps) = (from ≤ p) × Ascend (p + 1) end ps

-- whether a unit changed a file
abbrev pub has_changed : OpenUnit → (file : ℕ) → Bool
has_changed u file = slice_index_or u.files file false

-- there are none
abbrev pub no_units : Units
no_units = record { places = replicate branch_limit None; order = [] }

-- one more at a place
abbrev pub with_begun : (place : ℕ) → (tid serial : Id) → Units → Units
with_begun place tid serial s = record { places = slice_set s.places place (Some (new_unit tid serial)); order = s.order ++ place ∷ [] }

-- the one at a place has this in its stead
abbrev pub with_unit : (place : ℕ) → OpenUnit → Units → Units
with_unit place u s = record s { places = slice_set s.places place (Some u) }

-- without the one at a place
abbrev pub without_place : (place : ℕ) → Units → Units
without_place place s = record { places = slice_set s.places place None; order = filter (λ p. not (p == place)) s.order }

-- the units at some places
abbrev pub units_of : List (Option OpenUnit) → List ℕ → List OpenUnit
units_of places [] = []
units_of places (p ∷ ps) = elim (unit_at places p) [ Some u ↦ u ∷ units_of places ps | None ↦ units_of places ps ]

-- the units in the order in which they were begun
abbrev pub begun : Units → List OpenUnit
begun s = units_of s.places s.order

-- the first of some units of which this holds
abbrev pub first_that : (OpenUnit → Bool) → List OpenUnit → Option OpenUnit
first_that P [] = None
first_that P (u ∷ us) = if P u then Some u else first_that P us

-- the units with another in its stead
abbrev pub with_first : (OpenUnit → Bool) → OpenUnit → List OpenUnit → List OpenUnit
with_first P w [] = []
with_first P w (u ∷ us) = if P u then w ∷ us else u ∷ with_first P w us

-- and without it
abbrev pub without_first : (OpenUnit → Bool) → List OpenUnit → List OpenUnit
without_first P [] = []
without_first P (u ∷ us) = if P u then us else u ∷ without_first P us

-- whether a unit is of a branch
abbrev pub is_of : Id → OpenUnit → Bool
is_of serial u = same_id serial u.serial

-- whether it is not prepared
abbrev pub is_active : OpenUnit → Bool
is_active u = not u.prepared

-- At this place is the first of a table's units of which this holds. Another in its stead stands where it stood in the order, and without it the others stand.
pub record IsFirst (P : OpenUnit → Bool) (s : Units) (place : ℕ) : Type 0 where
  pub unit : OpenUnit
  pub there : unit_at s.places place ≡ Some unit
  pub is : P unit ≡ true
  pub first : first_that P (begun s) ≡ Some unit
  pub changed : (w : OpenUnit) → begun (with_unit place w s) ≡ with_first P w (begun s)
  pub gone : begun (without_place place s) ≡ without_first P (begun s)

-- the first of some units that changed a file
abbrev pub first_to_change : (file : ℕ) → List OpenUnit → Option Id
first_to_change file [] = None
first_to_change file (u ∷ us) = if has_changed u file then Some u.serial else first_to_change file us

-- one unit that changed a file, or none
abbrev pub one_changer : (file : ℕ) → Option OpenUnit → ℕ
one_changer file None = 0
one_changer file (Some u) = if has_changed u file then 1 else 0

-- how many of the units at some places changed a file
abbrev pub changers : (file : ℕ) → List (Option OpenUnit) → ℕ
changers file [] = 0
changers file (u ∷ us) = one_changer file u + changers file us

-- what a unit is owed of the journal once it has changed something: its Settled entry, and until it is prepared its Prepared entry too
abbrev pub owed_for : (prepared : Bool) → List ℕ → ℕ
owed_for prepared [] = 0
owed_for prepared (p ∷ ps) = if prepared then 48 else 96

-- what the units at some places are owed
abbrev pub owed : List (Option OpenUnit) → ℕ
owed [] = 0
owed (None ∷ us) = owed us
owed (Some u ∷ us) = owed_for u.prepared u.positions + owed us

-- the lesser of two positions, where there are two
abbrev pub earlier : Option ℕ → Option ℕ → Option ℕ
earlier None b = b
earlier (Some m) None = Some m
earlier (Some m) (Some n) = Some (min m n)

-- the first of some positions
abbrev pub first_of : List ℕ → Option ℕ
first_of [] = None
first_of (p ∷ ps) = Some p

-- where the earliest change of units at some places begins
abbrev pub earliest : List (Option OpenUnit) → Option ℕ
earliest [] = None
earliest (None ∷ us) = earliest us
earliest (Some u ∷ us) = earlier (first_of u.positions) (earliest us)
