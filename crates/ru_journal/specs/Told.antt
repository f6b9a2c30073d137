-- What the entries of a recovery unit journal tell, as a function of them.
use Rattle.std.specs.Prelude.{ℕ, ◌+◌, ◌^◌, ◌==◌, ◌&&◌, ◌||◌, not, bit_or, List, [], ◌∷◌, ◌++◌, Bool, true, false, Option, Some, None, length, nat_le, is_some, if◌then◌else◌}
use Rattle.std.specs.List.{list_any}
use Rattle.vms_base.specs.vms_model.Ids.{Id}
use Rattle.vms_base.specs.vms_model.Limits.{branch_limit, change_limit}
use Rattle.table_keys.specs.records_model.History.{same_id}
use Rattle.journal_format.specs.journal_model.Entries.{Entry}

-- A branch that has changes in the journal and is not settled there: where its first change begins, how many it made, in which files (the bit of each file's
-- number), and whether it is prepared.
pub record UnitTold : Type 0 where
  pub tid : Id
  pub serial : Id
  pub first : ℕ
  pub changes : ℕ
  pub files : ℕ
  pub prepared : Bool

-- How many entries there were, the units in the order of their first changes, and the branches that were settled, in the order of their settlements.
pub record JournalScan : Type 0 where
  pub entries : ℕ
  pub units : List UnitTold
  pub settled : List Id

abbrev pub nothing_told : JournalScan
nothing_told = record { entries = 0; units = []; settled = [] }

-- the first unit of a branch
abbrev pub find_unit : Id → List UnitTold → Option UnitTold
find_unit serial [] = None
find_unit serial (u ∷ us) = if same_id serial u.serial then Some u else find_unit serial us

-- the units once this was done to the first of a branch
abbrev pub with_unit : Id → (UnitTold → UnitTold) → List UnitTold → List UnitTold
with_unit serial f [] = []
with_unit serial f (u ∷ us) = if same_id serial u.serial then f u ∷ us else u ∷ with_unit serial f us

abbrev pub without_unit : Id → List UnitTold → List UnitTold
without_unit serial [] = []
without_unit serial (u ∷ us) = if same_id serial u.serial then us else u ∷ without_unit serial us

abbrev pub file_bit : ℕ → ℕ
file_bit file = 2 ^ file

-- the unit that the first Change of a branch begins
abbrev pub first_told : (position : ℕ) → Entry → UnitTold
first_told position e = record { tid = e.tid; serial = e.serial; first = position; changes = 1; files = file_bit e.file; prepared = false }

-- a unit after one entry more of its branch, a Change or a Prepared
abbrev pub more_told : Entry → UnitTold → UnitTold
more_told e u = if e.kind == 1 then record u { changes = u.changes + 1; files = bit_or u.files (file_bit e.file) } else record u { prepared = true }

-- the units after one entry more that begins at this position. The changes of a branch may be gone from the journal before its Prepared entry; that begins no unit.
abbrev pub units_after : (position : ℕ) → Entry → List UnitTold → List UnitTold
units_after position e us =
    if e.kind == 3 then without_unit e.serial us
    else (if is_some (find_unit e.serial us) then with_unit e.serial (more_told e) us else (if e.kind == 1 then us ++ first_told position e ∷ [] else us))

abbrev pub after : (position : ℕ) → Entry → JournalScan → JournalScan
after position e t = record {
  entries = t.entries + 1;
  units = units_after position e t.units;
  settled = if e.kind == 3 then t.settled ++ e.serial ∷ [] else t.settled;
}

-- what entries tell that follow others, each with the position at which it begins
abbrev pub told_onto : JournalScan → List (ℕ × Entry) → JournalScan
told_onto t [] = t
told_onto t (e ∷ es) = told_onto (after e.0 e.1 t) es

-- what the entries of a journal tell, the oldest first
abbrev pub told_by : List (ℕ × Entry) → JournalScan
told_by es = told_onto nothing_told es

-- An entry that may not stand behind the others. Its branch is settled. Or it names another transaction than the branch's unit. Or it is a Change or
-- a Prepared of a unit that is prepared, or the unit's 1,025th Change. Or there would be more than 64 units.
abbrev pub unit_refuses : Entry → (units : ℕ) → Option UnitTold → Bool
unit_refuses e units None = (e.kind == 1) && nat_le branch_limit units
unit_refuses e units (Some u) = not (same_id e.tid u.tid) || (not (e.kind == 3) && u.prepared) || ((e.kind == 1) && nat_le change_limit u.changes)

abbrev pub is_out_of_order : Entry → JournalScan → Bool
is_out_of_order e t = list_any (same_id e.serial) t.settled || unit_refuses e (length t.units) (find_unit e.serial t.units)

-- How many bytes of the ring units will still take: a Prepared and a Settled entry, or the Settled one alone. A unit without changes has nothing to undo, and
-- takes none.
abbrev pub owed_to : UnitTold → ℕ
owed_to u = if u.changes == 0 then 0 else (if u.prepared then 48 else 96)

abbrev pub owed : List UnitTold → ℕ
owed [] = 0
owed (u ∷ us) = owed_to u + owed us

-- where the earliest Change of a unit begins
abbrev pub earliest : List UnitTold → Option ℕ
earliest [] = None
earliest (u ∷ us) = if u.changes == 0 then earliest us else Some u.first
