-- The units that the code's values are.
use Rattle.std.specs.Prelude.{◌≡◌, ℕ, ◌<◌, ◌≤◌, ◌+◌, true, List, Some, None, Vec, length, map, take, slice_get, vec_capacity}
use Rattle.std.specs.List.{AllByRecursion}
use Rattle.vms_base.specs.vms_model.Ids.{Id}
use Rattle.vms_base.specs.vms_model.Limits.{branch_limit, change_limit, entry_limit}
use Rattle.vms_base.specs.Ids.{tid_of, serial_of}
use Rattle.table_keys.specs.declared.key.BranchKey.{BranchKey}
use Rattle.ru_journal.specs.declared.unit.UnitInfo.{UnitInfo}
use Rattle.indexmap.specs.IndexSet.{IndexSet, spare}
use Rattle.table_keys.specs.records_model.History.{same_id}
use Rattle.ru_journal.specs.Told.{UnitTold, find_unit}

abbrev pub unit_of : UnitInfo → UnitTold
unit_of u = record { tid = tid_of u.tid; serial = serial_of u.serial; first = u.first; changes = u.changes; files = u.files; prepared = u.prepared }

abbrev pub id_of_key : BranchKey → Id
id_of_key k = serial_of k.serial

abbrev pub FewChanges : List UnitInfo → Type 0
FewChanges us = AllByRecursion (λ u. u.changes ≤ change_limit) us

-- the first unit of a branch among these
pub record IsPlace (serial : Id) (us : List UnitInfo) (i : ℕ) : Type 0 where
  pub within : i < length us
  pub unit : UnitInfo
  pub at : slice_get us i ≡ Some unit
  pub here : same_id serial (serial_of unit.serial) ≡ true
  pub before : find_unit serial (map unit_of (take i us)) ≡ None

-- what is kept: a few units, and room for as many branches as are left
pub record IsState {A S : Type 0} (units : Vec UnitInfo A) (settled : IndexSet BranchKey S) (taken : ℕ) : Type 0 where
  pub places : branch_limit ≤ vec_capacity units
  pub few : length units.items ≤ branch_limit
  pub changes : FewChanges units.items
  pub room : entry_limit ≤ length settled.keys + spare settled
  pub entries : length settled.keys ≤ taken
  pub most : taken ≤ entry_limit
