-- What a restart makes of the prepared branches of its log: they are units again.
use Rattle.std.specs.Prelude.{◌≡◌, ◌≤◌, ◌^◌, ◌++◌, ℕ, true, Bool, List, [], ◌∷◌, Option, Some, None, IfSome, length}
use Rattle.std.specs.List.{AllByRecursion}
use Rattle.unit_entries.specs.commit_protocol.Messages.{LogRecord}
use Rattle.file_base.specs.declared.head.FileHead.{FileHead}
use Rattle.file_base.specs.declared.head.Span.{Span}
use Rattle.journal_model.specs.Entries.{Entry}
use Rattle.record_locks.specs.Locks.{Lock, LockTable}
use Rattle.unit_entries.specs.Collecting.{AreChangesAt}
use Rattle.unit_table.specs.Units.{OpenUnit, first_that, is_of, no_files, without_first}
use Rattle.vms_model.specs.Ids.{Id}
use Rattle.volume.specs.State.{VolumeState}
use Rattle.unit_returns.specs.Locking.{relocked_by}

-- where the changes of a branch begin, by the units that the journal left; it has none of a branch that changed nothing
abbrev pub positions_left : Id → List OpenUnit → List ℕ
positions_left serial left = elim (first_that (is_of serial) left) [ Some u ↦ u.positions | None ↦ [] ]

-- and the files that they are of
abbrev pub files_left : Id → List OpenUnit → List Bool
files_left serial left = elim (first_that (is_of serial) left) [ Some u ↦ u.files | None ↦ no_files ]

-- a unit has the changes of its branch that the journal left
pub record IsLeftOf (left : List OpenUnit) (u : OpenUnit) : Type 0 where
  pub positions : u.positions ≡ positions_left u.serial left
  pub files : u.files ≡ files_left u.serial left

-- the unit of the branch of a prepared record
pub record IsOfRecord (r : LogRecord) (u : OpenUnit) : Type 0 where
  pub tid : u.tid ≡ r.tid
  pub serial : u.serial ≡ r.serial
  pub prepared : u.prepared ≡ true

-- so each of some, in their order
abbrev pub AreOfRecords : List LogRecord → List OpenUnit → Type 0
AreOfRecords [] [] = Unit {0}
AreOfRecords [] (u ∷ us) = ⊥
AreOfRecords (r ∷ rs) [] = ⊥
AreOfRecords (r ∷ rs) (u ∷ us) = IsOfRecord r u × AreOfRecords rs us

-- each has the changes of its branch that the journal left
abbrev pub HaveChanges : List OpenUnit → List OpenUnit → Type 0
HaveChanges left [] = Unit {0}
HaveChanges left (u ∷ us) = IsLeftOf left u × HaveChanges left us

-- each takes its changes from what is left
abbrev pub TakeChanges : List OpenUnit → List OpenUnit → Type 0
TakeChanges left [] = Unit {0}
TakeChanges left (u ∷ us) = IsLeftOf left u × TakeChanges (without_first (is_of u.serial) left) us

-- each unit's changes are entered where its positions say
abbrev pub AreAllChangesAt : Span → List OpenUnit → List (List Entry) → List (List ℕ) → Type 0
AreAllChangesAt s [] [] c = Unit {0}
AreAllChangesAt s [] (es ∷ ess) c = ⊥
AreAllChangesAt s (u ∷ us) [] c = ⊥
AreAllChangesAt s (u ∷ us) (es ∷ ess) c = AreChangesAt s u.positions es c × AreAllChangesAt s us ess c

-- the locks with those of units for their entries, unit after unit
abbrev pub relocked : List (Option FileHead) → List OpenUnit → List (List Entry) → List Lock → List Lock
relocked heads [] ess ls = ls
relocked heads (u ∷ us) [] ls = ls
relocked heads (u ∷ us) (es ∷ ess) ls = relocked heads us ess (relocked_by heads u.serial es ls)

-- Units hold the keys that their entries tell, unless these would be more locks than there may be.
pub record HoldChanges (heads : List (Option FileHead)) (most : ℕ) (us : List OpenUnit) (ess : List (List Entry)) (old new : List Lock) : Type 0 where
  pub locks : length (relocked heads us ess old) ≤ most → new ≡ relocked heads us ess old

-- A branch holds the keys that the entries at these positions tell, unless these would be more locks than there may be.
abbrev pub HoldsKeys : VolumeState → (positions : List ℕ) → (by : Id) → (ls ms : LockTable) → Type 0
HoldsKeys v positions by ls ms = IfSome v.store.current (λ c. (es : List Entry) → AreChangesAt v.catalog.ru positions es c → length (relocked_by v.catalog.heads by es ls.locks) ≤ ls.most → ms.locks ≡ relocked_by v.catalog.heads by es ls.locks)

-- their changes begin where entries may be read
abbrev pub AreLow : List OpenUnit → Type 0
AreLow us = AllByRecursion (λ (u : OpenUnit). AllByRecursion (λ p. p ≤ 2 ^ 62) u.positions) us

-- A unit stands behind those that were there, of this record, and took its changes from what the journal left. Where a volume tells its content its branch holds them.
pub record IsTakenUp (r : LogRecord) (left : List OpenUnit) (v : VolumeState) (old new : List OpenUnit) (ls ms : LockTable) : Type 0 where
  pub unit : OpenUnit
  pub behind : new ≡ old ++ unit ∷ []
  pub is : IsOfRecord r unit
  pub changes : IsLeftOf left unit
  pub hold : HoldsKeys v unit.positions unit.serial ls ms

-- There are no more locks than may be.
pub record StayFew (ls ms : LockTable) : Type 0 where
  pub most : ms.most ≡ ls.most
  pub few : length ls.locks ≤ ls.most → length ms.locks ≤ ms.most

-- These units stand behind those that were there, of these records, and took their changes from what the journal left. Where a volume tells its content they hold them.
pub record AreTakenUp (rs : List LogRecord) (left : List OpenUnit) (v : VolumeState) (old new : List OpenUnit) (ls ms : LockTable) : Type 0 where
  pub units : List OpenUnit
  pub behind : new ≡ old ++ units
  pub records : AreOfRecords rs units
  pub changes : TakeChanges left units
  pub hold : IfSome v.store.current (λ c. (ess : List (List Entry)) → AreAllChangesAt v.catalog.ru units ess c → HoldChanges v.catalog.heads ls.most units ess ls.locks ms.locks)
