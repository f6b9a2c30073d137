-- What each act of a row finds at the table: the branch that it speaks of stands there, in such a state. And which acts of a row leave what lasts on the disk.
use Rattle.std.specs.Prelude.{◌≡◌, Bool, true, false, List, [], ◌∷◌, ◌++◌, Option, Some, None}
use Rattle.commit_protocol.specs.Messages.{LogRecord, CommittedRecord}
use Rattle.commit_protocol.specs.Table.{Key, Branch, Tm, Act, Notes, Accepts, Prepares, Settles, Leaves, Acknowledges, Releases, Undoes, find, prepared_records, branch_serials, record_serials, table_after}
use Rattle.commit_protocol.specs.Rows.{Event, Start, Begin, Changed}
use Rattle.commit_protocol.specs.Allowed.{is_prepared}
use Rattle.commit_protocol.specs.World.{units_of}
use Rattle.commit_protocol.specs.Agreement.{Distinct}

-- the branch stands there
abbrev pub IsThere : List Branch → Key → Type 0
IsThere bs k = (b : Branch) × (find k bs ≡ Some b)

-- it stands there unprepared
pub record IsUnprepared (bs : List Branch) (k : Key) : Type 0 where
  pub branch : Branch
  pub there : find k bs ≡ Some branch
  pub unprepared : is_prepared branch.state ≡ false

-- it stands there unprepared, and has changed nothing
pub record IsUnchanged (bs : List Branch) (k : Key) : Type 0 where
  pub branch : Branch
  pub there : find k bs ≡ Some branch
  pub unprepared : is_prepared branch.state ≡ false
  pub unchanged : branch.changed ≡ false

-- the branch stands there unprepared and stays so, and has changed something or not as before
pub record Restates (bs : List Branch) (b : Branch) : Type 0 where
  pub old : Branch
  pub there : find b.key bs ≡ Some old
  pub unprepared : is_prepared old.state ≡ false
  pub stays : is_prepared b.state ≡ false
  pub changed : b.changed ≡ old.changed

-- a record is a committed one, of the branch's serial
pub record IsCommittedOf (k : Key) (r : LogRecord) : Type 0 where
  pub serial : r.serial ≡ k.serial
  pub kind : r.kind ≡ CommittedRecord

abbrev pub IsRecordOf : Key → Option LogRecord → Type 0
IsRecordOf k None = Unit {0}
IsRecordOf k (Some r) = IsCommittedOf k r

-- What an act finds: what is noted, or leaves, stands there unprepared; what is prepared stands there and was not; what is settled stands there; and a unit that
-- a boot undoes has no branch there.
abbrev pub Stands : List Branch → Act → Type 0
Stands bs (Notes b) = Restates bs b
Stands bs (Accepts b c) = Restates bs b
Stands bs (Prepares b) = IsUnprepared bs b.key
Stands bs (Settles k o reason r) = IsThere bs k × IsRecordOf k r
Stands bs (Leaves k) = IsUnchanged bs k
Stands bs (Undoes k) = find k bs ≡ None
Stands bs _ = Unit {0}

-- so does each act of a list, at the branches that stand there by then
abbrev pub AllStand : List Branch → List Act → Type 0
AllStand bs [] = Unit {0}
AllStand bs (a ∷ acts) = Stands bs a × AllStand (table_after a bs) acts

-- the events by which no branch begins, and none changes anything for the first time
abbrev pub BeginsNothing : Event → Type 0
BeginsNothing (Start t due) = ⊥
BeginsNothing (Begin t s bid) = ⊥
BeginsNothing (Changed s) = ⊥
BeginsNothing _ = Unit {0}

-- no serial stands twice among a node's branches and committed records; so none stands twice in its log
abbrev pub HasApartLog : Tm → Type 0
HasApartLog tm = Distinct (branch_serials tm.table ++ record_serials tm.records)

-- the act writes to the disk
abbrev pub writes : Act → Bool
writes (Prepares b) = true
writes (Settles k o reason r) = true
writes (Acknowledges k) = true
writes (Releases s x) = true
writes (Undoes k) = true
writes _ = false

-- what lasts of a table: the records of the prepared branches, and the units of the others that changed something
abbrev pub LastsAlike : List Branch → List Branch → Type 0
LastsAlike bs cs = (prepared_records cs ≡ prepared_records bs) × (units_of cs ≡ units_of bs)

-- a branch that begins: it stands there not yet, is unprepared, and has changed nothing
pub record IsNew (bs : List Branch) (b : Branch) : Type 0 where
  pub absent : find b.key bs ≡ None
  pub unprepared : is_prepared b.state ≡ false
  pub unchanged : b.changed ≡ false
