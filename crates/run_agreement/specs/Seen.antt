-- What the commit protocol sees of a node of the run: its table while it is up, and what its disk has while it is down.
use Rattle.std.specs.Prelude.{◌≡◌, ◌≤◌, length, List, [], ◌++◌, map, Bool, true, false, Option, Some, None, option_map}
use Rattle.vms_model.specs.Ids.{Id}
use Rattle.vms_model.specs.Transactions.{Outcome}
use Rattle.vms_model.specs.Limits.{slot_limit}
use Rattle.run_model.specs.unit_laws.Journal.{RecoveryUnit, active_units, units_in, find_unit}
use Rattle.commit_protocol.specs.Messages.{Name, LogRecord}
use Rattle.commit_protocol.specs.Table.{Key, Branch, Prepared, child, find, record_serials, branches_of}
use Rattle.commit_protocol.specs.World as protocol
use Rattle.commit_protocol.specs.World.{In, units_of}
use Rattle.commit_protocol.specs.Agreement.{Distinct}
use Rattle.commit_protocol.specs.Opening.{Image, AreRearranged}
use Rattle.commit_protocol.specs.Orders.{IsPermuted}
use Rattle.commit_protocol.specs.Standing.{HasApartLog}
use Rattle.run_model.specs.log_laws.Slots.{LogTells, AreCommitted, AreUnwaiting, prepared_of, committed_of, records_in, size}
use Rattle.run_model.specs.World.{Settlement, Act, Durable, Node, Sound, Faulty, Barred, Unknown, acted, is_durable, prepared_left, tm_of}
use Rattle.run_model.specs.Answers.{unit_key}

-- Of each node, whether the act that was under way at its fall has taken place, or will turn out to have. It says nothing of a node without such an act.
abbrev pub Resolution : Type 0
Resolution = Name → Bool

-- a branch and how it was settled
abbrev pub outcome_of : Settlement → Key × Outcome
outcome_of s = (child s.tid s.serial, s.outcome)

-- a node whose act under way has taken place, or has not
abbrev pub landed : Bool → Node → Node
landed false n = n
landed true n = elim n.under_way [ Some act ↦ acted act n | None ↦ n ]

-- the units of a disk that a restart undoes, in the order of their first entries
abbrev pub left_keys : Durable → List Key
left_keys d = map unit_key (active_units (units_in d.units.entries))

-- a node that is up in the words of the protocol, while these units of an earlier boot are still to be undone
abbrev pub raw : List Key → Node → protocol.Node
raw lost n = record { up = true; boot = n.durable.boot; seq = n.volatile.drawn; table = n.volatile.branches; records = n.volatile.records; lost = lost; last = option_map outcome_of n.durable.last }

-- each unit of a disk that is prepared is of a branch with one of these records
abbrev pub HavePrepared : List LogRecord → Durable → Type 0
HavePrepared rs d = (serial : Id) (u : RecoveryUnit) → find_unit serial (units_in d.units.entries) ≡ Some u → u.prepared ≡ true → (r : LogRecord) × In r rs × (r.serial ≡ serial)

-- each unit of a disk that is prepared is one of these branches, and is so there
abbrev pub ArePrepared : List Branch → Durable → Type 0
ArePrepared bs d = (serial : Id) (u : RecoveryUnit) → find_unit serial (units_in d.units.entries) ≡ Some u → u.prepared ≡ true → (b : Branch) × (find b.key bs ≡ Some b) × (b.key.serial ≡ serial) × (b.state ≡ Prepared)

-- The disk of a node that is up tells its table: the slots of the log have just the records of its prepared branches and its committed records, and the units that
-- are not prepared are just its branches that are not and changed something, and those that are still to be undone; one that is prepared is of a prepared branch.
pub record IsTold (lost : List Key) (n : Node) : Type 0 where
  pub log : LogTells (tm_of n) n.durable.log
  pub apart : HasApartLog (tm_of n)
  pub kinds : AreCommitted n.volatile.records
  pub slots : length n.durable.log ≤ slot_limit
  pub volume : n.durable.volume ≡ Sound
  pub there : (k : Key) → In k (units_of n.volatile.branches ++ lost) → In k (left_keys n.durable)
  pub back : (k : Key) → In k (left_keys n.durable) → In k (units_of n.volatile.branches ++ lost)
  pub units : ArePrepared n.volatile.branches n.durable

-- A node of the protocol that is down is what a disk has: its boot count and its last settlement, and, each in some order, its prepared and its committed records
-- and the units that a restart undoes. The log has no serial twice and no prepared record that waits for one, and each prepared unit has a prepared record.
pub record IsLeft (d : Durable) (y : protocol.Node) : Type 0 where
  pub down : y.up ≡ false
  pub boot : y.boot ≡ d.boot
  pub last : y.last ≡ option_map outcome_of d.last
  pub records : List LogRecord
  pub table : y.table ≡ branches_of records
  pub prepared : AreRearranged (prepared_left d) records
  pub committed : IsPermuted (committed_of (records_in d.log)) y.records
  pub there : (k : Key) → In k y.lost → In k (left_keys d)
  pub back : (k : Key) → In k (left_keys d) → In k y.lost
  pub distinct : Distinct (record_serials (records_in d.log))
  pub unwaiting : AreUnwaiting (records_in d.log)
  pub units : HavePrepared (prepared_of (records_in d.log)) d
  pub slots : length d.log ≤ slot_limit
  pub volume : d.volume ≡ Sound

-- what the protocol has of a node, and the node's settlements in this run
pub record Face : Type 0 where
  pub node : protocol.Node
  pub settled : List Settlement

-- Of a node that is up, where nothing is under way, the protocol has its table, which its disk tells, with no unit to be undone; and its branches and committed
-- records are no more than its log's slots.
pub record IsUpFace (n : Node) (f : Face) : Type 0 where
  pub node : f.node ≡ raw [] n
  pub settled : f.settled ≡ n.settled
  pub told : IsTold [] n
  pub room : size (tm_of n) ≤ length n.durable.log
  pub quiet : n.under_way ≡ None

-- an act under way is one step of the disk
abbrev pub IsBegun : Option Act → Type 0
IsBegun None = Unit {0}
IsBegun (Some act) = is_durable act ≡ true

-- of one that is down, what its disk has once its act under way has turned out so
pub record IsDownFace (taken : Bool) (n : Node) (f : Face) : Type 0 where
  pub left : IsLeft (landed taken n).durable f.node
  pub settled : f.settled ≡ (landed taken n).settled
  pub begun : IsBegun n.under_way

abbrev pub IsFace : Bool → Node → Face → Type 0
IsFace taken n f = elim n.up [ true ↦ IsUpFace n f | false ↦ IsDownFace taken n f ]

-- a node has a volume
abbrev pub has_volume : Node → Bool
has_volume n = elim n.durable.volume [ Sound ↦ true | Faulty condition block ↦ false | Barred bar ↦ false | Unknown ↦ false ]

-- Something is known of a node's disk: whether it has a volume; or that an INIT of it failed, so that no boot reads it.
abbrev pub IsKnown : Node → Type 0
IsKnown n = n.durable.volume ≡ Unknown → n.unmade ≡ true

-- A node without a volume, which is down and has settled nothing, and stays so where no volume is made.
pub record IsBarred (n : Node) : Type 0 where
  pub down : n.up ≡ false
  pub quiet : n.under_way ≡ None
  pub none : n.settled ≡ []
  pub known : IsKnown n

-- the image of a node's volume
abbrev pub image_of : Node → Image
image_of n = record { boot = n.durable.boot; last = option_map outcome_of n.durable.last; prepared = prepared_left n.durable; committed = committed_of (records_in n.durable.log); units = left_keys n.durable }
