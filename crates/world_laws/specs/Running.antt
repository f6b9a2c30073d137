-- What holds of a node while it is up: of the ids that it drew, of its log and its journal, which tell its table, and of the keys that its branches hold.
use Rattle.std.specs.Prelude.{◌≡◌, ◌⊎◌, ◌≤◌, ◌<◌, ℕ, List, [], ◌∷◌, ◌++◌, true, false, Option, Some, None, length}
use Rattle.std.specs.List.{AllByRecursion}
use Rattle.std.specs.FinMap.{empty}
use Rattle.vms_model.specs.Ids.{Id}
use Rattle.vms_model.specs.Keys.{Key}
use Rattle.vms_model.specs.Limits.{lock_limit}
use Rattle.run_model.specs.records_model.History.{History, LiveChanges, changes_by, changes_key, same_id}
use Rattle.run_model.specs.unit_laws.Journal.{Journal, JournalEntry, RecoveryUnit, find_unit, is_settled_in, serial_in, units_in}
use Rattle.run_model.specs.unit_laws.JournalLaws.{HasNotes, is_unit}
use Rattle.run_model.specs.commit_protocol.Table.{Branch, branch_serials, record_serials}
use Rattle.run_model.specs.commit_protocol.Limits.{TmWithin}
use Rattle.run_model.specs.commit_protocol.Allowed.{is_prepared}
use Rattle.run_model.specs.commit_protocol.Standing.{HasApartLog}
use Rattle.run_model.specs.commit_protocol.World.{In}
use Rattle.run_model.specs.log_laws.Slots.{LogTells, size}
use Rattle.run_model.specs.Locks.{Lock, holder}
use Rattle.run_model.specs.recovery_model.Journal as image
use Rattle.run_model.specs.recovery_model.File.{all_of}
use Rattle.run_model.specs.World.{Carried, File, IsOfTransaction, IsPreparedUnit, Node, find_file, serial_of_image, serials_of, tm_of}
use Rattle.world_laws.specs.Ordered.{is_prepared_in}
use Rattle.world_laws.specs.Holding.{IsEndHeld}

-- all of these are so
abbrev pub Each : {A : Type 0} → (A → Type 0) → List A → Type 0
Each P [] = Unit {0}
Each P (x ∷ xs) = P x × Each P xs

-- an id that the node of this name has drawn, in this boot or an earlier one
abbrev pub IsDrawn : List ℕ → ℕ → ℕ → Id → Type 0
IsDrawn name boot drawn id = (id.node ≡ name) × ((id.boot < boot) ⊎ ((id.boot ≡ boot) × (id.seq ≤ drawn)))

-- The table.

-- the branch of this serial that a unit is: it is of the unit's transaction, prepared where the unit is, and else it has changed something
pub record IsBranchOf (bs : List Branch) (x : Id) (u : RecoveryUnit) : Type 0 where
  pub branch : Branch
  pub there : In branch bs
  pub serial : branch.key.serial ≡ x
  pub tid : branch.key.tid ≡ u.tid
  pub prepared : is_prepared branch.state ≡ u.prepared
  pub changed : u.prepared ≡ false → branch.changed ≡ true

-- a branch that is not prepared has changed something just where it is a unit
abbrev pub IsUnitOf : Journal → Branch → Type 0
IsUnitOf units b = is_prepared b.state ≡ false → b.changed ≡ true → is_unit b.key.serial units ≡ true

-- the entries of an unsettled branch are of its transaction; none settles it, and none prepares it while it is not prepared
pub record AreEntriesOf (es : List JournalEntry) (b : Branch) : Type 0 where
  pub unsettled : is_settled_in b.key.serial es ≡ false
  pub unprepared : is_prepared b.state ≡ false → is_prepared_in b.key.serial es ≡ false
  pub transaction : AllByRecursion (IsOfTransaction b.key.tid b.key.serial) es

-- The log and the journal tell the table of a node that is up, which keeps within its limits: the slots have just the records of prepared branches and the committed
-- ones; no serial is twice among branches and committed records, which are of ids that the node has drawn; each unit is a branch, and each branch that changed
-- something and is not prepared is a unit; and entries are of their branches.
pub record TellTable (n : Node) : Type 0 where
  pub log : LogTells (tm_of n) n.durable.log
  pub apart : HasApartLog (tm_of n)
  pub limits : TmWithin (tm_of n)
  pub drawn : (x : Id) → In x (branch_serials n.volatile.branches ++ record_serials n.volatile.records) → IsDrawn n.name n.durable.boot n.volatile.drawn x
  pub branches : (x : Id) (u : RecoveryUnit) → find_unit x (units_in n.durable.units.entries) ≡ Some u → IsBranchOf n.volatile.branches x u
  pub units : (b : Branch) → In b n.volatile.branches → IsUnitOf n.durable.units b
  pub entries : (b : Branch) → In b n.volatile.branches → AreEntriesOf n.durable.units.entries b

-- Journal and locks.

-- the history of a file that nobody changed
abbrev pub no_history : History
no_history = record { base = empty; moment = 0; settled = []; live = [] }

-- no unit has changed a file of this name
abbrev pub IsUnnoted : List ℕ → Journal → Type 0
IsUnnoted name units = HasNotes units name no_history

-- where there is no file, nobody changed it
abbrev pub history_of : Option File → History
history_of (Some f) = f.history
history_of None = no_history

abbrev pub history_in : List ℕ → List (Option File) → History
history_in file fs = history_of (find_file file fs)

-- each key that an unsettled branch changed in a file is held by it
abbrev pub AreHeldIn : List Lock → List (Option File) → Type 0
AreHeldIn locks fs = (file : List ℕ) (x : Id) (key : Key) → changes_key key (changes_by x (history_in file fs).live) ≡ true → holder locks file key ≡ Some x

-- all files that are found are so
abbrev pub AllFound : (List ℕ → File → Type 0) → List (Option File) → Type 0
AllFound P fs = (file : List ℕ) (f : File) → find_file file fs ≡ Some f → P file f

-- each entry of both journals of images that a file carries is so
pub record AllImages (P : image.Entry → Type 0) (r : Carried) : Type 0 where
  pub after : AllByRecursion P (all_of r.after.entries)
  pub before : AllByRecursion P (all_of r.before.entries)

abbrev pub FileImages : (image.Entry → Type 0) → List ℕ → File → Type 0
FileImages P file f = AllImages P f.carried

-- an entry is of an id that the node of this name has drawn
abbrev pub IsDrawnImage : List ℕ → ℕ → ℕ → image.Entry → Type 0
IsDrawnImage name boot drawn e = IsDrawn name boot drawn (serial_of_image e)

-- an entry does not tell this branch to be settled
abbrev pub LeavesOpen : Id → image.Entry → Type 0
LeavesOpen x (image.Changed serial key value) = Unit {0}
LeavesOpen x (image.Settled serial outcome moment) = same_id x serial ≡ false

-- The journals of images of these files have entries of ids alone that the node has drawn, and tell no branch to be settled that is in its table and is not prepared.
pub record TellImages (name : List ℕ) (boot count : ℕ) (bs : List Branch) (fs : List (Option File)) : Type 0 where
  pub drawn : AllFound (FileImages (IsDrawnImage name boot count)) fs
  pub unsettled : (b : Branch) → In b bs → is_prepared b.state ≡ false → AllFound (FileImages (LeavesOpen b.key.serial)) fs

-- While a node is up: the entries of its journal, and of its files' journals of images, are of ids that it has drawn, and the latter tell none of its branches to be
-- settled, but perhaps prepared ones; an unsettled branch holds what it changed, and has changed no file that is not there.
pub record IsRunning (n : Node) : Type 0 where
  pub drawn : AllByRecursion (λ (e : JournalEntry). IsDrawn n.name n.durable.boot n.volatile.drawn (serial_in e)) n.durable.units.entries
  pub held : AreHeldIn n.volatile.locks n.durable.directory
  pub unnoted : (name : List ℕ) → find_file name n.durable.directory ≡ None → IsUnnoted name n.durable.units
  pub images : TellImages n.name n.durable.boot n.volatile.drawn n.volatile.branches n.durable.directory

-- an unsettled branch holds the end of a file that it moved, and only a file that is marked for recovery units has changes of one that is not prepared
pub record IsFileHeld (locks : List Lock) (units : Journal) (file : List ℕ) (f : File) : Type 0 where
  pub end : IsEndHeld locks file f
  pub marked : f.recovery_units ≡ false → AllByRecursion (λ (l : LiveChanges). IsPreparedUnit units l.serial) f.history.live

-- Only its unsettled branches hold keys; they hold the ends that they moved; only files that are marked have changes of those that are not prepared; and there
-- are no more keys than may be.
pub record IsHolding (n : Node) : Type 0 where
  pub by : AllByRecursion (λ (l : Lock). In l.by (serials_of n.volatile.branches)) n.volatile.locks
  pub files : AllFound (IsFileHeld n.volatile.locks n.durable.units) n.durable.directory
  pub few_locks : length n.volatile.locks ≤ lock_limit

-- So it is of a node that is up; and its branches and committed records are no more than its slots.
pub record HasBranches (n : Node) : Type 0 where
  pub table : TellTable n
  pub running : IsRunning n
  pub holding : IsHolding n
  pub room : size (tm_of n) ≤ length n.durable.log
