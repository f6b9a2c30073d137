-- What holds of each node of a run, whatever was done to it: of its disk, and of what it has while it is up.
use Rattle.std.specs.Prelude.{◌≡◌, ◌≤◌, ℕ, List, [], ◌∷◌, Bool, true, false, Some, None, length}
use Rattle.std.specs.FinMap.{get}
use Rattle.std.specs.List.{AllByRecursion}
use Rattle.vms_model.specs.Ids.{Id}
use Rattle.vms_model.specs.Keys.{End}
use Rattle.vms_model.specs.Limits.{lock_limit, slot_limit}
use Rattle.run_model.specs.records_model.History.{History, changes_by, current}
use Rattle.run_model.specs.unit_laws.Journal.{JournalEntry, serial_in}
use Rattle.run_model.specs.log_laws.Slots.{size}
use Rattle.run_model.specs.recovery_model.Journal as image
use Rattle.run_model.specs.World.{Act, ComesUp, DiskCounts, Durable, File, FollowOneAnother, IsLogInOrder, IsPlainCarried, KeepsImages, Node, OneMovesEndOf, Shared, acted, booted, durable_after, find_file, find_node, is_durable, tm_of}
use Rattle.run_model.specs.Answers.{Row, Task, boot_rows, refused_before_reading, task_service}
use Rattle.run_model.specs.Steps.{NodeStep, node_after, node_after_rows}
use Rattle.run_model.specs.Transcript.{InAllRuns}
use Rattle.run_model.specs.transcript_model.Lines.{Line}
use Rattle.world_laws.specs.Restarts.{CanRestart, NamesDiffer}
use Rattle.world_laws.specs.Running.{AllFound, FileImages, IsHolding, IsRunning, IsUnnoted, TellTable}

-- an id is of the node of this name, of a boot that it has counted
abbrev pub IsOf : List ℕ → ℕ → Id → Type 0
IsOf name boot id = (id.node ≡ name) × (id.boot ≤ boot)

-- each branch's changes follow one another, and no record stands at the file's end
pub record IsPlain (h : History) : Type 0 where
  pub follow : (x : Id) → FollowOneAnother (changes_by x h.live)
  pub absent : get (current h) End ≡ None

abbrev pub IsPlainFile : List ℕ → File → Type 0
IsPlainFile file f = IsPlain f.history

-- and nothing that a file carries for its recovery is of its end
abbrev pub CarriesPlain : List ℕ → File → Type 0
CarriesPlain file f = IsPlainCarried f.carried

-- the moment of a settlement that a journal of images tells is not later than this
abbrev pub IsTellingBy : ℕ → image.Entry → Type 0
IsTellingBy moment (image.Changed serial key value) = Unit {0}
IsTellingBy moment (image.Settled serial outcome at) = at ≤ moment

-- so it is of both journals of a file
abbrev pub FileCarriesBy : ℕ → List ℕ → File → Type 0
FileCarriesBy moment = FileImages (IsTellingBy moment)

-- a file has what the disk of a node is to say of its journals of images and its save, by this boot count and this greatest moment
abbrev pub FileKeepsImages : List ℕ → ℕ → ℕ → List ℕ → File → Type 0
FileKeepsImages name boot greatest file f = KeepsImages name boot greatest f

-- at most one branch moved the end of a file
abbrev pub IsOneEnd : List ℕ → File → Type 0
IsOneEnd file f = OneMovesEndOf f.organization f.history.live

-- The files and the journal of the node of this name: a restart finds what it needs there, a name is one file's, the entries are of branches of this node, and
-- each file is plain, and so is what it carries, by no later moments than the greatest, and one branch at most moved its end; and its journals of images and its save say
-- what a disk is to say of them.
pub record IsFiled (name : List ℕ) (d : Durable) : Type 0 where
  pub can : CanRestart d
  pub names : NamesDiffer d.directory
  pub reached : AllByRecursion (λ (e : JournalEntry). IsOf name d.boot (serial_in e)) d.units.entries
  pub plain : AllFound IsPlainFile d.directory
  pub carries : AllFound CarriesPlain d.directory
  pub moments : AllFound (FileCarriesBy d.greatest) d.directory
  pub images : AllFound (FileKeepsImages name d.boot d.greatest) d.directory
  pub one : AllFound IsOneEnd d.directory

-- what holds of a node that is up, also behind each act of a row
pub record IsUp (n : Node) : Type 0 where
  pub filed : IsFiled n.name n.durable
  pub slots : length n.durable.log ≤ slot_limit
  pub table : TellTable n
  pub running : IsRunning n
  pub holding : IsHolding n

-- branches and committed records are no more than the slots
abbrev pub IsRoomy : Node → Type 0
IsRoomy n = size (tm_of n) ≤ length n.durable.log

-- it is so before each of these rows, and behind them
abbrev pub AreUp : List Row → Node → Type 0
AreUp [] n = IsUp n
AreUp (r ∷ rs) n = IsUp n × AreUp rs (node_after r.act n)

-- what holds of a node's disk in every world
pub record IsKeptDisk (n : Node) : Type 0 where
  pub filed : IsFiled n.name n.durable
  pub log : IsLogInOrder n
  pub unnoted : (name : List ℕ) → find_file name n.durable.directory ≡ None → IsUnnoted name n.durable.units
  pub few : length (booted n.durable).locks ≤ lock_limit

-- its disk is so before each of these rows, and behind them
abbrev pub AreKept : List Row → Node → Type 0
AreKept [] n = IsKeptDisk n
AreKept (r ∷ rs) n = IsKeptDisk n × AreKept rs (node_after r.act n)

-- a node with this disk
abbrev pub on : Durable → Node → Node
on d n = record n { durable = d }

-- What may be under way at a node that is down leaves its disk so too. While the node is up, all holds that holds of one that is. And no node was up where none
-- may have been in use.
pub record IsKeptNode (s : Shared) (n : Node) : Type 0 where
  pub disk : IsKeptDisk n
  pub way : (act : Act) → n.under_way ≡ Some act → (is_durable act ≡ true) × IsKeptDisk (on (durable_after act n.volatile n.durable) n) × (n.up ≡ false)
  pub runs : n.up ≡ true → IsUp n × IsRoomy n
  pub unused : s.in_use ≡ false → (n.up ≡ false) × (n.under_way ≡ None)

-- It is so of each node in each world that a legal transcript leads to;
abbrev pub NodesAreKept : Type 0
NodesAreKept = InAllRuns (λ opening es closing. (node : List ℕ) (n : Node) → find_node node closing.nodes ≡ Some n → IsKeptNode closing.shared n)

-- each step of a node keeps it so;
abbrev pub StepsKeepNodes : Type 0
StepsKeepNodes = (s : Shared) (n : Node) (old : DiskCounts) (t : Task) (lines : List Line) (answer : Line) (ends : Bool) (m : Node) (after : Shared) (new : DiskCounts) → IsKeptNode s n → NodeStep s n old t lines answer ends m after new → IsKeptNode after m

-- and so it keeps each other node;
abbrev pub StepsKeepOthers : Type 0
StepsKeepOthers = (s : Shared) (n : Node) (old : DiskCounts) (t : Task) (lines : List Line) (answer : Line) (ends : Bool) (m : Node) (after : Shared) (new : DiskCounts) → NodeStep s n old t lines answer ends m after new → (other : Node) → IsKeptNode s other → IsKeptNode after other

-- at a node that is up so do the rows of a task that nothing refuses, one after another;
abbrev pub RowsKeepUp : Type 0
RowsKeepUp = (s : Shared) (n : Node) (t : Task) → IsKeptNode s n → n.up ≡ true → refused_before_reading s n (task_service t) ≡ None → (task_service t).refused_after_reading s n ≡ None → AreUp ((task_service t).rows s n) n

-- and the rows of a boot keep its disk so, behind which it is up.
pub record BootsComeUp (s : Shared) (n : Node) : Type 0 where
  pub rows : AreKept (boot_rows s n) n
  pub up : IsUp (acted ComesUp (node_after_rows (boot_rows s n) n))
  pub room : IsRoomy (acted ComesUp (node_after_rows (boot_rows s n) n))

abbrev pub BootsKeepUp : Type 0
BootsKeepUp = (s : Shared) (n : Node) → IsKeptDisk n → BootsComeUp s n
