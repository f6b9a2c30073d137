-- What holds of each node in each world that a legal transcript leads to.
use Rattle.std.specs.Prelude.{◌≡◌, ◌≤◌, ℕ, List, [], true, false, Some, length}
use Rattle.vms_model.specs.Ids.{Id}
use Rattle.run_model.specs.script_model.Statements.{Operation}
use Rattle.run_model.specs.records_model.Records.{Found}
use Rattle.run_model.specs.records_model.History.{current}
use Rattle.run_model.specs.unit_laws.Journal.{is_settled_in, notes_in}
use Rattle.run_model.specs.unit_laws.JournalLaws.{is_unit}
use Rattle.run_model.specs.commit_protocol.World.{In}
use Rattle.run_model.specs.log_laws.Slots.{size}
use Rattle.run_model.specs.World.{AreUnitsOf, File, IsLogInOrder, Node, find_file, find_node, serials_of, tm_of}
use Rattle.run_model.specs.Operations.{changes_of}
use Rattle.run_model.specs.Transcript.{InAllRuns}
use Rattle.world_laws.specs.Restarts.{AreHeld, CanRestart, HasNoName, NamesDiffer}
use Rattle.world_laws.specs.Holding.{AreLocked}
use Rattle.world_laws.specs.Running.{TellTable}

-- each node is so in each such world
abbrev pub InAllWorlds : (Node → Type 0) → Type 0
InAllWorlds P = InAllRuns (λ opening es closing. (node : List ℕ) (n : Node) → find_node node closing.nodes ≡ Some n → P n)

-- Its disk has what a restart needs.
abbrev pub WorldsCanRestart : Type 0
WorldsCanRestart = InAllWorlds (λ n. CanRestart n.durable)

-- Its log and its journal tell one another.
abbrev pub LogsAreInOrder : Type 0
LogsAreInOrder = InAllWorlds IsLogInOrder

-- No two of its files have one name.
abbrev pub NamesAreDifferent : Type 0
NamesAreDifferent = InAllWorlds (λ n. NamesDiffer n.durable.directory)

-- While it is up, its log and its journal tell its table, which has no more branches and records than there are slots,
abbrev pub TablesAreTold : Type 0
TablesAreTold = InAllWorlds (λ n. n.up ≡ true → TellTable n × (size (tm_of n) ≤ length n.durable.log))

-- each key that an unsettled branch changed in a file is held by it;
abbrev pub ChangesAreHeld : Type 0
ChangesAreHeld = InAllWorlds (λ n. n.up ≡ true → (file : List ℕ) (f : File) → find_file file n.durable.directory ≡ Some f → AreHeld n.volatile.locks file f.history.live)

-- each unit of its journal is an unsettled branch,
abbrev pub UnitsAreBranches : Type 0
UnitsAreBranches = InAllWorlds (λ n. n.up ≡ true → (x : Id) → is_unit x n.durable.units ≡ true → In x (serials_of n.volatile.branches))

-- which is not settled in the journal,
abbrev pub BranchesAreUnsettled : Type 0
BranchesAreUnsettled = InAllWorlds (λ n. n.up ≡ true → (x : Id) → In x (serials_of n.volatile.branches) → is_settled_in x n.durable.units.entries ≡ false)

-- the entries of units are of files that are there,
abbrev pub UnitsNameFiles : Type 0
UnitsNameFiles = InAllWorlds (λ n. n.up ≡ true → (x : Id) (name : List ℕ) → is_unit x n.durable.units ≡ true → HasNoName name n.durable.directory → notes_in x name n.durable.units.entries ≡ [])

-- and only unsettled branches hold keys.
abbrev pub LocksAreBranches : Type 0
LocksAreBranches = InAllWorlds (λ n. n.up ≡ true → AreLocked n)

-- Whether or not it is up, its journal tells the changes of its unsettled branches, and these share its files.
abbrev pub JournalsTellUnits : Type 0
JournalsTellUnits = InAllWorlds AreUnitsOf

-- Each change of an operation notes what it found.
abbrev pub ChangesFind : Type 0
ChangesFind = (f : File) (op : Operation) → Found (changes_of f op) (current f.history)
