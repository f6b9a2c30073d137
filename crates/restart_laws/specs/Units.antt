-- The journal tells the changes of the unsettled branches over each act that changes the journal or the directory, and over a restart.
use Rattle.std.specs.Prelude.{◌≡◌, ℕ, ◌<◌, List, [], ◌∷◌, Bool, true, false, Some, None, length}
use Rattle.std.specs.List.{list_any}
use Rattle.vms_model.specs.Ids.{Id}
use Rattle.vms_model.specs.Keys.{Key}
use Rattle.vms_model.specs.Transactions.{Commit}
use Rattle.index_model.specs.records_model.Records.{Change, Found, Records}
use Rattle.index_model.specs.records_model.History.{LiveChanges, current}
use Rattle.unit_laws.specs.Units.{end_is_free, has_changes, moves_end}
use Rattle.unit_laws.specs.Journal.{is_of_file, is_settled_in}
use Rattle.unit_laws.specs.JournalLaws.{is_unit}
use Rattle.world_laws.specs.commit_protocol.Table as table
use Rattle.world_laws.specs.run_model.World.{Node, File, Organization, Sequential, Relative, Indexed, Settlement, AreUnitsOf, IsReached, Formats, Boots, Creates, Mark, Marks, Saves, Recovers, Draws, Clocks, Tables, Changes, Holds, Directs, acted, find_file}
use Rattle.directory_model.specs.Laws.{AreFree}

-- where changes move the end of a sequential file, that is free for the branch: no other branch moved it
abbrev pub EndIsFree : Organization → Id → List Change → List LiveChanges → Type 0
EndIsFree Sequential serial cs ls = moves_end cs ≡ true → end_is_free serial ls ≡ true
EndIsFree (Relative greatest) serial cs ls = Unit {0}
EndIsFree (Indexed position size) serial cs ls = Unit {0}

-- Changes of a file, whose keys are free for the branch, and that noted what they found. A sequential file's end is free too, where they move it.
pub record MayChange (serial : Id) (f : File) (cs : List Change) : Type 0 where
  pub some : has_changes cs ≡ true
  pub keys : AreFree serial f cs
  pub found : Found cs (current f.history)
  pub end : EndIsFree f.organization serial cs f.history.live

pub record KeepsUnits : Type 0 where
  pub formats : (n : Node) (slots journal : ℕ) → AreUnitsOf (acted (Formats slots journal) n)
  pub boots : (n : Node) → AreUnitsOf n → AreUnitsOf (acted Boots n)
  pub draws : (n : Node) → AreUnitsOf n → AreUnitsOf (acted Draws n)
  pub clocks : (n : Node) (now : ℕ) → AreUnitsOf n → AreUnitsOf (acted (Clocks now) n)
  pub holds : (n : Node) (serial : Id) (name : List ℕ) (keys : List Key) → AreUnitsOf n → AreUnitsOf (acted (Holds serial name keys) n)
  -- a new file that no branch changed, of a name that no file and no entry has
  pub creates : (n : Node) (f : ℕ) (file : File) → AreUnitsOf n → f < length n.durable.directory → file.history.live ≡ [] → find_file file.name n.durable.directory ≡ None → list_any (is_of_file file.name) n.durable.units.entries ≡ false →
      AreUnitsOf (acted (Creates f file) n)
  pub marks : (n : Node) (name : List ℕ) (file : File) (mark : Mark) → AreUnitsOf n → find_file name n.durable.directory ≡ Some file → file.history.live ≡ [] → AreUnitsOf (acted (Marks name mark) n)
  pub saves : (n : Node) (name : List ℕ) (file : File) (start : ℕ) → AreUnitsOf n → find_file name n.durable.directory ≡ Some file → file.history.live ≡ [] → AreUnitsOf (acted (Saves name start) n)
  pub recovers : (n : Node) (name : List ℕ) (file : File) (start buckets : ℕ) (m : Records) → AreUnitsOf n → find_file name n.durable.directory ≡ Some file → file.history.live ≡ [] → AreUnitsOf (acted (Recovers name start buckets m) n)
  -- while the node is up they are of a marked file
  pub changes : (n : Node) (name : List ℕ) (file : File) (tid serial : Id) (cs : List Change) (keys : List Key) → AreUnitsOf n → IsReached n serial → is_settled_in serial n.durable.units.entries ≡ false →
      find_file name n.durable.directory ≡ Some file → MayChange serial file cs → (n.up ≡ true → file.recovery_units ≡ true) → AreUnitsOf (acted (Changes tid serial name cs keys) n)
  -- of a branch that is no unit, whose keys no unsettled branch changed
  pub directs : (n : Node) (name : List ℕ) (file : File) (c : Change) (cs : List Change) (s : Settlement) → AreUnitsOf n → s.outcome ≡ Commit → find_file name n.durable.directory ≡ Some file → is_unit s.serial n.durable.units ≡ false →
      AreFree s.serial file (c ∷ cs) → Found (c ∷ cs) (current file.history) → AreUnitsOf (acted (Directs name (c ∷ cs) s) n)
  pub tables : (n : Node) (a : table.Act) (moment : ℕ) → AreUnitsOf n → AreUnitsOf (acted (Tables a moment) n)
