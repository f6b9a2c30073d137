-- What a fall leaves of the files of a node that was up, and what undoing leaves of that.
use Rattle.std.specs.Prelude.{◌≡◌, ℕ, List, [], true, Option, Some}
use Rattle.vms_model.specs.Ids.{Id}
use Rattle.file_base.specs.declared.head.FileHead.{FileHead}
use Rattle.directory_model.specs.change_set.Files.{AgreesOn}
use Rattle.directory_model.specs.record_files.Any as any
use Rattle.directory_model.specs.record_files.Any.{IsLaidOut}
use Rattle.vms_model.specs.Transactions.{Abort}
use Rattle.unit_laws.specs.Journal.{Journal, RecoveryUnit, find_unit, units_in}
use Rattle.world_laws.specs.commit_protocol.Table as table
use Rattle.world_laws.specs.run_model.World.{Node, File, Settlement, AreUnitsOf, Tables, acted, settlement_of}
use Rattle.directory_model.specs.Files.{AgreesOnFile, AreFiles, head_at}
use Rattle.directory_model.specs.Laws.{settled_buckets}
use Rattle.directory_model.specs.Restoring.{AreRestorable, AreLeft, AreGrouped, AreRestored, IsLeft, IsGrouped, IsRestored, StandPrepared}

-- each unit of a journal is prepared
abbrev pub AllPrepared : Journal → Type 0
AllPrepared units = (x : Id) (u : RecoveryUnit) → find_unit x (units_in units.entries) ≡ Some u → u.prepared ≡ true

-- what an up node has is what a fall leaves, and what prepared branches changed stands there
abbrev pub FallsLeave : Type 0
FallsLeave = (content : List (List ℕ)) (heads : List (Option FileHead)) (n : Node) → AreFiles content heads n.durable.directory → AreUnitsOf n → AreRestorable content heads n.durable.directory → AreLeft content heads n.durable.directory

abbrev pub PreparedStand : Type 0
PreparedStand = (content : List (List ℕ)) (heads : List (Option FileHead)) (n : Node) → AreFiles content heads n.durable.directory → AreUnitsOf n → StandPrepared n.durable.units content heads n.durable.directory

-- contents in which all that each file has stands have the same left of the files
abbrev pub LeftStands : Type 0
LeftStands = (a b : List (List ℕ)) (heads : List (Option FileHead)) (directory : List (Option File)) → ((f : ℕ) (h : FileHead) → head_at heads f ≡ Some h → AgreesOnFile h a b) → AreLeft a heads directory → AreLeft b heads directory

abbrev pub PreparedStays : Type 0
PreparedStays = (units : Journal) (a b : List (List ℕ)) (heads : List (Option FileHead)) (directory : List (Option File)) → ((f : ℕ) (h : FileHead) → head_at heads f ≡ Some h → AgreesOnFile h a b) → AreLeft a heads directory →
    StandPrepared units a heads directory → StandPrepared units b heads directory

-- a group of an undo leaves what can be undone further
abbrev pub GroupsLeave : Type 0
GroupsLeave = (a b : List (List ℕ)) (heads new : List (Option FileHead)) (n : Node) → AreLeft a heads n.durable.directory → AreGrouped a heads n.durable.directory b new → AreLeft b new n.durable.directory

-- What becomes of a file whose blocks stay: nothing in a group of an undo, and it is restored where the branch changed nothing in it.
pub record StaysUndone : Type 0 where
  pub group : (a b : List (List ℕ)) (h : FileHead) (file : File) → IsLeft a h file → AgreesOn h a b → IsGrouped a h file.history.live b h
  pub restored : (a b : List (List ℕ)) (h : FileHead) → any.IsFile h → IsLaidOut h a → AgreesOn h a b → IsRestored a h [] b h

-- A unit was undone whole: what is left is that of the node once the unit is settled in the buckets, before the journals of images tell it; and what prepared branches
-- changed stands there still.
abbrev pub UndoesLeave : Type 0
UndoesLeave = (b c : List (List ℕ)) (heads new : List (Option FileHead)) (n : Node) (s : Settlement) → AreLeft b heads n.durable.directory → AreUnitsOf n → s.outcome ≡ Abort → AreRestored s.serial b heads n.durable.directory c new →
    AreLeft c new (settled_buckets s n.durable.directory)

abbrev pub UndoesKeepPrepared : Type 0
UndoesKeepPrepared = (b c : List (List ℕ)) (heads new : List (Option FileHead)) (n : Node) (a : table.Act) (moment : ℕ) (s : Settlement) → settlement_of a moment ≡ Some s → AreLeft b heads n.durable.directory → AreUnitsOf n → s.outcome ≡ Abort →
    AreRestored s.serial b heads n.durable.directory c new → StandPrepared n.durable.units b heads n.durable.directory →
    StandPrepared (acted (Tables a moment) n).durable.units c new (acted (Tables a moment) n).durable.directory

-- and what the other branches changed can be restored from there, whatever part of it is undone
abbrev pub OthersStayRestorable : Type 0
OthersStayRestorable = (b c : List (List ℕ)) (heads new : List (Option FileHead)) (n : Node) (a : table.Act) (moment : ℕ) (s : Settlement) → settlement_of a moment ≡ Some s → AreLeft b heads n.durable.directory → AreUnitsOf n → s.outcome ≡ Abort →
    AreRestored s.serial b heads n.durable.directory c new → AreRestorable c new (acted (Tables a moment) n).durable.directory

-- where each unit of the journal is prepared, the files are those of the world
abbrev pub RestsAsFiles : Type 0
RestsAsFiles = (content : List (List ℕ)) (heads : List (Option FileHead)) (n : Node) → AreLeft content heads n.durable.directory → StandPrepared n.durable.units content heads n.durable.directory → AreUnitsOf n → AllPrepared n.durable.units →
    AreFiles content heads n.durable.directory
