-- What a restart restores, and what it keeps wherever it is cut short.
use Rattle.std.specs.Prelude.{◌≡◌, ℕ, Bool, true, false, List, [], ◌∷◌, Option, Some, None, take, slice_index_or}
use Rattle.std.specs.List.{list_any, AllByRecursion}
use Rattle.vms_model.specs.Ids.{Id}
use Rattle.vms_model.specs.Transactions.{Commit}
use Rattle.vms_model.specs.Keys.{Key}
use Rattle.run_model.specs.records_model.Records.{Change, Found, Records}
use Rattle.run_model.specs.records_model.History.{LiveChanges, changes_by, changes_key, records, current}
use Rattle.run_model.specs.unit_laws.Units.{Map, SerialsDiffer, has_changes, is_free}
use Rattle.run_model.specs.unit_laws.Journal.{Journal, RecoveryUnit, find_unit, is_of_file, is_settled_in, units_in}
use Rattle.run_model.specs.unit_laws.JournalLaws.{HasNotes, is_unit}
use Rattle.run_model.specs.commit_protocol.Table as table
use Rattle.run_model.specs.World.{Shared, Node, Durable, Volatile, File, IsHalfUndone, IsPreparedUnit, Mark, Changes, Creates, Directs, Marks, Saves, Recovers, Tables, durable_after, find_file, with_half}
use Rattle.run_model.specs.Locks.{Lock, holder}
use Rattle.run_model.specs.Answers.{boot_rows, held_against, keys_refused}
use Rattle.run_model.specs.Steps.{node_after_rows}

-- the journal has the notes of each unsettled branch on each file
abbrev pub AllNoted : Journal → List (Option File) → Type 0
AllNoted units [] = Unit {0}
AllNoted units (None ∷ fs) = AllNoted units fs
AllNoted units (Some f ∷ fs) = HasNotes units f.name f.history × AllNoted units fs

-- so it is for the disk of a node: a restart has what it needs
abbrev pub CanRestart : Durable → Type 0
CanRestart d = AllNoted d.units d.directory

-- a file has its name, its committed records, and what prepared branches changed
pub record KeepsFile (units : Journal) (f g : File) : Type 0 where
  pub name : g.name ≡ f.name
  pub committed : records g.history ≡ records f.history
  pub prepared : (x : Id) → IsPreparedUnit units x → changes_by x g.history.live ≡ changes_by x f.history.live

-- so has each file
abbrev pub KeepFiles : Journal → List (Option File) → List (Option File) → Type 0
KeepFiles units [] [] = Unit {0}
KeepFiles units [] (x ∷ gs) = ⊥
KeepFiles units (None ∷ fs) [] = ⊥
KeepFiles units (None ∷ fs) (None ∷ gs) = KeepFiles units fs gs
KeepFiles units (None ∷ fs) (Some g ∷ gs) = ⊥
KeepFiles units (Some f ∷ fs) [] = ⊥
KeepFiles units (Some f ∷ fs) (None ∷ gs) = ⊥
KeepFiles units (Some f ∷ fs) (Some g ∷ gs) = KeepsFile units f g × KeepFiles units fs gs

-- all that was committed and all that was prepared is kept: the files, the prepared units, and the log
pub record Keeps (old new : Durable) : Type 0 where
  pub files : KeepFiles old.units old.directory new.directory
  pub prepared : (x : Id) (u : RecoveryUnit) → find_unit x (units_in old.units.entries) ≡ Some u → u.prepared ≡ true → find_unit x (units_in new.units.entries) ≡ Some u
  pub log : new.log ≡ old.log

-- only branches that are prepared have changes in a file
abbrev pub OnlyPrepared : Journal → List (Option File) → Type 0
OnlyPrepared units [] = Unit {0}
OnlyPrepared units (None ∷ fs) = OnlyPrepared units fs
OnlyPrepared units (Some f ∷ fs) = AllByRecursion (λ (l : LiveChanges). IsPreparedUnit units l.serial) f.history.live × OnlyPrepared units fs

-- what a restart leaves of a disk: all that was committed and all that was prepared, and nothing of what was neither; the units that are left are prepared
pub record HasRestarted (old new : Durable) : Type 0 where
  pub keeps : Keeps old new
  pub only : OnlyPrepared new.units new.directory
  pub units : (x : Id) (u : RecoveryUnit) → find_unit x (units_in new.units.entries) ≡ Some u → u.prepared ≡ true

-- A restart undoes each unit that is not prepared, and nothing else.
abbrev pub RestartRestores : Type 0
RestartRestores = (s : Shared) (n : Node) → CanRestart n.durable → HasRestarted n.durable (node_after_rows (boot_rows s n) n).durable

-- Where it is cut short after any of its rows, all that was committed or prepared is kept, and another restart can restore it.
abbrev pub RestartCutShort : Type 0
RestartCutShort = (s : Shared) (n : Node) (k : ℕ) → CanRestart n.durable → (let m = node_after_rows (take k (boot_rows s n)) n in CanRestart m.durable × Keeps n.durable m.durable)

-- What keeps a disk so, act by act.

-- no file has this name, and no two have one
abbrev pub HasNoName : List ℕ → List (Option File) → Type 0
HasNoName name [] = Unit {0}
HasNoName name (None ∷ fs) = HasNoName name fs
HasNoName name (Some f ∷ fs) = (name ≡ f.name → ⊥) × HasNoName name fs

abbrev pub NamesDiffer : List (Option File) → Type 0
NamesDiffer [] = Unit {0}
NamesDiffer (None ∷ fs) = NamesDiffer fs
NamesDiffer (Some f ∷ fs) = HasNoName f.name fs × NamesDiffer fs

-- A branch may make these changes of a file: there are some, the journal does not settle it, and in the file the keys are free for it and each change noted what
-- it found.
pub record MayChange (d : Durable) (serial : Id) (file : List ℕ) (cs : List Change) : Type 0 where
  pub some : has_changes cs ≡ true
  pub unsettled : is_settled_in serial d.units.entries ≡ false
  pub names : NamesDiffer d.directory
  pub free : (f : File) → find_file file d.directory ≡ Some f → AllByRecursion (λ (c : Change). is_free serial f.history.live c.key ≡ true) cs
  pub found : (f : File) → find_file file d.directory ≡ Some f → Found cs (current f.history)

abbrev pub ChangesCanRestart : Type 0
ChangesCanRestart = (d : Durable) (v : Volatile) (tid serial : Id) (file : List ℕ) (cs : List Change) (keys : List Key) → CanRestart d → MayChange d serial file cs → CanRestart (durable_after (Changes tid serial file cs keys) v d)

-- the table does any act: a branch is prepared, is settled, or neither
abbrev pub TablesCanRestart : Type 0
TablesCanRestart = (d : Durable) (v : Volatile) (a : table.Act) (moment : ℕ) → CanRestart d → CanRestart (durable_after (Tables a moment) v d)

-- an abort is done in part, which keeps what was committed
abbrev pub HalvesCanRestart : Type 0
HalvesCanRestart = (d : Durable) (serial : Id) (standing : List ℕ → Map) → CanRestart d → ((place : ℕ) (f : File) → slice_index_or d.directory place None ≡ Some f → IsHalfUndone serial standing f) →
    CanRestart (with_half (Some serial) standing d)

-- a file is made that no branch changed and no entry is of; a file is marked, or saved; and one that no unsettled branch changed is recovered
abbrev pub CreatesCanRestart : Type 0
CreatesCanRestart = (d : Durable) (v : Volatile) (place : ℕ) (f : File) → CanRestart d → f.history.live ≡ [] → list_any (is_of_file f.name) d.units.entries ≡ false → CanRestart (durable_after (Creates place f) v d)

abbrev pub MarksCanRestart : Type 0
MarksCanRestart = (d : Durable) (v : Volatile) (file : List ℕ) (mark : Mark) → CanRestart d → CanRestart (durable_after (Marks file mark) v d)

abbrev pub SavesCanRestart : Type 0
SavesCanRestart = (d : Durable) (v : Volatile) (file : List ℕ) (start : ℕ) → CanRestart d → CanRestart (durable_after (Saves file start) v d)

abbrev pub RecoversCanRestart : Type 0
RecoversCanRestart = (d : Durable) (v : Volatile) (file : List ℕ) (start buckets : ℕ) (m : Records) → CanRestart d → ((f : File) → find_file file d.directory ≡ Some f → f.history.live ≡ []) →
    CanRestart (durable_after (Recovers file start buckets m) v d)

-- A branch of its own may make these changes of a file, and be committed at once: there are some, the branch is no unit, and in the file the keys are free for it
-- and each change noted what it found.
pub record MayDirect (d : Durable) (serial : Id) (file : List ℕ) (cs : List Change) : Type 0 where
  pub some : has_changes cs ≡ true
  pub fresh : is_unit serial d.units ≡ false
  pub free : (f : File) → find_file file d.directory ≡ Some f → AllByRecursion (λ (c : Change). is_free serial f.history.live c.key ≡ true) cs
  pub found : (f : File) → find_file file d.directory ≡ Some f → Found cs (current f.history)

abbrev pub DirectsCanRestart : Type 0
DirectsCanRestart = (d : Durable) (v : Volatile) (file : List ℕ) (cs : List Change) (tid serial : Id) (moment : ℕ) → CanRestart d → MayDirect d serial file cs →
    CanRestart (durable_after (Directs file cs (record { tid = tid; serial = serial; outcome = Commit; reason = None; moment = moment })) v d)

-- Locks.

-- each key that an unsettled branch changed in a file of this name is held by it
abbrev pub AreHeld : List Lock → List ℕ → List LiveChanges → Type 0
AreHeld locks file ls = AllByRecursion (λ (l : LiveChanges). (key : Key) → changes_key key l.changes ≡ true → holder locks file key ≡ Some l.serial) ls

-- So a key that no other branch holds is free;
abbrev pub UnlockedIsFree : Type 0
UnlockedIsFree = (locks : List Lock) (file : List ℕ) (ls : List LiveChanges) (serial : Id) (key : Key) → AreHeld locks file ls → SerialsDiffer ls → held_against (Some serial) (holder locks file key) ≡ None → is_free serial ls key ≡ true

-- and keys that are asked for by a branch, and that none refuses it, are.
abbrev pub HeldFree : Type 0
HeldFree = (n : Node) (file : List ℕ) (ls : List LiveChanges) (serial : Id) (keys : List Key) → AreHeld n.volatile.locks file ls → SerialsDiffer ls → keys_refused n (Some serial) file keys ≡ None →
    AllByRecursion (λ (key : Key). is_free serial ls key ≡ true) keys
