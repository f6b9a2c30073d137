-- What becomes of one file of a volume while a unit is undone in it.
use Rattle.std.specs.Prelude.{◌≡◌, ℕ, ◌<◌, ◌≤◌, ◌==◌, true, false, List, Option, Some, None, slice_get, slice_set}
use Rattle.std.specs.List.{AllByRecursion}
use Rattle.careful_write.specs.State.{Leaves}
use Rattle.file_base.specs.declared.head.FileHead.{FileHead}
use Rattle.file_base.specs.declared.head.Organization.TheVariants.{Sequential}
use Rattle.unit_entries.specs.change_set.Files.{AgreesOn, AgreesOut, SameFile}
use Rattle.directory_model.specs.seq_file.Layout.{records_in}
use Rattle.vms_model.specs.Ids.{Id}
use Rattle.vms_model.specs.Keys.{Key}
use Rattle.records_model.specs.Records.{Change}
use Rattle.records_model.specs.History.{LiveChanges, changes_by}
use Rattle.unit_entries.specs.sequence_laws.Undoing.{GoesBack}
use Rattle.unit_entries.specs.unit_laws.Units.{OneMovesEnd}
use Rattle.unit_entries.specs.run_model.World.{File}
use Rattle.directory_model.specs.Files.{head_at, file_at}
use Rattle.directory_model.specs.Restoring.{IsLeft, IsRestored}
use Rattle.volume.specs.State.{SameVolume, VolumeState}
use Rattle.volume_files.specs.Staging.{is_of_file}
use Rattle.unit_entries.specs.Keys.{KeyTold, lowest_in, number_for}
use Rattle.unit_entries.specs.Told.{TellsKeys}
use Rattle.unit_undo.specs.Steps.{has_key, AreSetBack, ArePositions, ArePositionsBack}
use Rattle.unit_undo.specs.Undoing.{GoesOn, ChangesFile, CutsFrom, IsFew, SetsToEntry, TellsInPlace}
use Rattle.unit_undo.specs.Way.{IsOnTheWay, IsUnderWay}

-- One file was changed, in as many groups as it took, of which the last is staged.
pub record ChangesOnly (file : ℕ) (h : FileHead) (old mid : VolumeState) (new : FileHead) : Type 0 where
  pub goes : GoesOn old mid
  pub same : SameFile h new
  pub heads : mid.catalog.heads ≡ slice_set old.catalog.heads file (Some new)
  pub blocks : AgreesOut (is_of_file file h) old.store.current mid.store.current

-- A branch that is to be undone, in a world whose directory this is, from a content and the heads of its files on.
pub record Undo : Type 0 where
  pub serial : Id
  pub content : List (List ℕ)
  pub heads : List (Option FileHead)
  pub directory : List (Option File)

abbrev pub changes_in : Undo → File → List Change
changes_in u file = changes_by u.serial file.history.live

abbrev pub IsGoing : Undo → VolumeState → Type 0
IsGoing u v = IsUnderWay u.serial u.content u.heads u.directory v

-- Where the disk goes down, each image has a content that is on the way.
abbrev pub FailsGoing : Undo → (v w : VolumeState) → Type 0
FailsGoing u v w = Leaves (IsOnTheWay u.serial u.content u.heads u.directory v.catalog) w.store.disk

-- A file in which the branch is still to be undone: nothing of it was changed, and these keys tell what the branch changed.
pub record IsStill (u : Undo) (f : ℕ) (first : FileHead) (file : File) (ks : List KeyTold) (v : VolumeState) : Type 0 where
  pub way : IsGoing u v
  pub there : head_at u.heads f ≡ Some first
  pub named : file_at u.directory f ≡ Some file
  pub agrees : AgreesOn first u.content way.now
  pub left : IsLeft u.content first file
  pub tells : TellsKeys v.catalog.ru u.content f ks (changes_in u file)
  pub positions : first.organization ≡ Sequential → ArePositions (changes_in u file)
  pub ends : first.organization ≡ Sequential → OneMovesEnd file.history.live

-- A relative or indexed file: the first so many of the keys that are its own are set back.
pub record IsPartlyBack (u : Undo) (f : ℕ) (first : FileHead) (file : File) (ks : List KeyTold) (count : ℕ) (v : VolumeState) (h : FileHead) : Type 0 where
  pub way : IsGoing u v
  pub done : List Key
  pub back : AreSetBack u.content first (changes_in u file) done way.now h
  pub each : (i : ℕ) (k : KeyTold) → i < count → slice_get ks i ≡ Some k → (k.file == f) ≡ true → has_key k.key done ≡ true

-- A sequential file: its positions up to one are set back, and the other branches can still be undone.
pub record IsBackUpTo (u : Undo) (f : ℕ) (first : FileHead) (file : File) (from : ℕ) (v : VolumeState) (h : FileHead) : Type 0 where
  pub way : IsGoing u v
  pub back : ArePositionsBack u.content first (changes_in u file) from way.now h
  pub others : AllByRecursion (λ (l : LiveChanges). (other : List (List ℕ)) × GoesBack first l.changes (records_in h way.now) other) file.history.live

-- A file in which the branch is undone.
pub record IsBack (u : Undo) (first : FileHead) (file : File) (v : VolumeState) (h : FileHead) : Type 0 where
  pub way : IsGoing u v
  pub restored : IsRestored u.content first (changes_in u file) way.now h

-- from one state of the volume in which a file is still to be undone to another: what each of them tells of the undo
abbrev pub TellsPartly : (f count : ℕ) → FileHead → List KeyTold → VolumeState → VolumeState → FileHead → Type 0
TellsPartly f count first ks v w h = (u : Undo) (file : File) → IsStill u f first file ks v → IsPartlyBack u f first file ks count w h

abbrev pub TellsUpTo : (f from : ℕ) → FileHead → List KeyTold → VolumeState → VolumeState → FileHead → Type 0
TellsUpTo f from first ks v w h = (u : Undo) (file : File) → IsStill u f first file ks v → IsBackUpTo u f first file from w h

abbrev pub TellsBackFile : (f : ℕ) → FileHead → List KeyTold → VolumeState → VolumeState → FileHead → Type 0
TellsBackFile f first ks v w h = (u : Undo) (file : File) → IsStill u f first file ks v → IsBack u first file w h

abbrev pub TellsFailed : (f : ℕ) → FileHead → List KeyTold → VolumeState → VolumeState → Type 0
TellsFailed f first ks v w = (u : Undo) (file : File) → IsStill u f first file ks v → FailsGoing u v w

-- a key that is this number of the file can be set back in place
pub record FitsAt (f n : ℕ) (h : FileHead) (ks : List KeyTold) (v : VolumeState) : Type 0 where
  pub place : ℕ
  pub key : KeyTold
  pub at : slice_get ks place ≡ Some key
  pub is : number_for f key ≡ Some n
  pub fits : TellsInPlace h key.key key.first v true

-- so can each number of the file from one on and before another
abbrev pub AreInPlace : (f lowest until : ℕ) → FileHead → List KeyTold → VolumeState → Type 0
AreInPlace f lowest until h ks v = (i n : ℕ) (k : KeyTold) → slice_get ks i ≡ Some k → number_for f k ≡ Some n → lowest ≤ n → n < until → FitsAt f n h ks v

-- The first number of a file that cannot be set back in place, from the lowest one on that had no record before a change; or there is none.
pub data FindsOff (f : ℕ) (h : FileHead) (ks : List KeyTold) (v : VolumeState) (found : Option ℕ) : Type 0 where
  found_at : (lowest i n : ℕ) (k : KeyTold) → lowest_in f ks ≡ Some lowest → found ≡ Some n → slice_get ks i ≡ Some k → number_for f k ≡ Some n → lowest ≤ n → TellsInPlace h k.key k.first v false → AreInPlace f lowest n h ks v → FindsOff f h ks v found
  none_off : (lowest : ℕ) → lowest_in f ks ≡ Some lowest → found ≡ None → ((until : ℕ) → AreInPlace f lowest until h ks v) → FindsOff f h ks v found
  end_still : lowest_in f ks ≡ None → found ≡ None → FindsOff f h ks v found

-- so far none was found from the lowest one on
pub record HasFound (f lowest until : ℕ) (h : FileHead) (ks : List KeyTold) (v w : VolumeState) : Type 0 where
  pub same : SameVolume v w
  pub least : lowest ≤ until
  pub fit : AreInPlace f lowest until h ks v

-- Positions were taken away from that one on, or none stands there.
pub data CutsOff (f : ℕ) (h : FileHead) (ks : List KeyTold) (v w : VolumeState) (new : FileHead) : Type 0 where
  cut : (from : ℕ) → FindsOff f h ks v (Some from) → ChangesFile f h v w new → CutsFrom h from v w new → CutsOff f h ks v w new
  stays : (found : Option ℕ) → FindsOff f h ks v found → ((from : ℕ) → found ≡ Some from → 1 ≤ from → h.count < from) → SameVolume v w → new ≡ h → CutsOff f h ks v w new

-- So far in a file: this was changed, it is told so, and so many steps are staged.
pub record HasSet (f count : ℕ) (first : FileHead) (ks : List KeyTold) (v w : VolumeState) (steps : ℕ) (h : FileHead) : Type 0 where
  pub only : ChangesOnly f first v w h
  pub partly : TellsPartly f count first ks v w h
  pub few : IsFew steps w

pub record HasPlaced (f from : ℕ) (first : FileHead) (ks : List KeyTold) (v w : VolumeState) (steps : ℕ) (h : FileHead) : Type 0 where
  pub only : ChangesOnly f first v w h
  pub placed : TellsUpTo f from first ks v w h
  pub few : IsFew steps w

-- One key more was set back in a file, or it is one of another file.
pub data SetsOne (f : ℕ) (k : KeyTold) (v w : VolumeState) (h new : FileHead) (steps more : ℕ) : Type 0 where
  own : (k.file == f) ≡ true → ChangesFile f h v w new → SetsToEntry h k.key k.first v w new → IsFew more w → SetsOne f k v w h new steps more
  off : (k.file == f) ≡ false → w ≡ v → new ≡ h → more ≡ steps → SetsOne f k v w h new steps more

-- One position more was set back, or it had no record.
pub data PlacesOne (f : ℕ) (k : KeyTold) (v w : VolumeState) (h new : FileHead) (steps more : ℕ) : Type 0 where
  had : k.had ≡ true → ChangesFile f h v w new → SetsToEntry h k.key k.first v w new → IsFew more w → PlacesOne f k v w h new steps more
  gone : k.had ≡ false → w ≡ v → new ≡ h → more ≡ steps → PlacesOne f k v w h new steps more

-- The branch is undone in the file of a number, or there is none.
pub data UndoesNumber (f : ℕ) (ks : List KeyTold) (v w : VolumeState) : Type 0 where
  there : (first new : FileHead) → head_at v.catalog.heads f ≡ Some first → ChangesOnly f first v w new → TellsBackFile f first ks v w new → UndoesNumber f ks v w
  free : head_at v.catalog.heads f ≡ None → w ≡ v → UndoesNumber f ks v w

-- the disk went down meanwhile
pub record FailsNumber (f : ℕ) (ks : List KeyTold) (v w : VolumeState) : Type 0 where
  pub first : FileHead
  pub there : head_at v.catalog.heads f ≡ Some first
  pub failed : TellsFailed f first ks v w
