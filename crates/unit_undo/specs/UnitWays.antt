-- What becomes of the files of a volume, one after another, while a unit is undone.
use Rattle.std.specs.Prelude.{◌≡◌, ℕ, ◌<◌, ◌≤◌, List, Option, Some}
use Rattle.file_base.specs.declared.head.FileHead.{FileHead}
use Rattle.vms_model.specs.Ids.{Id}
use Rattle.unit_entries.specs.change_set.Files.{AgreesOn}
use Rattle.unit_entries.specs.run_model.World.{File}
use Rattle.directory_model.specs.Files.{head_at, file_at}
use Rattle.directory_model.specs.Restoring.{IsPlaceRestored}
use Rattle.journal_format.specs.journal_model.Entries.{Entry}
use Rattle.volume.specs.State.{VolumeState}
use Rattle.unit_entries.specs.Collecting.{AreChangesAt}
use Rattle.unit_entries.specs.Keys.{KeyTold, keys_told}
use Rattle.unit_undo.specs.Undoing.{GoesOn, IsFew}
use Rattle.unit_undo.specs.FileWays.{Undo, IsGoing}
use Rattle.unit_undo.specs.Way.{IsUndoable}

-- the undo of a branch from a volume on
abbrev pub undo_of : Id → List (List ℕ) → VolumeState → List (Option File) → Undo
undo_of serial content v directory = record { serial = serial; content = content; heads = v.catalog.heads; directory = directory }

-- The branch is undone in the files of the first so many numbers, and nothing was changed in the others.
pub record IsUndoneIn (u : Undo) (count : ℕ) (v : VolumeState) : Type 0 where
  pub way : IsGoing u v
  pub done : (f : ℕ) → f < count → IsPlaceRestored u.serial u.content (head_at u.heads f) (file_at u.directory f) way.now (head_at v.catalog.heads f)
  pub rest : (f : ℕ) → count ≤ f → head_at v.catalog.heads f ≡ head_at u.heads f
  pub agrees : (f : ℕ) (h : FileHead) → count ≤ f → head_at u.heads f ≡ Some h → AgreesOn h u.content way.now

-- these are the keys that the entries at these positions tell
abbrev pub TellsUnit : (ps : List ℕ) → List KeyTold → VolumeState → Type 0
TellsUnit ps ks v = (a : List (List ℕ)) (es : List Entry) → v.store.current ≡ Some a → AreChangesAt v.catalog.ru ps es a → ks ≡ keys_told v.catalog.heads ps es

-- so it is from each content in which the branch can be undone
abbrev pub TellsUndone : (ps : List ℕ) → (count : ℕ) → VolumeState → VolumeState → Type 0
TellsUndone ps count v w = (serial : Id) (a : List (List ℕ)) (directory : List (Option File)) (es : List Entry) → IsUndoable serial ps v a directory es → IsUndoneIn (undo_of serial a v directory) count w

-- so far over the numbers of files
pub record HasUndone (ps : List ℕ) (count : ℕ) (v w : VolumeState) (steps : ℕ) : Type 0 where
  pub goes : GoesOn v w
  pub few : IsFew steps w
  pub undone : TellsUndone ps count v w
