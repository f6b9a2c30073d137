-- The last after images of unsettled branches, over all entries of a journal: what keeps it so that they are the values that stand.
use Rattle.std.specs.Prelude.{◌≡◌, ℕ, List, Bool, true, false}
use Rattle.std.specs.FinMap.{get}
use Rattle.vms_model.specs.Ids.{Id}
use Rattle.vms_model.specs.Keys.{Key}
use Rattle.records_model.specs.Records.{Change, Records}
use Rattle.records_model.specs.History.{changes_by, current}
use Rattle.recovery_model.specs.unit_laws.Units.{Map}
use Rattle.recovery_model.specs.Images.{afters, newest, touches}
use Rattle.recovery_model.specs.Journal.{images_by, is_settled}
use Rattle.recovery_model.specs.File.{FileState, IsStill, all_of}
use Rattle.recovery_model.specs.Opening.{IsLawful, MayCommit, TellsKeys}
use Rattle.recovery_laws.specs.run_model.World.{File, Mark, Settlement, changed_file, directly_changed, half_undone, marked_file, recovered_file, saved_file, settled_file, state_of}

-- Of each unsettled branch that may yet commit, the last image of a key in the journal of after images is what the branch's last change of the key set.
abbrev pub LastImagesStand : (waits : Id → Bool) → FileState → Type 0
LastImagesStand waits f = f.ai.on ≡ true → (s : Id) (q : Key) → is_settled (all_of f.ai.entries) s ≡ false → waits s ≡ true → touches q (images_by s (all_of f.ai.entries)) ≡ true →
    newest q (images_by s (all_of f.ai.entries)) ≡ newest q (afters (changes_by s f.timeline.history.live))

-- In a file whose journals agree with its history that is the value that stands.
abbrev pub AreValues : (waits : Id → Bool) → FileState → Type 0
AreValues waits f = f.ai.on ≡ true → (s : Id) (q : Key) → is_settled (all_of f.ai.entries) s ≡ false → waits s ≡ true → touches q (images_by s (all_of f.ai.entries)) ≡ true →
    newest q (images_by s (all_of f.ai.entries)) ≡ get (current f.timeline.history) q

pub record StandAsValues (waits : Id → Bool) (f : FileState) : Type 0 where
  pub values : LastImagesStand waits f → AreValues waits f
  pub back : AreValues waits f → LastImagesStand waits f

abbrev pub LastImagesAreValues : Type 0
LastImagesAreValues = (waits lasts : Id → Bool) (g : ℕ) (f : FileState) → IsLawful waits g f → StandAsValues lasts f

-- So it stays behind each act: behind changes, a settlement, the part of an abort of a branch that may not commit, a mark, a save and a recovery.
pub record LastImagesStay (may : Id → Bool) (f : File) : Type 0 where
  pub changes : (held : Key → Bool) (tid serial : Id) (cs : List Change) → LastImagesStand may (state_of (changed_file held tid serial cs f))
  pub directs : (held : Key → Bool) (s : Settlement) (cs : List Change) → LastImagesStand may (state_of (directly_changed held s cs f))
  pub settles : (s : Settlement) → LastImagesStand may (state_of (settled_file s f))
  pub halves : (serial : Id) (standing : List ℕ → Map) → may serial ≡ false → LastImagesStand may (state_of (half_undone serial standing f))
  pub marks : (mark : Mark) (g : ℕ) → LastImagesStand may (state_of (marked_file mark g f))
  pub saves : (start g : ℕ) → LastImagesStand may (state_of (saved_file start g f))
  pub recovers : (start buckets g : ℕ) (m : Records) → LastImagesStand may (state_of (recovered_file start buckets m g f))

abbrev pub ActsKeepLastImages : Type 0
ActsKeepLastImages = (may : Id → Bool) (f : File) → LastImagesStand may (state_of f) → LastImagesStay may f

-- Where it is so of the branches that may yet commit when a run begins, it is so of those that may commit in the run, where each of these that had changed the file is
-- one of them; and of some of the branches where it is so of all.
abbrev pub MoreLastImages : Type 0
MoreLastImages = (may waits : Id → Bool) (f : FileState) → MayCommit may waits f → (f.ai.on ≡ true → TellsKeys f.timeline.history.live (all_of f.ai.entries)) → LastImagesStand waits f → LastImagesStand may f

abbrev pub FewerLastImages : Type 0
FewerLastImages = (may next : Id → Bool) (f : FileState) → ((s : Id) → next s ≡ true → may s ≡ true) → LastImagesStand may f → LastImagesStand next f

-- Of a file that no unsettled branch changed it is so of any branches.
abbrev pub StillFilesStand : Type 0
StillFilesStand = (waits lasts : Id → Bool) (g : ℕ) (f : FileState) → IsLawful waits g f → IsStill f → LastImagesStand lasts f
