-- A file that a run finds, and what its journals and its save say of it.
use Rattle.std.specs.Prelude.{◌≡◌, ◌⊎◌, ℕ, ◌+◌, ◌≤◌, List, [], Bool, true, false, Option, Some, None, if◌then◌else◌, ◌&&◌, nat_le}
use Rattle.unit_laws.specs.vms_model.Ids.{Id}
use Rattle.unit_laws.specs.vms_model.Keys.{Key}
use Rattle.unit_laws.specs.records_model.Records.{Records, Found}
use Rattle.unit_laws.specs.records_model.History.{LiveChanges, changes_by, changes_key, records}
use Rattle.unit_laws.specs.Units.{SerialsDiffer}
use Rattle.recovery_model.specs.Images.{afters, befores, keys_of, touches, newest}
use Rattle.recovery_model.specs.Journal.{Entry, Below, Before, Once, Locked, is_settled, images_by, rolled_forward, rolled_back}
use Rattle.recovery_model.specs.File.{ImageJournal, Save, FileState, all_of, since, IsInOrder, IsPlace, IsCovering}
use Rattle.recovery_model.specs.Room.{HasRoom}

-- What the journals tell of an earlier moment: the save and the journal of after images where these reach it, else the journal of before images. Of a
-- moment that neither reaches nothing is told, and this may be anything.
abbrev pub past_of : ImageJournal → Option Save → List Entry → Records → ℕ → Records
past_of j None es total u = rolled_back u es total
past_of j (Some v) es total u = if j.on && (nat_le j.first v.position && nat_le v.moment u) then rolled_forward (Some u) (since v.position j.entries) v.records else rolled_back u es total

-- no key was changed by two unsettled branches
abbrev pub EachKeyIsOf : List LiveChanges → Type 0
EachKeyIsOf live = (k : Key) (r s : Id) → changes_key k (changes_by r live) ≡ true → changes_key k (changes_by s live) ≡ true → r ≡ s

-- What a journal of images says of branches, up to a moment: before a change of a key each other branch that changed it is settled; a branch is settled once, and
-- has no entry behind that; settlements are later and later; and a branch that is settled here has no unsettled changes.
pub record TellsBranches (g : ℕ) (live : List LiveChanges) (es : List Entry) : Type 0 where
  pub locked : Locked es
  pub once : Once es
  pub rises : Before (g + 1) es
  pub gone : (s : Id) → is_settled es s ≡ true → changes_by s live ≡ []

-- of the others it tells the keys that they changed, in order
abbrev pub TellsKeys : List LiveChanges → List Entry → Type 0
TellsKeys live es = (s : Id) → is_settled es s ≡ false → keys_of (images_by s es) ≡ keys_of (afters (changes_by s live))

-- and a journal of before images what these keys had
abbrev pub TellsFound : List LiveChanges → List Entry → Type 0
TellsFound live es = (s : Id) → is_settled es s ≡ false → images_by s es ≡ befores (changes_by s live)

-- What a save and the journal of after images say, where the journal reaches back to it. The entries since then: before a change of a key each
-- other branch that changed it is settled; they tell of each unsettled branch the keys that it changed, in order, so that it has no entry before the save;
-- those of one that may yet commit end in what stands; and they lead from the save's records to what has been committed.
pub record TellsSinceSave (waits : Id → Bool) (g : ℕ) (total : Records) (live : List LiveChanges) (es : List Entry) (v : Save) : Type 0 where
  pub locked : Locked es
  pub low : Below g es
  pub same : TellsKeys live es
  pub last : (s : Id) (q : Key) → is_settled es s ≡ false → waits s ≡ true → touches q (images_by s es) ≡ true → newest q (images_by s es) ≡ newest q (afters (changes_by s live))
  pub ends : rolled_forward None es v.records ≡ total

-- A save was made by now, not behind the end of the journal of after images, and where that reaches back to it, at a place where an entry begins or at the end.
pub record IsSaved (g : ℕ) (j : ImageJournal) (v : Save) : Type 0 where
  pub moment : v.moment ≤ g
  pub position : v.position ≤ j.end
  pub place : j.on ≡ true → IsCovering j v → IsPlace v.position j

-- A file whose journals and save agree with its history. `waits` says of an unsettled branch that it may yet commit; of a node's files it is to hold of
-- the prepared branches for which a committed record waits. And g is the greatest moment on the disk.
pub record IsLawful (waits : Id → Bool) (g : ℕ) (f : FileState) : Type 0 where
  -- each unsettled branch noted what it found
  pub found : (s : Id) → Found (changes_by s f.timeline.history.live) (records f.timeline.history)
  pub apart : EachKeyIsOf f.timeline.history.live
  pub one : SerialsDiffer f.timeline.history.live
  -- entries stand in their rings, and have room
  pub ai_order : IsInOrder f.ai
  pub bi_order : IsInOrder f.bi
  pub ai_room : f.ai.on ≡ true → HasRoom f.ai f.timeline.history.live
  pub bi_room : f.bi.on ≡ true → HasRoom f.bi f.timeline.history.live
  -- each journal that there is tells of branches, with a save or without
  pub ai_branches : f.ai.on ≡ true → TellsBranches g f.timeline.history.live (all_of f.ai.entries)
  pub bi_branches : f.bi.on ≡ true → TellsBranches g f.timeline.history.live (all_of f.bi.entries)
  pub ai_keys : f.ai.on ≡ true → TellsKeys f.timeline.history.live (all_of f.ai.entries)
  pub bi_found : f.bi.on ≡ true → TellsFound f.timeline.history.live (all_of f.bi.entries)
  pub begun : f.bi_since ≤ g
  pub saved : (v : Save) → f.save ≡ Some v → IsSaved g f.ai v
  pub by_save : (v : Save) → f.save ≡ Some v → f.ai.on ≡ true → IsCovering f.ai v → TellsSinceSave waits g (records f.timeline.history) f.timeline.history.live (since v.position f.ai.entries) v
  -- where both journals reach a moment, they give the same records
  pub both : (v : Save) (u : ℕ) → f.save ≡ Some v → f.ai.on ≡ true → IsCovering f.ai v → f.bi.on ≡ true → v.moment ≤ u → f.bi_since ≤ u →
      rolled_forward (Some u) (since v.position f.ai.entries) v.records ≡ rolled_back u (all_of f.bi.entries) (records f.timeline.history)

-- A file that a run finds: nothing has been settled in the run, what stood before is what the journals tell, and these agree with its history.
pub record IsOpening (waits : Id → Bool) (g : ℕ) (f : FileState) : Type 0 where
  pub settled : f.timeline.history.settled ≡ []
  pub moment : f.timeline.history.moment ≡ g
  pub past : f.timeline.past ≡ past_of f.ai f.save (all_of f.bi.entries) f.timeline.history.base
  pub lawful : IsLawful waits g f

-- a branch that may commit in the run is one that may yet commit, or one that had changed nothing in this file before the run
abbrev pub MayCommit : (may waits : Id → Bool) → FileState → Type 0
MayCommit may waits f = (s : Id) → may s ≡ true → (waits s ≡ true) ⊎ (changes_by s f.timeline.history.live ≡ [])

-- a file as the next run finds it
abbrev pub as_found : (g : ℕ) → FileState → FileState
as_found g f = record f {
  timeline = record {
    history = record { base = records f.timeline.history; moment = g; settled = []; live = f.timeline.history.live };
    past = past_of f.ai f.save (all_of f.bi.entries) (records f.timeline.history);
  };
}
