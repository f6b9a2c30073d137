-- What it is for a journal to cover a file's timeline, and what each act keeps.
use Rattle.std.specs.Prelude.{◌≡◌, ℕ, ◌<◌, ◌≤◌, List, [], ◌∷◌, Bool, true, false, Option, Some, None}
use Rattle.unit_laws.specs.vms_model.Ids.{Id}
use Rattle.unit_laws.specs.vms_model.Keys.{Key}
use Rattle.unit_laws.specs.vms_model.Transactions.{Outcome}
use Rattle.unit_laws.specs.records_model.Records.{Records, Change, Found, applied}
use Rattle.unit_laws.specs.records_model.History.{LiveChanges, SettledChanges, same_id, changes_by, changed_with, without, records}
use Rattle.unit_laws.specs.Units.{SerialsDiffer}
use Rattle.recovery_model.specs.Images.{touches}
use Rattle.recovery_model.specs.Journal.{Entry, Changed, Settled, is_settled, images_by, Below, rolled_forward, rolled_back}
use Rattle.recovery_model.specs.Timeline.{Timeline, records_at}
use Rattle.recovery_model.specs.File.{ImageJournal, Save, Placed, FileState, all_of, since, IsCovering}
use Rattle.recovery_model.proofs.Images.{changes, sets, unsets}

-- the unsettled changes of each branch
abbrev pub unsettled : List LiveChanges → Id → List Change
unsettled bs s = changes_by s bs

-- a timeline after one change more of an unsettled branch
abbrev pub changed_now : Id → Change → Timeline → Timeline
changed_now s c t = record t { history = changed_with s (c ∷ []) t.history }

-- and after a branch is settled that changed the file
abbrev pub settled_now : Id → Outcome → ℕ → Timeline → Timeline
settled_now s outcome m t = record t { history = record t.history { settled = record { serial = s; outcome = outcome; moment = m; changes = unsettled t.history.live s } ∷ t.history.settled; live = without s t.history.live } }

-- no key in two branches
abbrev pub Apart : (Id → List Change) → Type 0
Apart live = (k : Key) (r s : Id) → changes k (live r) ≡ true → changes k (live s) ≡ true → r ≡ s

-- no other branch changed the key
abbrev pub Free : Key → Id → (Id → List Change) → Type 0
Free k s live = (r : Id) → same_id r s ≡ false → changes k (live r) ≡ false

-- no other branch changed a key after this one had
abbrev pub OnTop : Id → List Entry → Type 0
OnTop s [] = Unit {0}
OnTop s (Changed r k v ∷ es) = (same_id r s ≡ false → touches k (images_by s es) ≡ false) × OnTop s es
OnTop s (Settled r c t ∷ es) = OnTop s es

abbrev pub Until : ℕ → List SettledChanges → Type 0
Until g [] = Unit {0}
Until g (x ∷ xs) = (x.moment ≤ g) × Until g xs

-- of a timeline, where g is the greatest moment on the disk
pub record Sound (g : ℕ) (h : Timeline) : Type 0 where
  pub start : h.history.moment ≤ g
  pub moments : Until g h.history.settled
  pub one : SerialsDiffer h.history.live
  pub found : (s : Id) → Found (unsettled h.history.live s) (records h.history)
  pub apart : Apart (unsettled h.history.live)

-- The entries of the unsettled branches, beside their changes. Those of a branch of an opening may be others than its changes, so they are tied by what they
-- do: of the branches that may still commit, they set what the changes set.
pub record TiesForward (may : Id → Bool) (es : List Entry) (live : Id → List Change) : Type 0 where
  pub keys : (s : Id) (k : Key) → is_settled es s ≡ false → touches k (images_by s es) ≡ changes k (live s)
  pub stands : (s : Id) → is_settled es s ≡ false → OnTop s es
  pub holds : (s : Id) (m : Records) → is_settled es s ≡ false → may s ≡ true → sets (images_by s es) m ≡ applied (live s) m

pub record TiesBackward (es : List Entry) (live : Id → List Change) (total : Records) : Type 0 where
  pub keys : (s : Id) (k : Key) → is_settled es s ≡ false → touches k (images_by s es) ≡ changes k (live s)
  pub stands : (s : Id) → is_settled es s ≡ false → OnTop s es
  pub holds : (s : Id) → is_settled es s ≡ false → unsets (images_by s es) (applied (live s) total) ≡ total

-- a moment from this one on, or none
abbrev pub Reaches : ℕ → Option ℕ → Type 0
Reaches from None = Unit {0}
Reaches from (Some u) = from ≤ u

-- the entries since a save of `start`, made at `from`
pub record CoversForward (may : Id → Bool) (es : List Entry) (start : Records) (from : ℕ) (g : ℕ) (h : Timeline) : Type 0 where
  pub ties : TiesForward may es (unsettled h.history.live)
  pub low : Below g es
  pub gives : (u : Option ℕ) → Reaches from u → rolled_forward u es start ≡ records_at h u

-- all the entries, of a journal begun at `since`
pub record CoversBackward (es : List Entry) (since : ℕ) (g : ℕ) (h : Timeline) : Type 0 where
  pub ties : TiesBackward es (unsettled h.history.live) (records h.history)
  pub low : Below g es
  pub gives : (u : ℕ) → since ≤ u → rolled_back u es (records h.history) ≡ records_at h (Some u)

abbrev pub SaveGives : (Id → Bool) → ℕ → ImageJournal → Option Save → Timeline → Type 0
SaveGives may g j None h = Unit {0}
SaveGives may g j (Some v) h = (v.position ≤ j.end) × (j.on ≡ true → IsCovering j v → CoversForward may (since v.position j.entries) v.records v.moment g h)

-- each entry lies before the one after it, and the last before the end
abbrev pub Ascends : ℕ → List Placed → Type 0
Ascends end [] = Unit {0}
Ascends end (x ∷ xs) = (x.at < end) × Ascends x.at xs

-- what ties a file's journals and its save to its timeline, where these branches may still commit
pub record Kept (may : Id → Bool) (g : ℕ) (f : FileState) : Type 0 where
  pub sound : Sound g f.timeline
  pub ai_ascends : Ascends f.ai.end f.ai.entries
  pub bi_ascends : Ascends f.bi.end f.bi.entries
  pub save : SaveGives may g f.ai f.save f.timeline
  pub bi : f.bi.on ≡ true → CoversBackward (all_of f.bi.entries) f.bi_since g f.timeline
