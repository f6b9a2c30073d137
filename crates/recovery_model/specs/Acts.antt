-- Acts on one file, when each may be done, and where they lead.
use Rattle.std.specs.Prelude.{◌≡◌, ℕ, ◌<◌, List, [], ◌∷◌, Bool, true, false}
use Rattle.std.specs.FinMap.{get}
use Rattle.unit_laws.specs.vms_model.Ids.{Id}
use Rattle.unit_laws.specs.vms_model.Transactions.{Outcome, Commit}
use Rattle.unit_laws.specs.records_model.Records.{Records, Change, Found}
use Rattle.unit_laws.specs.records_model.History.{changes_by, current, records, changed_it}
use Rattle.unit_laws.specs.Units.{is_free, latest_after, HasImages}
use Rattle.recovery_model.specs.Images.{befores}
use Rattle.recovery_model.specs.File.{FileState, changed_file, settled_file, half_aborted, renewed, ended, saved_file, recovered_file, IsOpenIn, IsStill}
use Rattle.recovery_model.specs.Room.{OneFits}

-- A branch changes a key; a branch of the node is settled, whether or not it changed the file; a fall cuts short the abort of a branch, which has these changes
-- from then on; a journal of after images or of before images begins anew in these blocks, or ends; the file is saved; and these records take the place of its
-- own. What a branch changes by one statement is several changes.
pub data Act : Type 0 where
  Changes : (tid serial : Id) → Change → Act
  Settles : (tid serial : Id) → Outcome → (moment : ℕ) → Act
  HalfAborts : (serial : Id) → List Change → Act
  BeginsAfters : (start blocks : ℕ) → Act
  EndsAfters : Act
  BeginsBefores : (start blocks : ℕ) → Act
  EndsBefores : Act
  Saves : (start buckets : ℕ) → Act
  Recovers : Records → Act

-- the greatest moment on the disk after an act
abbrev pub greatest_after : Act → ℕ → ℕ
greatest_after (Changes tid s c) g = g
greatest_after (Settles tid s outcome t) g = t
greatest_after (HalfAborts s cs) g = g
greatest_after (BeginsAfters start blocks) g = g
greatest_after EndsAfters g = g
greatest_after (BeginsBefores start blocks) g = g
greatest_after EndsBefores g = g
greatest_after (Saves start buckets) g = g
greatest_after (Recovers m) g = g

-- the file after an act
abbrev pub file_after : Act → (g : ℕ) → FileState → FileState
file_after (Changes tid s c) g f = changed_file tid s c f
file_after (Settles tid s outcome t) g f = settled_file tid s outcome t f
file_after (HalfAborts s cs) g f = half_aborted s cs f
file_after (BeginsAfters start blocks) g f = record f { ai = renewed start blocks f.ai }
file_after EndsAfters g f = record f { ai = ended f.ai }
file_after (BeginsBefores start blocks) g f = record f { bi = renewed start blocks f.bi; bi_since = g }
file_after EndsBefores g f = record f { bi = ended f.bi }
file_after (Saves start buckets) g f = saved_file start buckets g f
file_after (Recovers m) g f = recovered_file m g f

-- A branch may change a key that no other one changed, and notes what it finds there. Where it has no unsettled changes of the file yet, neither journal
-- tells that it is settled; and both have room for its entry, and with its first for its settlement.
pub record MayChange (s : Id) (c : Change) (f : FileState) : Type 0 where
  pub begins : changes_by s f.timeline.history.live ≡ [] → IsOpenIn s f
  pub found : c.before ≡ get (current f.timeline.history) c.key
  pub free : is_free s f.timeline.history.live c.key ≡ true
  pub fits : OneFits s c f

-- The abort of a branch that may not commit may be cut short. Its changes are of the same keys then and found the same; of each key the newest leaves one of the
-- images that the branch's changes of it had.
pub record MayHalfAbort (may : Id → Bool) (s : Id) (cs : List Change) (f : FileState) : Type 0 where
  pub aborts : may s ≡ false
  pub same : befores cs ≡ befores (changes_by s f.timeline.history.live)
  pub found : Found cs (records f.timeline.history)
  pub images : HasImages (latest_after cs) (changes_by s f.timeline.history.live)

-- When an act may be done, where these branches may commit. A settlement is later than all before it, and a commit of a branch that changed the file is of one
-- that may commit. A journal begins or ends, the file is saved and records are recovered while no unsettled branch has changed the file.
abbrev pub MayDo : (Id → Bool) → Act → (g : ℕ) → FileState → Type 0
MayDo may (Changes tid s c) g f = MayChange s c f
MayDo may (Settles tid s outcome t) g f = (g < t) × (changed_it f.timeline.history s ≡ true → outcome ≡ Commit → may s ≡ true)
MayDo may (HalfAborts s cs) g f = MayHalfAbort may s cs f
MayDo may (BeginsAfters start blocks) g f = IsStill f
MayDo may EndsAfters g f = IsStill f
MayDo may (BeginsBefores start blocks) g f = IsStill f
MayDo may EndsBefores g f = IsStill f
MayDo may (Saves start buckets) g f = IsStill f
MayDo may (Recovers m) g f = IsStill f

-- these acts, the newest first, lead from one file to another, and from one greatest moment to another
abbrev pub Leads : (Id → Bool) → List Act → (g : ℕ) → FileState → (n : ℕ) → FileState → Type 0
Leads may [] g f n e = (n ≡ g) × (e ≡ f)
Leads may (a ∷ acts) g f n e = (m : ℕ) × (d : FileState) × Leads may acts g f m d × MayDo may a m d × (n ≡ greatest_after a m) × (e ≡ file_after a m d)
