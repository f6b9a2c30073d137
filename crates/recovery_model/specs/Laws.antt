-- What holds of the journals and the save of a file, whatever is done with it.
use Rattle.std.specs.Prelude.{◌≡◌, true, ℕ, ◌+◌, ◌-◌, ◌*◌, ◌≤◌, List, [], ◌∷◌, Bool, None, Option, Some, reverse, map}
use Rattle.std.specs.List.{list_any}
use Rattle.unit_laws.specs.vms_model.Ids.{Id}
use Rattle.unit_laws.specs.records_model.Records.{Records, Change}
use Rattle.unit_laws.specs.records_model.History.{same_id, changes_by, current, records, changed_it, first_to_change}
use Rattle.unit_laws.specs.Units.{SerialsDiffer}
use Rattle.unit_laws.specs.Journal.{entry_size}
use Rattle.recovery_model.specs.Journal.{Entry, Below, entry_in, entry_length, rolled_forward, rolled_back}
use Rattle.recovery_model.specs.File.{FileState, created, changed_file, IsOpenIn, IsStill}
use Rattle.recovery_model.specs.Room.{OneFits, full_of}
use Rattle.recovery_model.specs.Opening.{IsOpening, MayCommit, as_found}
use Rattle.recovery_model.specs.Acts.{Act, Leads}
use Rattle.recovery_model.specs.Recovery.{Way, refusal, rolled, records_by, Covers, IsUser}
use Rattle.recovery_model.specs.Places.{applied_places, undone_places, sets_at, header_of}

-- each recovery that is not refused gives the records of its moment
abbrev pub Recovers : FileState → Type 0
Recovers f = (way : Way) (user : Option Id) → IsUser user f → refusal way user f ≡ None → rolled way f ≡ records_by way f

-- so it is of a file that a run found, whatever was done with it since
abbrev pub FoundRecovers : Type 0
FoundRecovers = (may waits : Id → Bool) (acts : List Act) (g : ℕ) (f : FileState) (n : ℕ) (e : FileState) → IsOpening waits g f → MayCommit may waits f → Leads may acts g f n e → Recovers e

-- and of one that was made in the run
abbrev pub CreatedRecovers : Type 0
CreatedRecovers = (may : Id → Bool) (acts : List Act) (past : ℕ → Records) (g n : ℕ) (e : FileState) → Leads may acts g (created g past) n e → Recovers e

-- What is left is what the next run may find, with those branches that may yet commit then.
abbrev pub LeftIsFound : Type 0
LeftIsFound = (may waits next : Id → Bool) (acts : List Act) (g : ℕ) (f : FileState) (n : ℕ) (e : FileState) → IsOpening waits g f → MayCommit may waits f → ((s : Id) → next s ≡ true → may s ≡ true) → Leads may acts g f n e →
    IsOpening next n (as_found n e)

abbrev pub CreatedIsFound : Type 0
CreatedIsFound = (may next : Id → Bool) (acts : List Act) (past : ℕ → Records) (g n : ℕ) (e : FileState) → ((s : Id) → next s ≡ true → may s ≡ true) → Leads may acts g (created g past) n e → IsOpening next n (as_found n e)

-- A recovery that the journals and the save reach, of the next run at once and of this one, is to give the same.
abbrev pub StaysTold : (n : ℕ) → FileState → Type 0
StaysTold n e = (way : Way) → Covers way e → Covers way (as_found n e) × (records_by way (as_found n e) ≡ records_by way e)

abbrev pub FoundStaysTold : Type 0
FoundStaysTold = (may waits : Id → Bool) (acts : List Act) (g : ℕ) (f : FileState) (n : ℕ) (e : FileState) → IsOpening waits g f → MayCommit may waits f → Leads may acts g f n e → StaysTold n e

abbrev pub CreatedStaysTold : Type 0
CreatedStaysTold = (may : Id → Bool) (acts : List Act) (past : ℕ → Records) (g n : ℕ) (e : FileState) → Leads may acts g (created g past) n e → StaysTold n e

-- Users.

-- one of these ids
abbrev pub is_among : Id → List Id → Bool
is_among s ids = list_any (same_id s) ids

-- Where each unsettled branch that changed the file is among branches in an order, the first of these that changed it is a user; and where none did, what stands is
-- what has been committed.
pub record UsersAreFirst (f : FileState) (order : List Id) : Type 0 where
  pub first : ((s : Id) → changed_it f.timeline.history s ≡ true → is_among s order ≡ true) → IsUser (first_to_change f.timeline.history order) f
  pub still : SerialsDiffer f.timeline.history.live → IsStill f → current f.timeline.history ≡ records f.timeline.history

abbrev pub EachUserIsFirst : Type 0
EachUserIsFirst = (f : FileState) (order : List Id) → UsersAreFirst f order

-- Room.

-- a file after changes of a branch, one after another; the newest stands first
abbrev pub all_changed : (tid serial : Id) → List Change → FileState → FileState
all_changed tid s [] f = f
all_changed tid s (c ∷ cs) f = changed_file tid s c (all_changed tid s cs f)

-- each of them fits both journals in its turn
abbrev pub EachFits : (tid serial : Id) → List Change → FileState → Type 0
EachFits tid s [] f = Unit {0}
EachFits tid s (c ∷ cs) f = OneFits s c (all_changed tid s cs f) × EachFits tid s cs f

-- The changes of one statement, of a branch that the journals do not tell to be settled, fit where neither ring is full; and a settlement always fits.
pub record RoomSuffices (f : FileState) : Type 0 where
  pub changes : (tid s : Id) (cs : List Change) → (changes_by s f.timeline.history.live ≡ [] → IsOpenIn s f) → full_of s cs f ≡ None → EachFits tid s cs f
  pub afters : (s : Id) → changed_it f.timeline.history s ≡ true → f.ai.on ≡ true → f.ai.end - f.ai.first + 48 ≤ 512 * f.ai.blocks
  pub befores : (s : Id) → changed_it f.timeline.history s ≡ true → f.bi.on ≡ true → f.bi.end - f.bi.first + 48 ≤ 512 * f.bi.blocks

abbrev pub FoundHasRoom : Type 0
FoundHasRoom = (may waits : Id → Bool) (acts : List Act) (g : ℕ) (f : FileState) (n : ℕ) (e : FileState) → IsOpening waits g f → MayCommit may waits f → Leads may acts g f n e → RoomSuffices e

abbrev pub CreatedHasRoom : Type 0
CreatedHasRoom = (may : Id → Bool) (acts : List Act) (past : ℕ → Records) (g n : ℕ) (e : FileState) → Leads may acts g (created g past) n e → RoomSuffices e

-- The images at the places of the entries, set in order, are what a recovery makes. Where no moment is said, any will do that no settlement is later than.
pub record PlacesRoll (until : ℕ) (es : List Entry) (m : Records) : Type 0 where
  pub forward : sets_at (applied_places until (map header_of (reverse es))) (reverse es) m ≡ rolled_forward (Some until) es m
  pub last : Below until es → sets_at (applied_places until (map header_of (reverse es))) (reverse es) m ≡ rolled_forward None es m
  pub backward : sets_at (undone_places until (map header_of (reverse es))) (reverse es) m ≡ rolled_back until es m

abbrev pub PlacesAreRolled : Type 0
PlacesAreRolled = (until : ℕ) (es : List Entry) (m : Records) → PlacesRoll until es m

-- an entry takes as many bytes as that of any journal which says the same
abbrev pub SizesAgree : Type 0
SizesAgree = (tid : Id) (file : List ℕ) (e : Entry) → entry_size (entry_in tid file e) ≡ entry_length e

-- What records have on the way.

-- of what each recovery is to give that the journals and the save reach, whoever uses the file
abbrev pub GivesMaps : (Records → Type 0) → FileState → Type 0
GivesMaps P f = (way : Way) → Covers way f → P (records_by way f)

-- and of the records of each file on a way of acts, the first and the last too
abbrev pub EachRecords : (Records → Type 0) → (may : Id → Bool) → (acts : List Act) → (g : ℕ) (f : FileState) (n : ℕ) (e : FileState) → Leads may acts g f n e → Type 0
EachRecords P may [] g f n e l = P (records f.timeline.history)
EachRecords P may (a ∷ acts) g f n e l = P (records e.timeline.history) × EachRecords P may acts g f l.0 l.1 l.2

-- whether a test holds of records
abbrev pub Passes : (Records → Bool) → Records → Type 0
Passes test m = test m ≡ true

-- A test that the records pass all the way, and what recoveries were to give where a run found the file, is passed by what they are to give at the end.
abbrev pub MapsStay : Type 0
MapsStay = (test : Records → Bool) (may waits : Id → Bool) (acts : List Act) (g : ℕ) (f : FileState) (n : ℕ) (e : FileState) → IsOpening waits g f → MayCommit may waits f → (l : Leads may acts g f n e) →
    EachRecords (Passes test) may acts g f n e l → GivesMaps (Passes test) f → GivesMaps (Passes test) e

abbrev pub CreatedMapsStay : Type 0
CreatedMapsStay = (test : Records → Bool) (may : Id → Bool) (acts : List Act) (past : ℕ → Records) (g n : ℕ) (e : FileState) → (l : Leads may acts g (created g past) n e) →
    EachRecords (Passes test) may acts g (created g past) n e l → GivesMaps (Passes test) e
