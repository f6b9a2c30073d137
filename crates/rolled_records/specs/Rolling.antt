-- Entries of a file's journal of images that are read again, and what is made of records by them.
use Rattle.std.specs.Prelude.{◌≡◌, ℕ, List, Option, Some, None, map, slice_index_or}
use Rattle.std.specs.List.{AllByRecursion}
use Rattle.vms_model.specs.Ids.{Id}
use Rattle.vms_model.specs.Keys.{Key}
use Rattle.file_base.specs.declared.head.Organization.{Organization}
use Rattle.file_base.specs.declared.head.Span.{Span}
use Rattle.records_model.specs.Records.{Records, set_key}
use Rattle.journal_format.specs.journal_model.Entries.{IsEntry}
use Rattle.journal_format.specs.journal_model.Ring.{StandsAt}
use Rattle.journal_format.specs.declared.head.EntryHead.{EntryHead}
use Rattle.recovery_model.specs.Journal.{Entry, Below, rolled_forward, rolled_back}
use Rattle.recovery_model.specs.File.{Placed, ImageJournal, IsPlace, all_of, since}
use Rattle.recovery_model.specs.Places.{no_entry, set_entry, sets_at}
use Rattle.image_laws.specs.file_images.Images.{entry_by, HasImageJournal, IsOf, AreOf}
use Rattle.image_laws.specs.Laws.{IsPlacedIn, ReadsEntries}
use Rattle.rolled_records.specs.declared.rolling.Images.{Images}

-- what the image of a key makes of records, where there is a key
abbrev pub set_changed : Option Key → Option (List ℕ) → Records → Records
set_changed None v m = m
set_changed (Some k) v m = set_key m k v

-- an entry of a branch stands at a position of a ring, in the journal of the file of this number
pub record HasEntryAt (c : List (List ℕ)) (s : Span) (p f : ℕ) (tid : Id) (e : Entry) : Type 0 where
  pub is : IsEntry (entry_by f tid e)
  pub stands : StandsAt s p (entry_by f tid e) c

abbrev pub told_entries : List Placed → List Entry
told_entries ys = map (λ (y : Placed). y.entry) ys

-- entries, the oldest first, stand at these positions, and are of a file that keeps its records so
pub record StandIn (c : List (List ℕ)) (s : Span) (f : ℕ) (o : Organization) (ys : List Placed) (positions : List ℕ) : Type 0 where
  pub at : positions ≡ map (λ (y : Placed). y.at) ys
  pub each : AllByRecursion (IsPlacedIn c s f) ys
  pub of : AreOf o (told_entries ys)

-- The records were rolled forward to a moment; and to the last one, where no settlement is later.
pub record RollsTo (until : ℕ) (es : List Entry) (old new : Records) : Type 0 where
  pub by_then : new ≡ rolled_forward (Some until) es old
  pub last : Below until es → new ≡ rolled_forward None es old

-- What calls do, each said of the content that is told.

-- the image of the entry at a position is set
abbrev pub SetsEntry : Images → (position : ℕ) → (old new : Records) → List (List ℕ) → Type 0
SetsEntry i p old new c = (f : ℕ) (tid : Id) (e : Entry) → HasEntryAt c i.span p f tid e → IsOf i.organization e → new ≡ set_entry e old

-- that of the entry at a place of positions
abbrev pub SetsAt : Images → List ℕ → (place : ℕ) → (old new : Records) → List (List ℕ) → Type 0
SetsAt i ps place old new c = (f : ℕ) (ys : List Placed) → StandIn c i.span f i.organization ys ps → new ≡ set_entry (slice_index_or (told_entries ys) place no_entry) old

-- those at several places
abbrev pub SetsPlaces : Images → List ℕ → (places : List ℕ) → (old new : Records) → List (List ℕ) → Type 0
SetsPlaces i ps places old new c = (f : ℕ) (ys : List Placed) → StandIn c i.span f i.organization ys ps → new ≡ sets_at places (told_entries ys) old

-- heads and positions are those of the entries from a position on
abbrev pub ReadsFrom : Images → (from : ℕ) → List EntryHead → List ℕ → List (List ℕ) → Type 0
ReadsFrom i from hs ps c = (f : ℕ) (j : ImageJournal) → HasImageJournal c i.span f j → (place : IsPlace from j) → ReadsEntries f place.newer hs ps

-- records are rolled forward by the entries from a position on, to a moment
abbrev pub RollsForward : Images → (from until : ℕ) → (old new : Records) → List (List ℕ) → Type 0
RollsForward i from until old new c = (f : ℕ) (j : ImageJournal) → HasImageJournal c i.span f j → IsPlace from j → AreOf i.organization (since from j.entries) → RollsTo until (since from j.entries) old new

-- and back by all entries, to a moment
abbrev pub RollsBack : Images → (until : ℕ) → (old new : Records) → List (List ℕ) → Type 0
RollsBack i until old new c = (f : ℕ) (j : ImageJournal) → HasImageJournal c i.span f j → AreOf i.organization (all_of j.entries) → new ≡ rolled_back until (all_of j.entries) old
