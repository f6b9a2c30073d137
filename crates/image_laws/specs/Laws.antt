-- How the entries of a journal of images are read from the bytes of its ring.
use Rattle.std.specs.Prelude.{◌≡◌, ℕ, ◌+◌, ◌≤◌, List, ◌++◌, map, reverse}
use Rattle.std.specs.List.{AllByRecursion}
use Rattle.file_base.specs.declared.head.Span.{Span}
use Rattle.file_images.specs.journal_model.Entries.{IsEntry}
use Rattle.file_images.specs.journal_model.Ring.{StandsAt}
use Rattle.image_journals.specs.journal_format.declared.head.EntryHead.{EntryHead}
use Rattle.image_entries.specs.unit_entries.Reading.{AreRead, placed}
use Rattle.file_images.specs.recovery_model.Places.{header_of}
use Rattle.file_images.specs.recovery_model.File.{Placed, ImageJournal, all_of, since, entries_length}
use Rattle.image_journals.specs.Headers.{header_told}
use Rattle.image_entries.specs.Entries.{AreHeadsOf}
use Rattle.file_images.specs.Images.{disk_entry, disk_entries, HasImageJournal}

-- Heads and positions are those of these entries, the oldest first: what the heads say of branches, where the entries begin, and each head with the image of its
-- entry.
pub record ReadsEntries (f : ℕ) (newer : List Placed) (hs : List EntryHead) (ps : List ℕ) : Type 0 where
  pub headers : map header_told hs ≡ map header_of (reverse (all_of newer))
  pub positions : ps ≡ map (λ (x : Placed). x.at) (reverse newer)
  pub entries : AreHeadsOf hs ps (map (λ (x : Placed). (x.at, disk_entry f x)) (reverse newer))

-- The newer entries of a journal are those since the position at which they begin; that is where they begin in the ring; and what is read from
-- there on are they.
pub record AreReadFrom (s : Span) (f : ℕ) (j : ImageJournal) (newer older : List Placed) (p : ℕ) : Type 0 where
  pub newer_since : since p j.entries ≡ all_of newer
  pub begin : AreRead s (disk_entries f j.entries) (disk_entries f older) p
  pub back : begin.back ≡ disk_entries f newer
  pub read : (hs : List EntryHead) (ps : List ℕ) → AreHeadsOf hs ps (placed p begin.back) → ReadsEntries f newer hs ps

abbrev pub ImagesAreRead : Type 0
ImagesAreRead = (c : List (List ℕ)) (s : Span) (f : ℕ) (j : ImageJournal) (newer older : List Placed) (p : ℕ) → HasImageJournal c s f j → j.entries ≡ newer ++ older → p ≡ j.first + entries_length older → AreReadFrom s f j newer older p

-- an entry stands in the ring where it is placed, which is not behind the end
pub record IsPlacedIn (c : List (List ℕ)) (s : Span) (f : ℕ) (x : Placed) : Type 0 where
  pub is : IsEntry (disk_entry f x)
  pub stands : StandsAt s x.at (disk_entry f x) c
  pub within : x.at ≤ s.end

-- so does each of a journal
abbrev pub ImagesArePlaced : Type 0
ImagesArePlaced = (c : List (List ℕ)) (s : Span) (f : ℕ) (j : ImageJournal) → HasImageJournal c s f j → AllByRecursion (IsPlacedIn c s f) j.entries
