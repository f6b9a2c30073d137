-- What is read where an entry may stand.
use Rattle.std.specs.Prelude.{◌≡◌, ℕ, ◌+◌, ◌*◌, ◌<◌, List, length, slice_index, min, max, Option, Some, None}
use Rattle.file_base.specs.declared.head.Span.{Span}
use Rattle.journal_format.specs.journal_model.Entries.{Entry, IsEntry, spelling}
use Rattle.journal_format.specs.journal_model.Ring.{StandsAt, byte_at}
use Rattle.journal_format.specs.Heads.{entry_of, IsPlain}
use Rattle.journal_format.specs.declared.head.EntryHead.{EntryHead}

-- the first bytes are those from a position on
abbrev pub Holds : Span → ℕ → (count : ℕ) → List ℕ → List (List ℕ) → Type 0
Holds s p count bytes c = (i : ℕ) → i < count → slice_index bytes i ≡ byte_at c s (p + i)

-- the length that the front of an entry tells, from that of a head to that of the longest entry
abbrev pub told_size : List ℕ → ℕ
told_size front = min 8272 (max 48 (slice_index front 6 + 256 * slice_index front 7))

-- an entry that stands there, and the position behind it
pub record Stands (s : Span) (p : ℕ) (head : EntryHead) (next : ℕ) (image : List ℕ) (c : List (List ℕ)) : Type 0 where
  pub is : IsEntry (entry_of head image)
  pub plain : IsPlain head image
  pub stands : StandsAt s p (entry_of head image) c
  pub behind : next ≡ p + length (spelling (entry_of head image))
  -- and no other stands there
  pub only : (e : Entry) → IsEntry e → StandsAt s p e c → entry_of head image ≡ e

-- None exactly where no entry stands there
abbrev pub ReadsAt : Span → ℕ → Option (EntryHead × ℕ) → (image : List ℕ) → List (List ℕ) → Type 0
ReadsAt s p (Some r) image c = Stands s p r.0 r.1 image c
ReadsAt s p None image c = (e : Entry) → IsEntry e → StandsAt s p e c → ⊥
