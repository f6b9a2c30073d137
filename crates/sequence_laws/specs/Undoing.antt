-- How the changes of one branch in a sequential file are undone: positions at its end are taken away, and others set back.
use Rattle.std.specs.Prelude.{◌≡◌, ℕ, ◌≤◌, ◌==◌, List, [], ◌∷◌, Bool, true, false, Option, Some, None, IsSome, ◌⊎◌, if◌then◌else◌, nat_le, min, length}
use Rattle.std.specs.List.{All}
use Rattle.seq_file.specs.file_base.declared.head.FileHead.{FileHead}
use Rattle.seq_file.specs.Layout.{IsRecord, capacity}
use Rattle.seq_file.specs.Placing.{buckets_for}
use Rattle.seq_file.specs.Records.{record_at, slot_sizes}
use Rattle.unit_laws.specs.vms_model.Keys.{Number, Text, End}
use Rattle.unit_laws.specs.records_model.Records.{Change}
use Rattle.unit_laws.specs.records_model.History.{changes_key}
use Rattle.unit_laws.specs.Units.{earliest_before, latest_after, IsImage}

-- The lowest position at which a branch found no record: of the positions from there on its undo may take away. There is none where the branch put no record
-- behind the last.
abbrev pub lower : ℕ → Option ℕ → Option ℕ
lower n None = Some n
lower n (Some m) = Some (min n m)

abbrev pub absent_at : Change → Option ℕ → Option ℕ
absent_at c so_far = elim c.before [ Some r ↦ so_far | None ↦ elim c.key [ Number n ↦ lower n so_far | Text t ↦ so_far | End ↦ so_far ] ]

abbrev pub lowest_absent : List Change → Option ℕ
lowest_absent [] = None
lowest_absent (c ∷ cs) = absent_at c (lowest_absent cs)

-- whether a position is that one or behind it
abbrev pub is_taken_away : Option ℕ → ℕ → Bool
is_taken_away None n = false
is_taken_away (Some from) n = nat_le from n

-- whether there is to be a record, one of this length
abbrev pub is_as_long : ℕ → Option (List ℕ) → Bool
is_as_long size None = false
is_as_long size (Some s) = length s == size

-- whether a position can be set back in place: it has no record, or it is to have one as long
abbrev pub goes_in_place : (now back : Option (List ℕ)) → Bool
goes_in_place None s = true
goes_in_place (Some r) s = is_as_long (length r) s

-- so can each position from the lowest absent one on: none is left to be taken away
abbrev pub AllInPlace : List Change → (now back : List (List ℕ)) → Type 0
AllInPlace cs now back = (n : ℕ) → is_taken_away (lowest_absent cs) n ≡ true → goes_in_place (record_at now n) (record_at back n) ≡ true

-- what a branch changed at a position stands there, and there was no record before or after one of these changes
pub record StandsWhole (cs : List Change) (now : List (List ℕ)) (n : ℕ) : Type 0 where
  pub latest : record_at now n ≡ latest_after cs (Number n)
  pub absent : IsImage cs (Number n) None

-- The records of a sequential file as they are now, and as they are once a branch is undone. Each position from the lowest absent one on that there is before or
-- after is the branch's own. Where one of them cannot be set back in place, it and those behind it stand as the branch left them, and had no record before or after
-- one of its changes, so that they can be taken away. No other position changes its length; and what there is then fits the file.
pub record GoesBack (h : FileHead) (cs : List Change) (now back : List (List ℕ)) : Type 0 where
  pub restored : (n : ℕ) → 1 ≤ n → record_at back n ≡ (if changes_key (Number n) cs then earliest_before cs (Number n) else record_at now n)
  pub own : (n : ℕ) → is_taken_away (lowest_absent cs) n ≡ true → IsSome (record_at now n) ⊎ IsSome (record_at back n) → changes_key (Number n) cs ≡ true
  pub whole : (m n : ℕ) → is_taken_away (lowest_absent cs) m ≡ true → goes_in_place (record_at now m) (record_at back m) ≡ false → m ≤ n → changes_key (Number n) cs ≡ true → StandsWhole cs now n
  pub same : (n : ℕ) (r s : List ℕ) → is_taken_away (lowest_absent cs) n ≡ false → record_at now n ≡ Some r → record_at back n ≡ Some s → length s ≡ length r
  pub records : All (IsRecord h.mrs) back
  pub fits : buckets_for (capacity h) (slot_sizes back) ≤ h.alloc
