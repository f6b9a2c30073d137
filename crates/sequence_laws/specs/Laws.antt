-- The steps by which the changes of one branch in a sequential file are undone, from whatever records there are.
use Rattle.std.specs.Prelude.{◌≡◌, ℕ, ◌+◌, ◌-◌, ◌<◌, ◌≤◌, List, [], ◌∷◌, ◌++◌, true, false, Some, length, take}
use Rattle.std.specs.List.{All}
use Rattle.seq_file.specs.file_base.declared.head.FileHead.{FileHead}
use Rattle.seq_file.specs.Layout.{IsRecord, capacity}
use Rattle.seq_file.specs.Placing.{buckets_for}
use Rattle.seq_file.specs.Records.{record_at, map_of_list, list_set, slot_sizes, MaySet}
use Rattle.unit_laws.specs.vms_model.Keys.{Key, Number}
use Rattle.unit_laws.specs.records_model.Records.{Change}
use Rattle.unit_laws.specs.records_model.History.{changes_key}
use Rattle.unit_laws.specs.Units.{HasImages, HasLatest, earliest_before, moves_end}
use Rattle.sequence_laws.specs.Undoing.{GoesBack, AllInPlace, goes_in_place, lowest_absent, is_taken_away}

-- A step leaves records that go back to the same ones, without another one to be taken away, and of which each changed position has one of its images; the other
-- positions have what they had.
pub record IsStep (h : FileHead) (cs : List Change) (now back next : List (List ℕ)) : Type 0 where
  pub goes : GoesBack h cs next back
  pub in_place : AllInPlace cs next back
  pub images : HasImages (map_of_list now) cs → HasImages (map_of_list next) cs
  pub others : (n : ℕ) → 1 ≤ n → changes_key (Number n) cs ≡ false → record_at next n ≡ record_at now n

-- The first position from the lowest absent one on that cannot be set back in place. It has a record.
pub record IsFirstOff (cs : List Change) (now back : List (List ℕ)) (from : ℕ) : Type 0 where
  pub taken : is_taken_away (lowest_absent cs) from ≡ true
  pub off : goes_in_place (record_at now from) (record_at back from) ≡ false
  pub first : (n : ℕ) → is_taken_away (lowest_absent cs) n ≡ true → n < from → goes_in_place (record_at now n) (record_at back n) ≡ true

-- the positions from it on go
abbrev pub CutGoesBack : Type 0
CutGoesBack = (h : FileHead) (cs : List Change) (now back : List (List ℕ)) (from : ℕ) → GoesBack h cs now back → IsFirstOff cs now back from → IsStep h cs now back (take (from - 1) now)

-- where none is left to be taken away, a changed position is set to its earliest before image: one that there is, or the next one
abbrev pub SetGoesBack : Type 0
SetGoesBack = (h : FileHead) (cs : List Change) (now back : List (List ℕ)) (n : ℕ) (r : List ℕ) → GoesBack h cs now back → AllInPlace cs now back → 1 ≤ n → n ≤ length now + 1 → changes_key (Number n) cs ≡ true → earliest_before cs (Number n) ≡ Some r
    → IsStep h cs now back (list_set n (Some r) now)

-- none is left to be taken away, and all that there is to be before a position is there
pub record IsSetBefore (cs : List Change) (now back : List (List ℕ)) (n : ℕ) : Type 0 where
  pub in_place : AllInPlace cs now back
  pub filled : n ≤ length now + 1

-- such a set can be done in place, or a record is put behind the last one where that fits the file
abbrev pub SetMay : Type 0
SetMay = (h : FileHead) (cs : List Change) (now back : List (List ℕ)) (n : ℕ) (r : List ℕ) → GoesBack h cs now back → IsSetBefore cs now back n → 1 ≤ n → changes_key (Number n) cs ≡ true → earliest_before cs (Number n) ≡ Some r
    → ((old : List ℕ) → record_at now n ≡ Some old → length r ≡ length old) × (n ≡ length now + 1 → buckets_for (capacity h) (slot_sizes (now ++ r ∷ [])) ≤ h.alloc)

-- once each changed position has its earliest before image there is what is to be
abbrev pub AllSetIsBack : Type 0
AllSetIsBack = (h : FileHead) (cs : List Change) (now back : List (List ℕ)) → GoesBack h cs now back → ((n : ℕ) → 1 ≤ n → changes_key (Number n) cs ≡ true → record_at now n ≡ earliest_before cs (Number n)) → now ≡ back

-- Two branches that changed other keys, of which one at most moved the end: once the one is back, the other still goes back, from there.
abbrev pub OtherGoesBack : Type 0
OtherGoesBack = (h : FileHead) (cs ds : List Change) (now back other : List (List ℕ)) → GoesBack h cs now back → GoesBack h ds now other → HasImages (map_of_list now) cs → HasImages (map_of_list now) ds
    → ((key : Key) → changes_key key cs ≡ true → changes_key key ds ≡ false) → (moves_end cs ≡ true → moves_end ds ≡ false) → (both : List (List ℕ)) × GoesBack h ds back both

-- What there is for a branch to go back to.

-- before its first change a branch goes back to what there is
abbrev pub NothingGoesBack : Type 0
NothingGoesBack = (h : FileHead) (now : List (List ℕ)) → All (IsRecord h.mrs) now → buckets_for (capacity h) (slot_sizes now) ≤ h.alloc → GoesBack h [] now now

-- A change that a branch may make of these records: at a position that may be set so, to as long a record where there is one; it notes what it found.
pub record IsChangeOf (c : Change) (n : ℕ) (now : List (List ℕ)) : Type 0 where
  pub key : c.key ≡ Number n
  pub found : c.before ≡ record_at now n
  pub may : MaySet n c.after now
  pub long : (old new : List ℕ) → c.before ≡ Some old → c.after ≡ Some new → length new ≡ length old

-- A branch of which nothing is undone changes more: with the change undone too, it goes back to the same records.
abbrev pub ChangeGoesBack : Type 0
ChangeGoesBack = (h : FileHead) (cs : List Change) (now back : List (List ℕ)) (c : Change) (n : ℕ) → GoesBack h cs now back → HasLatest (map_of_list now) cs → IsChangeOf c n now → GoesBack h (c ∷ cs) (list_set n c.after now) back

-- Another branch changes a position that this one did not, and not the end where this one moved it: this one still goes back, from there.
abbrev pub ChangeBesideGoesBack : Type 0
ChangeBesideGoesBack = (h : FileHead) (ds : List Change) (now other : List (List ℕ)) (c : Change) (n : ℕ) → GoesBack h ds now other → HasImages (map_of_list now) ds → IsChangeOf c n now → changes_key (Number n) ds ≡ false
    → (moves_end (c ∷ []) ≡ true → moves_end ds ≡ false) → All (IsRecord h.mrs) (list_set n c.after now) → buckets_for (capacity h) (slot_sizes (list_set n c.after now)) ≤ h.alloc
    → (back : List (List ℕ)) × GoesBack h ds (list_set n c.after now) back
