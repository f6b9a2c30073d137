-- What a step of writing or reading changes on the disk.
use Rattle.std.specs.Prelude.{◌≡◌, ◌⊎◌, ℕ, Bool, true, false, List, length, Result, None, MatchOption, IsSomeAnd, is_some}
use Rattle.block_disk.specs.declared.disk.DiskErr.{DiskErr}
use Rattle.block_disk.specs.Counts.{counted}
use Rattle.block_disk.specs.Blocks.{block_at, has_number}
use Rattle.block_disk.specs.Disk.{DiskState, is_failed, is_stopped}

-- the same blocks but where the test holds
pub record AgreesOff (p : ℕ → Bool) (old new : List (List ℕ)) : Type 0 where
  pub size : length new ≡ length old
  pub others : (n : ℕ) → p n ≡ false → block_at new n ≡ block_at old n

-- only blocks where the test holds were written
pub record Touches (p : ℕ → Bool) (old new : DiskState) : Type 0 where
  pub pending : (n : ℕ) → has_number n new.pending ≡ true → (has_number n old.pending ≡ true) ⊎ (p n ≡ true)
  pub seen : MatchOption old.seen (new.seen ≡ None) (λ before. IsSomeAnd new.seen (AgreesOff p before))

-- at most one answer was counted, of the kind that is named; nothing was armed or powered, and what is told stays told
pub record CountsOnce (failed stopped : Bool) (old new : DiskState) : Type 0 where
  pub size : new.size ≡ old.size
  pub calls : new.calls ≡ old.calls
  pub faults : new.faults ≡ counted failed old.faults
  pub stops : new.stops ≡ counted stopped old.stops
  pub told : is_some new.seen ≡ is_some old.seen

-- no count rose
abbrev pub Quiet : DiskState → DiskState → Type 0
Quiet old new = CountsOnce false false old new

-- the answer is the disk's, and was counted once
abbrev pub Counts : {T : Type 0} → Result T DiskErr → DiskState → DiskState → Type 0
Counts r old new = CountsOnce (is_failed r) (is_stopped r) old new
