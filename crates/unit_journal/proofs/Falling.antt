-- What a call leaves of a disk that went down in it where nothing was written.
use Rattle.std.proofs.Common.{◌≡◌, ℕ, ◌<◌, ◌≤◌, ◌^◌, Bool, true, false, Some, Result, Err, refl, sym, subst, ◌∙◌, arith, inl, inr}
use Rattle.std.specs.Prelude.{nat_lt}
use Rattle.std.proofs.lemmas.Bool.{ltb-true, ltb-false}
use Rattle.block_disk.specs.Counts.{counted}
use Rattle.block_disk.specs.Disk.{DiskState}
use Rattle.careful_write.specs.Down.{Counts, is_failed, is_stopped, went_down}
use Rattle.careful_write.specs.declared.down.Down.{Down}
use Rattle.careful_write.specs.declared.down.Down.TheVariants as down
use Rattle.change_set.specs.Files.{fell}
use Rattle.transcript_model.specs.Outside.{Rose}
use Rattle.volume.specs.State.{SameVolume, VolumeState}
use Rattle.unit_journal.specs.Leaving.{FellIn}
use Rattle.unit_journal.specs.Groups.{Caused, DiskAdvances, HasRisen}

up : (b : Bool) (n : ℕ) → n < 2 ^ 64 → (n ≤ counted b n) × (counted b n < 2 ^ 64)
up true n h = (omega arith, omega arith)
up false n h = (omega arith, h)

raised : (n : ℕ) → Rose n (counted true n)
raised n = elim (nat_lt n 18446744073709551615) as (λ t. nat_lt n 18446744073709551615 ≡ t → Rose n (counted true n)) [
  | true ↦ λ t. let lt : n < 18446744073709551615 = ltb-true n 18446744073709551615 t in inl (omega arith)
  | false ↦ λ t. let le : 18446744073709551615 ≤ n = ltb-false n 18446744073709551615 t in inr (omega arith)
] refl

-- a call that was counted
pub counts_go : {T : Type 0} (r : Result T Down) (old new : DiskState) → Counts r old new → DiskAdvances old new
counts_go r old new c = record {
  size = c.size;
  calls = c.calls;
  faults = λ h. rw c.faults ((up (is_failed r) old.faults h.0).0);
  stops = λ h. rw c.stops ((up (is_stopped r) old.stops h.1).0);
  counted = λ h. (rw c.faults ((up (is_failed r) old.faults h.0).1), rw c.stops ((up (is_stopped r) old.stops h.1).1));
  told = c.told;
}

-- and one that went down has its count raised
pub counts_cause : (T : Type 0) (down : Down) (old new : DiskState) → (let r : Result T Down = Err down in Counts r old new) → HasRisen down old new
counts_cause T down.Failed old new c = λ h. rw c.faults (raised old.faults)
counts_cause T down.Stopped old new c = λ h. rw c.stops (raised old.stops)

-- no call
pub goes_nowhere : (d : DiskState) → DiskAdvances d d
goes_nowhere d = record { size = refl; calls = refl; faults = λ h. omega arith; stops = λ h. omega arith; counted = λ h. h; told = refl }

-- one call after another
pub goes_on : (a b c : DiskState) → DiskAdvances a b → DiskAdvances b c → DiskAdvances a c
goes_on a b c f g = record {
  size = g.size ∙ f.size;
  calls = g.calls ∙ f.calls;
  faults = λ h. omega (arith, f.faults h, g.faults (f.counted h));
  stops = λ h. omega (arith, f.stops h, g.stops (f.counted h));
  counted = λ h. g.counted (f.counted h);
  told = g.told ∙ f.told;
}

counts_answered : (down : Down) (d : DiskState) → (let r : Result (Unit {0}) Down = Err down in Counts r d (went_down down d))
counts_answered down d = record { size = refl; calls = refl; faults = refl; stops = refl; told = refl }

pub fell_goes : (down : Down) (v w : VolumeState) → FellIn down v w → DiskAdvances v.store.disk w.store.disk
fell_goes down v w is = subst (λ (x : VolumeState). DiskAdvances v.store.disk x.store.disk) (sym is) (counts_go {T = Unit {0}} (Err down) v.store.disk (went_down down v.store.disk) (counts_answered down v.store.disk))

pub fell_caused : (down : Down) (v w : VolumeState) → FellIn down v w → Caused (Some down) v.store.disk w.store.disk
fell_caused down v w is = subst (λ (x : VolumeState). HasRisen down v.store.disk x.store.disk) (sym is) (counts_cause (Unit {0}) down v.store.disk (went_down down v.store.disk) (counts_answered down v.store.disk))

pub same_goes : (v w : VolumeState) → SameVolume v w → DiskAdvances v.store.disk w.store.disk
same_goes v w is = subst (λ (x : VolumeState). DiskAdvances v.store.disk x.store.disk) (sym is) (goes_nowhere v.store.disk)

-- a call that read went down
pub fell_in : (T : Type 0) (down : Down) (v w : VolumeState) → (let r : Result T Down = Err down in SameVolume (record v { store = fell r v.store }) w) → FellIn down v w
fell_in T down.Failed v w is = is
fell_in T down.Stopped v w is = is
