-- Calls of the store, one after another, and what they leave of a volume.
use Rattle.std.proofs.Common.{◌≡◌, ℕ, ◌+◌, ◌<◌, ◌≤◌, ◌^◌, Bool, true, false, Option, Some, None, Result, Ok, Err, OnOk, refl, sym, subst, ◌∙◌, arith, inl, inr, List, ap}
use Rattle.std.specs.Prelude.{nat_lt}
use Rattle.std.proofs.Math.Nat.{max-zero}
use Rattle.std.proofs.lemmas.Bool.{ltb-true, ltb-false}
use Rattle.block_disk.specs.Counts.{counted}
use Rattle.block_disk.specs.Disk.{DiskState}
use Rattle.recovery_units.specs.image_room.Room.{images_end}
use Rattle.careful_write.specs.Down.{Counts, answered, is_failed, is_stopped}
use Rattle.careful_write.specs.declared.down.Down.{Down}
use Rattle.careful_write.specs.declared.down.Down.TheVariants as down
use Rattle.emitter_model.specs.transcript_model.Outside.{Rose}
use Rattle.emitter_model.proofs.transcript_model.OutsideLemmas.{rose_earlier}
use Rattle.volume.specs.declared.catalog.Catalog.{Catalog}
use Rattle.volume.specs.State.{SameVolume, VolumeState}
use Rattle.recovery_units.specs.Uses.{Caused, DiskAdvances, Grows, ImagesGrow, down_of}

up : (b : Bool) (n : ℕ) → n < 2 ^ 64 → (n ≤ counted b n) × (counted b n < 2 ^ 64)
up true n h = (omega arith, omega arith)
up false n h = (omega arith, h)

raised : (n : ℕ) → Rose n (counted true n)
raised n = elim (nat_lt n 18446744073709551615) as (λ t. nat_lt n 18446744073709551615 ≡ t → Rose n (counted true n)) [
  | true ↦ λ t. let lt : n < 18446744073709551615 = ltb-true n 18446744073709551615 t in inl (omega arith)
  | false ↦ λ t. let le : 18446744073709551615 ≤ n = ltb-false n 18446744073709551615 t in inr (omega arith)
] refl

-- a call that was counted
pub goes_counts : {T : Type 0} (r : Result T Down) (old new : DiskState) → Counts r old new → DiskAdvances old new
goes_counts r old new c = record {
  size = c.size;
  calls = c.calls;
  faults = λ h. rw c.faults ((up (is_failed r) old.faults h.0).0);
  stops = λ h. rw c.stops ((up (is_stopped r) old.stops h.1).0);
  counted = λ h. (rw c.faults ((up (is_failed r) old.faults h.0).1), rw c.stops ((up (is_stopped r) old.stops h.1).1));
  told = c.told;
}

pub caused_counts : {T : Type 0} (r : Result T Down) (old new : DiskState) → Counts r old new → Caused (down_of r) old new
caused_counts (Ok x) old new c = tt
caused_counts (Err down.Failed) old new c = λ h. rw c.faults (raised old.faults)
caused_counts (Err down.Stopped) old new c = λ h. rw c.stops (raised old.stops)

-- one read
pub goes_read : {T : Type 0} (r : Result T Down) (old new : DiskState) → new ≡ answered r old → DiskAdvances old new
goes_read r old new is = rw is (record {
  size = refl;
  calls = refl;
  faults = λ h. (up (is_failed r) old.faults h.0).0;
  stops = λ h. (up (is_stopped r) old.stops h.1).0;
  counted = λ h. ((up (is_failed r) old.faults h.0).1, (up (is_stopped r) old.stops h.1).1);
  told = refl;
})

pub caused_read : {T : Type 0} (r : Result T Down) (old new : DiskState) → new ≡ answered r old → Caused (down_of r) old new
caused_read (Ok x) old new is = tt
caused_read (Err down.Failed) old new is = λ h. rw is (raised old.faults)
caused_read (Err down.Stopped) old new is = λ h. rw is (raised old.stops)

-- no call
pub goes_nowhere : (d : DiskState) → DiskAdvances d d
goes_nowhere d = record { size = refl; calls = refl; faults = λ h. omega arith; stops = λ h. omega arith; counted = λ h. h; told = refl }

pub goes_on : (a b c : DiskState) → DiskAdvances a b → DiskAdvances b c → DiskAdvances a c
goes_on a b c f g = record {
  size = g.size ∙ f.size;
  calls = g.calls ∙ f.calls;
  faults = λ h. omega (arith, f.faults h, g.faults (f.counted h));
  stops = λ h. omega (arith, f.stops h, g.stops (f.counted h));
  counted = λ h. g.counted (f.counted h);
  told = g.told ∙ f.told;
}

-- a failure that comes later
pub caused_on : (o : Option Down) (a b c : DiskState) → DiskAdvances a b → Caused o b c → Caused o a c
caused_on None a b c g k = tt
caused_on (Some down.Failed) a b c g k = λ h. rose_earlier _ _ _ (g.faults h) (k (g.counted h))
caused_on (Some down.Stopped) a b c g k = λ h. rose_earlier _ _ _ (g.stops h) (k (g.counted h))

-- The volume.

-- so are the ends of the rings where the catalog is
pub images_still : (v w : VolumeState) → w.catalog ≡ v.catalog → ImagesGrow v w
images_still v w same = let e = ap (λ (k : Catalog). images_end k.heads) same in omega (arith, e)

pub images_same : (v w : VolumeState) → SameVolume v w → ImagesGrow v w
images_same v w same = images_still v w (ap (λ (x : VolumeState). x.catalog) same)

-- what holds anyway holds of a success
pub on_ok_any : {T E A : Type 0} (r : Result T E) → A → OnOk r A
on_ok_any (Ok x) a = a
on_ok_any (Err e) a = tt

-- its numbers that only grow are as they were
pub grows_still : (v w : VolumeState) → w.catalog.home ≡ v.catalog.home → w.catalog.ru ≡ v.catalog.ru → w.store.pool ≡ v.store.pool → DiskAdvances v.store.disk w.store.disk → Grows 0 0 v w
grows_still v w home ru pool g = record {
  goes = g;
  pool = pool;
  node = λ i. (home i).node;
  boot = λ i. (home i).boot;
  greatest = subst (λ m. w.catalog.home.greatest_moment.0 ≤ m) (sym (max-zero (v.catalog.home.greatest_moment.0 + 0))) (let e : w.catalog.home.greatest_moment.0 ≡ v.catalog.home.greatest_moment.0 = (λ i. (home i).greatest_moment.0) in omega (arith, e));
  end = (let e : w.catalog.ru.end ≡ v.catalog.ru.end = (λ i. (ru i).end) in omega (arith, e));
}

pub on_ok_then : {T E A B : Type 0} (r : Result T E) → (A → B) → OnOk r A → OnOk r B
on_ok_then (Ok x) f a = f a
on_ok_then (Err e) f a = tt
