-- How the records of a sequential file fill its buckets.
use Rattle.std.proofs.Common.{◌≡◌, ℕ, zero, suc, ◌+◌, ◌-◌, ◌<◌, ◌≤◌, ◌++◌, List, [], ◌∷◌, length, map, Bool, true, false, if◌then◌else◌, nat_le, refl, sym, ap, ◌∙◌, arith, length-append}
use Rattle.std.specs.List.{All}
use Rattle.std.proofs.lemmas.Bool.Decides.{nat_tests}
use Rattle.std.proofs.lemmas.List.{map-append}
use Rattle.std.proofs.lemmas.List.Elements.{All-head, All-tail}
use Rattle.extents.specs.file_base.declared.head.FileHead.{FileHead}
use Rattle.file_images.specs.bucket_page.Pages.{joined}
use Rattle.records_model.specs.Placing.{Filled, filled_more, filled_by, first_bucket}
use Rattle.file_images.specs.seq_file.Placing.{slots_along, BeginsAnew, IsFilled, buckets_for}
use Rattle.file_images.specs.seq_file.Records.{slot_sizes}
use Rattle.file_images.specs.seq_file.Layout.{slots_at, record_of, records_in, capacity, last_bytes, IsRecord, IsLaidOut, AskedIsPlaced, AppendTakes}
use Rattle.file_images.proofs.seq_file.FileLaws.{filled_of}

abbrev Slots : Type 0
Slots = List (List ℕ)

abbrev fill : ℕ → ℕ → Filled
fill n m = record { buckets = n; bytes = m }

more_fits : (cap n m size : ℕ) → m + size ≤ cap → filled_more cap (fill n m) size ≡ fill n (m + size)
more_fits cap n m size fits = λ i. record { buckets = picks i; bytes = sums i }
  where
    picks : (if nat_le (m + size) cap then n else n + 1) ≡ n
    picks = grind (arith, nat_tests)

    sums : (if nat_le (m + size) cap then m + size else size) ≡ m + size
    sums = grind (arith, nat_tests)

more_next : (cap n m size : ℕ) → cap < m + size → filled_more cap (fill n m) size ≡ fill (n + 1) size
more_next cap n m size over = λ i. record { buckets = picks i; bytes = sums i }
  where
    picks : (if nat_le (m + size) cap then n else n + 1) ≡ n + 1
    picks = grind (arith, nat_tests)

    sums : (if nat_le (m + size) cap then m + size else size) ≡ size
    sums = grind (arith, nat_tests)

-- slots that all fit into what is left
fits_all : (cap n m : ℕ) (ss : Slots) → m + length (joined ss) ≤ cap → filled_by cap (fill n m) (map length ss) ≡ fill n (m + length (joined ss))
fits_all cap n m [] fits = let e : m ≡ m + 0 = omega arith in ap (fill n) e
fits_all cap n m (s ∷ ss) fits =
    let size = length-append s (joined ss) in
    let e : m + length s + length (joined ss) ≡ m + length (s ++ joined ss) = omega (arith, size) in
    ap (λ f. filled_by cap f (map length ss)) (more_fits cap n m (length s) (omega (arith, size))) ∙ fits_all cap n (m + length s) ss (omega (arith, size)) ∙ ap (fill n) e

pub filled_by-append : (cap : ℕ) (f : Filled) (a b : List ℕ) → filled_by cap f (a ++ b) ≡ filled_by cap (filled_by cap f a) b
filled_by-append cap f [] b = refl
filled_by-append cap f (x ∷ a) b = filled_by-append cap (filled_more cap f x) a b

-- a bucket's slots, where the first did not fit into the one before
fills_next : (cap n m : ℕ) (before ss : Slots) → m ≡ length (joined before) → BeginsAnew cap before ss → length (joined ss) ≤ cap → filled_by cap (fill n m) (map length ss) ≡ fill (n + 1) (length (joined ss))
fills_next cap n m before [] is anew fits = absurd anew
fills_next cap n m before (s ∷ ss) is anew fits =
    let size = length-append s (joined ss) in
    ap (λ f. filled_by cap f (map length ss)) (more_next cap n m (length s) (omega (arith, anew, is))) ∙ fits_all cap (n + 1) (length s) ss (omega (arith, size)) ∙ ap (fill (n + 1)) (sym size)

filled_is : (cap : ℕ) (S : ℕ → Slots) (n : ℕ) → IsFilled cap S (suc n) → filled_by cap first_bucket (map length (slots_along S (suc n))) ≡ fill (suc n) (length (joined (S n)))
filled_is cap S zero filled = fits_all cap 1 0 (S 0) (omega (arith, filled.fits 0 (omega arith))) ∙ ap (fill 1) (plus_none (length (joined (S 0))))
  where
    plus_none : (m : ℕ) → 0 + m ≡ m
    plus_none m = omega arith
filled_is cap S (suc n) filled =
    let before : IsFilled cap S (suc n) = record { fits = λ i below. filled.fits i (omega arith); next = λ i below. filled.next i (omega arith) } in
    let count : suc n + 1 ≡ suc (suc n) = omega arith in
    ap (filled_by cap first_bucket) (map-append length (slots_along S (suc n)) (S (suc n)))
    ∙ filled_by-append cap first_bucket (map length (slots_along S (suc n))) (map length (S (suc n)))
    ∙ ap (λ f. filled_by cap f (map length (S (suc n)))) (filled_is cap S n before)
    ∙ fills_next cap (suc n) (length (joined (S n))) (S n) (S (suc n)) refl (filled.next n (omega arith)) (filled.fits (suc n) (omega arith))
    ∙ ap (λ m. fill m (length (joined (S (suc n))))) count

-- a slot has two bytes more than its record
sizes_are : (mrs : ℕ) (ss : Slots) → All (IsRecord mrs) (map record_of ss) → map length ss ≡ slot_sizes (map record_of ss)
sizes_are mrs [] all = refl
sizes_are mrs (s ∷ ss) all =
    let size = behind s (All-head (IsRecord mrs) (record_of s) (map record_of ss) all).one in
    λ i. size i ∷ sizes_are mrs ss (All-tail (IsRecord mrs) (record_of s) (map record_of ss) all) i
  where
    behind : (s : List ℕ) → 1 ≤ length (record_of s) → length s ≡ length (record_of s) + 2
    behind [] one = omega arith
    behind (x ∷ []) one = omega arith
    behind (x ∷ y ∷ s) one = omega arith

filled_at : (cap used : ℕ) (S : ℕ → Slots) → 1 ≤ used → IsFilled cap S used → filled_by cap first_bucket (map length (slots_along S used)) ≡ fill used (length (joined (S (used - 1))))
filled_at cap zero S one filled = absurd (omega arith)
filled_at cap (suc n) S one filled = let same : n ≡ suc n - 1 = omega arith in filled_is cap S n filled ∙ ap (λ m. fill (suc n) (length (joined (S m)))) same

-- the placing of all records: the used buckets, and the bytes of the last one
pub placed_are : (h : FileHead) (b : List (List ℕ)) → 1 ≤ h.used → IsLaidOut h b → filled_by (capacity h) first_bucket (slot_sizes (records_in h b)) ≡ fill h.used (last_bytes h b)
placed_are h b one valid =
    ap (filled_by (capacity h) first_bucket) (sym (sizes_are h.mrs (slots_along (slots_at h b) h.used) valid.records)) ∙ filled_at (capacity h) h.used (slots_at h b) one (filled_of h b valid)

more_buckets : (cap u bytes size : ℕ) → u + (if nat_le (bytes + size) cap then 0 else 1) ≡ (if nat_le (bytes + size) cap then u else u + 1)
more_buckets cap u bytes size = grind (arith, nat_tests)

-- and the placing with one more behind them
pub asked_is : AskedIsPlaced
asked_is h b r one valid =
    more_buckets (capacity h) h.used (last_bytes h b) (length r + 2)
    ∙ ap (λ (f : Filled). f.buckets) (ap (λ f. filled_more (capacity h) f (length r + 2)) (sym (placed_are h b one valid))
    ∙ sym (filled_by-append (capacity h) first_bucket (slot_sizes (records_in h b)) ((length r + 2) ∷ []))
    ∙ ap (filled_by (capacity h) first_bucket) (sym (map-append (λ (x : List ℕ). length x + 2) (records_in h b) (r ∷ []))))

pub append_is_taken : AppendTakes
append_is_taken h b r one valid fits = let asked = asked_is h b r one valid in omega arith

-- more slots take no fewer buckets
more_slots : (cap : ℕ) (f : Filled) (sizes : List ℕ) → f.buckets ≤ (filled_by cap f sizes).buckets
more_slots cap f [] = omega arith
more_slots cap f (size ∷ sizes) =
    let rest = more_slots cap (filled_more cap f size) sizes in
    let one = step (nat_le (f.bytes + size) cap) f.buckets in omega arith
  where
    step : (t : Bool) (n : ℕ) → n ≤ (if t then n else n + 1)
    step true n = omega arith
    step false n = omega arith

-- some of the records take no more buckets than all
pub first_few : (cap : ℕ) (a b : List (List ℕ)) → buckets_for cap (slot_sizes a) ≤ buckets_for cap (slot_sizes (a ++ b))
first_few cap a b =
    let all : buckets_for cap (slot_sizes (a ++ b)) ≡ (filled_by cap (filled_by cap first_bucket (slot_sizes a)) (slot_sizes b)).buckets =
    ap (λ (f : Filled). f.buckets) (ap (filled_by cap first_bucket) (map-append (λ (x : List ℕ). length x + 2) a b) ∙ filled_by-append cap first_bucket (slot_sizes a) (slot_sizes b)) in
    let more = more_slots cap (filled_by cap first_bucket (slot_sizes a)) (slot_sizes b) in omega arith
