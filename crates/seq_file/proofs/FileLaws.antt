-- A sequential file once one of its buckets was written.
use Rattle.std.proofs.Common.{◌≡◌, ◌≢◌, ◌⊎◌, ⊎_elim, inl, inr, ℕ, zero, suc, ◌<◌, ◌≤◌, ◌+◌, ◌-◌, ◌*◌, ◌++◌, List, [], ◌∷◌, length, take, drop, set, map, get_or, Some, refl, sym, ap, subst, ◌∙◌, arith, length-append, length-set, append_assoc}
use Rattle.std.specs.List.{All}
use Rattle.std.proofs.lemmas.List.{map_push, map-append, map-set, take-map, length_push, length-take-le, take_at, length-map}
use Rattle.std.proofs.lemmas.Bool.{cases_lt, cases_eq}
use Rattle.file_base.specs.declared.head.FileHead.{FileHead}
use Rattle.change_set.specs.Buckets.{with_bucket}
use Rattle.change_set.proofs.BucketLaws.{block_at-with_bucket_other, bucket_bytes_agree, bucket_bytes-with_bucket}
use Rattle.bucket_page.specs.declared.kind.PageKind.TheVariants.{Seq}
use Rattle.bucket_page.specs.Pages.{slots_of, joined, IsBucket}
use Rattle.change_set.specs.records_model.Placing.{filled_by, first_bucket}
use Rattle.seq_file.specs.Placing.{slots_along, IsFilled, buckets_for}
use Rattle.seq_file.specs.Records.{list_set, slot_sizes}
use Rattle.seq_file.specs.Layout.{bucket_first, bucket_at, slots_at, slot_of, record_of, records_in, capacity, last_bytes, head_with, IsRecord, IsLaidOut, Becomes, Changed, AskedIsPlaced, AppendTakes}
use Rattle.change_set.proofs.Extents.{ranges_apart}
use Rattle.seq_file.proofs.PlacingLaws.{filled_is_placed, filled_last, filled_one_more, filled_push, filled_next, filled_take, filled_fewer, filled_sized, slots_along_same, slots_along_last, slots_along_set, along_long, along_take, joined_push, filled_alike}
use Rattle.seq_file.proofs.RecordLaws.{list_set_next, list_set_stands}

abbrev Blocks : Type 0
Blocks = List (List ℕ)

pub changed : (h : FileHead) (i : ℕ) (bytes : List ℕ) (b : Blocks) → bucket_first h i + h.bucket ≤ length b → Changed h i (take (512 * h.bucket) bytes) b (with_bucket bytes b (bucket_first h i) h.bucket)
changed h i bytes b within = record {
  here = bucket_bytes-with_bucket bytes b (bucket_first h i) h.bucket within;
  others = λ k not. ⊎_elim
      (λ less. let apart = ranges_apart k i h.bucket less in
      bucket_bytes_agree _ b (bucket_first h k) h.bucket (λ m from to. block_at-with_bucket_other bytes b (bucket_first h i) h.bucket m (inl (omega arith))))
      (λ least. let more : i < k = omega arith in let apart = ranges_apart i k h.bucket more in
      bucket_bytes_agree _ b (bucket_first h k) h.bucket (λ m from to. block_at-with_bucket_other bytes b (bucket_first h i) h.bucket m (inr (omega arith))))
      (cases_lt k i);
}

-- the used buckets were filled in turn
pub filled_of : (h : FileHead) (b : Blocks) → IsLaidOut h b → IsFilled (capacity h) (slots_at h b) h.used
filled_of h b valid = record { fits = λ i below. let fits = (valid.buckets i below).packed.fits in omega (arith, fits); next = valid.filled }

head_of_all : (P : List ℕ → Type 0) (x : List ℕ) (xs : List (List ℕ)) → All P (x ∷ xs) → P x
head_of_all P x xs all = all 0 [] (omega arith)

rest_of_all : (P : List ℕ → Type 0) (x : List ℕ) (xs : List (List ℕ)) → All P (x ∷ xs) → All P xs
rest_of_all P x xs all = λ k d below. all (suc k) d (omega arith)

all_cons : (P : List ℕ → Type 0) (x : List ℕ) (xs : List (List ℕ)) → P x → All P xs → All P (x ∷ xs)
all_cons P x xs one all = λ k d below. at k d below
  where
    at : (k : ℕ) (d : List ℕ) → k < suc (length xs) → P (get_or (x ∷ xs) k d)
    at zero d below = one
    at (suc k) d below = all k d (omega arith)

sizes_are : (mrs : ℕ) (ss : List (List ℕ)) → All (IsRecord mrs) (map record_of ss) → map length ss ≡ slot_sizes (map record_of ss)
sizes_are mrs [] all = refl
sizes_are mrs (s ∷ ss) all =
    let one = (head_of_all (IsRecord mrs) (record_of s) (map record_of ss) all).one in
    let size = behind s one in
    λ i. size i ∷ sizes_are mrs ss (rest_of_all (IsRecord mrs) (record_of s) (map record_of ss) all) i
  where
    behind : (s : List ℕ) → 1 ≤ length (drop 2 s) → length s ≡ length (drop 2 s) + 2
    behind [] one = omega arith
    behind (x ∷ []) one = omega arith
    behind (x ∷ y ∷ s) one = omega arith

-- the used buckets are as many as the placing of the records takes
pub used_is : (h : FileHead) (b : Blocks) → 1 ≤ h.used → IsLaidOut h b → h.used ≡ buckets_for (capacity h) (slot_sizes (records_in h b))
used_is h b one valid =
    sym (filled_is_placed (capacity h) (slots_at h b) h.used one (filled_of h b valid)) ∙ ap (buckets_for (capacity h)) (sizes_are h.mrs (slots_along (slots_at h b) h.used) valid.records)

-- what a record more asks for is what its placing takes more
pub asked_is_placed : AskedIsPlaced
asked_is_placed h b r one valid =
    let cap = capacity h in
    let rs = records_in h b in
    let filled = ap (filled_by cap first_bucket) (sym (sizes_are h.mrs (slots_along (slots_at h b) h.used) valid.records)) ∙ filled_last cap (slots_at h b) h.used one (filled_of h b valid) in
    filled_one_more cap (slot_sizes rs) (length r + 2) h.used (last_bytes h b) filled ∙ ap (buckets_for cap) (sym (map-append (λ (x : List ℕ). length x + 2) rs (r ∷ [])))

pub append_takes : AppendTakes
append_takes h b r one valid fits = let is = asked_is_placed h b r one valid in omega (arith, is, fits)

-- what a layout needs
laid_out : (h : FileHead) (u n : ℕ) (c : Blocks) (rs : List (List ℕ)) → ((i : ℕ) → i < u → IsBucket Seq (512 * h.bucket) (bucket_at h c i)) → IsFilled (capacity h) (slots_at h c) u
    → records_in (head_with h u n) c ≡ rs → All (IsRecord h.mrs) rs → length rs ≡ n → IsLaidOut (head_with h u n) c
laid_out h u n c rs buckets filled are all count = record {
  buckets = buckets;
  filled = filled.next;
  records = subst (λ (xs : List (List ℕ)). All (IsRecord h.mrs) xs) (sym are) all;
  count = ap length are ∙ count;
}

-- one bucket is a bucket, and so are the others
still_buckets : (h : FileHead) (i u : ℕ) (bytes : List ℕ) (b c : Blocks) → Changed h i bytes b c → IsBucket Seq (512 * h.bucket) bytes → ((k : ℕ) → k < u → k ≢ i → IsBucket Seq (512 * h.bucket) (bucket_at h b k))
    → (k : ℕ) → k < u → IsBucket Seq (512 * h.bucket) (bucket_at h c k)
still_buckets h i u bytes b c change bucket were k below = ⊎_elim
    (λ e. subst (λ (x : List ℕ). IsBucket Seq (512 * h.bucket) x) (sym (ap (bucket_at h c) e ∙ change.here)) bucket)
    (λ not. subst (λ (x : List ℕ). IsBucket Seq (512 * h.bucket) x) (sym (change.others k not)) (were k below not))
    (cases_eq k i)

all_push : (mrs : ℕ) (rs : List (List ℕ)) (r : List ℕ) → All (IsRecord mrs) rs → IsRecord mrs r → All (IsRecord mrs) (rs ++ r ∷ [])
all_push mrs [] r all one = all_cons (IsRecord mrs) r [] one all
all_push mrs (x ∷ rs) r all one = all_cons (IsRecord mrs) x (rs ++ r ∷ []) (head_of_all (IsRecord mrs) x rs all) (all_push mrs rs r (rest_of_all (IsRecord mrs) x rs all) one)

all_take : (mrs n : ℕ) (rs : List (List ℕ)) → All (IsRecord mrs) rs → All (IsRecord mrs) (take n rs)
all_take mrs zero rs all = λ k d below. absurd (omega arith)
all_take mrs (suc n) [] all = all
all_take mrs (suc n) (x ∷ rs) all = all_cons (IsRecord mrs) x (take n rs) (head_of_all (IsRecord mrs) x rs all) (all_take mrs n rs (rest_of_all (IsRecord mrs) x rs all))

all_set : (mrs i : ℕ) (rs : List (List ℕ)) (r : List ℕ) → All (IsRecord mrs) rs → IsRecord mrs r → All (IsRecord mrs) (set rs i r)
all_set mrs i [] r all one = all
all_set mrs zero (x ∷ rs) r all one = all_cons (IsRecord mrs) r rs one (rest_of_all (IsRecord mrs) x rs all)
all_set mrs (suc i) (x ∷ rs) r all one = all_cons (IsRecord mrs) x (set rs i r) (head_of_all (IsRecord mrs) x rs all) (all_set mrs i rs r (rest_of_all (IsRecord mrs) x rs all) one)

-- a record more, in the last used bucket
pub after_push : (h : FileHead) (k n : ℕ) (bytes r : List ℕ) (b c : Blocks) → h.used ≡ suc k → IsLaidOut h b → Changed h k bytes b c → IsBucket Seq (512 * h.bucket) bytes
    → slots_of Seq bytes ≡ slots_at h b k ++ slot_of r ∷ [] → IsRecord h.mrs r → n ≡ h.count + 1 → Becomes (head_with h h.used n) c (list_set n (Some r) (records_in h b))
after_push h k n bytes r b c last valid change bucket slots one count =
    let S = slots_at h b in
    let T = slots_at h c in
    let at : T k ≡ S k ++ slot_of r ∷ [] = ap (slots_of Seq) change.here ∙ slots in
    let others : (i : ℕ) → i ≢ k → T i ≡ S i = λ i not. ap (slots_of Seq) (change.others i not) in
    let room = ap (λ ss. length (joined ss)) slots ∙ joined_push (S k) (slot_of r) in
    let fits = bucket.packed.fits in
    let along : slots_along T (suc k) ≡ slots_along S (suc k) ++ slot_of r ∷ [] =
    slots_along_last S T k (S k ++ slot_of r ∷ []) at (λ i less. others i (λ e. omega arith)) ∙ sym (append_assoc (slots_along S k) (S k) (slot_of r ∷ [])) in
    let all : slots_along T h.used ≡ slots_along S h.used ++ slot_of r ∷ [] = subst (λ (m : ℕ). slots_along T m ≡ slots_along S m ++ slot_of r ∷ []) (sym last) along in
    let records : records_in (head_with h h.used n) c ≡ records_in h b ++ r ∷ [] = ap (map record_of) all ∙ map_push record_of (slots_along S h.used) (slot_of r) in
    let size = valid.count in
    let next = list_set_next n r (records_in h b) (omega arith) in
    record {
      valid = laid_out h h.used n c (records_in h b ++ r ∷ []) (still_buckets h k h.used bytes b c change bucket (λ i below not. valid.buckets i below))
          (filled_push (capacity h) S T k h.used (slot_of r) last (filled_of h b valid) at others (omega (arith, room, fits)))
          records (all_push h.mrs (records_in h b) r valid.records one) (omega (arith, length_push (records_in h b) r));
      are = records ∙ sym next;
    }

-- a record more, in the next bucket
pub after_next : (h : FileHead) (k n : ℕ) (bytes r : List ℕ) (b c : Blocks) → h.used ≡ suc k → IsLaidOut h b → Changed h h.used bytes b c → IsBucket Seq (512 * h.bucket) bytes
    → slots_of Seq bytes ≡ slot_of r ∷ [] → capacity h < length (joined (slots_at h b k)) + length (slot_of r) → IsRecord h.mrs r → n ≡ h.count + 1
    → Becomes (head_with h (h.used + 1) n) c (list_set n (Some r) (records_in h b))
after_next h k n bytes r b c last valid change bucket slots over one count =
    let S = slots_at h b in
    let T = slots_at h c in
    let at : T h.used ≡ slot_of r ∷ [] = ap (slots_of Seq) change.here ∙ slots in
    let others : (i : ℕ) → i ≢ h.used → T i ≡ S i = λ i not. ap (slots_of Seq) (change.others i not) in
    let alone = ap (λ ss. length (joined ss)) slots in
    let fits = bucket.packed.fits in
    let more : suc h.used ≡ h.used + 1 = omega arith in
    let all : slots_along T (h.used + 1) ≡ slots_along S h.used ++ slot_of r ∷ [] =
    ap (slots_along T) (sym more) ∙ slots_along_last S T h.used (slot_of r ∷ []) at (λ i less. others i (λ e. omega arith)) in
    let records : records_in (head_with h (h.used + 1) n) c ≡ records_in h b ++ r ∷ [] = ap (map record_of) all ∙ map_push record_of (slots_along S h.used) (slot_of r) in
    let size = valid.count in
    let next = list_set_next n r (records_in h b) (omega arith) in
    record {
      valid = laid_out h (h.used + 1) n c (records_in h b ++ r ∷ []) (still_buckets h h.used (h.used + 1) bytes b c change bucket (λ i below not. valid.buckets i (omega arith)))
          (filled_next (capacity h) S T k h.used (slot_of r) last (filled_of h b valid) at others over (omega (arith, alone, fits, length-append (slot_of r) [])))
          records (all_push h.mrs (records_in h b) r valid.records one) (omega (arith, length_push (records_in h b) r));
      are = records ∙ sym next;
    }

-- another record of the same length, in its place
pub after_set : (h : FileHead) (k j n : ℕ) (bytes r : List ℕ) (b c : Blocks) → k < h.used → j < length (slots_at h b k) → n ≡ length (slots_along (slots_at h b) k) + j + 1 → IsLaidOut h b → Changed h k bytes b c
    → IsBucket Seq (512 * h.bucket) bytes → slots_of Seq bytes ≡ set (slots_at h b k) j (slot_of r) → length (slot_of r) ≡ length (get_or (slots_at h b k) j []) → IsRecord h.mrs r
    → Becomes h c (list_set n (Some r) (records_in h b))
after_set h k j n bytes r b c below there number valid change bucket slots same one =
    let S = slots_at h b in
    let T = slots_at h c in
    let at : T k ≡ set (S k) j (slot_of r) = ap (slots_of Seq) change.here ∙ slots in
    let others : (i : ℕ) → i ≢ k → T i ≡ S i = λ i not. ap (slots_of Seq) (change.others i not) in
    let long = along_long S h.used k below in
    let all = slots_along_set S T h.used k j (slot_of r) below there at others in
    let place : length (slots_along S k) + j ≡ n - 1 = omega arith in
    let records : records_in h c ≡ set (records_in h b) (n - 1) r =
    ap (map record_of) all ∙ map-set record_of (slots_along S h.used) (length (slots_along S k) + j) (slot_of r) ∙ ap (λ m. set (records_in h b) m r) place in
    let size = length-map (slots_along S h.used) record_of in
    let stands = list_set_stands n r (records_in h b) (omega arith) (omega arith) in
    record {
      valid = laid_out h h.used h.count c (set (records_in h b) (n - 1) r) (still_buckets h k h.used bytes b c change bucket (λ i less not. valid.buckets i less))
          (filled_sized (capacity h) S T h.used (filled_of h b valid) (λ i. ⊎_elim
          (λ e. ap (λ m. map length (T m)) e ∙ ap (map length) at ∙ map-set length (S k) j (slot_of r) ∙ ap (set (map length (S k)) j) same ∙ set_own (S k) j ∙ ap (λ m. map length (S m)) (sym e))
          (λ not. ap (map length) (others i not)) (cases_eq i k)))
          records (all_set h.mrs (n - 1) (records_in h b) r valid.records one) (length-set (records_in h b) (n - 1) r ∙ valid.count);
      are = records ∙ sym stands;
    }
  where
    set_own : (ss : List (List ℕ)) (j : ℕ) → set (map length ss) j (length (get_or ss j [])) ≡ map length ss
    set_own [] j = refl
    set_own (s ∷ ss) zero = refl
    set_own (s ∷ ss) (suc j) = ap (λ t. length s ∷ t) (set_own ss j)

-- the first records alone: those of a bucket from a place on are gone, and the buckets behind it
pub after_cut : (h : FileHead) (k j n : ℕ) (bytes : List ℕ) (b c : Blocks) → k < h.used → j < length (slots_at h b k) → n ≡ length (slots_along (slots_at h b) k) + j + 1 → IsLaidOut h b → Changed h k bytes b c
    → IsBucket Seq (512 * h.bucket) bytes → slots_of Seq bytes ≡ take j (slots_at h b k) → ((k ≡ 0) ⊎ (1 ≤ j)) → Becomes (head_with h (k + 1) (n - 1)) c (take (n - 1) (records_in h b))
after_cut h k j n bytes b c below there number valid change bucket slots some =
    let S = slots_at h b in
    let T = slots_at h c in
    let at : T k ≡ take j (S k) = ap (slots_of Seq) change.here ∙ slots in
    let others : (i : ℕ) → i ≢ k → T i ≡ S i = λ i not. ap (slots_of Seq) (change.others i not) in
    let more : suc k ≡ k + 1 = omega arith in
    let place : length (slots_along S k) + j ≡ n - 1 = omega arith in
    let long = along_long S h.used k below in
    let all : slots_along T (k + 1) ≡ take (n - 1) (slots_along S h.used) =
    ap (slots_along T) (sym more) ∙ slots_along_last S T k (take j (S k)) at (λ i less. others i (λ e. omega arith))
    ∙ sym (take_into (slots_along S k) (S k) j) ∙ ap (λ m. take m (slots_along S (suc k))) place
    ∙ sym (along_take S h.used k (n - 1) below (omega (arith, length-append (slots_along S k) (S k)))) in
    let records : records_in (head_with h (k + 1) (n - 1)) c ≡ take (n - 1) (records_in h b) = ap (map record_of) all ∙ sym (take-map record_of (n - 1) (slots_along S h.used)) in
    let size = length-map (slots_along S h.used) record_of in
    record {
      valid = laid_out h (k + 1) (n - 1) c (take (n - 1) (records_in h b)) (still_buckets h k (k + 1) bytes b c change bucket (λ i less not. valid.buckets i (omega arith)))
          (subst (λ (m : ℕ). IsFilled (capacity h) T m) more (filled_take (capacity h) S T k j h.used below (filled_of h b valid) at others some))
          records (all_take h.mrs (n - 1) (records_in h b) valid.records) (length-take-le (n - 1) (records_in h b) (omega arith));
      are = records;
    }
  where
    take_into : (a s : List (List ℕ)) (j : ℕ) → take (length a + j) (a ++ s) ≡ a ++ take j s
    take_into [] s j = let e : 0 + j ≡ j = omega arith in ap (λ m. take m s) e
    take_into (x ∷ a) s j = let e : suc (length a) + j ≡ suc (length a + j) = omega arith in ap (λ m. take m (x ∷ (a ++ s))) e ∙ ap (λ t. x ∷ t) (take_into a s j)

-- the same where the bucket begins with the first record that is gone: it is used no more
pub after_drop : (h : FileHead) (k n : ℕ) (b c : Blocks) → 1 ≤ k → k < h.used → n ≡ length (slots_along (slots_at h b) k) + 1 → IsLaidOut h b → ((i : ℕ) → i < k → bucket_at h c i ≡ bucket_at h b i)
    → Becomes (head_with h k (n - 1)) c (take (n - 1) (records_in h b))
after_drop h k n b c one below number valid same =
    let S = slots_at h b in
    let T = slots_at h c in
    let alike : (i : ℕ) → i < k → T i ≡ S i = λ i less. ap (slots_of Seq) (same i less) in
    let place : length (slots_along S k) ≡ n - 1 = omega arith in
    let long = along_long S h.used k below in
    let all : slots_along T k ≡ take (n - 1) (slots_along S h.used) =
    slots_along_same S T k alike ∙ sym (take_at (slots_along S k) (S k) (n - 1) place) ∙ sym (along_take S h.used k (n - 1) below (omega (arith, length-append (slots_along S k) (S k)))) in
    let records : records_in (head_with h k (n - 1)) c ≡ take (n - 1) (records_in h b) = ap (map record_of) all ∙ sym (take-map record_of (n - 1) (slots_along S h.used)) in
    let size = length-map (slots_along S h.used) record_of in
    record {
      valid = laid_out h k (n - 1) c (take (n - 1) (records_in h b)) (λ i less. subst (λ (x : List ℕ). IsBucket Seq (512 * h.bucket) x) (sym (same i less)) (valid.buckets i (omega arith)))
          (filled_alike (capacity h) S T k alike (filled_fewer (capacity h) S h.used k (filled_of h b valid) (omega arith)))
          records (all_take h.mrs (n - 1) (records_in h b) valid.records) (length-take-le (n - 1) (records_in h b) (omega arith));
      are = records;
    }
