-- Index buckets that are written.
use Rattle.std.proofs.Common.{◌≡◌, ◌≤◌, ◌<◌, ◌⊎◌, ⊎_elim, inl, inr, ◌+◌, ◌-◌, ◌*◌, ◌/◌, ◌==◌, ℕ, Bool, true, false, List, length, take, drop, map, if◌then◌else◌, refl, sym, ap, ◌∙◌, arith}
use Rattle.std.proofs.lemmas.Bool.{cases_lt}
use Rattle.std.proofs.lemmas.List.{take-map, drop-map}
use Rattle.file_base.specs.declared.head.FileHead.{FileHead}
use Rattle.index_bucket.specs.bucket_page.Pages.{next_of, Packs}
use Rattle.change_set.specs.Buckets.{with_bucket}
use Rattle.change_set.proofs.BucketLaws.{length-with_bucket, block_at-with_bucket_other, bucket_bytes_agree, bucket_bytes-with_bucket}
use Rattle.change_set.proofs.Extents.{ranges_apart}
use Rattle.index_bucket.specs.index_model.Indexes.{Entry, with_added, set_entries}
use Rattle.index_bucket.proofs.index_model.HandLemmas.{same_test, self_test}
use Rattle.index_bucket.specs.Entries.{index_kind, sizes_of, entry_of, entries_at}
use Rattle.index_bucket.specs.Takes.{Takes, whole, halved, TakesIn}
use Rattle.index_bucket.proofs.EntryLaws.{length_entries}
use Rattle.index_blocks.specs.Buckets.{bucket_first, bucket_at}
use Rattle.index_blocks.specs.Levels.{entries_in}
use Rattle.index_blocks.specs.Writes.{with_halves, entries_set}

-- the bucket that is written has the front of the bytes
pub bucket_same : (h : FileHead) (b : List (List ℕ)) (bytes : List ℕ) (m : ℕ) → m < h.alloc → h.start - 518 + h.alloc * h.bucket ≤ length b → bucket_at h (with_bucket bytes b (bucket_first h m) h.bucket) m ≡ take (512 * h.bucket) bytes
bucket_same h b bytes m below within =
    let lies = ranges_apart m h.alloc h.bucket below in
    bucket_bytes-with_bucket bytes b (bucket_first h m) h.bucket (omega (arith, lies))

-- and another one stays
pub bucket_other : (h : FileHead) (b : List (List ℕ)) (bytes : List ℕ) (m j : ℕ) → (m ≡ j → ⊥) → bucket_at h (with_bucket bytes b (bucket_first h m) h.bucket) j ≡ bucket_at h b j
bucket_other h b bytes m j other = bucket_bytes_agree _ b (bucket_first h j) h.bucket (λ k from to. block_at-with_bucket_other bytes b (bucket_first h m) h.bucket k (apart k from to))
  where
    apart : (k : ℕ) → bucket_first h j ≤ k → k < bucket_first h j + h.bucket → (k < bucket_first h m) ⊎ (bucket_first h m + h.bucket ≤ k)
    apart k from to = ⊎_elim
        (λ less. let lies = ranges_apart j m h.bucket less in inl (omega (arith, lies)))
        (λ not_less. ⊎_elim
        (λ more. let lies = ranges_apart m j h.bucket more in inr (omega (arith, lies)))
        (λ not_more. let same : m ≡ j = omega arith in absurd (other same))
        (cases_lt m j))
        (cases_lt j m)

-- one bucket is written
pub wrote : (h : FileHead) (b : List (List ℕ)) (n : ℕ) → n < h.alloc → h.start - 518 + h.alloc * h.bucket ≤ length b → (bytes : List ℕ) (es : List Entry) → entries_at h (take (512 * h.bucket) bytes) ≡ es
    → (m : ℕ) → entries_in h (with_bucket bytes b (bucket_first h n) h.bucket) m ≡ set_entries n es (entries_in h b) m
wrote h b n there within bytes es is m = go (m == n) refl
  where
    go : (t : Bool) → (m == n) ≡ t → entries_in h (with_bucket bytes b (bucket_first h n) h.bucket) m ≡ (if t then es else entries_in h b m)
    go true h' = let same : m ≡ n = same_test m n h' in
        ap (entries_in h (with_bucket bytes b (bucket_first h n) h.bucket)) same ∙ ap (entries_at h) (bucket_same h b bytes n there within) ∙ is
    go false h' = ap (entries_at h) (bucket_other h b bytes n m (λ same. let self = self_test m in let back : (m == n) ≡ true = ap (λ x. m == x) same ∙ self in let none : ⊥ = cc in none))

packed_entries : (h : FileHead) (size next : ℕ) (raws : List (List ℕ)) (bytes : List ℕ) → Packs (index_kind h) size raws next bytes → entries_at h bytes ≡ map (entry_of h) raws
packed_entries h size next raws bytes packs = ap (map (entry_of h)) packs.slots_are

set_agree : (n : ℕ) (es : List Entry) (f g : ℕ → List Entry) (m : ℕ) → f m ≡ g m → set_entries n es f m ≡ set_entries n es g m
set_agree n es f g m same = go (m == n)
  where
    go : (t : Bool) → (if t then es else f m) ≡ (if t then es else g m)
    go true = refl
    go false = same

-- the entries of all buckets, once one took entries and was written
pub halves_written : (h : FileHead) (b : List (List ℕ)) (n fresh : ℕ) (k : List ℕ) (added : List Entry) (parted : Bool) (low high : List ℕ) → n < h.alloc → fresh < h.alloc → h.start - 518 + h.alloc * h.bucket ≤ length b
    → TakesIn h (512 * h.bucket) k added (bucket_at h b n) parted (take (512 * h.bucket) low) (take (512 * h.bucket) high)
    → (m : ℕ) → entries_in h (with_halves h n fresh parted low high b) m ≡ entries_set n fresh parted (with_added k added (entries_in h b n)) (entries_in h b) m
halves_written h b n fresh k added parted low high there new_there within takes m = by_takes parted takes.takes
  where
    size : ℕ
    size = 512 * h.bucket

    all : List Entry
    all = with_added k added (entries_in h b n)

    half_is : length takes.raws / 2 ≡ length all / 2
    half_is = ap (λ j. j / 2) (sym (length_entries h takes.raws) ∙ ap length takes.entries)

    by_takes : (p : Bool) → Takes (index_kind h) size (sizes_of h).fan_out (next_of (bucket_at h b n)) takes.raws p (take size low) (take size high) → entries_in h (with_halves h n fresh p low high b) m ≡ entries_set n fresh p all (entries_in h b) m
    by_takes false (whole is few packs) = wrote h b n there within low all (packed_entries h size _ takes.raws (take size low) packs ∙ takes.entries) m
    by_takes true (whole is few packs) = let none : ⊥ = cc in absurd none
    by_takes false (halved is over packs rest) = let none : ⊥ = cc in absurd none
    by_takes true (halved is over packs rest) =
        let low_is : entries_at h (take size low) ≡ take (length all / 2) all =
        packed_entries h size _ (take (length takes.raws / 2) takes.raws) (take size low) packs ∙ sym (take-map (entry_of h) (length takes.raws / 2) takes.raws) ∙ (λ i. take (half_is i) (takes.entries i)) in
        let high_is : entries_at h (take size high) ≡ drop (length all / 2) all =
        packed_entries h size _ (drop (length takes.raws / 2) takes.raws) (take size high) rest ∙ sym (drop-map (entry_of h) (length takes.raws / 2) takes.raws) ∙ (λ i. drop (half_is i) (takes.entries i)) in
        let b1 : List (List ℕ) = with_bucket low b (bucket_first h n) h.bucket in
        let long : length b1 ≡ length b = length-with_bucket low b (bucket_first h n) h.bucket in
        wrote h b1 fresh new_there (omega (arith, long, within)) high (drop (length all / 2) all) high_is m
        ∙ set_agree fresh (drop (length all / 2) all) (entries_in h b1) (set_entries n (take (length all / 2) all) (entries_in h b)) m (wrote h b n there within low (take (length all / 2) all) low_is m)

-- other buckets stay
pub halves_other : (h : FileHead) (b : List (List ℕ)) (n fresh : ℕ) (parted : Bool) (low high : List ℕ) (m : ℕ) → (m ≡ n → ⊥) → (m ≡ fresh → ⊥) → bucket_at h (with_halves h n fresh parted low high b) m ≡ bucket_at h b m
halves_other h b n fresh false low high m other new = bucket_other h b low n m (λ same. other (sym same))
halves_other h b n fresh true low high m other new =
    bucket_other h (with_bucket low b (bucket_first h n) h.bucket) high fresh m (λ same. new (sym same)) ∙ bucket_other h b low n m (λ same. other (sym same))

-- the bucket has the lower half, and the new one the upper half
pub lower_half : (h : FileHead) (b : List (List ℕ)) (n fresh : ℕ) (parted : Bool) (low high : List ℕ) → n < h.alloc → (n ≡ fresh → ⊥) → h.start - 518 + h.alloc * h.bucket ≤ length b
    → bucket_at h (with_halves h n fresh parted low high b) n ≡ take (512 * h.bucket) low
lower_half h b n fresh false low high there apart within = bucket_same h b low n there within
lower_half h b n fresh true low high there apart within = bucket_other h (with_bucket low b (bucket_first h n) h.bucket) high fresh n (λ same. apart (sym same)) ∙ bucket_same h b low n there within

pub upper_half : (h : FileHead) (b : List (List ℕ)) (n fresh : ℕ) (low high : List ℕ) → fresh < h.alloc → h.start - 518 + h.alloc * h.bucket ≤ length b → bucket_at h (with_halves h n fresh true low high b) fresh ≡ take (512 * h.bucket) high
upper_half h b n fresh low high there within =
    let long : length (with_bucket low b (bucket_first h n) h.bucket) ≡ length b = length-with_bucket low b (bucket_first h n) h.bucket in
    bucket_same h (with_bucket low b (bucket_first h n) h.bucket) high fresh there (omega (arith, long, within))

pub long_halves : (h : FileHead) (b : List (List ℕ)) (n fresh : ℕ) (parted : Bool) (low high : List ℕ) → length (with_halves h n fresh parted low high b) ≡ length b
long_halves h b n fresh false low high = length-with_bucket low b (bucket_first h n) h.bucket
long_halves h b n fresh true low high = length-with_bucket high (with_bucket low b (bucket_first h n) h.bucket) (bucket_first h fresh) h.bucket ∙ length-with_bucket low b (bucket_first h n) h.bucket
