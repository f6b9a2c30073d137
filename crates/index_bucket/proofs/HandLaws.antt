-- Entries that are handed up into a bucket.
use Rattle.std.proofs.Common.{◌≡◌, ◌≤◌, ◌+◌, ◌-◌, ◌*◌, ◌/◌, ℕ, suc, List, [], ◌∷◌, length, map, ap, ◌∙◌, arith}
use Rattle.std.proofs.lemmas.Nat.{le-div}
use Rattle.std.proofs.Math.Nat.{div-mul-le_self}
use Rattle.file_base.specs.declared.head.FileHead.{FileHead}
use Rattle.bucket_page.specs.Pages.{slots_of, IsPacked}
use Rattle.index_bucket.specs.Entries.{index_kind, entry_of, sizes_of}
use Rattle.bucket_page.specs.Pages.{inserted}
use Rattle.index_model.specs.Indexes.{entry_place, with_added}
use Rattle.index_bucket.proofs.EntryLaws.{joined_size}
use Rattle.index_bucket.proofs.AddedLaws.{one_added, two_added}

pub fan_out_fits : (b k : ℕ) → 1 ≤ b → 16 + (512 * b - 16) / (k + 4) * (k + 4) ≤ 512 * b
fan_out_fits b k one = let most : (512 * b - 16) / (k + 4) * (k + 4) ≤ 512 * b - 16 = div-mul-le_self (512 * b - 16) (k + 4) in omega (arith, most, one)

pub fan_out_wide : (b k : ℕ) → 1 ≤ b → k ≤ 64 → 3 ≤ (512 * b - 16) / (k + 4)
fan_out_wide b k one short = le-div 3 (512 * b - 16) (k + 4) (omega arith) (omega (arith, one, short))

-- a bucket holds no more entries than that
pub count_few : (h : FileHead) (size : ℕ) (bytes : List ℕ) → size ≡ 512 * h.bucket → IsPacked (index_kind h) size bytes → length (slots_of (index_kind h) bytes) ≤ (sizes_of h).fan_out
count_few h size bytes sized packed =
    let long = joined_size h (slots_of (index_kind h) bytes) packed.suit in
    let fits = packed.fits in
    le-div (length (slots_of (index_kind h) bytes)) (512 * h.bucket - 16) (h.key_size + 4) (omega arith) (omega (arith, long, fits, sized))

-- one entry, put in at a place that is told
pub one_at : (h : FileHead) (k x : List ℕ) (raws : List (List ℕ)) (at : ℕ) → 1 ≤ length raws → at ≡ entry_place k (map (entry_of h) raws) → map (entry_of h) (inserted raws (at + 1) x) ≡ with_added k (entry_of h x ∷ []) (map (entry_of h) raws)
one_at h k x raws at some is =
    let place : at + 1 ≡ suc (entry_place k (map (entry_of h) raws)) = omega (arith, is) in
    ap (λ (n : ℕ). map (entry_of h) (inserted raws n x)) place ∙ one_added h k x raws some

pub two_at : (h : FileHead) (k x y : List ℕ) (raws : List (List ℕ)) (at : ℕ) → 1 ≤ length raws → at ≡ entry_place k (map (entry_of h) raws)
    → map (entry_of h) (inserted (inserted raws (at + 1) x) (at + 1 + 1) y) ≡ with_added k (entry_of h x ∷ entry_of h y ∷ []) (map (entry_of h) raws)
two_at h k x y raws at some is =
    let place : at + 1 ≡ suc (entry_place k (map (entry_of h) raws)) = omega (arith, is) in
    let next : at + 1 + 1 ≡ suc (suc (entry_place k (map (entry_of h) raws))) = omega (arith, is) in
    (λ i. map (entry_of h) (inserted (inserted raws (place i) x) (next i) y)) ∙ two_added h k x y raws some
