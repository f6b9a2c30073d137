-- A bucket as it is read.
use Rattle.std.proofs.Common.{◌≡◌, ℕ, ◌≤◌, ◌+◌, ◌-◌, ◌*◌, Bool, true, false, List, length, take, replicate, if◌then◌else◌, refl, sym, ap, ◌∙◌, arith, rules}
use Rattle.std.proofs.lemmas.List.{same_lists, places, length-append, length-replicate, take-take}
use Rattle.std.proofs.lemmas.Slice.Eq.{bytes_eq-Decides}
use Rattle.file_base.specs.declared.head.FileHead.{FileHead}
use Rattle.file_base.specs.Bytes.{spliced}
use Rattle.change_set.specs.Buckets.{bucket_bytes, with_bucket}
use Rattle.change_set.proofs.BucketLaws.{bucket_bytes-with_bucket}
use Rattle.relative_file.specs.Cells.{front_of, empty_bucket, has_front, as_read, bucket_at}

-- what stands before a piece stays
pub take_spliced_below : (bytes : List ℕ) (n at : ℕ) (piece : List ℕ) → n ≤ at → at + length piece ≤ length bytes → take n (spliced bytes at piece) ≡ take n bytes
take_spliced_below bytes n at piece below within = same_lists _ _ (search (rules, places)) (λ k d h. grind (arith, places))

not_true : (t : Bool) → (t ≡ true → ⊥) → t ≡ false
not_true true not = absurd (not refl)
not_true false not = refl

if_yes : (t : Bool) (x y : List ℕ) → t ≡ true → (if t then x else y) ≡ x
if_yes true x y h = refl
if_yes false x y h = cc

if_not : (t : Bool) (x y : List ℕ) → t ≡ false → (if t then x else y) ≡ y
if_not true x y h = cc
if_not false x y h = refl

-- bytes that begin with the header are read as they are
pub as_read_same : (h : FileHead) (x : List ℕ) → take 16 x ≡ front_of h → as_read h x ≡ x
as_read_same h x is = if_yes (has_front h x) x (empty_bucket h) ((bytes_eq-Decides (take 16 x) (front_of h)).1 is)

-- and others as absent cells
pub as_read_other : (h : FileHead) (x : List ℕ) → has_front h x ≡ false → as_read h x ≡ empty_bucket h
as_read_other h x is = if_not (has_front h x) x (empty_bucket h) is

-- the same of the front of some bytes
pub read_as_is : (h : FileHead) (x : List ℕ) (n : ℕ) → 16 ≤ n → take 16 x ≡ front_of h → as_read h (take n x) ≡ take n x
read_as_is h x n least is = as_read_same h (take n x) (take-take 16 n x least ∙ is)

pub read_empty : (h : FileHead) (x : List ℕ) (n : ℕ) → 16 ≤ n → (take 16 x ≡ front_of h → ⊥) → as_read h (take n x) ≡ empty_bucket h
read_empty h x n least not = as_read_other h (take n x) (not_true (has_front h (take n x)) (λ yes. not (sym (take-take 16 n x least) ∙ (bytes_eq-Decides (take 16 (take n x)) (front_of h)).0 yes)))

-- each bucket is read with the header
pub front_as_read : (h : FileHead) (x : List ℕ) → take 16 (as_read h x) ≡ front_of h
front_as_read h x = by (has_front h x) (bytes_eq-Decides (take 16 x) (front_of h)).0
  where
    by : (t : Bool) → (t ≡ true → take 16 x ≡ front_of h) → take 16 (if t then x else empty_bucket h) ≡ front_of h
    by true is = is refl
    by false is = refl

-- and with as many bytes as it has
pub length-as_read : (h : FileHead) (x : List ℕ) → 16 ≤ 512 * h.bucket → length x ≡ 512 * h.bucket → length (as_read h x) ≡ 512 * h.bucket
length-as_read h x least long = by (has_front h x)
  where
    by : (t : Bool) → length (if t then x else empty_bucket h) ≡ 512 * h.bucket
    by true = long
    by false = length-append (front_of h) (replicate (512 * h.bucket - 16) 0) ∙ omega (arith, length-replicate {A = ℕ} (512 * h.bucket - 16) 0)

-- a bucket that was written as it is read, with a piece behind its header, is read as it was written
pub bucket_after : (h : FileHead) (b : List (List ℕ)) (first place : ℕ) (bytes piece : List ℕ) → first + h.bucket ≤ length b → 16 ≤ place → place + length piece ≤ length (bucket_at h b first)
    → take (512 * h.bucket) bytes ≡ spliced (bucket_at h b first) place piece
    → bucket_at h (with_bucket bytes b first h.bucket) first ≡ spliced (bucket_at h b first) place piece
bucket_after h b first place bytes piece within far fits is =
    let old = bucket_bytes b first h.bucket in
    ap (as_read h) (bucket_bytes-with_bucket bytes b first h.bucket within ∙ is)
    ∙ as_read_same h (spliced (as_read h old) place piece) (take_spliced_below (as_read h old) 16 place piece far fits ∙ front_as_read h old)
