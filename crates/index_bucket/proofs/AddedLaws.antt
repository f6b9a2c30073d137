-- Entries that come in behind the one that a key leads to, as bytes.
use Rattle.std.proofs.Common.{◌≡◌, ◌≤◌, ℕ, suc, Bool, true, false, List, [], ◌∷◌, ◌++◌, length, map, if◌then◌else◌, refl, ap, arith}
use Rattle.std.specs.List.{list_any}
use Rattle.file_base.specs.declared.head.FileHead.{FileHead}
use Rattle.bucket_page.specs.Pages.{inserted}
use Rattle.index_model.specs.Indexes.{leads_by, entry_place, with_added}
use Rattle.index_bucket.specs.Entries.{entry_of}

abbrev Raws : Type 0
Raws = List (List ℕ)

-- one entry, put in behind the place
pub one_added : (h : FileHead) (k x : List ℕ) (raws : Raws) → 1 ≤ length raws → map (entry_of h) (inserted raws (suc (entry_place k (map (entry_of h) raws))) x) ≡ with_added k (entry_of h x ∷ []) (map (entry_of h) raws)
one_added h k x [] some = absurd (omega arith)
one_added h k x (s ∷ []) some = refl
one_added h k x (s ∷ t ∷ ts) some = go (list_any (leads_by k) (map (entry_of h) (t ∷ ts))) (one_added h k x (t ∷ ts) (omega arith))
  where
    go : (b : Bool) → map (entry_of h) (inserted (t ∷ ts) (suc (entry_place k (map (entry_of h) (t ∷ ts)))) x) ≡ with_added k (entry_of h x ∷ []) (map (entry_of h) (t ∷ ts))
        → map (entry_of h) (inserted (s ∷ t ∷ ts) (suc (if b then suc (entry_place k (map (entry_of h) (t ∷ ts))) else 0)) x)
        ≡ (if b then entry_of h s ∷ with_added k (entry_of h x ∷ []) (map (entry_of h) (t ∷ ts)) else entry_of h s ∷ ((entry_of h x ∷ []) ++ map (entry_of h) (t ∷ ts)))
    go true later = ap (λ l. entry_of h s ∷ l) later
    go false later = refl

-- and two
pub two_added : (h : FileHead) (k x y : List ℕ) (raws : Raws) → 1 ≤ length raws
    → map (entry_of h) (inserted (inserted raws (suc (entry_place k (map (entry_of h) raws))) x) (suc (suc (entry_place k (map (entry_of h) raws)))) y) ≡ with_added k (entry_of h x ∷ entry_of h y ∷ []) (map (entry_of h) raws)
two_added h k x y [] some = absurd (omega arith)
two_added h k x y (s ∷ []) some = refl
two_added h k x y (s ∷ t ∷ ts) some = go (list_any (leads_by k) (map (entry_of h) (t ∷ ts))) (two_added h k x y (t ∷ ts) (omega arith))
  where
    go : (b : Bool) → map (entry_of h) (inserted (inserted (t ∷ ts) (suc (entry_place k (map (entry_of h) (t ∷ ts)))) x) (suc (suc (entry_place k (map (entry_of h) (t ∷ ts))))) y) ≡ with_added k (entry_of h x ∷ entry_of h y ∷ []) (map (entry_of h) (t ∷ ts))
        → map (entry_of h) (inserted (inserted (s ∷ t ∷ ts) (suc (if b then suc (entry_place k (map (entry_of h) (t ∷ ts))) else 0)) x) (suc (suc (if b then suc (entry_place k (map (entry_of h) (t ∷ ts))) else 0))) y)
        ≡ (if b then entry_of h s ∷ with_added k (entry_of h x ∷ entry_of h y ∷ []) (map (entry_of h) (t ∷ ts)) else entry_of h s ∷ ((entry_of h x ∷ entry_of h y ∷ []) ++ map (entry_of h) (t ∷ ts)))
    go true later = ap (λ l. entry_of h s ∷ l) later
    go false later = refl
