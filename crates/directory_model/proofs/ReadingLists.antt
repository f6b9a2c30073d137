-- Entries in the order of their keys, and the records of a sequential file as such.
use Rattle.std.proofs.Common.{◌≡◌, ℕ, zero, suc, ◌+◌, ◌<◌, List, [], ◌∷◌, length, drop, Bool, true, false, cond, T, Some, None, refl, sym, ap, ◌∙◌, arith}
use Rattle.std.specs.Prelude.{◌&&◌}
use Rattle.std.specs.List.{slice_get}
use Rattle.std.specs.FinMap.{entries, entries_sorted, get, get-entries, find, is_sorted}
use Rattle.std.specs.FinMap.Entries.{below_all, same_entries}
use Rattle.file_images.proofs.change_set.NumberKeys.{same_test, other_test, number_below}
use Rattle.file_images.specs.change_set.Maps.{Map, key_before}
use Rattle.records_model.specs.vms_model.Keys.{Key, Number, Text, End}
use Rattle.records_model.specs.Records.{Records, key_cmp}
use Rattle.records_model.proofs.KeyLemmas.{key_cmp_total, key_cmp-IsAntisymmetric}
use Rattle.file_images.specs.seq_file.Records.{map_of_list}

abbrev pub Entries : Type 0
Entries = List (Key × List ℕ)

pub as_test : (b : Bool) → b ≡ true → T b
as_test true e = tt
as_test false e = let no : ⊥ = cc in absurd no

pub both_tests : (a b : Bool) → T a → T b → T (a && b)
both_tests true b p q = q
both_tests false b p q = p

-- entries in order that have what the keys have are all
pub listed : (m : Records) (es : Entries) → T (is_sorted key_cmp es) → ((key : Key) → get m key ≡ find key_cmp key es) → entries m ≡ es
listed m es sorted same = same_entries key_cmp key_cmp_total key_cmp-IsAntisymmetric (entries m) es (entries_sorted m) sorted (λ q. sym (get-entries m q) ∙ same q)

-- records by their position, from one on
abbrev pub numbered : ℕ → List (List ℕ) → Entries
numbered n [] = []
numbered n (r ∷ rs) = (Number n, r) ∷ numbered (suc n) rs

pub length-numbered : (n : ℕ) (rs : List (List ℕ)) → length (numbered n rs) ≡ length rs
length-numbered n [] = refl
length-numbered n (r ∷ rs) = ap suc (length-numbered (suc n) rs)

below_numbered : (m n : ℕ) (rs : List (List ℕ)) → m < n → T (below_all key_cmp (Number m) (numbered n rs))
below_numbered m n [] below = tt
below_numbered m n (r ∷ rs) below = both_tests (key_before (Number m) (Number n)) _ (as_test _ (number_below m n below)) (below_numbered m (suc n) rs (omega arith))

pub sorted_numbered : (n : ℕ) (rs : List (List ℕ)) → T (is_sorted key_cmp (numbered n rs))
sorted_numbered n [] = tt
sorted_numbered n (r ∷ rs) = both_tests (below_all key_cmp (Number n) (numbered (suc n) rs)) _ (below_numbered n (suc n) rs (omega arith)) (sorted_numbered (suc n) rs)

find_lower : (m n : ℕ) (rs : List (List ℕ)) → m < n → find key_cmp (Number m) (numbered n rs) ≡ None
find_lower m n [] below = refl
find_lower m n (r ∷ rs) below =
    ap (λ b. cond b (Some r) (find key_cmp (Number m) (numbered (suc n) rs))) (other_test m n (λ e. omega arith)) ∙ find_lower m (suc n) rs (omega arith)

find_at : (n k : ℕ) (rs : List (List ℕ)) → find key_cmp (Number (n + k)) (numbered n rs) ≡ slice_get rs k
find_at n k [] = refl
find_at n zero (r ∷ rs) = ap (λ b. cond b (Some r) (find key_cmp (Number (n + 0)) (numbered (suc n) rs))) (same_test (n + 0) n (omega arith))
find_at n (suc k) (r ∷ rs) =
    let next : n + suc k ≡ suc n + k = omega arith in
    ap (λ b. cond b (Some r) (find key_cmp (Number (n + suc k)) (numbered (suc n) rs))) (other_test (n + suc k) n (λ e. omega arith))
    ∙ ap (λ m. find key_cmp (Number m) (numbered (suc n) rs)) next ∙ find_at (suc n) k rs

find_text : (t : List ℕ) (n : ℕ) (rs : List (List ℕ)) → find key_cmp (Text t) (numbered n rs) ≡ None
find_text t n [] = refl
find_text t n (r ∷ rs) = find_text t (suc n) rs

find_end : (n : ℕ) (rs : List (List ℕ)) → find key_cmp End (numbered n rs) ≡ None
find_end n [] = refl
find_end n (r ∷ rs) = find_end (suc n) rs

-- what each key has is found among the numbered records
pub find_numbered : (key : Key) (rs : List (List ℕ)) → find key_cmp key (numbered 1 rs) ≡ map_of_list rs key
find_numbered (Number zero) rs = find_lower 0 1 rs (omega arith)
find_numbered (Number (suc k)) rs = let next : suc k ≡ 1 + k = omega arith in ap (λ m. find key_cmp (Number m) (numbered 1 rs)) next ∙ find_at 1 k rs
find_numbered (Text t) rs = find_text t 1 rs
find_numbered End rs = find_end 1 rs

-- the records behind the first ones
pub drop_numbered : (k n : ℕ) (rs : List (List ℕ)) → drop k (numbered n rs) ≡ numbered (n + k) (drop k rs)
drop_numbered zero n rs = let same : n ≡ n + 0 = omega arith in ap (λ m. numbered m rs) same
drop_numbered (suc k) n [] = refl
drop_numbered (suc k) n (r ∷ rs) = let next : suc n + k ≡ n + suc k = omega arith in drop_numbered k (suc n) rs ∙ ap (λ m. numbered m (drop k rs)) next

-- lists that mean one map are one
pub same_records : (a b : List (List ℕ)) → map_of_list a ≡ map_of_list b → a ≡ b
same_records a b same = go a b (λ k. ap (λ (m : Map). m (Number (suc k))) same)
  where
    go : (a b : List (List ℕ)) → ((k : ℕ) → slice_get a k ≡ slice_get b k) → a ≡ b
    go [] [] same = refl
    go [] (y ∷ b) same = let e = same 0 in cc
    go (x ∷ a) [] same = let e = same 0 in cc
    go (x ∷ a) (y ∷ b) same =
        let first : x ≡ y = (let e = same 0 in cc) in
        let rest = go a b (λ k. same (suc k)) in
        λ i. first i ∷ rest i
