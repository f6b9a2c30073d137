-- Records by position.
use Rattle.std.proofs.Common.{◌≡◌, ◌≢◌, ℕ, zero, suc, ◌+◌, ◌-◌, ◌<◌, ◌≤◌, ◌++◌, List, [], ◌∷◌, length, take, drop, set, map, Option, Some, None, option_map, refl, sym, ap, ◌∙◌, arith, rules}
use Rattle.std.specs.List.{slice_get}
use Rattle.std.proofs.lemmas.List.{take_all, drop_all, set_split, take-map, drop-map, map-append}
use Rattle.std.proofs.lemmas.Option.{slice_get_past}
use Rattle.file_base.specs.vms_model.Keys.{Number}
use Rattle.change_set.specs.Maps.{Map}
use Rattle.seq_file.specs.Records.{record_at, list_set, map_of_list}

pub slice_get-set_same : (rs : List (List ℕ)) (i : ℕ) (r : List ℕ) → i < length rs → slice_get (set rs i r) i ≡ Some r
slice_get-set_same [] i r below = absurd (omega arith)
slice_get-set_same (x ∷ rs) zero r below = refl
slice_get-set_same (x ∷ rs) (suc i) r below = slice_get-set_same rs i r (omega arith)

slice_get-set_other : (rs : List (List ℕ)) (i k : ℕ) (r : List ℕ) → k ≢ i → slice_get (set rs i r) k ≡ slice_get rs k
slice_get-set_other [] i k r not = refl
slice_get-set_other (x ∷ rs) zero zero r not = absurd (not refl)
slice_get-set_other (x ∷ rs) zero (suc k) r not = refl
slice_get-set_other (x ∷ rs) (suc i) zero r not = refl
slice_get-set_other (x ∷ rs) (suc i) (suc k) r not = slice_get-set_other rs i k r (λ e. not (ap suc e))

slice_get-push_same : (rs : List (List ℕ)) (r : List ℕ) → slice_get (rs ++ r ∷ []) (length rs) ≡ Some r
slice_get-push_same [] r = refl
slice_get-push_same (x ∷ rs) r = slice_get-push_same rs r

slice_get-push_other : (rs : List (List ℕ)) (k : ℕ) (r : List ℕ) → k ≢ length rs → slice_get (rs ++ r ∷ []) k ≡ slice_get rs k
slice_get-push_other [] zero r not = absurd (not refl)
slice_get-push_other [] (suc k) r not = refl
slice_get-push_other (x ∷ rs) zero r not = refl
slice_get-push_other (x ∷ rs) (suc k) r not = slice_get-push_other rs k r (λ e. not (ap suc e))

slice_get-take_below : (rs : List (List ℕ)) (m k : ℕ) → k < m → slice_get (take m rs) k ≡ slice_get rs k
slice_get-take_below rs zero k below = absurd (omega arith)
slice_get-take_below [] (suc m) k below = refl
slice_get-take_below (x ∷ rs) (suc m) zero below = refl
slice_get-take_below (x ∷ rs) (suc m) (suc k) below = slice_get-take_below rs m k (omega arith)

slice_get-take_past : (rs : List (List ℕ)) (m k : ℕ) → m ≤ k → slice_get (take m rs) k ≡ None
slice_get-take_past rs zero k past = refl
slice_get-take_past [] (suc m) k past = refl
slice_get-take_past (x ∷ rs) (suc m) zero past = absurd (omega arith)
slice_get-take_past (x ∷ rs) (suc m) (suc k) past = slice_get-take_past rs m k (omega arith)

-- a position that is set: one that stands, or the next
pub list_set_stands : (n : ℕ) (r : List ℕ) (rs : List (List ℕ)) → 1 ≤ n → n ≤ length rs → list_set n (Some r) rs ≡ set rs (n - 1) r
list_set_stands n r rs one within =
    let e : n ≡ suc (n - 1) = omega arith in
    ap (λ m. take (n - 1) rs ++ r ∷ drop m rs) e ∙ sym (set_split rs (n - 1) r (omega arith))

pub list_set_next : (n : ℕ) (r : List ℕ) (rs : List (List ℕ)) → n ≡ length rs + 1 → list_set n (Some r) rs ≡ rs ++ r ∷ []
list_set_next n r rs is = λ i. take_all (n - 1) rs (omega arith) i ++ r ∷ drop_all n rs (omega arith) i

append_none : (a b : List (List ℕ)) → b ≡ [] → a ++ b ≡ a
append_none a b none = ap (λ x. a ++ x) none ∙ search rules

pub list_set_none : (n : ℕ) (rs : List (List ℕ)) → n ≡ length rs → list_set n None rs ≡ take (n - 1) rs
list_set_none n rs is = append_none (take (n - 1) rs) (drop n rs) (drop_all n rs (omega arith))

-- what each position has
pub record_at_set : (rs : List (List ℕ)) (n m : ℕ) (r : List ℕ) → 1 ≤ n → n ≤ length rs → (m ≡ n → record_at (set rs (n - 1) r) m ≡ Some r) × (m ≢ n → record_at (set rs (n - 1) r) m ≡ record_at rs m)
record_at_set rs n zero r one within = ((λ e. absurd (omega arith)), (λ not. refl))
record_at_set rs n (suc m) r one within = (
  (λ e. let at : m ≡ n - 1 = omega arith in ap (slice_get (set rs (n - 1) r)) at ∙ slice_get-set_same rs (n - 1) r (omega arith)),
  (λ not. slice_get-set_other rs (n - 1) m r (λ e. not (omega arith))),
)

pub record_at_push : (rs : List (List ℕ)) (n m : ℕ) (r : List ℕ) → n ≡ length rs + 1 → (m ≡ n → record_at (rs ++ r ∷ []) m ≡ Some r) × (m ≢ n → record_at (rs ++ r ∷ []) m ≡ record_at rs m)
record_at_push rs n zero r is = ((λ e. absurd (omega arith)), (λ not. refl))
record_at_push rs n (suc m) r is = (
  (λ e. let at : m ≡ length rs = omega arith in ap (slice_get (rs ++ r ∷ [])) at ∙ slice_get-push_same rs r),
  (λ not. slice_get-push_other rs m r (λ e. not (omega arith))),
)

pub record_at_take : (rs : List (List ℕ)) (n m : ℕ) → 1 ≤ n → (n ≤ m → record_at (take (n - 1) rs) m ≡ None) × (m < n → record_at (take (n - 1) rs) m ≡ record_at rs m)
record_at_take rs n zero one = ((λ e. refl), (λ not. refl))
record_at_take rs n (suc m) one = ((λ e. slice_get-take_past rs (n - 1) m (omega arith)), (λ less. slice_get-take_below rs (n - 1) m (omega arith)))

pub record_at_past : (rs : List (List ℕ)) (m : ℕ) → length rs < m → record_at rs m ≡ None
record_at_past rs zero past = refl
record_at_past rs (suc m) past = slice_get_past rs m (omega arith)

-- the list of what is kept of each
pub list_set-map : (f : List ℕ → List ℕ) (n : ℕ) (v : Option (List ℕ)) (rs : List (List ℕ)) → map f (list_set n v rs) ≡ list_set n (option_map f v) (map f rs)
list_set-map f n None rs = map-append f (take (n - 1) rs) (drop n rs) ∙ (λ i. sym (take-map f (n - 1) rs) i ++ sym (drop-map f n rs) i)
list_set-map f n (Some r) rs = map-append f (take (n - 1) rs) (r ∷ drop n rs) ∙ (λ i. sym (take-map f (n - 1) rs) i ++ f r ∷ sym (drop-map f n rs) i)

same_entries : (a b : List (List ℕ)) → ((i : ℕ) → slice_get a i ≡ slice_get b i) → a ≡ b
same_entries [] [] same = refl
same_entries [] (y ∷ b) same = let clash = same 0 in absurd (cc)
same_entries (x ∷ a) [] same = let clash = same 0 in absurd (cc)
same_entries (x ∷ a) (y ∷ b) same =
    let first = same 0 in
    let rest = same_entries a b (λ i. same (suc i)) in
    let head : x ≡ y = cc in
    λ k. head k ∷ rest k

-- a map is that of one list of records at most
pub one_list : (a b : List (List ℕ)) → map_of_list a ≡ map_of_list b → a ≡ b
one_list a b same = same_entries a b (λ i. ap (λ (m : Map). m (Number (suc i))) same)
