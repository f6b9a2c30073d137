-- The map of records once a position is set, and once the last ones are gone.
use Rattle.std.proofs.Common.{◌≡◌, ◌≢◌, ⊎_elim, ℕ, ◌<◌, ◌≤◌, ◌+◌, ◌-◌, Bool, true, false, List, length, take, Option, Some, None, if◌then◌else◌, nat_le, refl, sym, ap, ◌∙◌, arith}
use Rattle.std.proofs.lemmas.Bool.{cases_eq, cases_lt}
use Rattle.std.proofs.lemmas.Bool.Decides.{nat_tests}
use Rattle.file_base.specs.vms_model.Keys.{Key, Number, Text, End}
use Rattle.change_set.specs.Maps.{set_key, same_key}
use Rattle.change_set.proofs.NumberKeys.{same_test, other_test}
use Rattle.seq_file.specs.Records.{record_at, map_of_list, list_set, cut_from, MaySet}
use Rattle.seq_file.proofs.RecordLaws.{record_at_set, record_at_push, record_at_take, record_at_past, list_set_stands, list_set_next, list_set_none}

pick : (t : Bool) (x v z : Option (List ℕ)) → (t ≡ true → x ≡ v) → (t ≡ false → x ≡ z) → x ≡ (if t then v else z)
pick true x v z here there = here refl
pick false x v z here there = there refl

at_number : (m n : ℕ) (x v z : Option (List ℕ)) → (m ≡ n → x ≡ v) → (m ≢ n → x ≡ z) → x ≡ (if same_key (Number m) (Number n) then v else z)
at_number m n x v z here there = ⊎_elim
    (λ e. pick (same_key (Number m) (Number n)) x v z (λ t. here e) (λ t. let is = same_test m n e in cc))
    (λ not. pick (same_key (Number m) (Number n)) x v z (λ t. let is = other_test m n not in cc) (λ t. there not))
    (cases_eq m n)

at_set : (n m : ℕ) (v : Option (List ℕ)) (rs : List (List ℕ)) → MaySet n v rs → record_at (list_set n v rs) m ≡ (if same_key (Number m) (Number n) then v else record_at rs m)
at_set n m (Some r) rs may = ⊎_elim
    (λ less. let within : n ≤ length rs = omega arith in
    let laws = record_at_set rs n m r may.0 within in
    ap (λ xs. record_at xs m) (list_set_stands n r rs may.0 within) ∙ at_number m n _ (Some r) (record_at rs m) laws.0 laws.1)
    (λ past. let next : n ≡ length rs + 1 = omega (arith, may.1) in
    let laws = record_at_push rs n m r next in
    ap (λ xs. record_at xs m) (list_set_next n r rs next) ∙ at_number m n _ (Some r) (record_at rs m) laws.0 laws.1)
    (cases_lt n (length rs + 1))
at_set n m None rs may =
    let laws = record_at_take rs n m may.0 in
    ap (λ xs. record_at xs m) (list_set_none n rs may.1)
    ∙ at_number m n _ None (record_at rs m) (λ e. laws.0 (omega arith))
    (λ not. ⊎_elim laws.1 (λ past. laws.0 past ∙ sym (record_at_past rs m (let size = may.1 in omega arith))) (cases_lt m n))

pub map_set : (n : ℕ) (v : Option (List ℕ)) (rs : List (List ℕ)) → MaySet n v rs → map_of_list (list_set n v rs) ≡ set_key (Number n) v (map_of_list rs)
map_set n v rs may = λ i key. at_key key i
  where
    at_key : (key : Key) → map_of_list (list_set n v rs) key ≡ set_key (Number n) v (map_of_list rs) key
    at_key (Number m) = at_set n m v rs may
    at_key (Text t) = refl
    at_key End = refl

pub map_cut : (n : ℕ) (rs : List (List ℕ)) → 1 ≤ n → map_of_list (take (n - 1) rs) ≡ cut_from n (map_of_list rs)
map_cut n rs one = λ i key. at_key key i
  where
    at_most : (m : ℕ) → nat_le n m ≡ true → n ≤ m
    at_most m is = grind (arith, nat_tests)

    not_most : (m : ℕ) → nat_le n m ≡ false → m < n
    not_most m is = grind (arith, nat_tests)

    at_key : (key : Key) → map_of_list (take (n - 1) rs) key ≡ cut_from n (map_of_list rs) key
    at_key (Number m) = pick (nat_le n m) _ None (record_at rs m) (λ most. (record_at_take rs n m one).0 (at_most m most)) (λ less. (record_at_take rs n m one).1 (not_most m less))
    at_key (Text t) = refl
    at_key End = refl
