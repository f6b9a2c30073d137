-- Records that are tested one after another.
use Rattle.std.proofs.Common.{◌≡◌, ◌<◌, ◌≤◌, ◌+◌, ◌-◌, ◌&&◌, ℕ, zero, suc, Bool, true, false, List, [], ◌∷◌, length, map, take, drop, get_or, length-drop, refl, sym, ap, subst, ◌∙◌, arith}
use Rattle.std.specs.Ordering.{is_lt}
use Rattle.std.specs.FinMap.Entries.{is_sorted, below_all}
use Rattle.std.proofs.lemmas.List.{drop_more, drop_all, take_all, length-map}
use Rattle.file_base.specs.declared.head.FileHead.{FileHead}
use Rattle.vms_model.specs.Keys.{Key, Number}
use Rattle.records_model.specs.Records.{key_cmp}
use Rattle.load_pages.specs.load_laws.Records.{Keyed}
use Rattle.load_pages.specs.load_laws.Loads.{AllSuitBy, AreNumbered}
use Rattle.load_pages.specs.declared.records.KeyedRecord.{KeyedRecord}
use Rattle.load_pages.specs.Given.{keyed}
use Rattle.load_pages.proofs.CellFills.{keyed_at}

both : (a b : Bool) → a ≡ true → b ≡ true → (a && b) ≡ true
both true b is also = also
both false b is also = is

pub keyed_drop : (n : ℕ) (rs : List KeyedRecord) → map keyed (drop n rs) ≡ drop n (map keyed rs)
keyed_drop zero rs = refl
keyed_drop (suc n) [] = refl
keyed_drop (suc n) (r ∷ rs) = keyed_drop n rs

pub keyed_rest : (n : ℕ) (rs : List KeyedRecord) → map keyed (take (length rs - n) (drop n rs)) ≡ drop n (map keyed rs)
keyed_rest n rs = let left = length-drop n rs in ap (λ (xs : List KeyedRecord). map keyed xs) (take_all (length rs - n) (drop n rs) (omega (arith, left))) ∙ keyed_drop n rs

-- the records from one on begin with it
pub rest_at : (rs : List KeyedRecord) (i : ℕ) (d : KeyedRecord) → i < length rs → drop i (map keyed rs) ≡ keyed (get_or rs i d) ∷ drop (i + 1) (map keyed rs)
rest_at rs i d below =
    let long = length-map rs keyed in
    drop_more (map keyed rs) i (keyed d) (omega (arith, below, long)) ∙ ap (λ (e : Keyed). e ∷ drop (i + 1) (map keyed rs)) (keyed_at rs i d)

pub none_left : (rs : List KeyedRecord) (i : ℕ) → length rs ≤ i → drop i (map keyed rs) ≡ []
none_left rs i most = let long = length-map rs keyed in drop_all i (map keyed rs) (omega (arith, most, long))

module _ (rs : List KeyedRecord) (i : ℕ) (d : KeyedRecord) (below : i < length rs) where
  rest : List Keyed
  rest = drop (i + 1) (map keyed rs)

  pub below_more : (k : Key) → is_lt (key_cmp k (keyed (get_or rs i d)).0) ≡ true → below_all key_cmp k (drop (i + 1) (map keyed rs)) ≡ true → below_all key_cmp k (drop i (map keyed rs)) ≡ true
  below_more k less later = ap (below_all key_cmp k) (rest_at rs i d below) ∙ both (is_lt (key_cmp k (keyed (get_or rs i d)).0)) (below_all key_cmp k (drop (i + 1) (map keyed rs))) less later

  pub sorted_more : below_all key_cmp (keyed (get_or rs i d)).0 (drop (i + 1) (map keyed rs)) ≡ true → is_sorted key_cmp (drop (i + 1) (map keyed rs)) ≡ true → is_sorted key_cmp (drop i (map keyed rs)) ≡ true
  sorted_more less later = ap (is_sorted key_cmp) (rest_at rs i d below) ∙ both (below_all key_cmp (keyed (get_or rs i d)).0 (drop (i + 1) (map keyed rs))) (is_sorted key_cmp (drop (i + 1) (map keyed rs))) less later

  pub suit_more : (h : FileHead) → AllSuitBy h.organization h (keyed (get_or rs i d) ∷ []) → AllSuitBy h.organization h (drop (i + 1) (map keyed rs)) → AllSuitBy h.organization h (drop i (map keyed rs))
  suit_more h one later = subst (AllSuitBy h.organization h) (sym (rest_at rs i d below)) (one.0, later)

  pub numbered_more : (keyed (get_or rs i d)).0 ≡ Number (i + 1) → AreNumbered (i + 1 + 1) (drop (i + 1) (map keyed rs)) → AreNumbered (i + 1) (drop i (map keyed rs))
  numbered_more is later = subst (AreNumbered (i + 1)) (sym (rest_at rs i d below)) (is, subst (λ n. AreNumbered n (drop (i + 1) (map keyed rs))) (let same : i + 1 + 1 ≡ suc (i + 1) = omega arith in same) later)
