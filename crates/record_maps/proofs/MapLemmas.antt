-- A map in memory has its records in the order of their keys.
use Rattle.std.proofs.Common.{◌≡◌, ◌&&◌, ℕ, suc, Bool, true, false, List, [], ◌∷◌, length, map, Option, Some, None, Vec, Global, refl, sym, ◌∙◌, ap, subst}
use Rattle.std.specs.Prelude.{T, cond, option_map}
use Rattle.std.specs.BTreeMap.{is_at}
use Rattle.std.specs.Cmp.{eq_by_cmp_equiv}
use Rattle.std.specs.FinMap.{entries, entries_sorted, get, get-entries, get-from_entries, get-insert, get-remove, insert, remove, is_sorted, find, len, len-entries, same_map}
use Rattle.std.specs.FinMap.Entries.{same_entries, below_all}
use Rattle.std.specs.List.{AllByRecursion}
use Rattle.std.specs.List.Sorted.{IsStrictlySortedBy}
use Rattle.std.specs.Map.{lookup, keys_of}
use Rattle.std.specs.Ordering.{is_eq, is_lt, eq_by_cmp}
use Rattle.std.specs.declared.cmp.Ordering.{Ordering}
use Rattle.std.specs.declared.cmp.Ordering.TheVariants.{Less}
use Rattle.vms_model.specs.Keys.{Key, Number, Text, End}
use Rattle.vms_base.specs.Keys.{key_of}
use Rattle.vms_base.specs.declared.keys.Key.TheVariants as said
use Rattle.records_model.specs.Records.{key_cmp, set_key}
use Rattle.records_model.proofs.KeyLemmas.{key_cmp_total, key_cmp-IsAntisymmetric}
use Rattle.record_maps.specs.declared.key.OrderedKey.{OrderedKey}
use Rattle.record_maps.specs.Maps.{record_told, records_told}

abbrev pub ordered_cmp : OrderedKey → OrderedKey → Ordering
ordered_cmp a b = key_cmp (key_of a.key) (key_of b.key)

abbrev Entry : Type 0
Entry = OrderedKey × Vec ℕ Global

both : (a b : Bool) → T a → T b → T (a && b)
both true b x y = y
both false b x y = x

told_below : (x : OrderedKey) (es : List Entry) → AllByRecursion (λ y. ordered_cmp x y ≡ Less) (keys_of es) → T (below_all key_cmp (key_of x.key) (map record_told es))
told_below x [] all = tt
told_below x (e ∷ es) all = both _ _ (subst (λ (r : Ordering). T (is_lt r)) (sym all.0) tt) (told_below x es all.1)

told_sorted : (es : List Entry) → IsStrictlySortedBy ordered_cmp (keys_of es) → T (is_sorted key_cmp (map record_told es))
unfolding IsStrictlySortedBy
told_sorted [] sorted = tt
told_sorted (e ∷ es) sorted = both _ _ (told_below e.0 es sorted.0) (told_sorted es sorted.1)

pub entries_told : (es : List Entry) → IsStrictlySortedBy ordered_cmp (keys_of es) → entries (records_told es) ≡ map record_told es
entries_told es sorted = same_entries key_cmp key_cmp_total key_cmp-IsAntisymmetric (entries (records_told es)) (map record_told es) (entries_sorted (records_told es)) (told_sorted es sorted)
    (λ q. sym (get-entries (records_told es) q) ∙ get-from_entries key_cmp_total (map record_told es) q)

length_told : (es : List Entry) → length (map record_told es) ≡ length es
length_told [] = refl
length_told (e ∷ es) = ap suc (length_told es)

pub len_told : (es : List Entry) → IsStrictlySortedBy ordered_cmp (keys_of es) → length es ≡ len (records_told es)
len_told es sorted = sym (len-entries (records_told es) ∙ ap length (entries_told es sorted) ∙ length_told es)

-- What a key has.

abbrev bytes_in : Option (Vec ℕ Global) → Option (List ℕ)
bytes_in v = option_map (λ (b : Vec ℕ Global). b.items) v

bytes_cond : (b : Bool) (x y : Option (Vec ℕ Global)) → bytes_in (cond b x y) ≡ cond b (bytes_in x) (bytes_in y)
bytes_cond true x y = refl
bytes_cond false x y = refl

found_told : (k : OrderedKey) (es : List Entry) → find key_cmp (key_of k.key) (map record_told es) ≡ bytes_in (lookup (is_at (ordered_cmp k)) es)
found_told k [] = refl
found_told k (e ∷ es) = ap (cond (is_eq (ordered_cmp k e.0)) (Some e.1.items)) (found_told k es) ∙ sym (bytes_cond (is_eq (ordered_cmp k e.0)) (Some e.1) (lookup (is_at (ordered_cmp k)) es))

get_told : (k : OrderedKey) (es : List Entry) → get (records_told es) (key_of k.key) ≡ bytes_in (lookup (is_at (ordered_cmp k)) es)
get_told k es = get-from_entries key_cmp_total (map record_told es) (key_of k.key) ∙ found_told k es

-- a key is one that is compared
key_said : (q : Key) → (k : OrderedKey) × (key_of k.key ≡ q)
key_said (Number n) = (record { key = said.Number n }, refl)
key_said (Text bytes) = (record { key = said.Text bytes }, refl)
key_said End = (record { key = said.End }, refl)

turned : (k x : OrderedKey) → is_eq (ordered_cmp k x) ≡ eq_by_cmp key_cmp (key_of x.key) (key_of k.key)
turned k x = (eq_by_cmp_equiv key_cmp_total).symm (key_of k.key) (key_of x.key)

module _ (old new : List Entry) (k : OrderedKey) where
  -- where each key has in the one list what it had in the other, but for this one, the record was set
  set_by : (v : Option (Vec ℕ Global)) → ((x : OrderedKey) → lookup (is_at (ordered_cmp x)) new ≡ cond (is_at (ordered_cmp k) x) v (lookup (is_at (ordered_cmp x)) old)) → (q : Key) →
      get (records_told new) q ≡ cond (eq_by_cmp key_cmp q (key_of k.key)) (bytes_in v) (get (records_told old) q)
  set_by v updates q = go (key_said q)
    where
      go : (x : OrderedKey) × (key_of x.key ≡ q) → get (records_told new) q ≡ cond (eq_by_cmp key_cmp q (key_of k.key)) (bytes_in v) (get (records_told old) q)
      go s = subst (λ (p : Key). get (records_told new) p ≡ cond (eq_by_cmp key_cmp p (key_of k.key)) (bytes_in v) (get (records_told old) p)) s.1
          (get_told s.0 new ∙ ap bytes_in (updates s.0) ∙ bytes_cond (is_eq (ordered_cmp k s.0)) v (lookup (is_at (ordered_cmp s.0)) old)
          ∙ ap (λ b. cond b (bytes_in v) (bytes_in (lookup (is_at (ordered_cmp s.0)) old))) (turned k s.0) ∙ ap (cond (eq_by_cmp key_cmp (key_of s.0.key) (key_of k.key)) (bytes_in v)) (sym (get_told s.0 old)))

  pub put_told : (v : Vec ℕ Global) → ((x : OrderedKey) → lookup (is_at (ordered_cmp x)) new ≡ cond (is_at (ordered_cmp k) x) (Some v) (lookup (is_at (ordered_cmp x)) old)) →
      records_told new ≡ set_key (records_told old) (key_of k.key) (Some v.items)
  put_told v updates = same_map key_cmp_total key_cmp-IsAntisymmetric (records_told new) (insert (records_told old) (key_of k.key) v.items)
      (λ q. set_by (Some v) updates q ∙ sym (get-insert key_cmp_total (records_told old) (key_of k.key) v.items q))

  pub gone_told : ((x : OrderedKey) → lookup (is_at (ordered_cmp x)) new ≡ cond (is_at (ordered_cmp k) x) None (lookup (is_at (ordered_cmp x)) old)) →
      records_told new ≡ set_key (records_told old) (key_of k.key) None
  gone_told updates = same_map key_cmp_total key_cmp-IsAntisymmetric (records_told new) (remove (records_told old) (key_of k.key))
      (λ q. set_by None updates q ∙ sym (get-remove key_cmp_total (records_told old) (key_of k.key) q))

pub entries_popped : (old new : List Entry) (p : Entry) → IsStrictlySortedBy ordered_cmp (keys_of old) → IsStrictlySortedBy ordered_cmp (keys_of new) → old ≡ p ∷ new → entries (records_told old) ≡ record_told p ∷ entries (records_told new)
entries_popped old new p before after is = entries_told old before ∙ ap (map record_told) is ∙ ap (λ (es : List (Key × List ℕ)). record_told p ∷ es) (sym (entries_told new after))
