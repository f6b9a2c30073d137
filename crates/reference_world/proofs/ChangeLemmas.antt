-- Changes of records, and what stands after them.
use Rattle.std.proofs.Common.{◌≡◌, ℕ, ◌≤◌, List, Bool, true, false, Some, None, refl, sym, ◌∙◌, ap, length, get_or}
use Rattle.std.specs.Prelude.{cond, not}
use Rattle.std.specs.Ordering.{eq_by_cmp, is_eq}
use Rattle.std.specs.Cmp.{alike_right, eq_by_cmp_equiv}
use Rattle.std.specs.FinMap.{get-remove, remove, entries, entries-insert, entries_sorted, get-entries}
use Rattle.std.specs.FinMap.Entries.{put, find, where_key, is_sorted-where_key, find-where_key, same_entries}
use Rattle.vms_base.specs.vms_model.Keys.{Key}
use Rattle.reference_index.specs.records_model.Records.{Records, key_cmp, applied, set_key}
use Rattle.reference_index.proofs.records_model.KeyLemmas.{key_cmp_total, key_cmp-IsAntisymmetric}
use Rattle.reference_index.specs.declared.changes.Change.{Change}
use Rattle.reference_index.specs.Standing.{changes_of, key_of, value_of}
use Rattle.reference_index.proofs.ListLemmas.{behind_first, parts}
use Rattle.reference_world.specs.Rows.{is_other}

turned : {A : Type 0} (b : Bool) (x y : A) → cond (not b) x y ≡ cond b y x
turned true x y = refl
turned false x y = refl

-- the entries of records without a key
pub entries_removed : (m : Records) (k : Key) → where_key key_cmp (is_other k) (entries m) ≡ entries (remove m k)
entries_removed m k = same_entries key_cmp key_cmp_total key_cmp-IsAntisymmetric _ _
    (is_sorted-where_key key_cmp (is_other k) (entries m) (entries_sorted m)) (entries_sorted (remove m k))
    (λ q. find-where_key key_cmp (is_other k) q (λ x t. ap (λ r. not (is_eq r)) (sym (alike_right key_cmp_total q x k t))) (entries m)
    ∙ turned (eq_by_cmp key_cmp k q) _ _ ∙ ap (λ b. cond b None (find key_cmp q (entries m))) ((eq_by_cmp_equiv key_cmp_total).symm k q)
    ∙ ap (λ o. cond (eq_by_cmp key_cmp q k) None o) (sym (get-entries m q)) ∙ sym (get-remove key_cmp_total m k q) ∙ get-entries (remove m k) q)

-- and with one
pub entries_put : (m : Records) (k : Key) (v : List ℕ) → put key_cmp k v (entries m) ≡ entries (set_key m k (Some v))
entries_put m k v = sym (entries-insert key_cmp_total m k v)

-- records after changes, by the first of them
pub first_set : (cs : List Change) (c : Change) (m : Records) → 1 ≤ length cs → c ≡ get_or cs 0 c →
    set_key (applied (changes_of (behind_first cs)) m) (key_of c.key) (value_of c.after) ≡ applied (changes_of cs) m
first_set cs c m some is = ap (λ xs. applied (changes_of xs) m) (sym (parts cs c some is))
