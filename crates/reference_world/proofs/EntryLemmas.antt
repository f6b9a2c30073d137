-- The entries of maps that have none or one.
use Rattle.std.proofs.Common.{◌≡◌, ◌<◌, ◌≤◌, refl, List, [], ◌∷◌, ℕ, ap, arith, ◌∙◌, get_or, length, sym}
use Rattle.std.specs.FinMap.{empty, entries, entries_sorted, from_entries, get-entries, get-from_entries, insert, entries-insert, len-empty, len-entries, same_entries_map}
use Rattle.std.specs.FinMap.Entries.{put, same_entries}
use Rattle.std.specs.declared.cmp.Ordering.{Ordering}
use Rattle.vms_base.specs.vms_model.Keys.{Key}
use Rattle.reference_index.specs.records_model.Records.{Records, key_cmp}
use Rattle.reference_index.proofs.records_model.KeyLemmas.{key_cmp_total, key_cmp-IsAntisymmetric}
use Rattle.reference_index.specs.Standing.{key_of}
use Rattle.reference_index.proofs.ListLemmas.{behind_first, parts}
use Rattle.reference_world.specs.declared.world.KeptRow.{KeptRow}
use Rattle.reference_world.specs.Standing.{rows_of}

nothing : {A : Type 0} (xs : List A) → length xs ≡ 0 → xs ≡ []
nothing [] e = refl
nothing (x ∷ xs) e = absurd (omega arith)

pub no_entries : {K X : Type 0} (R : K → K → Ordering) → entries (empty {K = K} {X = X} {R = R}) ≡ []
no_entries {K} {X} R = nothing _ (sym (len-entries empty) ∙ len-empty R X)

pub one_entry : (k : Key) (v : List ℕ) → entries (insert (empty {R = key_cmp}) k v) ≡ (k, v) ∷ []
one_entry k v = entries-insert key_cmp_total _ k v ∙ ap (put key_cmp k v) (no_entries key_cmp)

-- records are those of their entries
pub from_all : (m : Records) → from_entries (entries m) ≡ m
from_all m = same_entries_map _ _ (same_entries key_cmp key_cmp_total key_cmp-IsAntisymmetric _ _ (entries_sorted _) (entries_sorted m)
    (λ q. sym (get-entries (from_entries (entries m)) q) ∙ get-from_entries key_cmp_total (entries m) q))

-- kept rows by the first of them
pub no_rows : (ks : List KeptRow) → length ks < 1 → entries (rows_of ks) ≡ []
no_rows [] h = no_entries key_cmp
no_rows (k ∷ ks) h = absurd (omega arith)

pub first_row : (ks : List KeptRow) (k : KeptRow) → 1 ≤ length ks → k ≡ get_or ks 0 k → put key_cmp (key_of k.key) k.bytes.items (entries (rows_of (behind_first ks))) ≡ entries (rows_of ks)
first_row ks k some is = sym (entries-insert key_cmp_total (rows_of (behind_first ks)) (key_of k.key) k.bytes.items) ∙ ap (λ xs. entries (rows_of xs)) (sym (parts ks k some is))
