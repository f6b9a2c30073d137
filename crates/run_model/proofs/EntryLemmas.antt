-- The entries of maps that have none or one.
use Rattle.std.proofs.Common.{◌≡◌, refl, List, [], ◌∷◌, ℕ, ap, arith, ◌∙◌, length, sym}
use Rattle.std.specs.FinMap.{empty, entries, insert, entries-insert, len-empty, len-entries}
use Rattle.std.specs.FinMap.Entries.{put}
use Rattle.std.specs.declared.cmp.Ordering.{Ordering}
use Rattle.transcript_model.specs.vms_model.Keys.{Key}
use Rattle.recovery_model.specs.records_model.Records.{key_cmp}
use Rattle.recovery_model.proofs.records_model.KeyLemmas.{key_cmp_total}

nothing : {A : Type 0} (xs : List A) → length xs ≡ 0 → xs ≡ []
nothing [] e = refl
nothing (x ∷ xs) e = absurd (omega arith)

pub no_entries : {K X : Type 0} (R : K → K → Ordering) → entries (empty {K = K} {X = X} {R = R}) ≡ []
no_entries {K} {X} R = nothing _ (sym (len-entries empty) ∙ len-empty R X)

pub one_entry : (k : Key) (v : List ℕ) → entries (insert (empty {R = key_cmp}) k v) ≡ (k, v) ∷ []
one_entry k v = entries-insert key_cmp_total _ k v ∙ ap (put key_cmp k v) (no_entries key_cmp)
