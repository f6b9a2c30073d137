-- The keys that a branch takes besides those that are held.
use Rattle.std.proofs.Common.{◌≡◌, ◌≤◌, List, [], ◌∷◌, Bool, false, refl, sym, ap, ◌∙◌, length, get_or}
use Rattle.std.specs.Prelude.{ℕ, map, cond}
use Rattle.vms_model.specs.Ids.{Id}
use Rattle.vms_model.specs.Keys.{Key}
use Rattle.reference_index.specs.run_model.Locks.{Lock, is_locked, not_locked}
use Rattle.reference_index.specs.declared.keys.Key.{Key as Owned}
use Rattle.reference_index.specs.Standing.{key_of}
use Rattle.reference_index.proofs.ListLemmas.{behind_first, parts}

-- the lock of a key
abbrev pub taken : (file : List ℕ) → (serial : Id) → Key → Lock
taken file serial k = record { file = file; key = k; by = serial }

not_held : (all : List Lock) (file : List ℕ) (k : Key) (ks : List Key) → is_locked all file k ≡ false → k ∷ not_locked all file ks ≡ not_locked all file (k ∷ ks)
not_held all file k ks e = sym (ap (λ locked. cond locked (not_locked all file ks) (k ∷ not_locked all file ks)) e)

-- where the first key is not held, it is taken before the others
pub first_taken : (all : List Lock) (file : List ℕ) (serial : Id) (ks : List Owned) (k : Owned) → 1 ≤ length ks → k ≡ get_or ks 0 k → is_locked all file (key_of k) ≡ false →
    taken file serial (key_of k) ∷ map (taken file serial) (not_locked all file (map key_of (behind_first ks))) ≡ map (taken file serial) (not_locked all file (map key_of ks))
first_taken all file serial ks k some is e =
    ap (λ xs. map (taken file serial) xs) (not_held all file (key_of k) (map key_of (behind_first ks)) e)
    ∙ ap (λ xs. map (taken file serial) (not_locked all file (map key_of xs))) (sym (parts ks k some is))
