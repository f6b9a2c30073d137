-- The images of the chosen places, set in order, are what a recovery makes.
use Rattle.std.proofs.Common.{◌≡◌, ℕ, ◌+◌, List, [], ◌∷◌, ◌++◌, Bool, true, false, Option, Some, None, refl, sym, ◌∙◌, ap, arith, drop, get_or, zero, suc}
use Rattle.std.specs.Prelude.{if◌then◌else◌, ◌&&◌, ◌||◌, reverse, map}
use Rattle.std.proofs.lemmas.List.{reverse-reverse, reverse-append}
use Rattle.std.proofs.Math.Bool.{or_comm, or_assoc}
use Rattle.unit_laws.specs.vms_model.Ids.{Id}
use Rattle.unit_laws.specs.vms_model.Keys.{Key}
use Rattle.unit_laws.specs.vms_model.Transactions.{Outcome}
use Rattle.unit_laws.specs.records_model.Records.{Records, set_key}
use Rattle.unit_laws.specs.records_model.History.{same_id, reached}
use Rattle.recovery_model.specs.Journal.{Entry, Changed, Settled, is_commit, beyond, chosen, forward, backward, rolled_forward, rolled_back}
use Rattle.recovery_model.specs.Places.{header_of, commits, committed, places, applied_places, undone_places, set_entry, sets_at, no_entry}
use Rattle.recovery_model.specs.Laws.{PlacesAreRolled}
use Rattle.recovery_model.proofs.RollLemmas.{forward_same, backward_same}
use Rattle.recovery_model.proofs.OpeningLemmas.{within_late}

reverse_cons : {A : Type 0} (e : A) (es : List A) → reverse (e ∷ es) ≡ reverse es ++ e ∷ []
reverse_cons e es = reverse-append (e ∷ []) es

-- from the front on, with one more at the end
backward_end : (p : Id → Bool) (es : List Entry) (s : Id) (k : Key) (v : Option (List ℕ)) (m : Records) → backward p (es ++ Changed s k v ∷ []) m ≡ (if p s then set_key (backward p es m) k v else backward p es m)
backward_end p [] s k v m = refl
backward_end p (Changed r j w ∷ es) s k v m = backward_end p es s k v (if p r then set_key m j w else m)
backward_end p (Settled r c t ∷ es) s k v m = backward_end p es s k v m

backward_settled_end : (p : Id → Bool) (es : List Entry) (s : Id) (c : Outcome) (t : ℕ) (m : Records) → backward p (es ++ Settled s c t ∷ []) m ≡ backward p es m
backward_settled_end p [] s c t m = refl
backward_settled_end p (Changed r j w ∷ es) s c t m = backward_settled_end p es s c t (if p r then set_key m j w else m)
backward_settled_end p (Settled r d u ∷ es) s c t m = backward_settled_end p es s c t m

-- forward is the same walk over the entries in their order
pub forward-reverse : (p : Id → Bool) (es : List Entry) (m : Records) → forward p es m ≡ backward p (reverse es) m
forward-reverse p [] m = refl
forward-reverse p (Changed s k v ∷ es) m = ap (λ x. if p s then set_key x k v else x) (forward-reverse p es m) ∙ sym (ap (λ x. backward p x m) (reverse_cons (Changed s k v) es) ∙ backward_end p (reverse es) s k v m)
forward-reverse p (Settled s c t ∷ es) m = forward-reverse p es m ∙ sym (ap (λ x. backward p x m) (reverse_cons (Settled s c t) es) ∙ backward_settled_end p (reverse es) s c t m)

pub backward-reverse : (p : Id → Bool) (es : List Entry) (m : Records) → forward p (reverse es) m ≡ backward p es m
backward-reverse p es m = forward-reverse p (reverse es) m ∙ ap (λ x. backward p x m) (reverse-reverse es)

-- which branches pass, in either order
committed_one : (ok : ℕ → Bool) (e : Entry) (es : List Entry) (s : Id) → chosen ok (e ∷ es) s ≡ (commits ok (header_of e) s || chosen ok es s)
committed_one ok (Changed r k v) es s = refl
committed_one ok (Settled r c t) es s = elim (same_id s r && (is_commit c && ok t)) as (λ x. (if x then true else chosen ok es s) ≡ (x || chosen ok es s)) [ true ↦ refl | false ↦ refl ]

committed_end : (ok : ℕ → Bool) (es : List Entry) (e : Entry) (s : Id) → committed ok (map header_of (es ++ e ∷ [])) s ≡ (commits ok (header_of e) s || committed ok (map header_of es) s)
committed_end ok [] e s = refl
committed_end ok (x ∷ es) e s =
    ap (λ b. commits ok (header_of x) s || b) (committed_end ok es e s) ∙
    sym (or_assoc (commits ok (header_of x) s) (commits ok (header_of e) s) (committed ok (map header_of es) s)) ∙
    ap (λ b. b || committed ok (map header_of es) s) (or_comm (commits ok (header_of x) s) (commits ok (header_of e) s)) ∙
    or_assoc (commits ok (header_of e) s) (commits ok (header_of x) s) (committed ok (map header_of es) s)

pub committed-reverse : (ok : ℕ → Bool) (es : List Entry) (s : Id) → committed ok (map header_of (reverse es)) s ≡ chosen ok es s
committed-reverse ok [] s = refl
committed-reverse ok (e ∷ es) s =
    ap (λ x. committed ok (map header_of x) s) (reverse_cons e es) ∙ committed_end ok (reverse es) e s ∙
    ap (λ b. commits ok (header_of e) s || b) (committed-reverse ok es s) ∙ sym (committed_one ok e es s)

-- the entry at a place
dropped : (all : List Entry) (n : ℕ) (e : Entry) (es : List Entry) → drop n all ≡ e ∷ es → (get_or all n no_entry ≡ e) × (drop (n + 1) all ≡ es)
dropped [] zero e es h = let no : ⊥ = cc in absurd no
dropped [] (suc n) e es h = let no : ⊥ = cc in absurd no
dropped (x ∷ all) zero e es h = let a : x ≡ e = cc in let b : all ≡ es = cc in (a, b)
dropped (x ∷ all) (suc n) e es h =
    let rest = dropped all n e es h in
    let q : suc n + 1 ≡ suc (n + 1) = omega arith in
    (rest.0, ap (λ i. drop i (x ∷ all)) q ∙ rest.1)

sets_step : (p : Id → Bool) (e : Entry) (es all : List Entry) (n : ℕ) (m : Records) → get_or all n no_entry ≡ e → ((k : Records) → sets_at (places p (map header_of es) (n + 1)) all k ≡ backward p es k) →
    sets_at (places p (map header_of (e ∷ es)) n) all m ≡ backward p (e ∷ es) m
sets_step p (Changed s k v) es all n m h ih = elim (p s) as (λ b. sets_at (if b then n ∷ places p (map header_of es) (n + 1) else places p (map header_of es) (n + 1)) all m ≡ backward p es (if b then set_key m k v else m)) [
  | true ↦ ap (λ x. sets_at (places p (map header_of es) (n + 1)) all (set_entry x m)) h ∙ ih (set_key m k v)
  | false ↦ ih m
]
sets_step p (Settled s c t) es all n m h ih = ih m

pub sets_places : (p : Id → Bool) (es all : List Entry) (n : ℕ) (m : Records) → drop n all ≡ es → sets_at (places p (map header_of es) n) all m ≡ backward p es m
sets_places p [] all n m h = refl
sets_places p (e ∷ es) all n m h = let d = dropped all n e es h in sets_step p e es all n m d.0 (λ k. sets_places p es all (n + 1) k d.1)

sets_end : (ns : List ℕ) (n : ℕ) (all : List Entry) (m : Records) → sets_at (ns ++ n ∷ []) all m ≡ set_entry (get_or all n no_entry) (sets_at ns all m)
sets_end [] n all m = refl
sets_end (j ∷ ns) n all m = sets_end ns n all (set_entry (get_or all j no_entry) m)

turned_step : (p : Id → Bool) (e : Entry) (es all : List Entry) (n : ℕ) (m : Records) → get_or all n no_entry ≡ e → sets_at (reverse (places p (map header_of es) (n + 1))) all m ≡ forward p es m →
    sets_at (reverse (places p (map header_of (e ∷ es)) n)) all m ≡ forward p (e ∷ es) m
turned_step p (Changed s k v) es all n m h ih = elim (p s) as (λ b. sets_at (reverse (if b then n ∷ places p (map header_of es) (n + 1) else places p (map header_of es) (n + 1))) all m ≡ (if b then set_key (forward p es m) k v else forward p es m)) [
  | true ↦ ap (λ x. sets_at x all m) (reverse_cons n (places p (map header_of es) (n + 1))) ∙ sets_end (reverse (places p (map header_of es) (n + 1))) n all m ∙ ap (λ x. set_entry x (sets_at (reverse (places p (map header_of es) (n + 1))) all m)) h ∙ ap (λ x. set_key x k v) ih
  | false ↦ ih
]
turned_step p (Settled s c t) es all n m h ih = ih

pub sets_turned : (p : Id → Bool) (es all : List Entry) (n : ℕ) (m : Records) → drop n all ≡ es → sets_at (reverse (places p (map header_of es) n)) all m ≡ forward p es m
sets_turned p [] all n m h = refl
sets_turned p (e ∷ es) all n m h = let d = dropped all n e es h in turned_step p e es all n m d.0 (sets_turned p es all (n + 1) m d.1)

-- Forward and backward by places, where es has its newest entry first.
pub applied_rolls : (u : ℕ) (es : List Entry) (start : Records) → sets_at (applied_places u (map header_of (reverse es))) (reverse es) start ≡ rolled_forward (Some u) es start
applied_rolls u es start =
    sets_places (committed (reached (Some u)) (map header_of (reverse es))) (reverse es) (reverse es) 0 start refl ∙
    sym (forward-reverse (committed (reached (Some u)) (map header_of (reverse es))) es start) ∙
    forward_same (committed (reached (Some u)) (map header_of (reverse es))) (chosen (reached (Some u)) es) (committed-reverse (reached (Some u)) es) es start

pub undone_rolls : (u : ℕ) (es : List Entry) (m : Records) → sets_at (undone_places u (map header_of (reverse es))) (reverse es) m ≡ rolled_back u es m
undone_rolls u es m =
    sets_turned (committed (beyond u) (map header_of (reverse es))) (reverse es) (reverse es) 0 m refl ∙
    backward-reverse (committed (beyond u) (map header_of (reverse es))) es m ∙
    backward_same (committed (beyond u) (map header_of (reverse es))) (chosen (beyond u) es) (committed-reverse (beyond u) es) es m

pub places_roll : PlacesAreRolled
places_roll until es m = record {
  forward = applied_rolls until es m;
  last = λ low. applied_rolls until es m ∙ forward_same (chosen (reached (Some until)) es) (chosen (reached None) es) (within_late until until (omega arith) es low) es m;
  backward = undone_rolls until es m;
}
