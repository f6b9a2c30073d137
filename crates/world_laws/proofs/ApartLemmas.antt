-- The locks of a node lie apart, act by act.
use Rattle.std.proofs.Common.{◌≡◌, ℕ, List, [], ◌∷◌, ◌++◌, ◌-◌, map, reverse, drop, Bool, true, false, ◌&&◌, ◌||◌, Option, Some, None, T, leb, if◌then◌else◌, refl, sym, ◌∙◌, ap, subst, append-nil}
use Rattle.std.specs.List.{AllByRecursion}
use Rattle.std.specs.Str.{bytes_eq}
use Rattle.std.specs.Ordering.{eq_by_cmp}
use Rattle.std.specs.FinMap.{entries, entries_sorted, get}
use Rattle.std.specs.FinMap.Entries.{below_all, find, is_sorted}
use Rattle.std.proofs.lemmas.List.{reverse-append}
use Rattle.std.proofs.lemmas.Bool.{both_ways, cond_both, false_from_ne_true, or_parts}
use Rattle.vms_model.specs.Ids.{Id}
use Rattle.vms_model.specs.Keys.{Key, End}
use Rattle.run_model.specs.script_model.Statements.{Put, Update, Delete, Truncate, Get, Next}
use Rattle.run_model.specs.records_model.Records.{Records, key_cmp}
use Rattle.run_model.specs.records_model.History.{same_id}
use Rattle.run_model.proofs.records_model.RecordsLemmas.{same_key}
use Rattle.run_model.specs.Locks.{Lock, is_lock_of, is_locked, not_locked, released, with_locks}
use Rattle.run_model.specs.World.{File, Organization, Sequential, Relative, Indexed}
use Rattle.run_model.specs.Operations.{count_of, current_records, cut_keys, first_behind, in_order, key_found, put_keys}
use Rattle.world_laws.specs.Apart.{FewerLocksDiffer, HeldKeysDiffer, KeysDiffer, LocksDiffer, MoreLocksDiffer}
use Rattle.world_laws.proofs.EntryLemmas.{all_append, all_more}
use Rattle.world_laws.proofs.FoundLemmas.{all_got, dropped, first_part, itself, less, second_part, sorted_dropped, sorted_in}

-- Locks.

neither_one : (a b : Bool) → a ≡ false → b ≡ false → (a || b) ≡ false
neither_one true b e f = let none : ⊥ = cc in absurd none
neither_one false b e f = f

not_both : (a b : Bool) → b ≡ false → (a && b) ≡ false
not_both true b e = e
not_both false b e = refl

all_not_locked : (P : Key → Type 0) (ls : List Lock) (file : List ℕ) (ks : List Key) → AllByRecursion P ks → AllByRecursion P (not_locked ls file ks)
all_not_locked P ls file [] h = tt
all_not_locked P ls file (k ∷ ks) h = cond_both (is_locked ls file k) (not_locked ls file ks) (k ∷ not_locked ls file ks) (AllByRecursion P) (λ t. all_not_locked P ls file ks h.1) (λ t. (h.0, all_not_locked P ls file ks h.1))

module _ (serial : Id) (file : List ℕ) where
  abbrev own : Key → Lock
  own k = record { file = file; key = k; by = serial }

  own_apart : (k : Key) (js : List Key) (ls : List Lock) → AllByRecursion (λ (j : Key). eq_by_cmp key_cmp k j ≡ false) js → is_locked ls file k ≡ false → is_locked (map own js ++ ls) file k ≡ false
  own_apart k [] ls h e = e
  own_apart k (j ∷ js) ls h e = neither_one (is_lock_of file k (own j)) (is_locked (map own js ++ ls) file k) (not_both (bytes_eq file file) (eq_by_cmp key_cmp k j) h.0) (own_apart k js ls h.1 e)

  more_differ : (ks : List Key) (ls : List Lock) → KeysDiffer ks → LocksDiffer ls → LocksDiffer (with_locks serial file ks ls)
  more_differ [] ls d h = h
  more_differ (k ∷ ks) ls d h = go (is_locked ls file k) refl (more_differ ks ls d.1 h)
    where
      go : (b : Bool) → is_locked ls file k ≡ b → LocksDiffer (map own (not_locked ls file ks) ++ ls) → LocksDiffer (map own (if b then not_locked ls file ks else k ∷ not_locked ls file ks) ++ ls)
      go true t more = more
      go false t more = (own_apart k (not_locked ls file ks) ls (all_not_locked (λ (j : Key). eq_by_cmp key_cmp k j ≡ false) ls file ks d.0) t, more)

pub more_locks_differ : MoreLocksDiffer
more_locks_differ serial file ks ls d h = more_differ serial file ks ls d h

left_unlocked : (serial : Id) (ls : List Lock) (file : List ℕ) (key : Key) → is_locked ls file key ≡ false → is_locked (released serial ls) file key ≡ false
left_unlocked serial [] file key e = e
left_unlocked serial (l ∷ ls) file key e =
    let parts = or_parts (is_lock_of file key l) (is_locked ls file key) e in
    cond_both (same_id serial l.by) (released serial ls) (l ∷ released serial ls) (λ ms. is_locked ms file key ≡ false) (λ t. left_unlocked serial ls file key parts.1)
    (λ t. neither_one (is_lock_of file key l) (is_locked (released serial ls) file key) parts.0 (left_unlocked serial ls file key parts.1))

pub fewer_locks_differ : FewerLocksDiffer
fewer_locks_differ serial [] h = tt
fewer_locks_differ serial (l ∷ ls) h =
    cond_both (same_id serial l.by) (released serial ls) (l ∷ released serial ls) LocksDiffer (λ t. fewer_locks_differ serial ls h.1) (λ t. (left_unlocked serial ls l.file l.key h.0, fewer_locks_differ serial ls h.1))

-- Keys.

abbrev IsOther : Key → Key → Type 0
IsOther k j = eq_by_cmp key_cmp k j ≡ false

other_way : (k j : Key) → IsOther k j → IsOther j k
other_way k j h = false_from_ne_true _ (λ e. both_ways _ h (subst (λ x. eq_by_cmp key_cmp x j ≡ true) (same_key j k e) (itself j)))

keys_behind : (xs : List Key) (y : Key) → KeysDiffer xs → AllByRecursion (λ (x : Key). IsOther x y) xs → KeysDiffer (xs ++ y ∷ [])
keys_behind [] y d h = (tt, tt)
keys_behind (x ∷ xs) y d h = (all_append (IsOther x) xs (y ∷ []) d.0 (h.0, tt), keys_behind xs y d.1 h.1)

all_reversed : (P : Key → Type 0) (xs : List Key) → AllByRecursion P xs → AllByRecursion P (reverse xs)
all_reversed P [] h = tt
all_reversed P (x ∷ xs) h = subst (AllByRecursion P) (sym (reverse-append (x ∷ []) xs)) (all_append P (reverse xs) (x ∷ []) (all_reversed P xs h.1) (h.0, tt))

reversed_differ : (xs : List Key) → KeysDiffer xs → KeysDiffer (reverse xs)
reversed_differ [] d = tt
reversed_differ (x ∷ xs) d =
    subst KeysDiffer (sym (reverse-append (x ∷ []) xs))
    (keys_behind (reverse xs) x (reversed_differ xs d.1) (all_reversed (λ (y : Key). IsOther y x) xs (all_more (IsOther x) (λ (y : Key). IsOther y x) xs (λ y h. other_way x y h) d.0)))

abbrev keys_of : List (Key × List ℕ) → List Key
keys_of es = map (λ e. e.0) es

below_differ : (key : Key) (es : List (Key × List ℕ)) → T (below_all key_cmp key es) → AllByRecursion (IsOther key) (keys_of es)
below_differ key [] h = tt
below_differ key (e ∷ es) h = (rw (less (key_cmp key e.0) (first_part _ _ h)) refl, below_differ key es (second_part _ _ h))

sorted_differ : (es : List (Key × List ℕ)) → T (is_sorted key_cmp es) → KeysDiffer (keys_of es)
sorted_differ [] h = tt
sorted_differ (e ∷ es) h = (below_differ e.0 es (first_part _ _ h), sorted_differ es (second_part _ _ h))

-- where no record stands at a key, it is none of theirs
got_apart : (m : Records) (key : Key) (es : List (Key × List ℕ)) → get m key ≡ None → AllByRecursion (λ (x : Key × List ℕ). get m x.0 ≡ Some x.1) es → AllByRecursion (IsOther key) (keys_of es)
got_apart m key [] none h = tt
got_apart m key (x ∷ es) none h = (false_from_ne_true _ (λ e. clash (same_key key x.0 e)), got_apart m key es none h.1)
  where
    clash : key ≡ x.0 → ⊥
    clash is = let both : ◌≡◌ {A = Option (List ℕ)} None (Some x.1) = sym none ∙ ap (get m) is ∙ h.0 in let never : ⊥ = cc in never

cut_differ : (f : File) (number : ℕ) → get (current_records f) End ≡ None → KeysDiffer (End ∷ cut_keys f number)
cut_differ f number none = go (leb 1 number)
  where
    m : Records
    m = current_records f

    gone : List (Key × List ℕ)
    gone = drop (number - 1) (entries m)

    got : AllByRecursion (λ (x : Key × List ℕ). get m x.0 ≡ Some x.1) gone
    got = all_got m gone (dropped (λ x. find key_cmp x.0 (entries m) ≡ Some x.1) (number - 1) (entries m) (sorted_in (entries m) (entries_sorted m)))

    go : (b : Bool) → KeysDiffer (End ∷ (if b then reverse (map (λ e. e.0) (drop (number - 1) (in_order f))) else []))
    go true = (all_reversed (IsOther End) (keys_of gone) (got_apart m End gone none got), reversed_differ (keys_of gone) (sorted_differ gone (sorted_dropped (number - 1) (entries m) (entries_sorted m))))
    go false = (tt, tt)

put_differ : (o : Organization) (count : ℕ) (number : Option ℕ) (bytes : List ℕ) → KeysDiffer (put_keys o count number bytes)
put_differ Sequential count None bytes = ((refl, tt), (tt, tt))
put_differ Sequential count (Some number) bytes = ((refl, tt), (tt, tt))
put_differ (Relative greatest) count number bytes = (tt, tt)
put_differ (Indexed position size) count number bytes = (tt, tt)

found_differ : (o : Option (Key × List ℕ)) → KeysDiffer (key_found o)
found_differ (Some e) = (tt, tt)
found_differ None = tt

pub held_keys_differ : HeldKeysDiffer
held_keys_differ f (Put number bytes) none = subst KeysDiffer (sym (append-nil (put_keys f.organization (count_of f) number bytes))) (put_differ f.organization (count_of f) number bytes)
held_keys_differ f (Update key bytes) none = (tt, tt)
held_keys_differ f (Delete key) none = (tt, tt)
held_keys_differ f (Truncate number) none = subst KeysDiffer (sym (append-nil (End ∷ cut_keys f number))) (cut_differ f number none)
held_keys_differ f (Get key) none = (tt, tt)
held_keys_differ f (Next after) none = found_differ (first_behind after (in_order f))
