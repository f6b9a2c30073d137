-- The keys that a truncation asks for, one after the other: who holds them, and how they are held.
use Rattle.std.proofs.Common.{◌≡◌, ℕ, zero, suc, ◌+◌, ◌-◌, ◌<◌, ◌≤◌, Bool, true, false, List, [], ◌∷◌, ◌++◌, Option, Some, None, Result, Ok, Err, OnOk, IsSome, length, map, refl, sym, ap, ◌∙◌, arith, length-append}
use Rattle.std.specs.Prelude.{◌&&◌, ◌==◌, ◌||◌, nat_lt, nat_le, if◌then◌else◌}
use Rattle.std.specs.List.{AllByRecursion}
use Rattle.std.specs.Ordering.{eq_by_cmp}
use Rattle.std.proofs.lemmas.Bool.Decides.{nat_tests}
use Rattle.std.proofs.lemmas.List.{length-map}
use Rattle.record_locks.specs.declared.locks.LockErr.{LockErr}
use Rattle.record_locks.specs.declared.locks.LockErr.TheVariants.{HeldBy, Quota}
use Rattle.record_locks.specs.Locks.{Lock, LockTable, Held, Full, holder, is_lock_of, is_locked, lock_refused, not_locked, with_locks}
use Rattle.record_locks.specs.Refusals.{refusal_of}
use Rattle.table_keys.specs.Spots.{same_key_is}
use Rattle.records_model.specs.History.{same_id}
use Rattle.records_model.specs.Records.{key_cmp}
use Rattle.record_operations.specs.Causes.{Cause, Locked, Locks, first_cause}
use Rattle.vms_model.specs.Ids.{Id}
use Rattle.vms_model.specs.Keys.{Key, Number, End}
use Rattle.key_changes.specs.Changing.{held_against, keys_refused, locks_refuse}
use Rattle.rms_units.proofs.RoomLemmas.{not_refused}
use Rattle.key_changes.specs.unit_cuts.Truncating.{keys_down}

-- Refusals.

-- a cause stands before others
pub stops : (first rest : Option Cause) → IsSome first → first_cause first rest ≡ first
stops None rest some = let no : ⊥ = cc in absurd no
stops (Some cause) rest some = refl

-- a key that may be held leaves the others
pub passes : (who : Option Id) (file : ℕ) (k : Key) (ks : List Key) (ls : List Lock) → None ≡ held_against who (holder ls file k) → locks_refuse who file (k ∷ ks) ls ≡ locks_refuse who file ks ls
passes who file k ks ls free = ap (λ (first : Option Cause). first_cause first (locks_refuse who file ks ls)) (sym free)

no_cause : (b c : Bool) (x y : Option Cause) → first_cause x y ≡ None → (x ≡ None) × (y ≡ None)
no_cause b c None y is = (refl, is)
no_cause b c (Some x) y is = let no : ⊥ = cc in absurd no

-- of keys that may be held, each may be
pub may_hold : (who : Option Id) (file : ℕ) (k : Key) (front back : List Key) (ls : List Lock) → locks_refuse who file (front ++ k ∷ back) ls ≡ None → held_against who (holder ls file k) ≡ None
may_hold who file k [] back ls none = (no_cause true true (held_against who (holder ls file k)) (locks_refuse who file back ls) none).0
may_hold who file k (x ∷ front) back ls none = may_hold who file k front back ls (no_cause true true (held_against who (holder ls file x)) (locks_refuse who file (front ++ k ∷ back) ls) none).1

-- Keys that nobody holds.

free_one_by : (b : Bool) (k : Key) (rest : List Key) → length (if b then rest else k ∷ rest) ≡ length (if b then [] else k ∷ []) + length rest
free_one_by true k rest = omega arith
free_one_by false k rest = omega arith

pub free_one : (ls : List Lock) (file : ℕ) (k : Key) (ks : List Key) → length (not_locked ls file (k ∷ ks)) ≡ length (not_locked ls file (k ∷ [])) + length (not_locked ls file ks)
free_one ls file k ks = free_one_by (is_locked ls file k) k (not_locked ls file ks)

one_by : (b : Bool) (k : Key) → length (if b then [] else k ∷ []) ≤ 1
one_by true k = omega arith
one_by false k = omega arith

pub one_at_most : (ls : List Lock) (file : ℕ) (k : Key) → length (not_locked ls file (k ∷ [])) ≤ 1
one_at_most ls file k = one_by (is_locked ls file k) k

free_behind : (ls : List Lock) (file : ℕ) (front back : List Key) → length (not_locked ls file back) ≤ length (not_locked ls file (front ++ back))
free_behind ls file [] back = omega arith
free_behind ls file (x ∷ front) back = let more = free_behind ls file front back in let one = free_one ls file x (front ++ back) in omega (arith, more, one)

-- A key that is not among others.

abbrev pub IsApart : Key → List Key → Type 0
IsApart k ks = AllByRecursion (λ other. eq_by_cmp key_cmp k other ≡ false) ks

apart_keys : (k other : Key) → (k ≡ other → ⊥) → eq_by_cmp key_cmp k other ≡ false
apart_keys k other apart = step (eq_by_cmp key_cmp k other) refl
  where
    step : (b : Bool) → eq_by_cmp key_cmp k other ≡ b → eq_by_cmp key_cmp k other ≡ false
    step true is = absurd (apart ((same_key_is k other).0 is))
    step false is = is

apart_numbers : (m n : ℕ) → n < m → eq_by_cmp key_cmp (Number m) (Number n) ≡ false
apart_numbers m n less = apart_keys (Number m) (Number n) (λ same. let e : m ≡ n = cc in omega (arith, e, less))

pub above_down : (m last n : ℕ) → last < m → IsApart (Number m) (keys_down last n)
above_down m last zero less = tt
above_down m last (suc n) less = (apart_numbers m last less, above_down m (last - 1) n (omega (arith, less)))

pub end_apart : (last n : ℕ) → IsApart End (keys_down last n)
end_apart last zero = tt
end_apart last (suc n) = (apart_keys End (Number last) (λ same. let no : ⊥ = cc in no), end_apart (last - 1) n)

and_false : (b : Bool) → (b && false) ≡ false
and_false true = refl
and_false false = refl

long_held : (by : Id) (file : ℕ) (ks : List Key) (ls : List Lock) → length (with_locks by file ks ls) ≡ length (not_locked ls file ks) + length ls
long_held by file ks ls =
    let lock : Key → Lock = λ k. record { file = file; key = k; by = by } in
    let a = length-append (map lock (not_locked ls file ks)) ls in
    let b = length-map (not_locked ls file ks) lock in
    omega (arith, a, b)

module _ (by : Id) (file : ℕ) (key : Key) (ls : List Lock) where
  abbrev lock : Key → Lock
  lock k = record { file = file; key = k; by = by }

  not_of : (k : Key) → eq_by_cmp key_cmp key k ≡ false → is_lock_of file key (lock k) ≡ false
  not_of k apart = ap (λ (b : Bool). (file == file) && b) apart ∙ and_false (file == file)

  holder_step : (b : Bool) (k : Key) (free : List Key) → eq_by_cmp key_cmp key k ≡ false → holder (map lock free ++ ls) file key ≡ holder ls file key → holder (map lock (if b then free else k ∷ free) ++ ls) file key ≡ holder ls file key
  holder_step true k free apart is = is
  holder_step false k free apart is = ap (λ (b : Bool). if b then Some by else holder (map lock free ++ ls) file key) (not_of k apart) ∙ is

  -- its holder stays
  holder_by : (ks : List Key) → IsApart key ks → holder (with_locks by file ks ls) file key ≡ holder ls file key
  holder_by [] apart = refl
  holder_by (k ∷ ks) apart = holder_step (is_locked ls file k) k (not_locked ls file ks) apart.0 (holder_by ks apart.1)

  locked_step : (b : Bool) (k : Key) (free : List Key) → eq_by_cmp key_cmp key k ≡ false → is_locked (map lock free ++ ls) file key ≡ is_locked ls file key → is_locked (map lock (if b then free else k ∷ free) ++ ls) file key ≡ is_locked ls file key
  locked_step true k free apart is = is
  locked_step false k free apart is = ap (λ (b : Bool). b || is_locked (map lock free ++ ls) file key) (not_of k apart) ∙ is

  locked_by : (ks : List Key) → IsApart key ks → is_locked (with_locks by file ks ls) file key ≡ is_locked ls file key
  locked_by [] apart = refl
  locked_by (k ∷ ks) apart = locked_step (is_locked ls file k) k (not_locked ls file ks) apart.0 (locked_by ks apart.1)

  -- one key more is held
  pub one_more : (ks : List Key) → IsApart key ks → with_locks by file (key ∷ []) (with_locks by file ks ls) ≡ with_locks by file (key ∷ ks) ls
  one_more ks apart = ap (λ (b : Bool). map lock (if b then [] else key ∷ []) ++ with_locks by file ks ls) (locked_by ks apart) ∙ step (is_locked ls file key)
    where
      step : (b : Bool) → map lock (if b then [] else key ∷ []) ++ with_locks by file ks ls ≡ map lock (if b then not_locked ls file ks else key ∷ not_locked ls file ks) ++ ls
      step true = refl
      step false = refl

  unheld_step : (b : Bool) (m : Lock) (told : Option Id) (locked : Bool) → (told ≡ None → locked ≡ false) → (if b then Some m.by else told) ≡ None → (b || locked) ≡ false
  unheld_step true m told locked free is = let no : ⊥ = cc in absurd no
  unheld_step false m told locked free is = free is

  unheld : (ms : List Lock) → holder ms file key ≡ None → is_locked ms file key ≡ false
  unheld [] none = refl
  unheld (m ∷ ms) none = unheld_step (is_lock_of file key m) m (holder ms file key) (is_locked ms file key) (unheld ms) none

  -- nothing refuses it
  pub taken : (ks : List Key) (most : ℕ) → IsApart key ks → held_against (Some by) (holder ls file key) ≡ None → most ≡ 4096 → length ls + length (not_locked ls file (key ∷ ks)) ≤ 4096 →
      lock_refused by (holder (with_locks by file ks ls) file key) (length (with_locks by file ks ls)) most ≡ None
  taken ks most apart free all room =
      ap (λ (held : Option Id). lock_refused by held (length (with_locks by file ks ls)) most) (holder_by ks apart) ∙ step (holder ls file key) refl free
    where
      own : (b : Bool) (h : Id) → (if b then None else Some (Locked h)) ≡ None → (if b then None else Some (Held h)) ≡ None
      own true h is = refl
      own false h is = let no : ⊥ = cc in absurd no

      long : length (with_locks by file ks ls) ≡ length (not_locked ls file ks) + length ls
      long = long_held by file ks ls

      step : (held : Option Id) → holder ls file key ≡ held → held_against (Some by) held ≡ None → lock_refused by held (length (with_locks by file ks ls)) most ≡ None
      step None none is =
          let more : length (not_locked ls file (key ∷ ks)) ≡ suc (length (not_locked ls file ks)) = ap (λ (b : Bool). length (if b then not_locked ls file ks else key ∷ not_locked ls file ks)) (unheld ls none) in
          let few : nat_le most (length (with_locks by file ks ls)) ≡ false = grind (arith, nat_tests, long, more, all, room) in
          ap (λ (b : Bool). if b then Some Full else None) few
      step (Some h) some is = own (same_id by h) h is

-- what is not refused was done
pub lock_done : (r : Result (Unit {0}) LockErr) (P : Type 0) → refusal_of r ≡ None → OnOk r P → P
lock_done (Ok x) P none ok = ok
lock_done (Err (HeldBy by)) P none ok = let no : ⊥ = cc in absurd no
lock_done (Err Quota) P none ok = let no : ⊥ = cc in absurd no

-- as many keys as may be held
pub few_held : (file : ℕ) (ks : List Key) (ls : List Lock) → keys_refused file ks ls ≡ None → length ls + length (not_locked ls file ks) ≤ 4096
few_held file ks ls is = let few = not_refused (nat_lt 4096 (length ls + length (not_locked ls file ks))) Locks is in grind (arith, nat_tests, few)

pub few_behind : (file : ℕ) (front back : List Key) (ls : List Lock) → length ls + length (not_locked ls file (front ++ back)) ≤ 4096 → length ls + length (not_locked ls file back) ≤ 4096
few_behind file front back ls few = let less = free_behind ls file front back in omega (arith, few, less)

-- a key more is held, where these were
pub holds_more : (by : Id) (file : ℕ) (key : Key) (ks : List Key) (ls : List Lock) (most : ℕ) (r : Result (Unit {0}) LockErr) (now new : LockTable) → now ≡ record { most = most; locks = with_locks by file ks ls } →
    OnOk r (new ≡ record now { locks = with_locks by file (key ∷ []) now.locks }) → refusal_of r ≡ lock_refused by (holder now.locks file key) (length now.locks) now.most →
    IsApart key ks → held_against (Some by) (holder ls file key) ≡ None → most ≡ 4096 → length ls + length (not_locked ls file (key ∷ ks)) ≤ 4096 → new ≡ record { most = most; locks = with_locks by file (key ∷ ks) ls }
holds_more by file key ks ls most r now new is ok refused apart free all few =
    let none : refusal_of r ≡ None = refused ∙ ap (λ (t : LockTable). lock_refused by (holder t.locks file key) (length t.locks) t.most) is ∙ taken by file key ls ks most apart free all few in
    let done : new ≡ record now { locks = with_locks by file (key ∷ []) now.locks } = lock_done r (new ≡ record now { locks = with_locks by file (key ∷ []) now.locks }) none ok in
    done ∙ (λ i. record { most = (is i).most; locks = with_locks by file (key ∷ []) (is i).locks }) ∙ ap (λ (ls : List Lock). record { most = most; locks = ls }) (one_more by file key ls ks apart)

-- no more are held than may be
pub few_with : (by : Id) (file : ℕ) (ks : List Key) (ls : List Lock) (most : ℕ) (t : LockTable) → keys_refused file ks ls ≡ None → t ≡ record { most = most; locks = with_locks by file ks ls } → length t.locks ≤ 4096
few_with by file ks ls most t few is = let held = few_held file ks ls few in let long = long_held by file ks ls in let same = ap (λ (x : LockTable). length x.locks) is in omega (arith, held, long, same)
