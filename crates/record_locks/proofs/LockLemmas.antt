-- Keys that are held, each once, as locks.
use Rattle.std.proofs.Common.{◌≡◌, ℕ, zero, suc, ◌+◌, ◌≤◌, ◌<◌, ◌||◌, Bool, true, false, List, [], ◌∷◌, ◌++◌, length, map, take, get_or, not, Option, Some, None, Result, Ok, Err, IsOk, OnOk, is_some, slice_get, option_map, nat_le, cond, if◌then◌else◌, refl, sym, ap, subst, ◌∙◌, arith}
use Rattle.std.proofs.lemmas.Bool.{false≢true}
use Rattle.std.proofs.lemmas.Bool.Decides.{nat_tests}
use Rattle.std.proofs.lemmas.List.{length-append}
use Rattle.std.specs.List.{AllByRecursion, IsDistinct}
use Rattle.std.specs.Map.{keys_of, lookup}
use Rattle.vms_base.specs.vms_model.Ids.{Id}
use Rattle.vms_base.specs.vms_model.Keys.{Key, Number, Text, End}
use Rattle.vms_base.specs.Ids.{serial_of}
use Rattle.vms_base.specs.Keys.{key_of}
use Rattle.vms_base.specs.declared.ids.Serial.{Serial}
use Rattle.vms_base.specs.declared.keys.Key as code
use Rattle.vms_base.specs.declared.keys.Key.TheVariants as key_made
use Rattle.table_keys.specs.records_model.History.{same_id}
use Rattle.table_keys.specs.declared.place.Place.{Place}
use Rattle.table_keys.specs.Spots.{spot_congr, spot_turned}
use Rattle.record_locks.specs.Locks.{Lock, holder, is_lock_of, is_locked, not_locked, with_locks, released, held_by_other, lock_refused, Full}
use Rattle.record_locks.specs.Table.{lock_of, newest_first, others_of}
use Rattle.table_keys.specs.Places.{same_place}

pub of_ok : {T E P : Type 0} (r : Result T E) → IsOk r → OnOk r P → P
of_ok (Ok x) ok h = h
of_ok (Err e) ok h = absurd (false≢true ok)

pub no_some : {X : Type 0} {x : X} → None ≡ Some x → ⊥
no_some e = false≢true (ap is_some e)

pub same_some : {X : Type 0} (x y : X) → Some x ≡ Some y → x ≡ y
same_some x y e = ap (λ (o : Option _). elim o [ Some z ↦ z | None ↦ x ]) e

-- a list of locks with one more behind them
abbrev or_last : Option Id → (file : ℕ) → Key → Lock → Option Id
or_last (Some by) file key l = Some by
or_last None file key l = if is_lock_of file key l then Some l.by else None

or_last_if : (b : Bool) (by : Id) (o : Option Id) (file : ℕ) (key : Key) (l : Lock) → (if b then Some by else or_last o file key l) ≡ or_last (if b then Some by else o) file key l
or_last_if true by o file key l = refl
or_last_if false by o file key l = refl

holder_behind : (ls : List Lock) (l : Lock) (file : ℕ) (key : Key) → holder (ls ++ l ∷ []) file key ≡ or_last (holder ls file key) file key l
holder_behind [] l file key = refl
holder_behind (x ∷ ls) l file key =
    ap (λ (o : Option Id). if is_lock_of file key x then Some x.by else o) (holder_behind ls l file key) ∙ or_last_if (is_lock_of file key x) x.by (holder ls file key) file key l

-- a key that is another than all of these is not found
not_found : (p x : Place) (es : List (Place × Serial)) → same_place x p ≡ true → AllByRecursion (λ y. same_place x y ≡ false) (keys_of es) → lookup (same_place p) es ≡ None
not_found p x [] same apart = refl
not_found p x (e ∷ es) same apart =
    ap (λ (b : Bool). cond b (Some e.1) (lookup (same_place p) es)) (sym (spot_congr (λ (q : Place). q.file) (λ (q : Place). key_of q.key) x p e.0 same) ∙ apart.0) ∙ not_found p x es same apart.1

pub turned : (p q : Place) → same_place p q ≡ same_place q p
turned p q = spot_turned p.file q.file (key_of p.key) (key_of q.key)

-- one place is found as another that is the same
pub alike_places : (p q : Place) (es : List (Place × Serial)) → same_place p q ≡ true → lookup (same_place p) es ≡ lookup (same_place q) es
alike_places p q [] same = refl
alike_places p q (e ∷ es) same =
    let first = spot_congr (λ (x : Place). x.file) (λ (x : Place). key_of x.key) p q e.0 same in
    let rest = alike_places p q es same in
    λ i. cond (first i) (Some e.1) (rest i)

step : (b : Bool) (by : Id) (rest : Option Serial) (v : Serial) (held : Option Id) → held ≡ option_map serial_of rest → (b ≡ true → rest ≡ None) → by ≡ serial_of v
    → (elim held [ Some h ↦ Some h | None ↦ if b then Some by else None ]) ≡ option_map serial_of (cond b (Some v) rest)
step true by rest v held is none same = ap (λ (o : Option Id). elim o [ Some h ↦ Some h | None ↦ Some by ]) (is ∙ ap (option_map serial_of) (none refl)) ∙ ap Some same
step false by None v held is none same = ap (λ (o : Option Id). elim o [ Some h ↦ Some h | None ↦ None ]) is
step false by (Some s) v held is none same = ap (λ (o : Option Id). elim o [ Some h ↦ Some h | None ↦ None ]) is

or_last_elim : (o : Option Id) (file : ℕ) (key : Key) (l : Lock) → or_last o file key l ≡ (elim o [ Some h ↦ Some h | None ↦ if is_lock_of file key l then Some l.by else None ])
or_last_elim (Some h) file key l = refl
or_last_elim None file key l = refl

-- the map finds the holder
pub holder_found : (es : List (Place × Serial)) (p : Place) → IsDistinct same_place (keys_of es) → holder (newest_first es) p.file (key_of p.key) ≡ option_map serial_of (lookup (same_place p) es)
unfolding IsDistinct
holder_found [] p apart = refl
holder_found (e ∷ es) p apart =
    holder_behind (newest_first es) (lock_of e) p.file (key_of p.key) ∙ or_last_elim (holder (newest_first es) p.file (key_of p.key)) p.file (key_of p.key) (lock_of e)
    ∙ step (same_place p e.0) (serial_of e.1) (lookup (same_place p) es) e.1 (holder (newest_first es) p.file (key_of p.key)) (holder_found es p apart.1) (λ same. not_found p e.0 es (turned e.0 p ∙ same) apart.0) refl

-- releasing a branch's locks
released_behind : (serial : Id) (ls : List Lock) (l : Lock) → released serial (ls ++ l ∷ []) ≡ released serial ls ++ (if same_id serial l.by then [] else l ∷ [])
released_behind serial [] l = refl
released_behind serial (x ∷ ls) l =
    ap (λ (r : List Lock). if same_id serial x.by then r else x ∷ r) (released_behind serial ls l) ∙ either (same_id serial x.by) x (released serial ls) (if same_id serial l.by then [] else l ∷ [])
  where
    either : (b : Bool) (x : Lock) (r s : List Lock) → (if b then r ++ s else x ∷ (r ++ s)) ≡ (if b then r else x ∷ r) ++ s
    either true x r s = refl
    either false x r s = refl

pub released_first : (serial : Id) (es : List (Place × Serial)) → released serial (newest_first es) ≡ newest_first (others_of serial es)
released_first serial [] = refl
released_first serial (e ∷ es) =
    released_behind serial (newest_first es) (lock_of e) ∙ ap (λ (r : List Lock). r ++ (if same_id serial (serial_of e.1) then [] else lock_of e ∷ [])) (released_first serial es)
    ∙ either (same_id serial (serial_of e.1))
  where
    either : (b : Bool) → newest_first (others_of serial es) ++ (if b then [] else lock_of e ∷ []) ≡ newest_first (if b then others_of serial es else e ∷ others_of serial es)
    either true = nothing_behind (newest_first (others_of serial es))
      where
        nothing_behind : (ls : List Lock) → ls ++ [] ≡ ls
        nothing_behind [] = refl
        nothing_behind (l ∷ ls) = ap (λ (r : List Lock). l ∷ r) (nothing_behind ls)
    either false = refl

pub newest_behind : (es : List (Place × Serial)) (e : Place × Serial) → newest_first (es ++ e ∷ []) ≡ lock_of e ∷ newest_first es
newest_behind [] e = refl
newest_behind (x ∷ es) e = ap (λ (ls : List Lock). ls ++ lock_of x ∷ []) (newest_behind es e)

pub length_newest : (es : List (Place × Serial)) → length (newest_first es) ≡ length es
length_newest [] = refl
length_newest (e ∷ es) = let rest = length_newest es in length-append (newest_first es) (lock_of e ∷ []) ∙ omega (arith, rest)

-- whether a key is held
pub locked_is : (ls : List Lock) (file : ℕ) (key : Key) → is_locked ls file key ≡ is_some (holder ls file key)
locked_is [] file key = refl
locked_is (l ∷ ls) file key = ap (λ (b : Bool). is_lock_of file key l || b) (locked_is ls file key) ∙ either (is_lock_of file key l)
  where
    either : (b : Bool) → (b || is_some (holder ls file key)) ≡ is_some (if b then Some l.by else holder ls file key)
    either true = refl
    either false = refl

some_mapped : (o : Option Serial) → is_some (option_map serial_of o) ≡ is_some o
some_mapped None = refl
some_mapped (Some s) = refl

pub is_held : (ls : List Lock) (file : ℕ) (key : Key) (o : Option Serial) (free : Bool) → option_map serial_of o ≡ holder ls file key → is_some o ≡ not free → is_locked ls file key ≡ not free
is_held ls file key o free at is = locked_is ls file key ∙ ap is_some (sym at) ∙ some_mapped o ∙ is

pub indexed : {X : Type 0} (xs : List X) (i : ℕ) (x : X) → i < length xs → x ≡ get_or xs i x → slice_get xs i ≡ Some x
indexed [] i x lt at = absurd (omega (arith, lt))
indexed (y ∷ xs) zero x lt at = ap Some (sym at)
indexed (y ∷ xs) (suc i) x lt at = indexed xs i x (omega (arith, lt)) at

-- one key more of those that nobody holds
free_more : (ls : List Lock) (file : ℕ) (ks : List code.Key) (i : ℕ) (k : code.Key) → slice_get ks i ≡ Some k
    → length (not_locked ls file (map key_of (take (suc i) ks))) ≡ length (not_locked ls file (map key_of (take i ks))) + (if is_locked ls file (key_of k) then 0 else 1)
free_more ls file [] i k at = absurd (no_some at)
free_more ls file (x ∷ ks) zero k at =
    either (is_locked ls file (key_of x)) ∙ ap (λ (y : code.Key). 0 + (if is_locked ls file (key_of y) then 0 else 1)) (same_some x k at)
  where
    either : (b : Bool) → length (if b then [] else key_of x ∷ []) ≡ 0 + (if b then 0 else 1)
    either true = refl
    either false = refl
free_more ls file (x ∷ ks) (suc i) k at =
    either (is_locked ls file (key_of x)) (not_locked ls file (map key_of (take (suc i) ks))) (not_locked ls file (map key_of (take i ks))) (if is_locked ls file (key_of k) then 0 else 1) (free_more ls file ks i k at)
  where
    either : (b : Bool) (r s : List Key) (n : ℕ) → length r ≡ length s + n → length (if b then r else key_of x ∷ r) ≡ length (if b then s else key_of x ∷ s) + n
    either true r s n e = e
    either false r s n e = omega (arith, e)

free_next : (ls : List Lock) (file : ℕ) (ks : List code.Key) (i : ℕ) (k : code.Key) (b : Bool) → slice_get ks i ≡ Some k → is_locked ls file (key_of k) ≡ b
    → length (not_locked ls file (map key_of (take (i + 1) ks))) ≡ length (not_locked ls file (map key_of (take i ks))) + (if b then 0 else 1)
free_next ls file ks i k b at held =
    let more : i + 1 ≡ suc i = omega arith in
    ap (λ (n : ℕ). length (not_locked ls file (map key_of (take n ks)))) more ∙ free_more ls file ks i k at
    ∙ ap (λ (x : Bool). length (not_locked ls file (map key_of (take i ks))) + (if x then 0 else 1)) held

pub one_free : (ls : List Lock) (file : ℕ) (ks : List code.Key) (i : ℕ) (k : code.Key) → slice_get ks i ≡ Some k → is_locked ls file (key_of k) ≡ false
    → length (not_locked ls file (map key_of (take (i + 1) ks))) ≡ length (not_locked ls file (map key_of (take i ks))) + 1
one_free ls file ks i k at held = free_next ls file ks i k false at held

pub one_held : (ls : List Lock) (file : ℕ) (ks : List code.Key) (i : ℕ) (k : code.Key) → slice_get ks i ≡ Some k → is_locked ls file (key_of k) ≡ true
    → length (not_locked ls file (map key_of (take (i + 1) ks))) ≡ length (not_locked ls file (map key_of (take i ks)))
one_held ls file ks i k at held = let more = free_next ls file ks i k true at held in omega (arith, more)

-- one key more for a branch: the same locks where it is held, and one lock more where nobody holds it
pub locked_already : (ls : List Lock) (file : ℕ) (key : Key) (by h : Id) → holder ls file key ≡ Some h → with_locks by file (key ∷ []) ls ≡ ls
locked_already ls file key by h held =
    ap (λ (b : Bool). map (λ (k : Key). record { file = file; key = k; by = by }) (if b then [] else key ∷ []) ++ ls) (locked_is ls file key ∙ ap is_some held)

pub locked_now : (ls : List Lock) (file : ℕ) (key : Key) (by : Id) → holder ls file key ≡ None → with_locks by file (key ∷ []) ls ≡ record { file = file; key = key; by = by } ∷ ls
locked_now ls file key by none =
    ap (λ (b : Bool). map (λ (k : Key). record { file = file; key = k; by = by }) (if b then [] else key ∷ []) ++ ls) (locked_is ls file key ∙ ap is_some none)

-- who holds a key once a branch let go of its own
abbrev pub other_than : Serial → Option Serial → Option Serial
other_than by None = None
other_than by (Some s) = if same_id (serial_of by) (serial_of s) then None else Some s

pub others_looked : (by : Serial) (p : Place) (es : List (Place × Serial)) → IsDistinct same_place (keys_of es) → lookup (same_place p) (others_of (serial_of by) es) ≡ other_than by (lookup (same_place p) es)
unfolding IsDistinct
others_looked by p [] apart = refl
others_looked by p (e ∷ es) apart =
    before (same_id (serial_of by) (serial_of e.1)) (others_of (serial_of by) es)
    ∙ either (same_place p e.0) (same_id (serial_of by) (serial_of e.1)) (lookup (same_place p) (others_of (serial_of by) es)) (other_than by (lookup (same_place p) es))
    (others_looked by p es apart.1) (λ same. ap (other_than by) (not_found p e.0 es (turned e.0 p ∙ same) apart.0))
    ∙ after (same_place p e.0) (lookup (same_place p) es)
  where
    before : (c : Bool) (r : List (Place × Serial)) → lookup (same_place p) (if c then r else e ∷ r) ≡ (if c then lookup (same_place p) r else cond (same_place p e.0) (Some e.1) (lookup (same_place p) r))
    before true r = refl
    before false r = refl

    either : (b c : Bool) (r left : Option Serial) → r ≡ left → (b ≡ true → left ≡ None) → (if c then r else cond b (Some e.1) r) ≡ (if b then (if c then None else Some e.1) else left)
    either true true r left is none = is ∙ none refl
    either true false r left is none = refl
    either false true r left is none = is
    either false false r left is none = is

    after : (b : Bool) (l : Option Serial) → (if b then (if same_id (serial_of by) (serial_of e.1) then None else Some e.1) else other_than by l) ≡ other_than by (cond b (Some e.1) l)
    after true l = refl
    after false l = refl

other_said : (by : Serial) (o : Option Serial) → option_map serial_of (other_than by o) ≡ held_by_other (serial_of by) (option_map serial_of o)
other_said by None = refl
other_said by (Some s) = either (same_id (serial_of by) (serial_of s))
  where
    either : (b : Bool) → option_map serial_of (if b then None else Some s) ≡ (if b then None else Some (serial_of s))
    either true = refl
    either false = refl

-- each key is a value's
made_key : Key → code.Key
made_key (Number n) = key_made.Number n
made_key (Text bytes) = key_made.Text bytes
made_key End = key_made.End

made_key_is : (key : Key) → key_of (made_key key) ≡ key
unfolding made_key
made_key_is (Number n) = refl
made_key_is (Text bytes) = refl
made_key_is End = refl

pub released_found : (by : Serial) (es : List (Place × Serial)) → IsDistinct same_place (keys_of es) → IsDistinct same_place (keys_of (others_of (serial_of by) es)) → (file : ℕ) (key : Key)
    → holder (newest_first (others_of (serial_of by) es)) file key ≡ held_by_other (serial_of by) (holder (newest_first es) file key)
released_found by es apart left file key =
    let p : Place = record { file = file; key = made_key key } in
    subst (λ k. holder (newest_first (others_of (serial_of by) es)) file k ≡ held_by_other (serial_of by) (holder (newest_first es) file k)) (made_key_is key)
    (holder_found (others_of (serial_of by) es) p left ∙ ap (option_map serial_of) (others_looked by p es apart) ∙ other_said by (lookup (same_place p) es) ∙ ap (held_by_other (serial_of by)) (sym (holder_found es p apart)))

-- what a call answers
pub any_ok : {T E P : Type 0} (r : Result T E) → P → OnOk r P
any_ok (Ok x) h = h
any_ok (Err e) h = tt

reaches : (most held : ℕ) → most ≤ held → nat_le most held ≡ true
reaches most held few = grind (arith, nat_tests)

falls_short : (most held : ℕ) → held < most → nat_le most held ≡ false
falls_short most held few = grind (arith, nat_tests)

pub falls_behind : (most held : ℕ) → nat_le most held ≡ false → held < most
falls_behind most held not_full = grind (arith, nat_tests)

pub refused_full : (serial : Id) (o : Option Id) (held most : ℕ) → o ≡ None → most ≤ held → Some Full ≡ lock_refused serial o held most
refused_full serial o held most none few = sym (ap (λ (x : Option Id). lock_refused serial x held most) none ∙ ap (λ (b : Bool). if b then Some Full else None) (reaches most held few))

pub refused_none : (serial : Id) (o : Option Id) (held most : ℕ) → o ≡ None → held < most → None ≡ lock_refused serial o held most
refused_none serial o held most none few = sym (ap (λ (x : Option Id). lock_refused serial x held most) none ∙ ap (λ (b : Bool). if b then Some Full else None) (falls_short most held few))

-- a key that nobody holds is not in the map
nothing_of : (o : Option Serial) → option_map serial_of o ≡ None → o ≡ None
nothing_of None none = refl
nothing_of (Some s) none = absurd (no_some (sym none))

pub absent : (es : List (Place × Serial)) (p : Place) → IsDistinct same_place (keys_of es) → holder (newest_first es) p.file (key_of p.key) ≡ None → lookup (same_place p) es ≡ None
absent es p apart none = nothing_of (lookup (same_place p) es) (sym (holder_found es p apart) ∙ none)
