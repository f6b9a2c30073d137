-- The list of committed records, and one of them at its place.
use Rattle.std.proofs.Common.{◌≡◌, ℕ, ◌+◌, ◌<◌, ◌≤◌, Bool, true, false, List, [], ◌∷◌, Option, Some, None, length, map, get_or, zero, suc, is_some, refl, ap, sym, subst, ◌∙◌, arith, inl, inr, if◌then◌else◌}
use Rattle.std.specs.List.{position, position_or_len, remove, list_any}
use Rattle.std.proofs.Math.ListN.{set}
use Rattle.std.proofs.lemmas.Bool.{cases_Bool}
use Rattle.vms_model.specs.Ids.{Id}
use Rattle.vms_base.specs.declared.protocol.LogRec.{LogRec}
use Rattle.commit_protocol.specs.Messages.{Name, LogRecord, same_id}
use Rattle.commit_protocol.specs.Table.{Key, waits_for, holds, acknowledged, released, acknowledge, release, keep_record, nothing_left}
use Rattle.commit_protocol.specs.Effects.{acknowledge_effects, release_effects, record_effects}
use Rattle.tm_types.specs.Parts.{log_record_of}
use Rattle.tm_table.specs.Kept.{kept_at}
use Rattle.tm_table.specs.Restarts.{record_of}
use Rattle.tm_table.proofs.PlaceLemmas.{position_at, position_none, at_first}

pub map_remove : {X Y : Type 0} (f : X → Y) (xs : List X) (i : ℕ) → map f (remove xs i) ≡ remove (map f xs) i
map_remove f [] zero = refl
map_remove f [] (suc i) = refl
map_remove f (x ∷ xs) zero = refl
map_remove f (x ∷ xs) (suc i) = ap (λ rest. f x ∷ rest) (map_remove f xs i)

pub map_set : {X Y : Type 0} (f : X → Y) (xs : List X) (i : ℕ) (y : X) → map f (set xs i y) ≡ set (map f xs) i (f y)
map_set f [] i y = refl
map_set f (x ∷ xs) zero y = refl
map_set f (x ∷ xs) (suc i) y = ap (λ rest. f x ∷ rest) (map_set f xs i y)

-- by the test alone
pub kept_true : (i : ℕ) (r : LogRecord) (rs : List LogRecord) → nothing_left r.waiting r.rms ≡ true → remove rs i ≡ kept_at i r rs
kept_true i r rs h = let P : Bool → Type 0 = λ b. remove rs i ≡ (if b then remove rs i else set rs i r) in subst P (sym h) refl

pub kept_false : (i : ℕ) (r : LogRecord) (rs : List LogRecord) → nothing_left r.waiting r.rms ≡ false → set rs i r ≡ kept_at i r rs
kept_false i r rs h = let P : Bool → Type 0 = λ b. set rs i r ≡ (if b then remove rs i else set rs i r) in subst P (sym h) refl

first_by : (b : Bool) (r x : LogRecord) (xs : List LogRecord) → (if b then xs else r ∷ xs) ≡ (if b then remove (x ∷ xs) 0 else set (x ∷ xs) 0 r)
first_by true r x xs = refl
first_by false r x xs = refl

later_by : (b : Bool) (i : ℕ) (r x : LogRecord) (xs : List LogRecord) → x ∷ (if b then remove xs i else set xs i r) ≡ (if b then remove (x ∷ xs) (suc i) else set (x ∷ xs) (suc i) r)
later_by true i r x xs = refl
later_by false i r x xs = refl

kept_first : (r x : LogRecord) (xs : List LogRecord) → keep_record r xs ≡ kept_at 0 r (x ∷ xs)
kept_first r x xs = first_by (nothing_left r.waiting r.rms) r x xs

kept_later : (i : ℕ) (r x : LogRecord) (xs : List LogRecord) → x ∷ kept_at i r xs ≡ kept_at (suc i) r (x ∷ xs)
kept_later i r x xs = later_by (nothing_left r.waiting r.rms) i r x xs

abbrev pub at_waiting : Key → LogRec → Bool
at_waiting k r = waits_for k (log_record_of r)

abbrev pub at_holding : Id → Name → LogRec → Bool
at_holding s x r = holds s x (log_record_of r)

pub acknowledge_at : (k : Key) (rs : List LogRec) (i : ℕ) (r : LogRec) → position (at_waiting k) rs ≡ Some i → r ≡ get_or rs i r → acknowledge k (map log_record_of rs) ≡ kept_at i (acknowledged k (log_record_of r)) (map log_record_of rs)
acknowledge_at k rs i r e at =
    let q = position_at (at_waiting k) rs i e in
    at_first (at_waiting k) (λ xs. acknowledge k (map log_record_of xs)) (λ j y ys. kept_at j (acknowledged k (log_record_of y)) (map log_record_of ys))
    (λ y ys h. rw h (kept_first (acknowledged k (log_record_of y)) (log_record_of y) (map log_record_of ys)))
    (λ y z ys j h g. rw h (ap (λ rest. log_record_of y ∷ rest) g ∙ kept_later j (acknowledged k (log_record_of z)) (log_record_of y) (map log_record_of ys)))
    rs i r q.0 q.1 at

pub acknowledge_effect : (k : Key) (rs : List LogRec) (i : ℕ) (r : LogRec) → position (at_waiting k) rs ≡ Some i → r ≡ get_or rs i r → acknowledge_effects k (map log_record_of rs) ≡ record_effects (acknowledged k (log_record_of r))
acknowledge_effect k rs i r e at =
    let q = position_at (at_waiting k) rs i e in
    at_first (at_waiting k) (λ xs. acknowledge_effects k (map log_record_of xs)) (λ j y ys. record_effects (acknowledged k (log_record_of y)))
    (λ y ys h. rw h refl) (λ y z ys j h g. rw h g) rs i r q.0 q.1 at

pub release_at : (s : Id) (x : Name) (rs : List LogRec) (i : ℕ) (r : LogRec) → position (at_holding s x) rs ≡ Some i → r ≡ get_or rs i r → release s x (map log_record_of rs) ≡ kept_at i (released x (log_record_of r)) (map log_record_of rs)
release_at s x rs i r e at =
    let q = position_at (at_holding s x) rs i e in
    at_first (at_holding s x) (λ xs. release s x (map log_record_of xs)) (λ j y ys. kept_at j (released x (log_record_of y)) (map log_record_of ys))
    (λ y ys h. rw h (kept_first (released x (log_record_of y)) (log_record_of y) (map log_record_of ys)))
    (λ y z ys j h g. rw h (ap (λ rest. log_record_of y ∷ rest) g ∙ kept_later j (released x (log_record_of z)) (log_record_of y) (map log_record_of ys)))
    rs i r q.0 q.1 at

pub release_effect : (s : Id) (x : Name) (rs : List LogRec) (i : ℕ) (r : LogRec) → position (at_holding s x) rs ≡ Some i → r ≡ get_or rs i r → release_effects s x (map log_record_of rs) ≡ record_effects (released x (log_record_of r))
release_effect s x rs i r e at =
    let q = position_at (at_holding s x) rs i e in
    at_first (at_holding s x) (λ xs. release_effects s x (map log_record_of xs)) (λ j y ys. record_effects (released x (log_record_of y)))
    (λ y ys h. rw h refl) (λ y z ys j h g. rw h g) rs i r q.0 q.1 at

-- whether a record passes a test, by the place of the first that does
pub any_at : (p : LogRecord → Bool) (rs : List LogRec) (i : ℕ) (r : LogRec) → position (λ x. p (log_record_of x)) rs ≡ Some i → r ≡ get_or rs i r → list_any p (map log_record_of rs) ≡ true
any_at p rs i r e at =
    let q = position_at (λ x. p (log_record_of x)) rs i e in
    at_first (λ x. p (log_record_of x)) (λ xs. list_any p (map log_record_of xs)) (λ j y ys. true) (λ y ys h. rw h refl) (λ y z ys j h g. rw h g) rs i r q.0 q.1 at

any_place : (p : LogRecord → Bool) (rs : List LogRec) (i : ℕ) → position_or_len (λ x. p (log_record_of x)) rs ≡ i → i < length rs → list_any p (map log_record_of rs) ≡ true
any_place p [] i e lt = absurd (omega arith)
any_place p (y ∷ ys) i e lt =
    elim (cases_Bool (p (log_record_of y))) [
      | inl h ↦ rw h refl
      | inr h ↦ let q : 1 + position_or_len (λ x. p (log_record_of x)) ys ≡ i = rw h at e in rw h (any_place p ys (position_or_len (λ x. p (log_record_of x)) ys) refl (omega arith))
    ]

any_none : (p : LogRecord → Bool) (rs : List LogRec) → length rs ≤ position_or_len (λ x. p (log_record_of x)) rs → list_any p (map log_record_of rs) ≡ false
any_none p [] le = refl
any_none p (y ∷ ys) le =
    elim (cases_Bool (p (log_record_of y))) [
      | inl h ↦ absurd (let q : suc (length ys) ≤ 0 = rw h at le in omega arith)
      | inr h ↦ let q : suc (length ys) ≤ 1 + position_or_len (λ x. p (log_record_of x)) ys = rw h at le in rw h (any_none p ys (omega arith))
    ]

pub none_at : (p : LogRecord → Bool) (rs : List LogRec) → position (λ x. p (log_record_of x)) rs ≡ None → list_any p (map log_record_of rs) ≡ false
none_at p rs e = any_none p rs (position_none (λ x. p (log_record_of x)) rs e)

length-set_any : {X : Type 0} (xs : List X) (i : ℕ) (y : X) → length (set xs i y) ≡ length xs
length-set_any [] i y = refl
length-set_any (x ∷ xs) zero y = refl
length-set_any (x ∷ xs) (suc i) y = ap (λ n. suc n) (length-set_any xs i y)

length-remove_le : {X : Type 0} (xs : List X) (i : ℕ) → length (remove xs i) ≤ length xs
length-remove_le [] zero = omega arith
length-remove_le [] (suc i) = omega arith
length-remove_le (x ∷ xs) zero = omega arith
length-remove_le (x ∷ xs) (suc i) = let r = length-remove_le xs i in omega arith

length_by : (b : Bool) (i : ℕ) (r : LogRecord) (rs : List LogRecord) → length (if b then remove rs i else set rs i r) ≤ length rs
length_by true i r rs = length-remove_le rs i
length_by false i r rs = let e = length-set_any rs i r in omega arith

pub length-kept_at : (i : ℕ) (r : LogRecord) (rs : List LogRecord) → length (kept_at i r rs) ≤ length rs
length-kept_at i r rs = length_by (nothing_left r.waiting r.rms) i r rs

-- the record of a serial
abbrev pub at_record : Id → LogRec → Bool
at_record s r = same_id (log_record_of r).serial s

pub found_record : (s : Id) (rs : List LogRec) (i : ℕ) (r : LogRec) → position (at_record s) rs ≡ Some i → r ≡ get_or rs i r → record_of s (map log_record_of rs) ≡ Some (log_record_of r)
found_record s rs i r e at =
    let q = position_at (at_record s) rs i e in
    at_first (at_record s) (λ xs. record_of s (map log_record_of xs)) (λ j y ys. Some (log_record_of y)) (λ y ys h. rw h refl) (λ y z ys j h g. rw h g) rs i r q.0 q.1 at

record_none : (s : Id) (rs : List LogRec) → length rs ≤ position_or_len (at_record s) rs → record_of s (map log_record_of rs) ≡ None
record_none s [] le = refl
record_none s (y ∷ ys) le =
    elim (cases_Bool (at_record s y)) [
      | inl h ↦ absurd (let q : suc (length ys) ≤ 0 = rw h at le in omega arith)
      | inr h ↦ let q : suc (length ys) ≤ 1 + position_or_len (at_record s) ys = rw h at le in rw h (record_none s ys (omega arith))
    ]

pub no_record : (s : Id) (rs : List LogRec) → position (at_record s) rs ≡ None → record_of s (map log_record_of rs) ≡ None
no_record s rs e = record_none s rs (position_none (at_record s) rs e)

some_by : (s : Id) (x : Name) (rs : List LogRec) (o : Option ℕ) → position (at_holding s x) rs ≡ o → is_some o ≡ list_any (λ q. holds s x q) (map log_record_of rs)
some_by s x rs None e = sym (none_at (λ q. holds s x q) rs e)
some_by s x rs (Some i) e = sym (at_place (position_at (at_holding s x) rs i e))
  where
    at_place : (position_or_len (at_holding s x) rs ≡ i) × (i < length rs) → list_any (λ q. holds s x q) (map log_record_of rs) ≡ true
    at_place q = any_place (λ r. holds s x r) rs i q.0 q.1

pub some_holds : (s : Id) (x : Name) (rs : List LogRec) → is_some (position (at_holding s x) rs) ≡ list_any (λ q. holds s x q) (map log_record_of rs)
some_holds s x rs = some_by s x rs (position (at_holding s x) rs) refl
