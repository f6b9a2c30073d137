-- The units of a table in the order in which they were begun.
use Rattle.std.proofs.Common.{◌≡◌, ℕ, zero, suc, ◌+◌, ◌-◌, ◌<◌, ◌≤◌, List, [], ◌∷◌, ◌++◌, Bool, true, false, not, Option, Some, None, IfSome, if◌then◌else◌, length, map, take, drop, get_or, slice_set, refl, sym, ◌∙◌, ap, subst, arith, inl, inr, get_or-set_same, get_or-set_other}
use Rattle.std.specs.Prelude.{◌==◌, IfNone, IsSome}
use Rattle.std.proofs.lemmas.List.{get_or_default, take_all}
use Rattle.std.specs.List.{AllByRecursion, filter}
use Rattle.std.proofs.lemmas.Bool.{cases_eq}
use Rattle.std.proofs.lemmas.Bool.Decides.{nat_tests}
use Rattle.unit_table.specs.Places.{AreInOrder, IsFirstPlace, count_at, occurrences}
use Rattle.unit_table.specs.Units.{IsFirst, OpenUnit, Units, begun, changers, earlier, earliest, first_of, first_that, one_changer, unit_at, units_of, with_first, without_first}
use Rattle.unit_table.proofs.OrderLemmas.{at_below, more_here, more_there}

pub one_unit : (u w : OpenUnit) → ◌≡◌ {A = Option OpenUnit} (Some u) (Some w) → u ≡ w
one_unit u w e = cc

pub counted_none : (o : Option OpenUnit) → 0 ≡ count_at o → o ≡ None
counted_none None e = refl
counted_none (Some u) e = absurd (omega (arith, e))

-- another place's unit makes no difference
pub units_other : (us : List (Option OpenUnit)) (q : ℕ) (x : Option OpenUnit) (qs : List ℕ) → occurrences q qs ≡ 0 → units_of (slice_set us q x) qs ≡ units_of us qs
units_other us q x [] none = refl
units_other us q x (r ∷ qs) none = elim (cases_eq r q) [
  | inl same ↦ absurd (let here = ap (λ k. occurrences q (k ∷ qs)) same in let more = more_here q qs in omega (arith, here, more, none))
  | inr apart ↦ (λ i. elim (get_or-set_other us q r x None apart i) [ Some u ↦ u ∷ units_other us q x qs (sym (more_there q r qs apart) ∙ none) i | None ↦ units_other us q x qs (sym (more_there q r qs apart) ∙ none) i ])
]

-- A unit that joins stands behind the others.

pub begun_last : (us : List (Option OpenUnit)) (qs : List ℕ) (p : ℕ) (w : OpenUnit) → p < length us → occurrences p qs ≡ 0 → units_of (slice_set us p (Some w)) (qs ++ p ∷ []) ≡ units_of us qs ++ w ∷ []
begun_last us [] p w below none = (λ i. elim (get_or-set_same us p (Some w) None below i) [ Some y ↦ y ∷ [] | None ↦ [] ])
begun_last us (q ∷ qs) p w below none = last us qs p q w none (λ apart. begun_last us qs p w below (sym (more_there p q qs apart) ∙ none))
  where
    last : (us : List (Option OpenUnit)) (qs : List ℕ) (p q : ℕ) (w : OpenUnit) → occurrences p (q ∷ qs) ≡ 0 → ((q ≡ p → ⊥) → units_of (slice_set us p (Some w)) (qs ++ p ∷ []) ≡ units_of us qs ++ w ∷ []) →
        units_of (slice_set us p (Some w)) ((q ∷ qs) ++ p ∷ []) ≡ units_of us (q ∷ qs) ++ w ∷ []
    last us qs p q w none rest = elim (cases_eq q p) [
      | inl same ↦ absurd (let here = ap (λ k. occurrences p (k ∷ qs)) same in let more = more_here p qs in omega (arith, here, more, none))
      | inr apart ↦ (λ i. elim (get_or-set_other us p q (Some w) None apart i) [ Some y ↦ y ∷ rest apart i | None ↦ rest apart i ]) ∙ go (unit_at us q)
    ]
      where
        go : (o : Option OpenUnit) → (elim o [ Some y ↦ y ∷ (units_of us qs ++ w ∷ []) | None ↦ units_of us qs ++ w ∷ [] ]) ≡ (elim o [ Some y ↦ y ∷ units_of us qs | None ↦ units_of us qs ]) ++ w ∷ []
        go (Some y) = refl
        go None = refl

set_again : (us : List (Option OpenUnit)) (p : ℕ) (x y : Option OpenUnit) → slice_set (slice_set us p x) p y ≡ slice_set us p y
set_again [] p x y = refl
set_again (u ∷ us) zero x y = refl
set_again (u ∷ us) (suc p) x y = ap (λ (vs : List (Option OpenUnit)). u ∷ vs) (set_again us p x y)

pub begun_as : (us : List (Option OpenUnit)) (qs : List ℕ) (p : ℕ) (u w : OpenUnit) → p < length us → occurrences p qs ≡ 0 → units_of (slice_set (slice_set us p (Some u)) p (Some w)) (qs ++ p ∷ []) ≡ units_of us qs ++ w ∷ []
begun_as us qs p u w below none = ap (λ (vs : List (Option OpenUnit)). units_of vs (qs ++ p ∷ [])) (set_again us p (Some u) (Some w)) ∙ begun_last us qs p w below none

-- Where an order is split.

units_append : (us : List (Option OpenUnit)) (xs ys : List ℕ) → units_of us (xs ++ ys) ≡ units_of us xs ++ units_of us ys
units_append us [] ys = refl
units_append us (x ∷ xs) ys = go (unit_at us x) (units_append us xs ys)
  where
    go : (o : Option OpenUnit) → units_of us (xs ++ ys) ≡ units_of us xs ++ units_of us ys →
        (elim o [ Some y ↦ y ∷ units_of us (xs ++ ys) | None ↦ units_of us (xs ++ ys) ]) ≡ (elim o [ Some y ↦ y ∷ units_of us xs | None ↦ units_of us xs ]) ++ units_of us ys
    go (Some y) rest = ap (λ (vs : List OpenUnit). y ∷ vs) rest
    go None rest = rest

counted_append : (p : ℕ) (xs ys : List ℕ) → occurrences p (xs ++ ys) ≡ occurrences p xs + occurrences p ys
counted_append p [] ys = omega arith
counted_append p (x ∷ xs) ys = go (x == p) (counted_append p xs ys)
  where
    go : (b : Bool) → occurrences p (xs ++ ys) ≡ occurrences p xs + occurrences p ys →
        (if b then suc (occurrences p (xs ++ ys)) else occurrences p (xs ++ ys)) ≡ (if b then suc (occurrences p xs) else occurrences p xs) + occurrences p ys
    go true rest = omega (arith, rest)
    go false rest = rest

abbrev but : ℕ → List ℕ → List ℕ
but p qs = filter (λ q. not (q == p)) qs

but_step : (p q : ℕ) (qs : List ℕ) (b : Bool) → (q == p) ≡ b → but p (q ∷ qs) ≡ (if b then but p qs else q ∷ but p qs)
but_step p q qs b is = ap (λ (c : Bool). if not c then q ∷ but p qs else but p qs) is ∙ go b
  where
    go : (b : Bool) → (if not b then q ∷ but p qs else but p qs) ≡ (if b then but p qs else q ∷ but p qs)
    go true = refl
    go false = refl

but_none : (p : ℕ) (qs : List ℕ) → occurrences p qs ≡ 0 → but p qs ≡ qs
but_none p [] none = refl
but_none p (q ∷ qs) none = elim (cases_eq q p) [
  | inl same ↦ absurd (let here = ap (λ k. occurrences p (k ∷ qs)) same in let more = more_here p qs in omega (arith, here, more, none))
  | inr apart ↦ but_step p q qs false (grind (arith, nat_tests, apart)) ∙ ap (λ (xs : List ℕ). q ∷ xs) (but_none p qs (sym (more_there p q qs apart) ∙ none))
]

but_split : (p : ℕ) (xs ys : List ℕ) → occurrences p xs ≡ 0 → occurrences p ys ≡ 0 → but p (xs ++ p ∷ ys) ≡ xs ++ ys
but_split p [] ys none rest = but_step p p ys true (grind (arith, nat_tests)) ∙ but_none p ys rest
but_split p (x ∷ xs) ys none rest = elim (cases_eq x p) [
  | inl same ↦ absurd (let here = ap (λ k. occurrences p (k ∷ xs)) same in let more = more_here p xs in omega (arith, here, more, none))
  | inr apart ↦ but_step p x (xs ++ p ∷ ys) false (grind (arith, nat_tests, apart)) ∙ ap (λ (zs : List ℕ). x ∷ zs) (but_split p xs ys (sym (more_there p x xs apart) ∙ none) rest)
]

-- The first unit of which something holds.

module _ (P : OpenUnit → Bool) (u : OpenUnit) (is : P u ≡ true) where
  split_first : (xs ys : List OpenUnit) → first_that P xs ≡ None → first_that P (xs ++ u ∷ ys) ≡ Some u
  split_first [] ys none = ap (λ (b : Bool). if b then Some u else first_that P ys) is
  split_first (x ∷ xs) ys none = go (P x) none (split_first xs ys)
    where
      go : (b : Bool) → (if b then Some x else first_that P xs) ≡ None → (first_that P xs ≡ None → first_that P (xs ++ u ∷ ys) ≡ Some u) → (if b then Some x else first_that P (xs ++ u ∷ ys)) ≡ Some u
      go true none rest = let never : ⊥ = cc in absurd never
      go false none rest = rest none

  split_with : (w : OpenUnit) (xs ys : List OpenUnit) → first_that P xs ≡ None → with_first P w (xs ++ u ∷ ys) ≡ xs ++ w ∷ ys
  split_with w [] ys none = ap (λ (b : Bool). if b then w ∷ ys else u ∷ with_first P w ys) is
  split_with w (x ∷ xs) ys none = go (P x) none (split_with w xs ys)
    where
      go : (b : Bool) → (if b then Some x else first_that P xs) ≡ None → (first_that P xs ≡ None → with_first P w (xs ++ u ∷ ys) ≡ xs ++ w ∷ ys) →
          (if b then w ∷ (xs ++ u ∷ ys) else x ∷ with_first P w (xs ++ u ∷ ys)) ≡ x ∷ (xs ++ w ∷ ys)
      go true none rest = let never : ⊥ = cc in absurd never
      go false none rest = ap (λ (zs : List OpenUnit). x ∷ zs) (rest none)

  split_without : (xs ys : List OpenUnit) → first_that P xs ≡ None → without_first P (xs ++ u ∷ ys) ≡ xs ++ ys
  split_without [] ys none = ap (λ (b : Bool). if b then ys else u ∷ without_first P ys) is
  split_without (x ∷ xs) ys none = go (P x) none (split_without xs ys)
    where
      go : (b : Bool) → (if b then Some x else first_that P xs) ≡ None → (first_that P xs ≡ None → without_first P (xs ++ u ∷ ys) ≡ xs ++ ys) →
          (if b then xs ++ u ∷ ys else x ∷ without_first P (xs ++ u ∷ ys)) ≡ x ∷ (xs ++ ys)
      go true none rest = let never : ⊥ = cc in absurd never
      go false none rest = ap (λ (zs : List OpenUnit). x ∷ zs) (rest none)

-- one further place in front, of whose unit it does not hold
pub first_behind : (P : OpenUnit → Bool) (places : List (Option OpenUnit)) (q p : ℕ) (qs : List ℕ) (u : OpenUnit) → unit_at places q ≡ Some u → P u ≡ false → IsFirstPlace P places qs p → IsFirstPlace P places (q ∷ qs) p
first_behind P places q p qs u there other f = record {
  front = q ∷ f.front;
  back = f.back;
  split = ap (λ (xs : List ℕ). q ∷ xs) f.split;
  unit = f.unit;
  there = f.there;
  is = f.is;
  before = ap (λ (o : Option OpenUnit). first_that P (elim o [ Some x ↦ x ∷ units_of places f.front | None ↦ units_of places f.front ])) there
      ∙ ap (λ (b : Bool). if b then Some u else first_that P (units_of places f.front)) other ∙ f.before;
}

pub none_behind : (P : OpenUnit → Bool) (places : List (Option OpenUnit)) (q : ℕ) (qs : List ℕ) (u : OpenUnit) → unit_at places q ≡ Some u → P u ≡ false → first_that P (units_of places qs) ≡ None → first_that P (units_of places (q ∷ qs)) ≡ None
none_behind P places q qs u there other none =
    ap (λ (o : Option OpenUnit). first_that P (elim o [ Some x ↦ x ∷ units_of places qs | None ↦ units_of places qs ])) there
    ∙ ap (λ (b : Bool). if b then Some u else first_that P (units_of places qs)) other ∙ none

pub first_here : (P : OpenUnit → Bool) (places : List (Option OpenUnit)) (p : ℕ) (qs : List ℕ) (u : OpenUnit) → unit_at places p ≡ Some u → P u ≡ true → IsFirstPlace P places (p ∷ qs) p
first_here P places p qs u there is = record { front = []; back = qs; split = refl; unit = u; there = there; is = is; before = refl }

module _ (P : OpenUnit → Bool) (s : Units) (p : ℕ) (o : AreInOrder s.places s.order) (f : IsFirstPlace P s.places s.order p) where
  counts : occurrences p f.front + suc (occurrences p f.back) ≡ 1
  counts =
      let all = sym (counted_append p f.front (p ∷ f.back)) ∙ ap (occurrences p) (sym f.split) ∙ o.each p ∙ ap count_at f.there in
      let here = more_here p f.back in omega (arith, all, here)

  none_front : occurrences p f.front ≡ 0
  none_front = let c = counts in omega (arith, c)

  none_back : occurrences p f.back ≡ 0
  none_back = let c = counts in omega (arith, c)

  below : p < length s.places
  below = at_below s.places p (subst IsSome (sym f.there) refl)

  parts : (us : List (Option OpenUnit)) (w : OpenUnit) → unit_at us p ≡ Some w → units_of us (f.front ++ p ∷ f.back) ≡ units_of us f.front ++ w ∷ units_of us f.back
  parts us w there = units_append us f.front (p ∷ f.back) ∙ ap (λ (x : Option OpenUnit). units_of us f.front ++ (elim x [ Some y ↦ y ∷ units_of us f.back | None ↦ units_of us f.back ])) there

  in_parts : begun s ≡ units_of s.places f.front ++ f.unit ∷ units_of s.places f.back
  in_parts = ap (units_of s.places) f.split ∙ parts s.places f.unit f.there

  pub first_unit : (p < 64) × IsFirst P s p
  first_unit = (
    (let b = below in let whole = o.whole in omega (arith, b, whole)),
    record {
      unit = f.unit;
      there = f.there;
      is = f.is;
      first = ap (first_that P) in_parts ∙ split_first P f.unit f.is (units_of s.places f.front) (units_of s.places f.back) f.before;
      changed = λ w.
          ap (units_of (slice_set s.places p (Some w))) f.split ∙ parts (slice_set s.places p (Some w)) w (get_or-set_same s.places p (Some w) None below)
          ∙ (λ i. units_other s.places p (Some w) f.front none_front i ++ w ∷ units_other s.places p (Some w) f.back none_back i)
          ∙ sym (split_with P f.unit f.is w (units_of s.places f.front) (units_of s.places f.back) f.before) ∙ ap (with_first P w) (sym in_parts);
      gone =
          ap (λ (qs : List ℕ). units_of (slice_set s.places p None) (but p qs)) f.split ∙ ap (units_of (slice_set s.places p None)) (but_split p f.front f.back none_front none_back)
          ∙ units_append (slice_set s.places p None) f.front f.back
          ∙ (λ i. units_other s.places p None f.front none_front i ++ units_other s.places p None f.back none_back i)
          ∙ sym (split_without P f.unit f.is (units_of s.places f.front) (units_of s.places f.back) f.before) ∙ ap (without_first P) (sym in_parts);
    },
  )

-- Where the earliest change begins.

earlier_none : (a : Option ℕ) → earlier a None ≡ a
earlier_none None = refl
earlier_none (Some m) = refl

pub earlier_either : (a b : Option ℕ) → earlier a b ≡ earlier b a
earlier_either None b = sym (earlier_none b)
earlier_either (Some m) None = refl
earlier_either (Some m) (Some n) = ap Some (omega arith)

earlier_swap : (a b c : Option ℕ) → earlier a (earlier b c) ≡ earlier b (earlier a c)
earlier_swap None b c = refl
earlier_swap (Some m) None c = refl
earlier_swap (Some m) (Some n) None = ap Some (omega arith)
earlier_swap (Some m) (Some n) (Some k) = ap Some (omega arith)

abbrev pub earliest_in : List OpenUnit → Option ℕ
earliest_in [] = None
earliest_in (u ∷ us) = earlier (first_of u.positions) (earliest_in us)

earliest_step : (us : List (Option OpenUnit)) (i : ℕ) (u : OpenUnit) → unit_at us i ≡ Some u → earliest us ≡ earlier (first_of u.positions) (earliest (slice_set us i None))
earliest_step [] i u there = let never : ⊥ = cc in absurd never
earliest_step (None ∷ us) zero u there = let never : ⊥ = cc in absurd never
earliest_step (Some w ∷ us) zero u there = ap (λ (x : OpenUnit). earlier (first_of x.positions) (earliest us)) (one_unit w u there)
earliest_step (None ∷ us) (suc i) u there = earliest_step us i u there
earliest_step (Some w ∷ us) (suc i) u there =
    ap (earlier (first_of w.positions)) (earliest_step us i u there) ∙ earlier_swap (first_of w.positions) (first_of u.positions) (earliest (slice_set us i None))

earliest_none : (us : List (Option OpenUnit)) → ((p : ℕ) → unit_at us p ≡ None) → earliest us ≡ None
earliest_none [] none = refl
earliest_none (None ∷ us) none = earliest_none us (λ p. none (suc p))
earliest_none (Some u ∷ us) none = let never : ⊥ = (let e : ◌≡◌ {A = Option OpenUnit} (Some u) None = none 0 in cc) in absurd never

earliest_order : (order : List ℕ) (us : List (Option OpenUnit)) → ((p : ℕ) → occurrences p order ≡ count_at (unit_at us p)) → earliest us ≡ earliest_in (units_of us order)
earliest_order [] us each = earliest_none us (λ p. counted_none (unit_at us p) (each p))
earliest_order (q ∷ qs) us each = go (unit_at us q) refl (earliest_order qs (slice_set us q None))
  where
    go : (o : Option OpenUnit) → unit_at us q ≡ o → (((p : ℕ) → occurrences p qs ≡ count_at (unit_at (slice_set us q None) p)) → earliest (slice_set us q None) ≡ earliest_in (units_of (slice_set us q None) qs)) →
        earliest us ≡ earliest_in (elim o [ Some u ↦ u ∷ units_of us qs | None ↦ units_of us qs ])
    go None there rest = let one = sym (more_here q qs) ∙ each q ∙ ap count_at there in absurd (omega (arith, one))
    go (Some u) there rest =
        let none : occurrences q qs ≡ 0 = (let one : suc (occurrences q qs) ≡ 1 = sym (more_here q qs) ∙ each q ∙ ap count_at there in omega (arith, one)) in
        let below = at_below us q (subst IsSome (sym there) refl) in
        let later : (p : ℕ) → occurrences p qs ≡ count_at (unit_at (slice_set us q None) p) = λ p. elim (cases_eq p q) [
          | inl same ↦ ap (λ k. occurrences k qs) same ∙ none ∙ ap count_at (sym (get_or-set_same us q None None below)) ∙ ap (λ k. count_at (unit_at (slice_set us q None) k)) (sym same)
          | inr apart ↦ sym (more_there p q qs (λ e. apart (sym e))) ∙ each p ∙ ap count_at (sym (get_or-set_other us q p None None apart))
        ] in
        earliest_step us q u there ∙ ap (earlier (first_of u.positions)) (rest later ∙ ap earliest_in (units_other us q None qs none))

pub earliest_seen : (places : List (Option OpenUnit)) (order : List ℕ) → AreInOrder places order → earliest places ≡ earliest_in (units_of places order)
earliest_seen places order at = earliest_order order places at.each

-- How many changed a file.

changers_step : (file : ℕ) (us : List (Option OpenUnit)) (i : ℕ) (u : OpenUnit) → unit_at us i ≡ Some u → changers file us ≡ one_changer file (Some u) + changers file (slice_set us i None)
changers_step file [] i u there = let never : ⊥ = cc in absurd never
changers_step file (None ∷ us) zero u there = let never : ⊥ = cc in absurd never
changers_step file (Some w ∷ us) zero u there = let same = ap (λ (x : OpenUnit). one_changer file (Some x)) (one_unit w u there) in omega (arith, same)
changers_step file (x ∷ us) (suc i) u there = let rest = changers_step file us i u there in omega (arith, rest)

changers_none : (file : ℕ) (us : List (Option OpenUnit)) → ((p : ℕ) → unit_at us p ≡ None) → changers file us ≡ 0
changers_none file [] none = refl
changers_none file (None ∷ us) none = let rest = changers_none file us (λ p. none (suc p)) in omega (arith, rest)
changers_none file (Some u ∷ us) none = let never : ⊥ = (let e : ◌≡◌ {A = Option OpenUnit} (Some u) None = none 0 in cc) in absurd never

changers_order : (file : ℕ) (order : List ℕ) (us : List (Option OpenUnit)) → ((p : ℕ) → occurrences p order ≡ count_at (unit_at us p)) → changers file us ≡ changers file (map Some (units_of us order))
changers_order file [] us each = changers_none file us (λ p. counted_none (unit_at us p) (each p))
changers_order file (q ∷ qs) us each = go (unit_at us q) refl (changers_order file qs (slice_set us q None))
  where
    go : (o : Option OpenUnit) → unit_at us q ≡ o → (((p : ℕ) → occurrences p qs ≡ count_at (unit_at (slice_set us q None) p)) → changers file (slice_set us q None) ≡ changers file (map Some (units_of (slice_set us q None) qs))) →
        changers file us ≡ changers file (map Some (elim o [ Some u ↦ u ∷ units_of us qs | None ↦ units_of us qs ]))
    go None there rest = let one = sym (more_here q qs) ∙ each q ∙ ap count_at there in absurd (omega (arith, one))
    go (Some u) there rest =
        let none : occurrences q qs ≡ 0 = (let one : suc (occurrences q qs) ≡ 1 = sym (more_here q qs) ∙ each q ∙ ap count_at there in omega (arith, one)) in
        let below = at_below us q (subst IsSome (sym there) refl) in
        let later : (p : ℕ) → occurrences p qs ≡ count_at (unit_at (slice_set us q None) p) = λ p. elim (cases_eq p q) [
          | inl same ↦ ap (λ k. occurrences k qs) same ∙ none ∙ ap count_at (sym (get_or-set_same us q None None below)) ∙ ap (λ k. count_at (unit_at (slice_set us q None) k)) (sym same)
          | inr apart ↦ sym (more_there p q qs (λ e. apart (sym e))) ∙ each p ∙ ap count_at (sym (get_or-set_other us q p None None apart))
        ] in
        changers_step file us q u there ∙ ap (λ (n : ℕ). one_changer file (Some u) + n) (rest later ∙ ap (λ (ws : List OpenUnit). changers file (map Some ws)) (units_other us q None qs none))

pub changers_seen : (file : ℕ) (places : List (Option OpenUnit)) (order : List ℕ) → AreInOrder places order → changers file places ≡ changers file (map Some (units_of places order))
changers_seen file places order at = changers_order file order places at.each

-- Places are looked at in their order.

module _ (P : OpenUnit → Bool) (places : List (Option OpenUnit)) where
  rest_of : (p : ℕ) (qs : List ℕ) → take (length (p ∷ qs) - 1) (drop 1 (p ∷ qs)) ≡ qs
  rest_of p qs = let same : length (p ∷ qs) - 1 ≡ length qs = omega arith in ap (λ (n : ℕ). take n qs) same ∙ take_all (length qs) qs (omega arith)

  -- the unit that is read at the first of them
  read_first : (p : ℕ) (qs : List ℕ) (o : Option OpenUnit) → o ≡ get_or places p o → AllByRecursion (λ q. IsSome (unit_at places q)) (p ∷ qs) → (u : OpenUnit) × (unit_at places p ≡ Some u) × (o ≡ Some u)
  read_first p qs o is some =
      let at : unit_at places p ≡ o = get_or_default places p None o (at_below places p some.0) ∙ sym is in go o at (subst IsSome at some.0)
    where
      go : (o : Option OpenUnit) → unit_at places p ≡ o → IsSome o → (u : OpenUnit) × (unit_at places p ≡ Some u) × (o ≡ Some u)
      go None at is = let never : ⊥ = cc in absurd never
      go (Some u) at is = (u, at, refl)

  pub found_first : (order : List ℕ) (o : Option OpenUnit) → 1 ≤ length order → o ≡ get_or places (get_or order 0 0) o → AllByRecursion (λ q. IsSome (unit_at places q)) order → IfSome o (λ u. true ≡ P u) → IsFirstPlace P places order (get_or order 0 0)
  found_first [] o some is all holds = absurd (omega (arith, some))
  found_first (p ∷ qs) o some is all holds = let r = read_first p qs o is all in first_here P places p qs r.0 r.1 (sym (subst (λ (x : Option OpenUnit). IfSome x (λ u. true ≡ P u)) r.2 holds))

  pub found_behind : (order : List ℕ) (o : Option OpenUnit) (found : Option ℕ) → 1 ≤ length order → o ≡ get_or places (get_or order 0 0) o → AllByRecursion (λ q. IsSome (unit_at places q)) order → IfSome o (λ u. false ≡ P u) →
      IfSome found (IsFirstPlace P places (take (length order - 1) (drop 1 order))) → IfSome found (IsFirstPlace P places order)
  found_behind [] o found some is all fails later = absurd (omega (arith, some))
  found_behind (p ∷ qs) o None some is all fails later = tt
  found_behind (p ∷ qs) o (Some q) some is all fails later =
      let r = read_first p qs o is all in
      first_behind P places p q qs r.0 r.1 (sym (subst (λ (x : Option OpenUnit). IfSome x (λ u. false ≡ P u)) r.2 fails)) (subst (λ (xs : List ℕ). IsFirstPlace P places xs q) (rest_of p qs) later)

  pub none_at_all : (order : List ℕ) (o : Option OpenUnit) (found : Option ℕ) → 1 ≤ length order → o ≡ get_or places (get_or order 0 0) o → AllByRecursion (λ q. IsSome (unit_at places q)) order → IfSome o (λ u. false ≡ P u) →
      IfNone found (first_that P (units_of places (take (length order - 1) (drop 1 order))) ≡ None) → IfNone found (first_that P (units_of places order) ≡ None)
  none_at_all [] o found some is all fails later = absurd (omega (arith, some))
  none_at_all (p ∷ qs) o (Some q) some is all fails later = tt
  none_at_all (p ∷ qs) o None some is all fails later =
      let r = read_first p qs o is all in
      none_behind P places p qs r.0 r.1 (sym (subst (λ (x : Option OpenUnit). IfSome x (λ u. false ≡ P u)) r.2 fails)) (ap (λ (xs : List ℕ). first_that P (units_of places xs)) (sym (rest_of p qs)) ∙ later)
