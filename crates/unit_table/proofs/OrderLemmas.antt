-- The order of a table's units, where one is begun and where one goes.
use Rattle.std.proofs.Common.{◌≡◌, ℕ, zero, suc, ◌+◌, ◌<◌, ◌≤◌, List, [], ◌∷◌, ◌++◌, Bool, true, false, not, Option, Some, None, length, slice_set, option_map, refl, sym, ap, subst, ◌∙◌, arith, replicate, get_or-set_same, get_or-set_other, length-set, length-append, ⊎_elim}
use Rattle.std.specs.Prelude.{◌==◌, if◌then◌else◌, IsSome}
use Rattle.std.specs.List.{AllByRecursion, filter}
use Rattle.std.proofs.lemmas.Bool.{cases_eq}
use Rattle.std.proofs.lemmas.Bool.Decides.{nat_tests}
use Rattle.unit_table.specs.Units.{OpenUnit, unit_at, units_of}
use Rattle.unit_table.specs.Places.{AreInOrder, count_at, occurrences, taken}

-- Counting.

pub more_here : (p : ℕ) (qs : List ℕ) → occurrences p (p ∷ qs) ≡ suc (occurrences p qs)
more_here p qs = grind (arith, nat_tests)

pub more_there : (p q : ℕ) (qs : List ℕ) → (q ≡ p → ⊥) → occurrences p (q ∷ qs) ≡ occurrences p qs
more_there p q qs apart = grind (arith, nat_tests, apart)

pushed_here : (p : ℕ) (qs : List ℕ) → occurrences p (qs ++ p ∷ []) ≡ suc (occurrences p qs)
pushed_here p [] = more_here p []
pushed_here p (q ∷ qs) = ⊎_elim
    (λ same. subst (λ r. occurrences p (r ∷ (qs ++ p ∷ [])) ≡ suc (occurrences p (r ∷ qs))) (sym same) (more_here p (qs ++ p ∷ []) ∙ ap suc (pushed_here p qs) ∙ ap suc (sym (more_here p qs))))
    (λ apart. more_there p q (qs ++ p ∷ []) apart ∙ pushed_here p qs ∙ ap suc (sym (more_there p q qs apart)))
    (cases_eq q p)

pushed_there : (p r : ℕ) (qs : List ℕ) → (r ≡ p → ⊥) → occurrences p (qs ++ r ∷ []) ≡ occurrences p qs
pushed_there p r [] apart = more_there p r [] apart
pushed_there p r (q ∷ qs) apart = step (q == p) (occurrences p (qs ++ r ∷ [])) (occurrences p qs) (pushed_there p r qs apart)
  where
    step : (b : Bool) (m n : ℕ) → m ≡ n → (if b then suc m else m) ≡ (if b then suc n else n)
    step true m n e = ap suc e
    step false m n e = e

-- without a number
abbrev without : ℕ → List ℕ → List ℕ
without place qs = filter (λ q. not (q == place)) qs

without_step : (place q : ℕ) (qs : List ℕ) → without place (q ∷ qs) ≡ (if q == place then without place qs else q ∷ without place qs)
without_step place q qs = step (q == place)
  where
    step : (b : Bool) → (if not b then q ∷ without place qs else without place qs) ≡ (if b then without place qs else q ∷ without place qs)
    step true = refl
    step false = refl

gone_here : (p : ℕ) (qs : List ℕ) → occurrences p (without p qs) ≡ 0
gone_here p [] = refl
gone_here p (q ∷ qs) = ap (occurrences p) (without_step p q qs) ∙ step (q == p) refl (gone_here p qs)
  where
    step : (b : Bool) → (q == p) ≡ b → occurrences p (without p qs) ≡ 0 → occurrences p (if b then without p qs else q ∷ without p qs) ≡ 0
    step true is e = e
    step false is e = ap (λ (c : Bool). if c then suc (occurrences p (without p qs)) else occurrences p (without p qs)) is ∙ e

gone_there : (p place : ℕ) (qs : List ℕ) → (place ≡ p → ⊥) → occurrences p (without place qs) ≡ occurrences p qs
gone_there p place [] apart = refl
gone_there p place (q ∷ qs) apart = ap (occurrences p) (without_step place q qs) ∙ step (q == place) refl (gone_there p place qs apart)
  where
    at : (q == place) ≡ true → (q ≡ p → ⊥)
    at is same = grind (arith, nat_tests, is, same, apart)

    step : (b : Bool) → (q == place) ≡ b → occurrences p (without place qs) ≡ occurrences p qs → occurrences p (if b then without place qs else q ∷ without place qs) ≡ occurrences p (q ∷ qs)
    step true is e = e ∙ sym (more_there p q qs (at is))
    step false is e = ap (λ n. if q == p then suc n else n) e

-- those that go and those that stay
parts : (p : ℕ) (qs : List ℕ) → length (without p qs) + occurrences p qs ≡ length qs
parts p [] = refl
parts p (q ∷ qs) = let e = ap length (without_step p q qs) in let s = step (q == p) (parts p qs) in omega (arith, e, s)
  where
    step : (b : Bool) → length (without p qs) + occurrences p qs ≡ length qs → length (if b then without p qs else q ∷ without p qs) + (if b then suc (occurrences p qs) else occurrences p qs) ≡ suc (length qs)
    step true e = omega (arith, e)
    step false e = omega (arith, e)

-- Places.

taken_set : (us : List (Option OpenUnit)) (i : ℕ) (v : Option OpenUnit) → i < length us → taken (slice_set us i v) + count_at (unit_at us i) ≡ taken us + count_at v
taken_set [] i v below = let no : ⊥ = omega (arith, below) in absurd no
taken_set (None ∷ us) zero None below = refl
taken_set (None ∷ us) zero (Some v) below = omega arith
taken_set (Some u ∷ us) zero None below = omega arith
taken_set (Some u ∷ us) zero (Some v) below = refl
taken_set (None ∷ us) (suc i) v below = taken_set us i v (omega (arith, below))
taken_set (Some u ∷ us) (suc i) v below = let more = taken_set us i v (omega (arith, below)) in omega (arith, more)

pub taken_few : (us : List (Option OpenUnit)) → taken us ≤ length us
taken_few [] = omega arith
taken_few (None ∷ us) = let more = taken_few us in omega (arith, more)
taken_few (Some u ∷ us) = let more = taken_few us in omega (arith, more)

-- a place without one leaves fewer than there are places
taken_fewer : (us : List (Option OpenUnit)) (i : ℕ) → i < length us → unit_at us i ≡ None → taken us < length us
taken_fewer [] i below none = let no : ⊥ = omega (arith, below) in absurd no
taken_fewer (None ∷ us) zero below none = let more = taken_few us in omega (arith, more)
taken_fewer (Some u ∷ us) zero below none = let no : ⊥ = cc in absurd no
taken_fewer (None ∷ us) (suc i) below none = let more = taken_fewer us i (omega (arith, below)) none in omega (arith, more)
taken_fewer (Some u ∷ us) (suc i) below none = let more = taken_fewer us i (omega (arith, below)) none in omega (arith, more)

is_none : IsSome {T = OpenUnit} None → ⊥
is_none is = let no : ⊥ = cc in no

-- where each place has one, they are as many as the places
taken_all : (us : List (Option OpenUnit)) → ((i : ℕ) → i < length us → IsSome (unit_at us i)) → taken us ≡ length us
taken_all [] all = refl
taken_all (None ∷ us) all = absurd (is_none (all 0 (omega arith)))
taken_all (Some u ∷ us) all = ap suc (taken_all us (λ i below. all (suc i) (omega (arith, below))))

-- The order.

module _ (places : List (Option OpenUnit)) (order : List ℕ) (o : AreInOrder places order) (place : ℕ) (below : place < 64) where
  inside : place < length places
  inside = omega (arith, below, o.whole)

  set_here : (v : Option OpenUnit) (p : ℕ) → p ≡ place → unit_at (slice_set places place v) p ≡ v
  set_here v p same = ap (unit_at (slice_set places place v)) same ∙ get_or-set_same places place v None inside

  set_there : (v : Option OpenUnit) (p : ℕ) → (p ≡ place → ⊥) → unit_at (slice_set places place v) p ≡ unit_at places p
  set_there v p apart = get_or-set_other places place p v None apart

  pub few_in_order : unit_at places place ≡ None → length order < 64
  few_in_order none = let fewer = taken_fewer places place inside none in omega (arith, o.whole, o.many, fewer)

  pub begun_in_order : (u : OpenUnit) → unit_at places place ≡ None → AreInOrder (slice_set places place (Some u)) (order ++ place ∷ [])
  begun_in_order u none = record {
    whole = length-set places place (Some u) ∙ o.whole;
    each = λ p. ⊎_elim (here p) (there p) (cases_eq p place);
    many =
        let more = taken_set places place (Some u) inside in
        let was = ap count_at none in
        let long = length-append order (place ∷ []) in
        omega (arith, more, was, long, o.many);
  }
    where
      here : (p : ℕ) → p ≡ place → occurrences p (order ++ place ∷ []) ≡ count_at (unit_at (slice_set places place (Some u)) p)
      here p same =
          subst (λ r. occurrences p (order ++ r ∷ []) ≡ suc (occurrences p order)) same (pushed_here p order)
          ∙ ap suc (o.each p ∙ ap count_at (ap (unit_at places) same ∙ none)) ∙ sym (ap count_at (set_here (Some u) p same))

      there : (p : ℕ) → (p ≡ place → ⊥) → occurrences p (order ++ place ∷ []) ≡ count_at (unit_at (slice_set places place (Some u)) p)
      there p apart = pushed_there p place order (λ e. apart (sym e)) ∙ o.each p ∙ sym (ap count_at (set_there (Some u) p apart))

  pub gone_in_order : IsSome (unit_at places place) → AreInOrder (slice_set places place None) (filter (λ p. not (p == place)) order)
  gone_in_order some = record {
    whole = length-set places place None ∙ o.whole;
    each = λ p. ⊎_elim (here p) (there p) (cases_eq p place);
    many =
        let more = taken_set places place None inside in
        let both = parts place order in
        let was = one (unit_at places place) some in
        let at = o.each place in
        omega (arith, more, both, was, at, o.many);
  }
    where
      one : (x : Option OpenUnit) → IsSome x → count_at x ≡ 1
      one None is = absurd (is_none is)
      one (Some u) is = refl

      here : (p : ℕ) → p ≡ place → occurrences p (without place order) ≡ count_at (unit_at (slice_set places place None) p)
      here p same = subst (λ r. occurrences p (without r order) ≡ 0) same (gone_here p order) ∙ sym (ap count_at (set_here None p same))

      there : (p : ℕ) → (p ≡ place → ⊥) → occurrences p (without place order) ≡ count_at (unit_at (slice_set places place None) p)
      there p apart = gone_there p place order (λ e. apart (sym e)) ∙ o.each p ∙ sym (ap count_at (set_there None p apart))

  -- another unit in the place of one
  pub noted_in_order : (v : OpenUnit) → IsSome (unit_at places place) → AreInOrder (slice_set places place (Some v)) order
  noted_in_order v some = record {
    whole = length-set places place (Some v) ∙ o.whole;
    each = λ p. ⊎_elim
        (λ same. o.each p ∙ ap count_at (ap (unit_at places) same) ∙ was (unit_at places place) some ∙ sym (ap count_at (set_here (Some v) p same)))
        (λ apart. o.each p ∙ sym (ap count_at (set_there (Some v) p apart)))
        (cases_eq p place);
    many = let more = taken_set places place (Some v) inside in let one = was (unit_at places place) some in omega (arith, more, one, o.many);
  }
    where
      was : (x : Option OpenUnit) → IsSome x → count_at x ≡ 1
      was None is = absurd (is_none is)
      was (Some u) is = refl

-- Where all places are taken.

-- as many units as places in the order
pub units_many : (places : List (Option OpenUnit)) (order : List ℕ) → ((p : ℕ) → 1 ≤ occurrences p order → IsSome (unit_at places p)) → length {A = OpenUnit} (units_of places order) ≡ length order
units_many places [] all = refl
units_many places (p ∷ ps) all = step (unit_at places p) (all p (let e = more_here p ps in omega (arith, e))) (units_many places ps (λ q some. all q (more q some)))
  where
    more : (q : ℕ) → 1 ≤ occurrences q ps → 1 ≤ occurrences q (p ∷ ps)
    more q some = step (p == q) (occurrences q ps) some
      where
        step : (b : Bool) (n : ℕ) → 1 ≤ n → 1 ≤ (if b then suc n else n)
        step true n le = omega (arith, le)
        step false n le = le

    step : (x : Option OpenUnit) → IsSome x → length {A = OpenUnit} (units_of places ps) ≡ length ps → length {A = OpenUnit} (elim x [ Some u ↦ u ∷ units_of places ps | None ↦ units_of places ps ]) ≡ suc (length ps)
    step None is e = absurd (is_none is)
    step (Some u) is e = ap suc e

pub taken_is : (x : Option OpenUnit) (n : ℕ) → n ≡ count_at x → 1 ≤ n → IsSome x
taken_is None n e some = let no : ⊥ = omega (arith, e, some) in absurd no
taken_is (Some u) n e some = refl

pub full_in_order : (places : List (Option OpenUnit)) (order : List ℕ) → AreInOrder places order → ((p : ℕ) → p < 64 → IsSome (unit_at places p)) → length (units_of places order) ≡ 64
full_in_order places order o all =
    units_many places order (λ p some. taken_is (unit_at places p) (occurrences p order) (o.each p) some)
    ∙ o.many ∙ taken_all places (λ i below. all i (omega (arith, below, o.whole))) ∙ o.whole

-- Places without units.

pub at_below : (us : List (Option OpenUnit)) (i : ℕ) → IsSome (unit_at us i) → i < length us
at_below [] i is = absurd (is_none is)
at_below (u ∷ us) zero is = omega arith
at_below (u ∷ us) (suc i) is = let more = at_below us i is in omega (arith, more)

none_at : (n p : ℕ) → unit_at (replicate n None) p ≡ None
none_at zero p = refl
none_at (suc n) zero = refl
none_at (suc n) (suc p) = none_at n p

none_taken : (n : ℕ) → taken (replicate n None) ≡ 0
none_taken zero = refl
none_taken (suc n) = none_taken n

pub one_none_more : (n : ℕ) → replicate {A = Option OpenUnit} n None ++ None ∷ [] ≡ replicate (suc n) None
one_none_more zero = refl
one_none_more (suc n) = ap (λ (us : List (Option OpenUnit)). None ∷ us) (one_none_more n)

-- places of which none has a unit
pub all_none : (n : ℕ) (us : List (Option OpenUnit)) → length us ≡ n → ((p : ℕ) → p < n → unit_at us p ≡ None) → us ≡ replicate n None
all_none zero [] long none = refl
all_none zero (u ∷ us) long none = absurd (omega (arith, long))
all_none (suc n) [] long none = absurd (omega (arith, long))
all_none (suc n) (u ∷ us) long none = λ i. none 0 (omega arith) i ∷ all_none n us (omega (arith, long)) (λ p below. none (suc p) (omega (arith, below))) i

pub empty_in_order : AreInOrder (replicate 64 None) []
empty_in_order = record { whole = refl; each = λ p. sym (ap count_at (none_at 64 p)); many = sym (none_taken 64) }

-- where there is a unit, it stays one
pub still_in_order : (places : List (Option OpenUnit)) (order : List ℕ) (place : ℕ) (change : OpenUnit → OpenUnit) → AreInOrder places order → (x : Option OpenUnit) → unit_at places place ≡ x → IsSome x → AreInOrder (slice_set places place (option_map change x)) order
still_in_order places order place change o None is some = let no : ⊥ = cc in absurd no
still_in_order places order place change o (Some u) is some =
    let at : IsSome (unit_at places place) = subst IsSome (sym is) some in
    let below = at_below places place at in
    let whole = o.whole in
    noted_in_order places order o place (omega (arith, below, whole)) (change u) at

-- Each place in the order has a unit.

each_in : (P : ℕ → Type 0) (qs : List ℕ) → ((p : ℕ) → 1 ≤ occurrences p qs → P p) → AllByRecursion P qs
each_in P [] all = tt
each_in P (q ∷ qs) all = (all q (let e = more_here q qs in omega (arith, e)), each_in P qs (λ p some. all p (more p (q == p) some)))
  where
    more : (p : ℕ) (b : Bool) → 1 ≤ occurrences p qs → 1 ≤ (if b then suc (occurrences p qs) else occurrences p qs)
    more p true some = omega (arith, some)
    more p false some = some

pub all_in_order : (places : List (Option OpenUnit)) (order : List ℕ) → AreInOrder places order → AllByRecursion (λ p. IsSome (unit_at places p)) order
all_in_order places order o = each_in (λ p. IsSome (unit_at places p)) order (λ p some. taken_is (unit_at places p) (occurrences p order) (o.each p) some)
