-- Where the changes of units begin, as units change and go.
use Rattle.std.proofs.Common.{◌≡◌, ℕ, zero, suc, ◌+◌, ◌<◌, ◌≤◌, List, [], ◌∷◌, ◌++◌, Option, Some, None, length, slice_set, refl, sym, ap, subst, ◌∙◌, arith, get_or-set_same, get_or-set_other, ⊎_elim}
use Rattle.std.specs.Prelude.{min, unwrap_or}
use Rattle.std.specs.List.{AllByRecursion}
use Rattle.std.proofs.lemmas.Bool.{cases_eq}
use Rattle.std.proofs.lemmas.List.Elements.{All-from_recursion}
use Rattle.unit_table.specs.Units.{OpenUnit, earlier, earliest, first_of, owed, owed_for, unit_at, with_position}
use Rattle.rms_units.specs.State.{AreAscending, AreWithin, Ascend}

-- What holds of the positions of each unit.

abbrev Each : (List ℕ → Type 0) → List (Option OpenUnit) → Type 0
Each P places = (p : ℕ) (u : OpenUnit) → unit_at places p ≡ Some u → P u.positions

-- where one place has another unit, or none
pub each_put : (P Q : List ℕ → Type 0) (us : List (Option OpenUnit)) (i : ℕ) (new : Option OpenUnit) → i < length us → Each P us → ((qs : List ℕ) → P qs → Q qs) → ((u : OpenUnit) → new ≡ Some u → Q u.positions) → Each Q (slice_set us i new)
each_put P Q us i new below each more fresh p x at = ⊎_elim
    (λ same. fresh x (sym (ap (unit_at (slice_set us i new)) same ∙ get_or-set_same us i new None below) ∙ at))
    (λ apart. more x.positions (each p x (sym (get_or-set_other us i p new None apart) ∙ at)))
    (cases_eq p i)

-- Positions that ascend.

pub ascend_ends : (from end : ℕ) (qs : List ℕ) → Ascend from end qs → from ≤ end
ascend_ends from end [] a = a
ascend_ends from end (q ∷ qs) a = let later : q + 1 ≤ end = ascend_ends (q + 1) end qs a.1 in omega (arith, a.0, later)

pub ascend_longer : (from end more : ℕ) (qs : List ℕ) → Ascend from end qs → Ascend from (end + more) qs
ascend_longer from end more [] a = omega (arith, a)
ascend_longer from end more (q ∷ qs) a = (a.0, ascend_longer (q + 1) end more qs a.1)

ascend_push : (from end more : ℕ) (qs : List ℕ) → 1 ≤ more → Ascend from end qs → Ascend from (end + more) (qs ++ end ∷ [])
ascend_push from end more [] some a = (a, omega (arith, some))
ascend_push from end more (q ∷ qs) some a = (a.0, ascend_push (q + 1) end more qs some a.1)

pub ascending_noted : (first end more : ℕ) (us : List (Option OpenUnit)) (i file : ℕ) (u : OpenUnit) → 1 ≤ more → i < length us → unit_at us i ≡ Some u → AreAscending first end us → AreAscending first (end + more) (slice_set us i (Some (with_position end file u)))
ascending_noted first end more us i file u some below is each =
    each_put (Ascend first end) (Ascend first (end + more)) us i (Some (with_position end file u)) below each (ascend_longer first end more)
    (λ x same. let it : with_position end file u ≡ x = cc in subst (λ (y : OpenUnit). Ascend first (end + more) y.positions) it (ascend_push first end more u.positions some (each i u is)))

pub ascending_longer : (first end more : ℕ) (us : List (Option OpenUnit)) → AreAscending first end us → AreAscending first (end + more) us
ascending_longer first end more us each p u at = ascend_longer first end more u.positions (each p u at)

pub ascending_gone : (first end : ℕ) (us : List (Option OpenUnit)) (i : ℕ) → i < length us → AreAscending first end us → AreAscending first end (slice_set us i None)
ascending_gone first end us i below each =
    each_put (Ascend first end) (Ascend first end) us i None below each (λ qs a. a) (λ u no. let never : ⊥ = cc in absurd never)

-- The earliest of them.

abbrev IsBetween : (first end : ℕ) → Option ℕ → Type 0
IsBetween first end None = Unit {0}
IsBetween first end (Some n) = (first ≤ n) × (n ≤ end)

abbrev IsAtMost : ℕ → Option ℕ → Type 0
IsAtMost q None = ⊥
IsAtMost q (Some n) = n ≤ q

first_between : (first end : ℕ) (qs : List ℕ) → Ascend first end qs → IsBetween first end (first_of qs)
first_between first end [] a = tt
first_between first end (q ∷ qs) a = let later : q + 1 ≤ end = ascend_ends (q + 1) end qs a.1 in (a.0, omega (arith, later))

earlier_between : (first end : ℕ) (a b : Option ℕ) → IsBetween first end a → IsBetween first end b → IsBetween first end (earlier a b)
earlier_between first end None b x y = y
earlier_between first end (Some m) None x y = x
earlier_between first end (Some m) (Some n) x y = (omega (arith, x.0, y.0), omega (arith, x.1))

earliest_between : (first end : ℕ) (us : List (Option OpenUnit)) → AreAscending first end us → IsBetween first end (earliest us)
earliest_between first end [] each = tt
earliest_between first end (None ∷ us) each = earliest_between first end us (λ p u at. each (suc p) u at)
earliest_between first end (Some u ∷ us) each = earlier_between first end (first_of u.positions) (earliest us)
    (first_between first end u.positions (each zero u refl)) (earliest_between first end us (λ p x at. each (suc p) x at))

earlier_left : (q : ℕ) (a b : Option ℕ) → IsAtMost q a → IsAtMost q (earlier a b)
earlier_left q None b x = absurd x
earlier_left q (Some m) None x = x
earlier_left q (Some m) (Some n) x = omega (arith, x)

earlier_right : (q : ℕ) (a b : Option ℕ) → IsAtMost q b → IsAtMost q (earlier a b)
earlier_right q None b x = x
earlier_right q (Some m) None x = absurd x
earlier_right q (Some m) (Some n) x = omega (arith, x)

first_at_most : (q : ℕ) (ps qs : List ℕ) → ps ≡ q ∷ qs → IsAtMost q (first_of ps)
first_at_most q [] qs is = let no : ⊥ = cc in absurd no
first_at_most q (p ∷ ps) qs is = let same : p ≡ q = cc in omega (arith, same)

earliest_at_most : (us : List (Option OpenUnit)) (p : ℕ) (u : OpenUnit) (q : ℕ) (qs : List ℕ) → unit_at us p ≡ Some u → u.positions ≡ q ∷ qs → IsAtMost q (earliest us)
earliest_at_most [] p u q qs at is = let no : ⊥ = cc in absurd no
earliest_at_most (None ∷ us) zero u q qs at is = let no : ⊥ = cc in absurd no
earliest_at_most (None ∷ us) (suc p) u q qs at is = earliest_at_most us p u q qs at is
earliest_at_most (Some x ∷ us) zero u q qs at is =
    let same : x ≡ u = cc in
    earlier_left q (first_of x.positions) (earliest us) (first_at_most q x.positions qs (ap (λ (y : OpenUnit). y.positions) same ∙ is))
earliest_at_most (Some x ∷ us) (suc p) u q qs at is = earlier_right q (first_of x.positions) (earliest us) (earliest_at_most us p u q qs at is)

-- from the earliest change on, or from the end where there is none
module _ (first end : ℕ) (us : List (Option OpenUnit)) (order : first ≤ end) (each : AreAscending first end us) where
  abbrev pub from : ℕ
  from = unwrap_or (earliest us) end

  bounds : (o : Option ℕ) → IsBetween first end o → (first ≤ unwrap_or o end) × (unwrap_or o end ≤ end)
  bounds None b = (order, omega arith)
  bounds (Some n) b = b

  pub from_bounds : (first ≤ from) × (from ≤ end)
  from_bounds = bounds (earliest us) (earliest_between first end us each)

  at_most : (q : ℕ) (o : Option ℕ) → IsAtMost q o → unwrap_or o end ≤ q
  at_most q None x = absurd x
  at_most q (Some n) le = le

  ascend_from : (qs : List ℕ) → ((q : ℕ) (rest : List ℕ) → qs ≡ q ∷ rest → IsAtMost q (earliest us)) → Ascend first end qs → Ascend from end qs
  ascend_from [] least a = from_bounds.1
  ascend_from (q ∷ qs) least a = (at_most q (earliest us) (least q qs refl), a.1)

  pub ascending_from : AreAscending from end us
  ascending_from p u at = ascend_from u.positions (λ q rest is. earliest_at_most us p u q rest at is) (each p u at)

-- What units are owed without one.

pub owed_gone : (us : List (Option OpenUnit)) (i : ℕ) (u : OpenUnit) → unit_at us i ≡ Some u → owed (slice_set us i None) + owed_for u.prepared u.positions ≡ owed us
owed_gone [] i u is = let no : ⊥ = cc in absurd no
owed_gone (None ∷ us) zero u is = let no : ⊥ = cc in absurd no
owed_gone (Some x ∷ us) zero u is = let same : x ≡ u = cc in let e = ap (λ (y : OpenUnit). owed_for y.prepared y.positions) same in omega (arith, e)
owed_gone (None ∷ us) (suc i) u is = owed_gone us i u is
owed_gone (Some x ∷ us) (suc i) u is = let more = owed_gone us i u is in omega (arith, more)

-- Positions that ascend lie between the journal's ends.

module _ (first : ℕ) where
  lies : (from end : ℕ) (qs : List ℕ) → first ≤ from → Ascend from end qs → AllByRecursion (λ q. (first ≤ q) × (q < end)) qs
  lies from end [] le a = tt
  lies from end (q ∷ qs) le a = let later : q + 1 ≤ end = ascend_ends (q + 1) end qs a.1 in ((omega (arith, le, a.0), omega (arith, later)), lies (q + 1) end qs (omega (arith, le, a.0)) a.1)

pub ascending_within : (first end : ℕ) (us : List (Option OpenUnit)) → AreAscending first end us → AreWithin first end us
ascending_within first end us each p u at = All-from_recursion (λ q. (first ≤ q) × (q < end)) u.positions (lies first first end u.positions (omega arith) (each p u at))
