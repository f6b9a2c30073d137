-- A unit is none of a node's any more, at its place and in the order.
use Rattle.std.proofs.Common.{◌≡◌, ℕ, ◌≤◌, ◌==◌, List, [], ◌∷◌, Bool, true, false, not, Option, Some, None, if◌then◌else◌, slice_set, refl, sym, ◌∙◌, ap, subst, arith, inl, inr, get_or-set_other}
use Rattle.std.specs.List.{filter}
use Rattle.std.proofs.lemmas.Bool.{cases_eq, eq-eqb, eqb-true, false_from_ne_true}
use Rattle.records_model.specs.History.{same_id}
use Rattle.unit_laws.proofs.Tests.{passed, picked}
use Rattle.unit_table.specs.Places.{AreInOrder, count_at, occurrences}
use Rattle.unit_table.specs.Units.{OpenUnit, unit_at, units_of}
use Rattle.unit_table.proofs.OrderLemmas.{more_here, more_there}
use Rattle.commit_protocol.specs.World.{In}
use Rattle.recovery_units.proofs.world_laws.IdLemmas.{id_itself, id_other}
use Rattle.log_laws.specs.Slots.{Slots}
use Rattle.rms_units.specs.State as rms
use Rattle.recovery_units.specs.State.{without_begun, without_unit}
use Rattle.node_units.specs.Seen.{seen}
use Rattle.node_units.proofs.Branches.{Distinct, apart_at, serials}
use Rattle.unit_table.proofs.BegunLemmas.{units_other}

-- The unit at a place is one of those that were begun.

in_order : (places : List (Option OpenUnit)) (order : List ℕ) (p : ℕ) (u : OpenUnit) → unit_at places p ≡ Some u → 1 ≤ occurrences p order → In u (units_of places order)
in_order places [] p u there some = absurd (omega (arith, some))
in_order places (q ∷ qs) p u there some = elim (cases_eq q p) [
  | inl same ↦ here (unit_at places q) (ap (unit_at places) same ∙ there)
  | inr apart ↦ behind (unit_at places q) (in_order places qs p u there (let less = more_there p q qs apart in omega (arith, less, some)))
]
  where
    here : (o : Option OpenUnit) → o ≡ Some u → In u (elim o as (λ _. List OpenUnit) [ Some w ↦ w ∷ units_of places qs | None ↦ units_of places qs ])
    here (Some w) is = inl (one is)
      where
        one : ◌≡◌ {A = Option OpenUnit} (Some w) (Some u) → u ≡ w
        one e = cc
    here None is = let never : ⊥ = cc in absurd never

    behind : (o : Option OpenUnit) → In u (units_of places qs) → In u (elim o as (λ _. List OpenUnit) [ Some w ↦ w ∷ units_of places qs | None ↦ units_of places qs ])
    behind (Some w) i = inr i
    behind None i = i

occurs_once : (s : rms.UnitsState) (p : ℕ) (u : OpenUnit) → AreInOrder s.units.places s.units.order → unit_at s.units.places p ≡ Some u → occurrences p s.units.order ≡ 1
occurs_once s p u at there = at.each p ∙ ap count_at there

pub unit_seen : (s : rms.UnitsState) (log : Slots) (p : ℕ) (u : OpenUnit) → AreInOrder s.units.places s.units.order → unit_at s.units.places p ≡ Some u → In u (seen s log).begun
unit_seen s log p u at there = in_order s.units.places s.units.order p u there (let one = occurs_once s p u at there in omega (arith, one))

-- Without it.

abbrev but : ℕ → List ℕ → List ℕ
but p qs = filter (λ (q : ℕ). not (q == p)) qs

but_none : (p : ℕ) (qs : List ℕ) → occurrences p qs ≡ 0 → but p qs ≡ qs
but_none p [] none = refl
but_none p (q ∷ qs) none = elim (cases_eq q p) [
  | inl same ↦ absurd (let here = ap (λ k. occurrences p (k ∷ qs)) same in let more = more_here p qs in omega (arith, here, more, none))
  | inr apart ↦ (λ i. if not (false_from_ne_true (q == p) (λ e. apart (eqb-true q p e)) i) then q ∷ but_none p qs (sym (more_there p q qs apart) ∙ none) i else but_none p qs (sym (more_there p q qs apart) ∙ none) i)
]

units_without : (places : List (Option OpenUnit)) (p : ℕ) (u : OpenUnit) → unit_at places p ≡ Some u → (order : List ℕ) → occurrences p order ≡ 1 → Distinct (serials (units_of places order)) →
    units_of (slice_set places p None) (but p order) ≡ without_unit u.serial (units_of places order)
units_without places p u there [] once d = absurd (omega (arith, once))
units_without places p u there (q ∷ qs) once d = elim (cases_eq q p) [
  | inl same ↦
      let none : occurrences p qs ≡ 0 = (let here = ap (λ k. occurrences p (k ∷ qs)) same in let more = more_here p qs in omega (arith, here, more, once)) in
      let test : (q == p) ≡ true = eq-eqb q p same in
      ap (units_of (slice_set places p None)) (picked_not (q == p) test ∙ but_none p qs none) ∙ units_other places p None qs none
      ∙ sym (here (unit_at places q) (ap (unit_at places) same ∙ there))
  | inr apart ↦
      let test : (q == p) ≡ false = false_from_ne_true (q == p) (λ e. apart (eqb-true q p e)) in
      let rest : occurrences p qs ≡ 1 = sym (more_there p q qs apart) ∙ once in
      ap (units_of (slice_set places p None)) (passed_not (q == p) test)
      ∙ there_too (unit_at places q) refl (get_or-set_other places p q None None apart) rest (units_without places p u there qs rest)
]
  where
    picked_not : (b : Bool) → b ≡ true → (if not b then q ∷ but p qs else but p qs) ≡ but p qs
    picked_not true e = refl
    picked_not false e = let never : ⊥ = cc in absurd never

    passed_not : (b : Bool) → b ≡ false → (if not b then q ∷ but p qs else but p qs) ≡ q ∷ but p qs
    passed_not true e = let never : ⊥ = cc in absurd never
    passed_not false e = refl

    here : (o : Option OpenUnit) → o ≡ Some u → without_unit u.serial (elim o as (λ _. List OpenUnit) [ Some w ↦ w ∷ units_of places qs | None ↦ units_of places qs ]) ≡ units_of places qs
    here None is = let never : ⊥ = cc in absurd never
    here (Some w) is = picked (same_id u.serial w.serial) (units_of places qs) (w ∷ without_unit u.serial (units_of places qs)) (subst (λ (x : OpenUnit). same_id u.serial x.serial ≡ true) (one is) (id_itself u.serial))
      where
        one : ◌≡◌ {A = Option OpenUnit} (Some w) (Some u) → u ≡ w
        one e = cc

    there_too : (o : Option OpenUnit) → unit_at places q ≡ o → unit_at (slice_set places p None) q ≡ unit_at places q → occurrences p qs ≡ 1 →
        (Distinct (serials (units_of places qs)) → units_of (slice_set places p None) (but p qs) ≡ without_unit u.serial (units_of places qs)) →
        units_of (slice_set places p None) (q ∷ but p qs) ≡ without_unit u.serial (units_of places (q ∷ qs))
    there_too None at stays rest more =
        (λ i. elim ((stays ∙ at) i) [ Some w ↦ w ∷ units_of (slice_set places p None) (but p qs) | None ↦ units_of (slice_set places p None) (but p qs) ])
        ∙ more (subst (λ (o : Option OpenUnit). Distinct (serials (elim o as (λ _. List OpenUnit) [ Some w ↦ w ∷ units_of places qs | None ↦ units_of places qs ]))) at d)
        ∙ (λ i. without_unit u.serial (elim (sym at i) [ Some w ↦ w ∷ units_of places qs | None ↦ units_of places qs ]))
    there_too (Some w) at stays rest more =
        let e = subst (λ (o : Option OpenUnit). Distinct (serials (elim o as (λ _. List OpenUnit) [ Some w ↦ w ∷ units_of places qs | None ↦ units_of places qs ]))) at d in
        let other : same_id u.serial w.serial ≡ false = id_other w.serial u.serial (apart_at w.serial (units_of places qs) u e.0 (in_order places qs p u there (omega (arith, rest)))) in
        (λ i. elim ((stays ∙ at) i) [ Some w ↦ w ∷ units_of (slice_set places p None) (but p qs) | None ↦ units_of (slice_set places p None) (but p qs) ])
        ∙ ap (λ (ws : List OpenUnit). w ∷ ws) (more e.1)
        ∙ sym (passed (same_id u.serial w.serial) (units_of places qs) (w ∷ without_unit u.serial (units_of places qs)) other)
        ∙ (λ i. without_unit u.serial (elim (sym at i) [ Some w ↦ w ∷ units_of places qs | None ↦ units_of places qs ]))

pub begun_without : (s : rms.UnitsState) (log : Slots) (p : ℕ) (u : OpenUnit) → AreInOrder s.units.places s.units.order → unit_at s.units.places p ≡ Some u → Distinct (serials (seen s log).begun) →
    seen (rms.without_place p u.serial s) log ≡ without_begun u.serial (seen s log)
begun_without s log p u at there d = λ i. record { begun = units_without s.units.places p u there s.units.order (occurs_once s p u at there) d i; locks = (without_begun u.serial (seen s log)).locks; log = log }
