-- No unit is begun.
use Rattle.std.proofs.Common.{◌≡◌, ◌∙◌, ℕ, ◌-◌, ◌≤◌, List, [], ◌∷◌, Option, Some, None, length, map, get_or, take, drop, refl, sym, ap, arith}
use Rattle.std.proofs.Math.Seq.{take-length}
use Rattle.std.specs.List.{AllByRecursion}
use Rattle.rms_units.specs.unit_aborts.Growing.{AreTold}
use Rattle.rms_units.specs.unit_aborts.declared.reopening.AbortedUnit.{AbortedUnit}
use Rattle.unit_table.specs.Places.{AreInOrder, count_at, occurrences}
use Rattle.unit_table.specs.Units.{OpenUnit, begun, no_units, unit_at}
use Rattle.unit_table.proofs.OrderLemmas.{all_none, taken_is, units_many}
use Rattle.recovery_units.specs.declared.settled.SettledUnit.{SettledUnit}
use Rattle.log_laws.specs.Slots.{Slots}
use Rattle.recovery_units.specs.State.{HasNoUnit}
use Rattle.rms_units.specs.State as rms
use Rattle.volume.specs.State.{VolumeState}
use Rattle.node_units.specs.Seen.{seen}
use Rattle.node_units.specs.Told.{unit_settled}

empty : (order : List ℕ) → length order ≡ 0 → order ≡ []
empty [] none = refl
empty (p ∷ ps) none = absurd (omega (arith, none))

unseen : (o : Option OpenUnit) → 0 ≡ count_at o → o ≡ None
unseen None e = refl
unseen (Some u) e = absurd (omega (arith, e))

-- so no place has one
pub nothing_unseen : (s : rms.UnitsState) (log : Slots) → AreInOrder s.units.places s.units.order → HasNoUnit (seen s log) → s ≡ rms.nothing_begun
nothing_unseen s log at none = λ i. record { units = record { places = places i; order = order i }; locks = none.locks i }
  where
    order : s.units.order ≡ []
    order =
        let many = units_many s.units.places s.units.order (λ p some. taken_is (unit_at s.units.places p) (occurrences p s.units.order) (at.each p) some) in
        let few : length (begun s.units) ≡ 0 = ap (λ (us : List OpenUnit). length us) none.begun in
        empty s.units.order (omega (arith, many, few))

    places : s.units.places ≡ no_units.places
    places = all_none 64 s.units.places at.whole (λ p below. unseen (unit_at s.units.places p) (sym (ap (occurrences p) order) ∙ at.each p))

-- What is told of a restart is no later than the greatest moment.
pub told_early : (v : VolumeState) (ts : List AbortedUnit) → AreTold v ts → AllByRecursion (λ (u : SettledUnit). u.moment.0 ≤ v.catalog.home.greatest_moment.0) (map unit_settled ts)
told_early v [] h = tt
told_early v (t ∷ ts) h = (h.0, told_early v ts h.1)

-- the first that is told, and those behind it
pub told_first : (ts : List AbortedUnit) (t : AbortedUnit) → 1 ≤ length ts → t ≡ get_or ts 0 t → unit_settled t ∷ map unit_settled (take (length ts - 1) (drop 1 ts)) ≡ map unit_settled ts
told_first [] t some at = absurd (omega (arith, some))
told_first (u ∷ ts) t some at = λ i. unit_settled (at i) ∷ map unit_settled (behind i)
  where
    behind : take (length (u ∷ ts) - 1) ts ≡ ts
    behind = ap (λ (n : ℕ). take n ts) (omega arith) ∙ take-length ts
