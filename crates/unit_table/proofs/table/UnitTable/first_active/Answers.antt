use Rattle.std.proofs.Common.{ℕ, ◌<◌, List, Option, Some, None, IsSome, IfSome, subst, sym}
use Rattle.std.specs.List.{AllByRecursion}
use Rattle.unit_table.specs.Places.{IsFirstPlace}
use Rattle.unit_table.specs.Units.{IsFirst, OpenUnit, Units, unit_at, is_active}
use Rattle.unit_table.proofs.BegunLemmas.{first_unit}
use Rattle.unit_table.proofs.OrderLemmas.{all_in_order}
use Rattle.unit_table.proofs.table.UnitTable.first_active.Goals as goal

pub active_place-requires : goal.active_place-requires
active_place-requires c =
    subst (λ (us : List (Option OpenUnit)). AllByRecursion (λ p. IsSome (unit_at us p)) c.deref-2.result.now) (sym c.deref.ensures.value)
    (subst (λ (ps : List ℕ). AllByRecursion (λ p. IsSome (unit_at c.self.inside.places.items p)) ps) (sym c.deref-2.ensures.value) (all_in_order c.self.inside.places.items c.self.inside.order.items c.self.invariant.0))

pub returns-clause-found : goal.returns-clause-found
returns-clause-found c =
    let P = is_active in
    let s : Units = record { places = c.self.inside.places.items; order = c.self.inside.order.items } in
    subst (λ (x : Units). IfSome c.active_place.result (λ (p : ℕ). (p < 64) × IsFirst P x p)) c.self.view_is
    (each c.active_place.result (λ p f. first_unit P s p c.self.invariant.0 f)
    (subst (λ (us : List (Option OpenUnit)). IfSome c.active_place.result (IsFirstPlace P us s.order)) c.deref.ensures.value
    (subst (λ (ps : List ℕ). IfSome c.active_place.result (IsFirstPlace P c.deref.result.now ps)) c.deref-2.ensures.value c.active_place.ensures.found)))
  where
    each : {A B : ℕ → Type 0} (o : Option ℕ) → ((p : ℕ) → A p → B p) → IfSome o A → IfSome o B
    each None f h = tt
    each (Some p) f h = f p h
