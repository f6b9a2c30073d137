use Rattle.std.proofs.Common.{ℕ, List, Option, IsSome, subst, sym}
use Rattle.std.specs.List.{AllByRecursion}
use Rattle.unit_table.specs.Units.{OpenUnit, unit_at}
use Rattle.unit_table.proofs.OrderLemmas.{all_in_order}
use Rattle.unit_table.proofs.table.UnitTable.changed_by.Goals as goal

pub first_to_change-requires : goal.first_to_change-requires
first_to_change-requires c =
    subst (λ (us : List (Option OpenUnit)). AllByRecursion (λ p. IsSome (unit_at us p)) c.deref-2.result.now) (sym c.deref.ensures.value)
    (subst (λ (ps : List ℕ). AllByRecursion (λ p. IsSome (unit_at c.self.inside.places.items p)) ps) (sym c.deref-2.ensures.value) (all_in_order c.self.inside.places.items c.self.inside.order.items c.self.invariant.0))
