use Rattle.std.proofs.Common.{ℕ, ◌<◌, List, Option, Some, None, IsSome, IfSome, subst, sym}
use Rattle.std.specs.List.{AllByRecursion}
use Rattle.unit_table.specs.Places.{IsFirstPlace}
use Rattle.unit_table.specs.Units.{IsFirst, OpenUnit, Units, unit_at, is_of}
use Rattle.vms_base.specs.Ids.{serial_of}
use Rattle.unit_table.proofs.BegunLemmas.{first_unit}
use Rattle.unit_table.proofs.OrderLemmas.{all_in_order}
use Rattle.unit_table.proofs.table.UnitTable.find.Goals as goal

pub place_of-requires : goal.place_of-requires
place_of-requires c =
    subst (λ (us : List (Option OpenUnit)). AllByRecursion (λ p. IsSome (unit_at us p)) c.deref-2.result.now) (sym c.deref.ensures.value)
    (subst (λ (ps : List ℕ). AllByRecursion (λ p. IsSome (unit_at c.self.inside.places.items p)) ps) (sym c.deref-2.ensures.value) (all_in_order c.self.inside.places.items c.self.inside.order.items c.self.invariant.0))

pub returns-clause-found : goal.returns-clause-found
returns-clause-found c =
    let P = is_of (serial_of c.args.serial.now) in
    let s : Units = record { places = c.self.inside.places.items; order = c.self.inside.order.items } in
    subst (λ (x : Units). IfSome c.place_of.result (λ (p : ℕ). (p < 64) × IsFirst P x p)) c.self.view_is
    (each c.place_of.result (λ p f. first_unit P s p c.self.invariant.0 f)
    (subst (λ (us : List (Option OpenUnit)). IfSome c.place_of.result (IsFirstPlace P us s.order)) c.deref.ensures.value
    (subst (λ (ps : List ℕ). IfSome c.place_of.result (IsFirstPlace P c.deref.result.now ps)) c.deref-2.ensures.value c.place_of.ensures.found)))
  where
    each : {A B : ℕ → Type 0} (o : Option ℕ) → ((p : ℕ) → A p → B p) → IfSome o A → IfSome o B
    each None f h = tt
    each (Some p) f h = f p h
