-- A unit has changed something where its positions say so; of no unit it has not.
use Rattle.std.proofs.Common.{◌≡◌, ◌∙◌, ◌==◌, not, Bool, Option, Some, None, false, length, ap, sym, subst, refl}
use Rattle.std.specs.Prelude.{IsSome, is_some}
use Rattle.std.specs.List.{position}
use Rattle.rms_units.proofs.unit_cuts.Outcomes.{of_some}
use Rattle.unit_table.specs.Units.{OpenUnit, begun}
use Rattle.vms_base.specs.Ids.{serial_of}
use Rattle.recovery_units.specs.State.{UnitsState, are_there, has_changed_by}
use Rattle.rms_units.specs.State.{unit_of}
use Rattle.node_units.specs.Tokens.{is_of, place_in}
use Rattle.node_units.proofs.TokenLemmas.{changed_none, found_if, own_unit, some_there}
use Rattle.node_units.proofs.units.NodeUnitsRecoveryUnits.has_changes.Goals as goal

pub has_changes_held-requires-clause-unit : goal.has_changes_held-requires-clause-unit
has_changes_held-requires-clause-unit c =
    let x = serial_of c.args.serial.now in
    let own = own_unit c.self.inside.begun.items c.self.inside.units c.self.invariant.0 c.stand_in_order.ensures x c.in-Some.place c.index.result.now
    (sym (ap (position (is_of x)) c.deref.ensures.value) ∙ sym c.place_of.ensures ∙ c.in-Some.is) c.index.ensures in
    subst IsSome (sym own.there) refl

pub returns-in-None : goal.returns-in-None
returns-in-None c =
    let x = serial_of c.args.serial.now in
    let none = sym (found_if c.self.inside.begun.items c.self.inside.units c.self.inside.log x c.self.invariant.0) ∙ ap is_some (sym (ap (position (is_of x)) c.deref.ensures.value) ∙ sym c.place_of.ensures ∙ c.in-None.is) in
    sym (changed_none x (begun c.self.inside.units.units) none) ∙ ap (λ (z : UnitsState). has_changed_by x z.begun) c.self.view_is

pub returns-in-Some : goal.returns-in-Some
returns-in-Some c =
    let x = serial_of c.args.serial.now in
    let s = c.self.inside.units in
    let b = c.index.result.now in
    let own = own_unit c.self.inside.begun.items s c.self.invariant.0 c.stand_in_order.ensures x c.in-Some.place b
    (sym (ap (position (is_of x)) c.deref.ensures.value) ∙ sym c.place_of.ensures ∙ c.in-Some.is) c.index.ensures in
    of_some (λ (u : OpenUnit). c.has_changes_held.result ≡ not (length u.positions == 0)) (unit_of (place_in b.token) s) own.unit own.there c.has_changes_held.ensures
    ∙ some_there own.unit.positions
    ∙ sym (ap (λ (o : Option OpenUnit). elim o as (λ _. Bool) [ Some u ↦ are_there u.positions | None ↦ false ]) own.found)
    ∙ ap (λ (z : UnitsState). has_changed_by x z.begun) c.self.view_is
