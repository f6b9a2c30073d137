-- A branch that changed nothing leaves, and is none of the units any more.
use Rattle.std.proofs.Common.{◌≡◌, ◌∙◌, Option, Some, IfSome, ap, sym, subst, refl, arith}
use Rattle.std.specs.Prelude.{IsSome}
use Rattle.std.specs.List.{position, remove}
use Rattle.rms_units.proofs.unit_cuts.Outcomes.{of_some}
use Rattle.unit_table.specs.Units.{OpenUnit, begun}
use Rattle.vms_base.specs.Ids.{serial_of, tid_of}
use Rattle.vms_model.specs.Ids.{Id}
use Rattle.recovery_units.specs.Calls as calls
use Rattle.recovery_units.specs.State as calls_state
use Rattle.recovery_units.specs.State.{MayLeave, UnitsState, is_begun, without_begun}
use Rattle.rms_units.specs.State as rms
use Rattle.rms_units.specs.State.{unit_of}
use Rattle.node_units.specs.declared.begun.BegunUnit.{BegunUnit}
use Rattle.node_units.specs.declared.begun.Token.{Token}
use Rattle.node_units.specs.Seen.{seen}
use Rattle.node_units.specs.Tokens.{TokensRepresent, is_of, place_in}
use Rattle.node_units.proofs.Ending.{leaves, order_left}
use Rattle.node_units.proofs.TokenLemmas.{HasUnit, active_is, active_of, begun_some, is_found, own_unit, seen_less, stand_then}
use Rattle.node_units.proofs.units.NodeUnitsRecoveryUnits.leave.Goals as goal
use Rattle.node_units.proofs.units.NodeUnitsRecoveryUnits.leave.Goals.{After-stand_in_order-2}

pub unreachable-requires : goal.unreachable-requires
unreachable-requires c =
    let x = serial_of c.args.serial.now in
    let there = begun_some x (begun c.self.inside.units.units) (subst (λ (z : UnitsState). IsSome (calls_state.unit_of x z.begun)) (sym c.self.view_is) c.requires.unit) in
    is_found c.self.inside.begun.items c.self.inside.units c.self.inside.log x c.place_of.result c.self.invariant.0 (c.place_of.ensures ∙ ap (position (is_of x)) c.deref.ensures.value) there c.in_default.is

pub unreachable-requires-in_default-token : goal.unreachable-requires-in_default-token
unreachable-requires-in_default-token c =
    let x = serial_of c.args.serial.now in
    let own = own_unit c.self.inside.begun.items c.self.inside.units c.self.invariant.0 c.stand_in_order.ensures x c.in-Some.place c.remove-tid.result
    (sym (ap (position (is_of x)) c.deref.ensures.value) ∙ sym c.place_of.ensures ∙ c.in-Some.is) c.remove-tid.ensures.value in
    let may = of_some MayLeave (calls_state.unit_of x (begun c.self.inside.units.units)) own.unit own.found (subst (λ (z : UnitsState). IfSome (calls_state.unit_of x z.begun) MayLeave) (sym c.self.view_is) c.requires.may) in
    let active = active_is c.remove-tid.result.token (active_of c.remove-tid.result.token own.held (sym own.prepared ∙ may.active)) in
    c.in_default-token.not-Active active.0 active.1

module _ (c : After-stand_in_order-2) where
  abbrev s : rms.UnitsState
  s = c.self.inside.units

  abbrev t : rms.UnitsState
  t = c.lose_active.new.self

  abbrev x : Id
  x = serial_of c.args.serial.now

  abbrev b : BegunUnit
  b = c.remove-tid.result

  found : position (is_of x) c.self.inside.begun.items ≡ Some c.in-Some.place
  found = sym (ap (position (is_of x)) c.deref.ensures.value) ∙ sym c.place_of.ensures ∙ c.in-Some.is

  own : HasUnit x b s
  own = own_unit c.self.inside.begun.items s c.self.invariant.0 c.stand_in_order.ensures x c.in-Some.place b found c.remove-tid.ensures.value

  there : unit_of c.in-Active.unit s ≡ Some own.unit
  there = ap (λ (k : Token). unit_of (place_in k) s) (sym c.in-Active.is) ∙ own.there

  spent : t ≡ rms.without_place (place_in b.token) own.unit.serial s
  spent = of_some (λ (u : OpenUnit). t ≡ rms.without_place c.in-Active.unit u.serial s) (unit_of c.in-Active.unit s) own.unit there c.lose_active.ensures
      ∙ ap (λ (k : Token). rms.without_place (place_in k) own.unit.serial s) (sym c.in-Active.is)

  stand : TokensRepresent c.remove-tid.new.self.items t
  stand =
      subst (λ ts. TokensRepresent ts t) (sym c.remove-tid.ensures.items)
      (subst (TokensRepresent (remove c.self.inside.begun.items c.in-Some.place)) (sym spent) (stand_then c.self.inside.begun.items s c.self.invariant.0 c.stand_in_order.ensures x c.in-Some.place b found c.remove-tid.ensures.value own.unit.serial own.serial))

  gone : seen t c.self.inside.log ≡ without_begun x c.args.self.now
  gone =
      ap (λ (z : rms.UnitsState). seen z c.self.inside.log) spent
      ∙ seen_less c.self.inside.begun.items s c.self.invariant.0 c.stand_in_order.ensures x c.in-Some.place b found c.remove-tid.ensures.value own.unit.serial own.serial c.self.inside.log ∙ ap (without_begun x) c.self.view_is

pub lose_active-requires : goal.lose_active-requires
lose_active-requires c =
    let x = serial_of c.args.serial.now in
    let own = own_unit c.self.inside.begun.items c.self.inside.units c.self.invariant.0 c.stand_in_order.ensures x c.in-Some.place c.remove-tid.result
    (sym (ap (position (is_of x)) c.deref.ensures.value) ∙ sym c.place_of.ensures ∙ c.in-Some.is) c.remove-tid.ensures.value in
    subst IsSome (sym (ap (λ (k : Token). unit_of (place_in k) c.self.inside.units) (sym c.in-Active.is) ∙ own.there)) refl

pub invariant_of-self : goal.invariant_of-self
invariant_of-self c = (stand c, (let more = c.remove-tid.ensures.capacity in let room = c.self.invariant.1 in omega (arith, more, room)))

pub returns-clause-units : goal.returns-clause-units
returns-clause-units c = gone c

pub returns-clause-tid : goal.returns-clause-tid
returns-clause-tid c = subst (λ (z : UnitsState). IfSome (calls_state.unit_of (x c) z.begun) (λ (u : OpenUnit). tid_of c.remove-tid.result.tid ≡ u.tid)) c.self.view_is
    (subst (λ (o : Option OpenUnit). IfSome o (λ (u : OpenUnit). tid_of c.remove-tid.result.tid ≡ u.tid)) (sym (own c).found) (sym (own c).tid))

pub returns-clause-order : goal.returns-clause-order
returns-clause-order c = λ v order. subst (λ (z : UnitsState). calls_state.IsInOrder z v) (sym (gone c)) (order_left (x c) c.args.self.now v order)

pub returns-clause-done : goal.returns-clause-done
returns-clause-done c = λ v. subst (calls.Leaves (x c) c.args.self.now v) (sym (gone c)) (leaves (x c) c.args.self.now v)
