-- A change of a branch is one of the world's: its entries are in the journal, and it holds the keys that were asked for.
use Rattle.std.proofs.Common.{◌≡◌, ◌∙◌, ◌+◌, ◌<◌, ◌≤◌, ℕ, OnOk, IfSome, false, length, get_or, ap, sym, subst, refl}
use Rattle.std.specs.Prelude.{IsSome}
use Rattle.std.specs.List.{position}
use Rattle.std.proofs.lemmas.List.Quantifiers.{position-Some}
use Rattle.rms_units.proofs.unit_cuts.Outcomes.{of_some}
use Rattle.unit_table.specs.Units.{OpenUnit, begun}
use Rattle.vms_base.specs.Ids.{serial_of}
use Rattle.vms_model.specs.Ids.{Id}
use Rattle.record_operations.specs.Asking.{written}
use Rattle.recovery_units.specs.Calls as calls
use Rattle.recovery_units.specs.State as calls_state
use Rattle.recovery_units.specs.State.{AreLater, UnitsState, WorksFor, is_begun, locks_of}
use Rattle.rms_units.specs.Calls.{ChangeBroke, ChangeRefused}
use Rattle.rms_units.specs.State as rms
use Rattle.rms_units.specs.State.{unit_of}
use Rattle.volume.specs.State.{SameVolume}
use Rattle.node_units.specs.declared.begun.BegunUnit.{BegunUnit}
use Rattle.node_units.specs.Seen.{seen}
use Rattle.node_units.specs.Tokens.{TokensRepresent, is_of, place_in}
use Rattle.node_units.proofs.Answering.{both_with, err_as, ok_and, ok_of, ok_with, refused_same}
use Rattle.node_units.proofs.Changing.{change_err, change_ok, start_kept}
use Rattle.node_units.proofs.Seeing.{early_unseen, order_seen, order_unseen}
use Rattle.node_units.proofs.TokenLemmas.{HasUnit, active_of, is_found, own_unit, same_seen, stand_changes, stand_set}
use Rattle.node_units.proofs.Working.{all_later, changes_apart, changes_later}
use Rattle.node_units.proofs.units.NodeUnitsRecoveryUnits.change.Goals as goal
use Rattle.node_units.proofs.units.NodeUnitsRecoveryUnits.change.Goals.{After-stand_in_order-2}

pub unreachable-requires : goal.unreachable-requires
unreachable-requires g c =
    let x = serial_of c.args.serial.now in
    is_found c.self.inside.begun.items c.self.inside.units c.self.inside.log x c.place_of.result c.self.invariant.0 (c.place_of.ensures ∙ ap (position (is_of x)) c.deref.ensures.value) (ap (is_begun x) c.self.view_is ∙ c.requires.unit) c.in_default.is

pub change_held-done-requires-clause-unit : goal.change_held-done-requires-clause-unit
change_held-done-requires-clause-unit g c =
    let x = serial_of c.args.serial.now in
    let own = own_unit c.self.inside.begun.items c.self.inside.units c.self.invariant.0 c.stand_in_order.ensures x c.in-Some.place c.index_mut-begun.result.now
    (sym (ap (position (is_of x)) c.deref.ensures.value) ∙ sym c.place_of.ensures ∙ c.in-Some.is) c.index_mut-begun.ensures.value in
    subst IsSome (sym own.there) refl

pub change_held-done-requires-clause-active : goal.change_held-done-requires-clause-active
change_held-done-requires-clause-active g c =
    let x = serial_of c.args.serial.now in
    let b = c.index_mut-begun.result.now in
    let own = own_unit c.self.inside.begun.items c.self.inside.units c.self.invariant.0 c.stand_in_order.ensures x c.in-Some.place b
    (sym (ap (position (is_of x)) c.deref.ensures.value) ∙ sym c.place_of.ensures ∙ c.in-Some.is) c.index_mut-begun.ensures.value in
    let active : own.unit.prepared ≡ false = of_some (λ (u : OpenUnit). u.prepared ≡ false) (calls_state.unit_of x (begun c.self.inside.units.units)) own.unit own.found
    (subst (λ (z : UnitsState). IfSome (calls_state.unit_of x z.begun) (λ u. u.prepared ≡ false)) (sym c.self.view_is) c.requires.active) in
    active_of b.token own.held (sym own.prepared ∙ active)

pub change_held-done-requires-clause-order : goal.change_held-done-requires-clause-order
change_held-done-requires-clause-order g c = order_unseen c.self.inside.units c.self.inside.log c.args.volume.now c.stand_in_order.ensures (subst (λ (x : UnitsState). calls_state.IsInOrder x c.args.volume.now) (sym c.self.view_is) c.requires.order)

pub change_held-done-requires-clause-early : goal.change_held-done-requires-clause-early
change_held-done-requires-clause-early g c = early_unseen c.args.volume.now c.requires.early

-- What the change answered, of the unit of the branch.
module _ (g : _) (c : After-stand_in_order-2 g) where
  abbrev s : rms.UnitsState
  s = c.self.inside.units

  abbrev t : rms.UnitsState
  t = c.change_held-done.new.units

  abbrev x : Id
  x = serial_of c.args.serial.now

  own : HasUnit x c.index_mut-begun.result.now s
  own =
      own_unit c.self.inside.begun.items s c.self.invariant.0 c.stand_in_order.ensures x c.in-Some.place c.index_mut-begun.result.now
      (sym (ap (position (is_of x)) c.deref.ensures.value) ∙ sym c.place_of.ensures ∙ c.in-Some.is) c.index_mut-begun.ensures.value

  order : rms.IsInOrder s c.args.volume.now
  order = order_unseen s c.self.inside.log c.args.volume.now c.stand_in_order.ensures (subst (λ (z : UnitsState). calls_state.IsInOrder z c.args.volume.now) (sym c.self.view_is) c.requires.order)

  -- the place is one of the tokens
  place_below : c.in-Some.place < length c.self.inside.begun.items
  place_below = (position-Some (is_of x) c.self.inside.begun.items c.in-Some.place c.index_mut-begun.result.now (sym (ap (position (is_of x)) c.deref.ensures.value) ∙ sym c.place_of.ensures ∙ c.in-Some.is)).0

  -- the tokens stand for the units then
  stand : TokensRepresent c.self.inside.begun.items t
  stand =
      both_with _ _ (TokensRepresent c.self.inside.begun.items t) c.change_held-done.result
      (λ position d. stand_changes c.self.inside.begun.items s t (place_in c.index_mut-begun.result.now.token) own.unit c.requires.file.0 c.args.op.now c.args.bytes.now position c.args.volume.now c.change_held-done.new.volume c.self.invariant.0 c.stand_in_order.ensures own.there
      (d own.unit c.requires.file.0 own.there c.requires.file.1))
      (λ e k. subst (TokensRepresent c.self.inside.begun.items) (sym (k own.unit c.requires.file.0 own.there c.requires.file.1).0) c.self.invariant.0) c.change_held-done.ensures.done c.change_held-done.ensures.err

pub invariant_of-self : goal.invariant_of-self
invariant_of-self g c =
    let ts = c.self.inside.begun.items in
    let b = c.index_mut-begun.result.now in
    let y : BegunUnit = record { tid = b.tid; serial = b.serial; token = c.change_held-done.new.token } in
    let same : y ≡ get_or ts c.in-Some.place b = (λ i. record { tid = b.tid; serial = b.serial; token = c.change_held-done.ensures.token i }) ∙ c.index_mut-begun.ensures.value in
    (stand_set ts (t g c) c.in-Some.place y b same (place_below g c) (stand g c), c.self.invariant.1)

-- the journal begins in the same block
same_start : (g : _) (c : After-stand_in_order-2 g) → OnOk c.change_held-done.result (c.change_held-done.new.volume.catalog.ru.start ≡ c.args.volume.now.catalog.ru.start)
same_start g c = ok_of _ _ c.change_held-done.result
    (λ told d. start_kept (place_in c.index_mut-begun.result.now.token) (own g c).unit c.requires.file.0 c.args.op.now c.args.bytes.now told (s g c) c.args.volume.now (t g c) c.change_held-done.new.volume (d (own g c).unit c.requires.file.0 (own g c).there c.requires.file.1))
    c.change_held-done.ensures.done

pub returns-clause-order : goal.returns-clause-order
returns-clause-order g c =
    ok_and _ _ _ c.change_held-done.result (λ start order. order_seen (t g c) c.self.inside.log c.change_held-done.new.volume c.stand_in_order-2.ensures
    (subst (λ (k : ℕ). 584 + length c.self.inside.log ≤ k) (sym start) (subst (λ (z : UnitsState). 584 + length z.log ≤ c.args.volume.now.catalog.ru.start) (sym c.self.view_is) c.requires.order.slots)) order)
    (same_start g c) c.change_held-done.ensures.order

pub returns-clause-serials : goal.returns-clause-serials
returns-clause-serials g c = same_seen c.self.inside.begun.items (s g c) (t g c) c.self.inside.log c.self.inside.log c.self.invariant.0 (stand g c) ∙ ap calls_state.serials_in c.self.view_is

pub returns-clause-works : goal.returns-clause-works
returns-clause-works g c =
    subst (λ (z : UnitsState). WorksFor (x g c) z (seen (t g c) c.self.inside.log)) c.self.view_is (record {
      units = both_with _ _ (AreLater (x g c) (begun (s g c).units) (begun (t g c).units)) c.change_held-done.result
          (λ position d. changes_later (x g c) (place_in c.index_mut-begun.result.now.token) (own g c).unit c.requires.file.0 c.args.op.now c.args.bytes.now position (s g c) c.args.volume.now (t g c) c.change_held-done.new.volume (own g c).there (own g c).serial
          (d (own g c).unit c.requires.file.0 (own g c).there c.requires.file.1))
          (λ e k. subst (λ (z : rms.UnitsState). AreLater (x g c) (begun (s g c).units) (begun z.units)) (sym (k (own g c).unit c.requires.file.0 (own g c).there c.requires.file.1).0) (all_later (x g c) (begun (s g c).units))) c.change_held-done.ensures.done c.change_held-done.ensures.err;
      locks = λ other apart. both_with _ _ (locks_of other (t g c).locks ≡ locks_of other (s g c).locks) c.change_held-done.result
          (λ position d. changes_apart (x g c) (place_in c.index_mut-begun.result.now.token) (own g c).unit c.requires.file.0 c.args.op.now c.args.bytes.now position (s g c) c.args.volume.now (t g c) c.change_held-done.new.volume (own g c).serial
          (d (own g c).unit c.requires.file.0 (own g c).there c.requires.file.1) other apart)
          (λ e k. ap (λ (z : rms.UnitsState). locks_of other z.locks) (k (own g c).unit c.requires.file.0 (own g c).there c.requires.file.1).0) c.change_held-done.ensures.done c.change_held-done.ensures.err;
      log = refl;
    })

pub returns-clause-same : goal.returns-clause-same
returns-clause-same g c =
    let v = c.args.volume.now in
    let w = c.change_held-done.new.volume in
    let h = c.requires.file.0 in
    let u = (own g c).unit in
    let o = c.args.op.now in
    let value = written o c.args.bytes.now in
    err_as _ _ c.change_held-done.result
    (λ e k none. let r = k u h (own g c).there c.requires.file.1 in (
      ap (λ (z : rms.UnitsState). seen z c.self.inside.log) r.0 ∙ c.self.view_is,
      refused_same e (λ cause. ChangeRefused u h o value cause (s g c) v) (SameVolume v w) (λ down. ChangeBroke u h o value (s g c) v w) none r.1,
    )) c.change_held-done.ensures.err

pub returns-clause-done : goal.returns-clause-done
returns-clause-done g c =
    let v = c.args.volume.now in
    let w = c.change_held-done.new.volume in
    let o = c.args.op.now in
    let bytes = c.args.bytes.now in
    let r = own g c in
    let early : rms.IsEarly v = early_unseen _ c.requires.early in
    ok_with _ _ c.change_held-done.result
    (λ told d. subst (λ (z : UnitsState). calls.ChangesOk (x g c) o bytes told z v (seen (t g c) c.self.inside.log) w) c.self.view_is
    (subst (λ (y : Id). calls.ChangesOk y o bytes told (seen (s g c) c.self.inside.log) v (seen (t g c) c.self.inside.log) w) r.serial
    (change_ok (place_in c.index_mut-begun.result.now.token) r.unit bytes (s g c) v (t g c) w (order g c) c.stand_in_order.ensures r.there early c.self.inside.log o c.requires.number told c.change_held-done.ensures.goes.size (λ h there. d r.unit h r.there there)))) c.change_held-done.ensures.done

pub returns-clause-err : goal.returns-clause-err
returns-clause-err g c =
    let v = c.args.volume.now in
    let w = c.change_held-done.new.volume in
    let o = c.args.op.now in
    let bytes = c.args.bytes.now in
    let r = own g c in
    let early : rms.IsEarly v = early_unseen _ c.requires.early in
    err_as _ _ c.change_held-done.result
    (λ e k. subst (λ (z : UnitsState). calls.ChangesErr (x g c) o bytes e z v w) c.self.view_is
    (subst (λ (y : Id). calls.ChangesErr y o bytes e (seen (s g c) c.self.inside.log) v w) r.serial
    (change_err (place_in c.index_mut-begun.result.now.token) r.unit bytes (s g c) v (t g c) w (order g c) c.stand_in_order.ensures r.there early c.self.inside.log o c.requires.number e (λ h there. k r.unit h r.there there)))) c.change_held-done.ensures.err
