-- A read of a branch is one of the world's, and holds its key from then on.
use Rattle.std.proofs.Common.{◌≡◌, ◌∙◌, ◌+◌, ◌<◌, ◌≤◌, [], ◌∷◌, OnOk, IfSome, false, length, get_or, ap, sym, subst, refl}
use Rattle.std.specs.Prelude.{IsSome, map, slice_set}
use Rattle.std.specs.List.{position}
use Rattle.std.proofs.lemmas.List.Quantifiers.{position-Some}
use Rattle.volume.specs.State.{SameVolume, VolumeState}
use Rattle.unit_table.specs.Units.{OpenUnit, Units, begun}
use Rattle.vms_base.specs.Ids.{serial_of}
use Rattle.vms_base.specs.Keys.{key_of}
use Rattle.vms_model.specs.Ids.{Id}
use Rattle.recovery_units.specs.Calls as calls
use Rattle.recovery_units.specs.State as calls_state
use Rattle.recovery_units.specs.State.{AreLater, UnitsState, WorksFor, is_begun, locks_of}
use Rattle.record_operations.specs.Asking.{read_file_in}
use Rattle.rms_units.specs.Calls.{MayRead, ReadRefused}
use Rattle.rms_units.specs.State as rms
use Rattle.rms_units.specs.State.{unit_of}
use Rattle.rms_units.specs.unit_journal.Leaving.{FellIn}
use Rattle.node_units.specs.declared.begun.BegunUnit.{BegunUnit}
use Rattle.node_units.specs.Seen.{seen}
use Rattle.node_units.specs.Tokens.{is_of, place_in}
use Rattle.rms_units.proofs.unit_cuts.Outcomes.{of_some}
use Rattle.node_units.proofs.Answering.{both_as, err_as, ok_and, ok_as, refused_same}
use Rattle.node_units.proofs.ReadErrors.{reads_err}
use Rattle.node_units.proofs.ReadLemmas.{reads_few, reads_ok}
use Rattle.node_units.proofs.Seeing.{order_seen, order_unseen}
use Rattle.node_units.proofs.TokenLemmas.{HasUnit, active_of, is_found, own_unit, stand_as, stand_set}
use Rattle.node_units.proofs.Working.{all_later, holds_apart}
use Rattle.node_units.proofs.units.NodeUnitsRecoveryUnits.read.Goals as goal
use Rattle.node_units.proofs.units.NodeUnitsRecoveryUnits.read.Goals.{After-stand_in_order-2}

pub unreachable-requires : goal.unreachable-requires
unreachable-requires g c =
    let x = serial_of c.args.serial.now in
    is_found c.self.inside.begun.items c.self.inside.units c.self.inside.log x c.place_of.result c.self.invariant.0 (c.place_of.ensures ∙ ap (position (is_of x)) c.deref.ensures.value) (ap (is_begun x) c.self.view_is ∙ c.requires.unit) c.in_default.is

pub read_held-done-requires-clause-unit : goal.read_held-done-requires-clause-unit
read_held-done-requires-clause-unit g c =
    let x = serial_of c.args.serial.now in
    let own = own_unit c.self.inside.begun.items c.self.inside.units c.self.invariant.0 c.stand_in_order.ensures x c.in-Some.place c.index_mut-begun.result.now
    (sym (ap (position (is_of x)) c.deref.ensures.value) ∙ sym c.place_of.ensures ∙ c.in-Some.is) c.index_mut-begun.ensures.value in
    subst IsSome (sym own.there) refl

pub read_held-done-requires-clause-active : goal.read_held-done-requires-clause-active
read_held-done-requires-clause-active g c =
    let x = serial_of c.args.serial.now in
    let b = c.index_mut-begun.result.now in
    let own = own_unit c.self.inside.begun.items c.self.inside.units c.self.invariant.0 c.stand_in_order.ensures x c.in-Some.place b
    (sym (ap (position (is_of x)) c.deref.ensures.value) ∙ sym c.place_of.ensures ∙ c.in-Some.is) c.index_mut-begun.ensures.value in
    let active : own.unit.prepared ≡ false = of_some (λ (u : OpenUnit). u.prepared ≡ false) (calls_state.unit_of x (begun c.self.inside.units.units)) own.unit own.found
    (subst (λ (z : UnitsState). IfSome (calls_state.unit_of x z.begun) (λ u. u.prepared ≡ false)) (sym c.self.view_is) c.requires.active) in
    active_of b.token own.held (sym own.prepared ∙ active)

pub read_held-done-requires-clause-order : goal.read_held-done-requires-clause-order
read_held-done-requires-clause-order g c = order_unseen c.self.inside.units c.self.inside.log c.args.volume.now c.stand_in_order.ensures (subst (λ (x : UnitsState). calls_state.IsInOrder x c.args.volume.now) (sym c.self.view_is) c.requires.order)

-- What the read answered, of the unit of the branch.
module _ (g : _) (c : After-stand_in_order-2 g) where
  abbrev s : rms.UnitsState
  s = c.self.inside.units

  abbrev t : rms.UnitsState
  t = c.read_held-done.new.units

  abbrev x : Id
  x = serial_of c.args.serial.now

  own : HasUnit x c.index_mut-begun.result.now s
  own =
      own_unit c.self.inside.begun.items s c.self.invariant.0 c.stand_in_order.ensures x c.in-Some.place c.index_mut-begun.result.now
      (sym (ap (position (is_of x)) c.deref.ensures.value) ∙ sym c.place_of.ensures ∙ c.in-Some.is) c.index_mut-begun.ensures.value

  order : rms.IsInOrder s c.args.volume.now
  order = order_unseen s c.self.inside.log c.args.volume.now c.stand_in_order.ensures (subst (λ (z : UnitsState). calls_state.IsInOrder z c.args.volume.now) (sym c.self.view_is) c.requires.order)

  -- the place is one of the tokens
  place_below : c.in-Some.place < length c.self.inside.begun.items
  place_below = (position-Some (is_of x) c.self.inside.begun.items c.in-Some.place c.index_mut-begun.result.now (sym (ap (position (is_of x)) c.deref.ensures.value) ∙ sym c.place_of.ensures ∙ c.in-Some.is)).0

  units : t.units ≡ s.units
  units =
      both_as _ _ (t.units ≡ s.units) c.read_held-done.result
      (λ d. ap (λ (z : rms.UnitsState). z.units) (d own.unit c.requires.file.0 own.there c.requires.file.1).held)
      (λ e k. ap (λ (z : rms.UnitsState). z.units) (k own.unit c.requires.file.0 own.there c.requires.file.1).0) c.read_held-done.ensures.done c.read_held-done.ensures.err

pub invariant_of-self : goal.invariant_of-self
invariant_of-self g c =
    let ts = c.self.inside.begun.items in
    let b = c.index_mut-begun.result.now in
    let y : BegunUnit = record { tid = b.tid; serial = b.serial; token = c.read_held-done.new.token } in
    let same : y ≡ get_or ts c.in-Some.place b = (λ i. record { tid = b.tid; serial = b.serial; token = c.read_held-done.ensures.token i }) ∙ c.index_mut-begun.ensures.value in (
      stand_as (slice_set ts c.in-Some.place y) (s g c) (t g c) (units g c) (stand_set ts (s g c) c.in-Some.place y b same (place_below g c) c.self.invariant.0),
      c.self.invariant.1,
    )

-- the volume stays but for reads
same_volume : (g : _) (c : After-stand_in_order-2 g) → OnOk c.read_held-done.result (SameVolume c.args.volume.now c.read_held-done.new.volume)
same_volume g c = ok_as _ _ c.read_held-done.result (λ d. (d (own g c).unit c.requires.file.0 (own g c).there c.requires.file.1).same) c.read_held-done.ensures.done

pub returns-clause-order : goal.returns-clause-order
returns-clause-order g c =
    ok_and _ _ _ c.read_held-done.result (λ same order. order_seen (t g c) c.self.inside.log c.read_held-done.new.volume c.stand_in_order-2.ensures
    (subst (λ (v : VolumeState). 584 + length c.self.inside.log ≤ v.catalog.ru.start) (sym same) (subst (λ (z : UnitsState). 584 + length z.log ≤ c.args.volume.now.catalog.ru.start) (sym c.self.view_is) c.requires.order.slots)) order)
    (same_volume g c) c.read_held-done.ensures.order

pub returns-clause-serials : goal.returns-clause-serials
returns-clause-serials g c = ap (λ (us : Units). map (λ (u : OpenUnit). u.serial) (begun us)) (units g c) ∙ ap calls_state.serials_in c.self.view_is

pub returns-clause-works : goal.returns-clause-works
returns-clause-works g c =
    subst (λ (z : UnitsState). WorksFor (x g c) z (seen (t g c) c.self.inside.log)) c.self.view_is
    (record {
      units = subst (λ (us : Units). AreLater (x g c) (begun (s g c).units) (begun us)) (sym (units g c)) (all_later (x g c) (begun (s g c).units));
      locks = λ other apart. both_as _ _ (locks_of other (t g c).locks ≡ locks_of other (s g c).locks) c.read_held-done.result
          (λ d. holds_apart (x g c) (own g c).unit (read_file_in c.args.op.now) (key_of c.read_held-done.new.found ∷ []) (s g c) (t g c) (own g c).serial (ap (λ (z : rms.UnitsState). z.locks) (d (own g c).unit c.requires.file.0 (own g c).there c.requires.file.1).held) other apart)
          (λ e k. ap (λ (z : rms.UnitsState). locks_of other z.locks) (k (own g c).unit c.requires.file.0 (own g c).there c.requires.file.1).0) c.read_held-done.ensures.done c.read_held-done.ensures.err;
      log = refl;
    })

pub returns-clause-same : goal.returns-clause-same
returns-clause-same g c =
    let v = c.args.volume.now in
    let h = c.requires.file.0 in
    let u = (own g c).unit in
    err_as _ _ c.read_held-done.result
    (λ e k none. let r = k u h (own g c).there c.requires.file.1 in (
      ap (λ (z : rms.UnitsState). seen z c.self.inside.log) r.0 ∙ c.self.view_is,
      refused_same e (λ cause. ReadRefused u h c.args.op.now cause (s g c) v) (SameVolume v c.read_held-done.new.volume) (λ down. MayRead u h c.args.op.now (s g c) × FellIn down v c.read_held-done.new.volume) none r.1,
    )) c.read_held-done.ensures.err

pub returns-clause-reads : goal.returns-clause-reads
returns-clause-reads g c = reads_few c.args.op.now c.args.volume.now c.read_held-done.new.volume c.read_held-done.ensures.reads

pub returns-clause-done : goal.returns-clause-done
returns-clause-done g c =
    let v = c.args.volume.now in
    let w = c.read_held-done.new.volume in
    let o = c.args.op.now in
    let key = key_of c.read_held-done.new.found in
    let bytes = c.read_held-done.new.out in
    let u = (own g c).unit in
    ok_as _ _ c.read_held-done.result
    (λ d. subst (λ (z : UnitsState). calls.ReadsOk (x g c) o key bytes z v (seen (t g c) c.self.inside.log) w) c.self.view_is
    (subst (λ (y : Id). calls.ReadsOk y o key bytes (seen (s g c) c.self.inside.log) v (seen (t g c) c.self.inside.log) w) (own g c).serial
    (reads_ok (place_in c.index_mut-begun.result.now.token) u o key bytes (s g c) v (t g c) w c.self.inside.log (order g c) (λ h there. d u h (own g c).there there)))) c.read_held-done.ensures.done

pub returns-clause-err : goal.returns-clause-err
returns-clause-err g c =
    let v = c.args.volume.now in
    let w = c.read_held-done.new.volume in
    let o = c.args.op.now in
    let u = (own g c).unit in
    err_as _ _ c.read_held-done.result
    (λ e k. subst (λ (z : UnitsState). calls.ReadsErr (x g c) o e z v w) c.self.view_is
    (subst (λ (y : Id). calls.ReadsErr y o e (seen (s g c) c.self.inside.log) v w) (own g c).serial (reads_err u o e (s g c) v w c.self.inside.log (order g c) (λ h there. (k u h (own g c).there there).1)))) c.read_held-done.ensures.err
