-- A change without a branch is one of the world's, and is settled there at once.
use Rattle.std.proofs.Common.{◌≡◌, ◌∙◌, ◌+◌, ◌≤◌, ℕ, length, sym, subst}
use Rattle.unit_table.specs.Places.{AreInOrder}
use Rattle.record_operations.specs.Asking.{written}
use Rattle.vms_base.specs.Ids.{tid_of}
use Rattle.recovery_units.specs.Calls as calls
use Rattle.recovery_units.specs.State as calls_state
use Rattle.recovery_units.specs.State.{UnitsState}
use Rattle.rms_units.specs.Calls.{DirectBroke, DirectRefused}
use Rattle.rms_units.specs.State as rms
use Rattle.volume.specs.State.{SameVolume}
use Rattle.node_units.proofs.Answering.{err_as, ok_and, ok_both, ok_of, refused_same}
use Rattle.node_units.proofs.Directing.{MayDirect, directs_err, directs_ok}
use Rattle.node_units.proofs.DirectMoment.{direct_moment, direct_start}
use Rattle.node_units.proofs.Seeing.{early_unseen, order_seen, order_unseen}
use Rattle.node_units.proofs.units.NodeUnitsRecoveryUnits.direct.Goals as goal
use Rattle.node_units.proofs.units.NodeUnitsRecoveryUnits.direct.Goals.{After-direct}

pub direct-requires-clause-order : goal.direct-requires-clause-order
direct-requires-clause-order g c = order_unseen c.self.inside.units c.self.inside.log c.args.volume.now c.stand_in_order.ensures (subst (λ (z : UnitsState). calls_state.IsInOrder z c.args.volume.now) (sym c.self.view_is) c.requires.order)

pub direct-requires-clause-early : goal.direct-requires-clause-early
direct-requires-clause-early g c = early_unseen c.args.volume.now c.requires.early

pub returns-clause-order : goal.returns-clause-order
returns-clause-order g c =
    let at = subst (λ (z : rms.UnitsState). AreInOrder z.units.places z.units.order) (sym c.direct.ensures.same) c.stand_in_order.ensures in
    let before = subst (λ (z : UnitsState). 584 + length z.log ≤ c.args.volume.now.catalog.ru.start) (sym c.self.view_is) c.requires.order.slots in
    let start = ok_of _ _ c.direct.result (λ told d. direct_start c.args.tid c.args.clock.0 c.requires.file.0 c.args.op.now c.args.bytes.now told.0 c.self.inside.units c.args.volume.now c.direct.new.volume (d c.requires.file.0 c.requires.file.1)) c.direct.ensures.done in
    ok_and _ _ _ c.direct.result (λ start order. order_seen c.direct.new.self c.self.inside.log c.direct.new.volume at (subst (λ (k : ℕ). 584 + length c.self.inside.log ≤ k) (sym start) before) order) start c.direct.ensures.order

pub returns-clause-same : goal.returns-clause-same
returns-clause-same g c =
    let s = c.self.inside.units in
    let v = c.args.volume.now in
    let w = c.direct.new.volume in
    let h = c.requires.file.0 in
    let o = c.args.op.now in
    let value = written o c.args.bytes.now in
    err_as _ _ c.direct.result
    (λ e k none. refused_same e (λ cause. DirectRefused h o value cause s v) (SameVolume v w) (λ down. DirectBroke c.args.tid c.args.clock.0 h o value s v w) none (k h c.requires.file.1)) c.direct.ensures.err

pub returns-clause-moment : goal.returns-clause-moment
returns-clause-moment g c =
    let h = c.requires.file.0 in
    ok_both _ _ _ c.direct.result
    (λ told at d. at ∙ sym (direct_moment c.args.tid c.args.clock.0 h c.args.op.now c.args.bytes.now told.0 c.self.inside.units c.args.volume.now c.direct.new.volume (d h c.requires.file.1))) c.direct.ensures.moment c.direct.ensures.done

module _ (g : _) (c : After-direct g) where
  may : MayDirect c.args.tid c.args.clock.0 c.args.op.now c.self.inside.units c.args.volume.now
  may = record {
    order = order_unseen c.self.inside.units c.self.inside.log c.args.volume.now c.stand_in_order.ensures (subst (λ (z : UnitsState). calls_state.IsInOrder z c.args.volume.now) (sym c.self.view_is) c.requires.order);
    places = c.stand_in_order.ensures;
    early = early_unseen _ c.requires.early;
    clock_early = c.requires.clock;
    number = c.requires.number;
    is_id = c.have_ids.ensures.tid;
  }

pub returns-clause-done : goal.returns-clause-done
returns-clause-done g c =
    let s = c.self.inside.units in
    let v = c.args.volume.now in
    let w = c.direct.new.volume in
    let tid = tid_of c.args.tid in
    let o = c.args.op.now in
    ok_both _ _ _ c.direct.result
    (λ told at d. subst (λ (z : UnitsState). calls.DirectsOk tid c.args.clock.0 o c.args.bytes.now told.0 told.1.0 z v w) c.self.view_is
    (directs_ok c.args.tid c.args.clock.0 o c.args.bytes.now told.0 told.1.0 s c.self.inside.log v w (may g c) c.direct.ensures.goes.size at d)) c.direct.ensures.moment c.direct.ensures.done

pub returns-clause-err : goal.returns-clause-err
returns-clause-err g c =
    let s = c.self.inside.units in
    let v = c.args.volume.now in
    let w = c.direct.new.volume in
    let tid = tid_of c.args.tid in
    let o = c.args.op.now in
    err_as _ _ c.direct.result
    (λ e k. subst (λ (z : UnitsState). calls.DirectsErr tid c.args.clock.0 o c.args.bytes.now e z v w) c.self.view_is
    (directs_err c.args.tid c.args.clock.0 o c.args.bytes.now e s c.self.inside.log v w (may g c) k)) c.direct.ensures.err
