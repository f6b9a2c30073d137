-- The record of a branch that is committed is written again, as the world writes it.
use Rattle.std.proofs.Common.{◌∙◌, length, Some, ap, sym, subst}
use Rattle.commit_protocol.specs.Effects.{KeepEffect}
use Rattle.commit_protocol.specs.Messages.{LogRecord}
use Rattle.log_laws.specs.Slots.{Slots}
use Rattle.lmcp_log.specs.tm_types.Parts.{log_record_of}
use Rattle.rms_units.proofs.unit_journal.Falling.{counts_go}
use Rattle.volume.specs.State.{VolumeState}
use Rattle.recovery_units.specs.Calls as calls
use Rattle.recovery_units.specs.State as calls_state
use Rattle.recovery_units.specs.State.{UnitsState}
use Rattle.node_units.specs.Seen.{seen}
use Rattle.node_units.proofs.Answering.{fail_as, images_kept, ok_always, ok_and, ok_as}
use Rattle.node_units.proofs.Committing.{HasLogged}
use Rattle.node_units.proofs.RecordOrder.{long_settled, order_recorded}
use Rattle.node_units.proofs.Recording.{records, records_not}
use Rattle.node_units.proofs.Seeing.{order_unseen}
use Rattle.node_units.proofs.units.NodeUnitsRecoveryUnits.keep_record.Goals as goal
use Rattle.node_units.proofs.units.NodeUnitsRecoveryUnits.keep_record.Goals.{After-write_record}

module _ (g : _) (c : After-write_record g) where
  abbrev r : LogRecord
  r = log_record_of c.args.logged.now

  abbrev v : VolumeState
  v = c.args.volume.now

  is : HasLogged c.self.inside.units c.self.inside.log v (Some r)
  is =
      let order = subst (λ (z : UnitsState). calls_state.IsInOrder z v) (sym c.self.view_is) c.requires.order in
      record { order = order_unseen c.self.inside.units c.self.inside.log v c.stand_in_order.ensures order; before = order.slots; parts = (c.have_parts.ensures, c.requires.form) }

pub returns-clause-order : goal.returns-clause-order
returns-clause-order g c =
    let s = c.self.inside.units in
    let w = c.write_record.new.volume in
    let order = subst (λ (z : UnitsState). calls_state.IsInOrder z (v g c)) (sym c.self.view_is) c.requires.order in
    let long = ap (λ (ss : Slots). length ss) c.write_record.ensures.slots ∙ long_settled (r g c).serial (Some (r g c)) c.self.inside.log in
    let size = (counts_go c.write_record.result (v g c).store.disk w.store.disk c.write_record.ensures.counts).size in
    ok_and _ _ _ c.write_record.result (λ idle holds. order_recorded s c.self.inside.log c.write_record.new.log (v g c) w order c.write_record.ensures.catalog c.write_record.ensures.pool size long idle holds) c.write_record.ensures.idle c.write_record.ensures.holds

pub returns-clause-images : goal.returns-clause-images
returns-clause-images g c = ok_always _ c.write_record.result (images_kept (v g c) c.write_record.new.volume c.write_record.ensures.catalog)

pub returns-clause-done : goal.returns-clause-done
returns-clause-done g c =
    let s = c.self.inside.units in
    let w = c.write_record.new.volume in
    ok_as _ _ c.write_record.result
    (λ sets. subst (λ (z : UnitsState). calls.KeepsRecord (r g c) z (v g c) (seen s c.write_record.new.log) w) c.self.view_is
    (records s c.self.inside.log (v g c) w (r g c).serial (Some (r g c)) (KeepEffect (r g c)) tt (is g c) c.write_record.new.log c.write_record.ensures.slots sets (counts_go c.write_record.result (v g c).store.disk w.store.disk c.write_record.ensures.counts).size))
    c.write_record.ensures.sets

pub returns-clause-err : goal.returns-clause-err
returns-clause-err g c =
    let s = c.self.inside.units in
    let w = c.write_record.new.volume in
    fail_as _ _ c.write_record.result
    (λ breaks. subst (λ (z : UnitsState). calls.KeepsRecordNot (r g c) z (v g c) w) c.self.view_is
    (records_not s c.self.inside.log (v g c) w (r g c).serial (Some (r g c)) (KeepEffect (r g c)) tt (is g c) c.write_record.new.log c.write_record.ensures.slots breaks)) c.write_record.ensures.breaks
