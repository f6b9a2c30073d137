-- The record of a branch that is committed goes, as it does in the world.
use Rattle.std.proofs.Common.{◌∙◌, length, None, Result, ap, sym, subst}
use Rattle.std.specs.Prelude.{OnErr, OnOk}
use Rattle.careful_write.specs.declared.down.Down.{Down}
use Rattle.commit_protocol.specs.Effects.{ForgetEffect}
use Rattle.log_laws.specs.Slots.{Slots}
use Rattle.rms_units.proofs.unit_journal.Falling.{counts_go}
use Rattle.vms_base.specs.Ids.{serial_of}
use Rattle.vms_base.specs.declared.ids.Tid.{Tid}
use Rattle.recovery_units.specs.Calls as calls
use Rattle.recovery_units.specs.State as calls_state
use Rattle.recovery_units.specs.State.{UnitsState}
use Rattle.recovery_units.specs.Uses.{ImagesGrow}
use Rattle.node_units.specs.Seen.{seen}
use Rattle.node_units.proofs.Answering.{images_kept}
use Rattle.node_units.proofs.Committing.{HasLogged}
use Rattle.node_units.proofs.RecordOrder.{long_settled, order_recorded}
use Rattle.node_units.proofs.Recording.{records, records_not}
use Rattle.node_units.proofs.Seeing.{order_unseen}
use Rattle.node_units.proofs.units.NodeUnitsRecoveryUnits.forget_record.Goals as goal
use Rattle.node_units.proofs.units.NodeUnitsRecoveryUnits.forget_record.Goals.{in-Err, in-Ok}

pub returns-clause-order : goal.returns-clause-order
returns-clause-order g c =
    let s = c.self.inside.units in
    let log = c.self.inside.log in
    let new = c.write_record.new.log in
    let v = c.args.volume.now in
    let made = c.write_record.new.volume in
    let order = subst (λ (z : UnitsState). calls_state.IsInOrder z v) (sym c.self.view_is) c.requires.order in
    let long = ap (λ (ss : Slots). length ss) c.write_record.ensures.slots ∙ long_settled (serial_of c.args.serial.now) None log in
    let size = (counts_go c.write_record.result v.store.disk made.store.disk c.write_record.ensures.counts).size in
    let P : Result Tid Down → Type 0 = λ r. OnOk r (calls_state.IsInOrder (seen s new) made) in
    elim c.match-write_record.branch [
      | in-Err w ↦ subst P (sym w.result-is) tt
      | in-Ok w ↦ subst P (sym w.result-is) (order_recorded s log new v made order c.write_record.ensures.catalog c.write_record.ensures.pool size long w.in-Ok.ensures.idle w.in-Ok.ensures.holds)
    ]

pub returns-clause-images : goal.returns-clause-images
returns-clause-images g c =
    let v = c.args.volume.now in
    let made = c.write_record.new.volume in
    let P : Result Tid Down → Type 0 = λ r. OnOk r (ImagesGrow v made) in
    elim c.match-write_record.branch [
      | in-Err w ↦ subst P (sym w.result-is) tt
      | in-Ok w ↦ subst P (sym w.result-is) (images_kept v made c.write_record.ensures.catalog)
    ]

pub returns-clause-done : goal.returns-clause-done
returns-clause-done g c =
    let s = c.self.inside.units in
    let log = c.self.inside.log in
    let v = c.args.volume.now in
    let made = c.write_record.new.volume in
    let x = serial_of c.args.serial.now in
    let order = subst (λ (z : UnitsState). calls_state.IsInOrder z v) (sym c.self.view_is) c.requires.order in
    let is : HasLogged s log v None = record { order = order_unseen s log v c.stand_in_order.ensures order; before = order.slots; parts = tt } in
    let P : Result Tid Down → Type 0 = λ r. OnOk r (calls.ForgetsRecord x c.args.self.now v (seen s c.write_record.new.log) made) in
    elim c.match-write_record.branch [
      | in-Err w ↦ subst P (sym w.result-is) tt
      | in-Ok w ↦ subst P (sym w.result-is) (subst (λ (z : UnitsState). calls.ForgetsRecord x z v (seen s c.write_record.new.log) made) c.self.view_is
          (records s log v made x None (ForgetEffect x) tt is c.write_record.new.log c.write_record.ensures.slots w.in-Ok.ensures.sets (counts_go c.write_record.result v.store.disk made.store.disk c.write_record.ensures.counts).size))
    ]

pub returns-clause-err : goal.returns-clause-err
returns-clause-err g c =
    let s = c.self.inside.units in
    let log = c.self.inside.log in
    let v = c.args.volume.now in
    let made = c.write_record.new.volume in
    let x = serial_of c.args.serial.now in
    let order = subst (λ (z : UnitsState). calls_state.IsInOrder z v) (sym c.self.view_is) c.requires.order in
    let is : HasLogged s log v None = record { order = order_unseen s log v c.stand_in_order.ensures order; before = order.slots; parts = tt } in
    let P : Result Tid Down → Type 0 = λ r. OnErr r (calls.ForgetsRecordNot x c.args.self.now v made) in
    elim c.match-write_record.branch [
      | in-Err w ↦ subst P (sym w.result-is) (subst (λ (z : UnitsState). calls.ForgetsRecordNot x z v made) c.self.view_is
          (records_not s log v made x None (ForgetEffect x) tt is c.write_record.new.log c.write_record.ensures.slots w.in-Err.ensures.breaks))
      | in-Ok w ↦ subst P (sym w.result-is) tt
    ]
