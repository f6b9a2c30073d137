-- A record that is looked at for no branch is one that the world finds.
use Rattle.std.proofs.Common.{◌≡◌, sym, subst}
use Rattle.vms_base.specs.Keys.{key_of}
use Rattle.recovery_units.specs.Calls as calls
use Rattle.recovery_units.specs.State as calls_state
use Rattle.recovery_units.specs.State.{UnitsState}
use Rattle.rms_units.specs.Calls.{LookRefused, MayLook}
use Rattle.rms_units.specs.unit_journal.Leaving.{FellIn}
use Rattle.volume.specs.State.{SameVolume}
use Rattle.node_units.proofs.Answering.{err_as, images_same, ok_as, refused_same}
use Rattle.node_units.proofs.ReadErrors.{looks_err}
use Rattle.node_units.proofs.ReadLemmas.{looks_ok, reads_few}
use Rattle.node_units.proofs.Seeing.{order_unseen}
use Rattle.node_units.proofs.units.NodeUnitsRecoveryUnits.look.Goals as goal

pub look-requires-clause-order : goal.look-requires-clause-order
look-requires-clause-order g c = order_unseen c.self.inside.units c.self.inside.log c.args.volume.now c.stand_in_order.ensures (subst (λ (x : UnitsState). calls_state.IsInOrder x c.args.volume.now) (sym c.self.view_is) c.requires.order)

pub returns-clause-same : goal.returns-clause-same
returns-clause-same g c = ok_as _ _ c.look.result (λ d. (d c.requires.file.0 c.requires.file.1).same) c.look.ensures.done

pub returns-clause-images : goal.returns-clause-images
returns-clause-images g c = ok_as _ _ c.look.result (λ d. images_same c.args.volume.now c.look.new.volume (d c.requires.file.0 c.requires.file.1).same) c.look.ensures.done

pub returns-clause-refused : goal.returns-clause-refused
returns-clause-refused g c =
    let s = c.self.inside.units in
    let v = c.args.volume.now in
    let h = c.requires.file.0 in
    let o = c.args.op.now in
    err_as _ _ c.look.result
    (λ e k none. refused_same e (λ cause. LookRefused h o cause s v) (SameVolume v c.look.new.volume) (λ down. MayLook h o s × FellIn down v c.look.new.volume) none (k h c.requires.file.1)) c.look.ensures.err

pub returns-clause-reads : goal.returns-clause-reads
returns-clause-reads g c = reads_few c.args.op.now c.args.volume.now c.look.new.volume c.look.ensures.reads

pub returns-clause-done : goal.returns-clause-done
returns-clause-done g c =
    let s = c.self.inside.units in
    let v = c.args.volume.now in
    let order = order_unseen s c.self.inside.log v c.stand_in_order.ensures (subst (λ (x : UnitsState). calls_state.IsInOrder x v) (sym c.self.view_is) c.requires.order) in
    ok_as _ _ c.look.result
    (λ d. subst (λ (x : UnitsState). calls.LooksOk c.args.op.now (key_of c.look.new.found) c.look.new.out x v) c.self.view_is
    (looks_ok c.args.op.now (key_of c.look.new.found) c.look.new.out s v c.look.new.volume c.self.inside.log order d)) c.look.ensures.done

pub returns-clause-err : goal.returns-clause-err
returns-clause-err g c =
    let s = c.self.inside.units in
    let v = c.args.volume.now in
    let order = order_unseen s c.self.inside.log v c.stand_in_order.ensures (subst (λ (x : UnitsState). calls_state.IsInOrder x v) (sym c.self.view_is) c.requires.order) in
    err_as _ _ c.look.result
    (λ e k. subst (λ (x : UnitsState). calls.LooksErr c.args.op.now e x v c.look.new.volume) c.self.view_is (looks_err c.args.op.now e s v c.look.new.volume c.self.inside.log order k)) c.look.ensures.err
