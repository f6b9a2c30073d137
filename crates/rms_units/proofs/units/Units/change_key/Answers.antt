-- A unit changes a key.
use Rattle.std.proofs.Common.{◌≡◌, ℕ, List, Option, Some, None, true, IfSome, IsSome, ap, sym, subst, ◌∙◌}
use Rattle.record_locks.specs.Locks.{LockTable}
use Rattle.unit_table.specs.Units.{OpenUnit, has_changed, with_position, with_unit}
use Rattle.vms_base.specs.Ids.{serial_of, tid_of}
use Rattle.vms_base.specs.Keys.{key_of}
use Rattle.vms_model.specs.Ids.{Id}
use Rattle.rms_units.specs.Calls.{ChangesKey, KeyBroke, KeyRefused, MakesKey}
use Rattle.key_changes.specs.Changing.{keys_asked, locks_refuse}
use Rattle.rms_units.specs.State.{UnitsState, unit_of}
use Rattle.rms_units.proofs.ChangedLemmas.{broken, changed, refused_breaks, refused_caused, refused_goes, refused_grows, refused_pool}
use Rattle.rms_units.proofs.ImageSound.{ordered_spans, settlements_at}
use Rattle.rms_units.proofs.OrderLemmas.{placed_in}
use Rattle.key_changes.proofs.unit_cuts.Outcomes.{of_some, the_one}
use Rattle.rms_units.proofs.EndLemmas.{ends_keyed}
use Rattle.rms_units.proofs.ReadLemmas.{order_held}
use Rattle.rms_units.proofs.units.Units.change_key.Goals as goal

pub refuse_key-requires-clause-placed : goal.refuse_key-requires-clause-placed
refuse_key-requires-clause-placed g c = placed_in c.args.self.now c.args.volume.now c.args.asked.now.file c.args.asked.now.head c.requires.order c.requires.head

pub refuse_key-requires-clause-images : goal.refuse_key-requires-clause-images
refuse_key-requires-clause-images g c = settlements_at c.args.self.now (record { units = c.self.inside.table; locks = c.self.inside.locks.locks }) c.args.volume.now c.args.asked.now.file c.args.asked.now.head c.self.view_is c.requires.order c.requires.head

pub refuse_key-requires-clause-ordered : goal.refuse_key-requires-clause-ordered
refuse_key-requires-clause-ordered g c = ordered_spans c.args.self.now c.args.volume.now c.args.asked.now.file c.args.asked.now.head c.requires.order c.requires.head

pub returns-in-Err-clause-err : goal.returns-in-Err-clause-err
returns-in-Err-clause-err g c = λ u there.
    let v = c.args.volume.now in
    let a = c.args.asked.now in
    let s : UnitsState = record { units = c.self.inside.table; locks = c.self.inside.locks.locks } in
    let e = c.in-Err.e in
    let w = c.refuse_key.new.volume in
    let o = unit_of c.args.place s in
    let at : o ≡ Some u = ap (unit_of c.args.place) c.self.view_is ∙ there in
    let b = c.branch-branch.result in
    let is = of_some (λ (x : OpenUnit). (tid_of b.tid ≡ x.tid) × (serial_of b.serial ≡ x.serial)) o u at (subst (λ (x : UnitsState). IfSome (unit_of c.args.place x) (λ (y : OpenUnit). (tid_of b.tid ≡ y.tid) × (serial_of b.serial ≡ y.serial))) (sym c.self.view_is) c.branch-branch.ensures) in (
      c.self.view_is,
      refused_breaks e (λ cause. KeyRefused u a.file a.head a.change (key_of a.key) c.args.value.now cause s v) (locks_refuse (Some (serial_of b.serial)) a.file (keys_asked a.head a.change (key_of a.key)) s.locks ≡ None) v w (c.in-Err.ensures.err u at)
          (λ cause. KeyRefused u a.file a.head a.change (key_of a.key) c.args.value.now cause c.args.self.now v) (MakesKey u a.file a.head a.change (key_of a.key) c.args.value.now c.args.self.now v)
          (KeyBroke u a.file a.head a.change (key_of a.key) c.args.value.now c.args.self.now v w) c.one_content.ensures c.requires.order.idle.ready
          (λ cause x. subst (λ (y : UnitsState). KeyRefused u a.file a.head a.change (key_of a.key) c.args.value.now cause y v) c.self.view_is x)
          (λ early breaks. record {
            early = subst (λ (y : UnitsState). locks_refuse (Some u.serial) a.file (keys_asked a.head a.change (key_of a.key)) y.locks ≡ None) c.self.view_is
                (subst (λ (x : Id). locks_refuse (Some x) a.file (keys_asked a.head a.change (key_of a.key)) s.locks ≡ None) is.1 early);
            breaks = breaks;
          }),
    )

pub returns-in-Err-clause-grows : goal.returns-in-Err-clause-grows
returns-in-Err-clause-grows g c =
    let v = c.args.volume.now in
    let a = c.args.asked.now in
    let s : UnitsState = record { units = c.self.inside.table; locks = c.self.inside.locks.locks } in
    let e = c.in-Err.e in
    let w = c.refuse_key.new.volume in
    let one = the_one (unit_of c.args.place s) (subst (λ (y : UnitsState). IsSome (unit_of c.args.place y)) (sym c.self.view_is) c.requires.unit) in
    let u = one.0 in
    refused_grows e (λ cause. KeyRefused u a.file a.head a.change (key_of a.key) c.args.value.now cause s v) (locks_refuse (Some (serial_of c.branch-branch.result.serial)) a.file (keys_asked a.head a.change (key_of a.key)) s.locks ≡ None) v w (c.in-Err.ensures.err u one.1) 0 0

pub returns-in-Err-clause-goes : goal.returns-in-Err-clause-goes
returns-in-Err-clause-goes g c =
    let v = c.args.volume.now in
    let a = c.args.asked.now in
    let s : UnitsState = record { units = c.self.inside.table; locks = c.self.inside.locks.locks } in
    let e = c.in-Err.e in
    let w = c.refuse_key.new.volume in
    let one = the_one (unit_of c.args.place s) (subst (λ (y : UnitsState). IsSome (unit_of c.args.place y)) (sym c.self.view_is) c.requires.unit) in
    let u = one.0 in
    refused_goes e (λ cause. KeyRefused u a.file a.head a.change (key_of a.key) c.args.value.now cause s v) (locks_refuse (Some (serial_of c.branch-branch.result.serial)) a.file (keys_asked a.head a.change (key_of a.key)) s.locks ≡ None) v w (c.in-Err.ensures.err u one.1)

pub returns-in-Err-clause-cause : goal.returns-in-Err-clause-cause
returns-in-Err-clause-cause g c =
    let v = c.args.volume.now in
    let a = c.args.asked.now in
    let s : UnitsState = record { units = c.self.inside.table; locks = c.self.inside.locks.locks } in
    let e = c.in-Err.e in
    let w = c.refuse_key.new.volume in
    let one = the_one (unit_of c.args.place s) (subst (λ (y : UnitsState). IsSome (unit_of c.args.place y)) (sym c.self.view_is) c.requires.unit) in
    let u = one.0 in
    refused_caused e (λ cause. KeyRefused u a.file a.head a.change (key_of a.key) c.args.value.now cause s v) (locks_refuse (Some (serial_of c.branch-branch.result.serial)) a.file (keys_asked a.head a.change (key_of a.key)) s.locks ≡ None) v w (c.in-Err.ensures.err u one.1)

pub returns-in-Err-clause-pool : goal.returns-in-Err-clause-pool
returns-in-Err-clause-pool g c =
    let v = c.args.volume.now in
    let a = c.args.asked.now in
    let s : UnitsState = record { units = c.self.inside.table; locks = c.self.inside.locks.locks } in
    let e = c.in-Err.e in
    let w = c.refuse_key.new.volume in
    let one = the_one (unit_of c.args.place s) (subst (λ (y : UnitsState). IsSome (unit_of c.args.place y)) (sym c.self.view_is) c.requires.unit) in
    let u = one.0 in
    refused_pool e (λ cause. KeyRefused u a.file a.head a.change (key_of a.key) c.args.value.now cause s v) (locks_refuse (Some (serial_of c.branch-branch.result.serial)) a.file (keys_asked a.head a.change (key_of a.key)) s.locks ≡ None) v w (c.in-Err.ensures.err u one.1)

pub returns-in-Err-make_key-clause-err : goal.returns-in-Err-make_key-clause-err
returns-in-Err-make_key-clause-err g c = λ u there.
    let v = c.args.volume.now in
    let a = c.args.asked.now in
    let s : UnitsState = record { units = c.self.inside.table; locks = c.self.inside.locks.locks } in
    let o = unit_of c.args.place s in
    let at : o ≡ Some u = ap (unit_of c.args.place) c.self.view_is ∙ there in
    let b = c.branch-branch.result in
    let is = of_some (λ (x : OpenUnit). (tid_of b.tid ≡ x.tid) × (serial_of b.serial ≡ x.serial)) o u at (subst (λ (x : UnitsState). IfSome (unit_of c.args.place x) (λ (y : OpenUnit). (tid_of b.tid ≡ y.tid) × (serial_of b.serial ≡ y.serial))) (sym c.self.view_is) c.branch-branch.ensures) in
    let spared = c.in-Err-make_key.ensures.spared in (
      (λ i. record { units = spared.0 i; locks = (spared.1 i).locks }) ∙ c.self.view_is,
      subst (λ (y : UnitsState). KeyBroke u a.file a.head a.change (key_of a.key) c.args.value.now y v c.make_key.new.volume) c.self.view_is
          (broken u a.file a.head a.change (key_of a.key) c.args.value.now c.set.new.self c.refuse_key.new.found s v c.refuse_key.new.volume c.make_key.new.volume c.set.ensures c.in-Ok.ensures.same c.in-Ok.ensures.had
          (serial_of b.serial) is.1 c.in-Ok.ensures.early (λ k told form laid. c.in-Ok.ensures.late u k at told form laid) (c.in-Err-make_key.ensures.breaks u at)),
    )

pub returns-clause-done : goal.returns-clause-done
returns-clause-done g c = λ u there.
    let v = c.args.volume.now in
    let a = c.args.asked.now in
    let s : UnitsState = record { units = c.self.inside.table; locks = c.self.inside.locks.locks } in
    let o = unit_of c.args.place s in
    let at : o ≡ Some u = ap (unit_of c.args.place) c.self.view_is ∙ there in
    let b = c.branch-branch.result in
    let is = of_some (λ (x : OpenUnit). (tid_of b.tid ≡ x.tid) × (serial_of b.serial ≡ x.serial)) o u at (subst (λ (x : UnitsState). IfSome (unit_of c.args.place x) (λ (y : OpenUnit). (tid_of b.tid ≡ y.tid) × (serial_of b.serial ≡ y.serial))) (sym c.self.view_is) c.branch-branch.ensures) in
    let x = c.refuse_key.new.volume in
    let w = c.make_key.new.volume in
    let t : UnitsState = record { units = c.make_key.new.table; locks = c.make_key.new.locks.locks } in
    let units = of_some (λ (y : OpenUnit). t.units ≡ with_unit c.args.place (with_position x.catalog.ru.end a.file y) s.units) o u at c.in-Ok-make_key.ensures.units in
    let noted = of_some (λ (y : OpenUnit). has_changed (with_position x.catalog.ru.end a.file y) a.file ≡ true) o u at c.in-Ok-make_key.ensures.changed in
    subst (λ (y : UnitsState). ChangesKey c.args.place u a.file a.head a.change (key_of a.key) c.args.value.now y v t w) c.self.view_is
    (changed u a.file a.head a.change (key_of a.key) c.args.value.now c.set.new.self c.refuse_key.new.found s v x w c.set.ensures c.in-Ok.ensures.same c.in-Ok.ensures.had
    c.args.place (serial_of b.serial) t is.1 c.in-Ok.ensures.early (λ k told form laid. c.in-Ok.ensures.late u k at told form laid) (c.in-Ok-make_key.ensures.makes u at) units noted (ap (λ (y : LockTable). y.locks) c.in-Ok-make_key.ensures.locks))

pub returns-clause-images : goal.returns-clause-images
returns-clause-images g c =
    let a = c.args.asked.now in
    let one = the_one (unit_of c.args.place c.args.self.now) c.requires.unit in
    ends_keyed a.file a.head _ (key_of a.key) _ _ _ c.args.volume.now c.make_key.new.volume c.requires.head (returns-clause-done g c one.0 one.1).made.enters

pub make_key-requires-clause-order : goal.make_key-requires-clause-order
make_key-requires-clause-order g c = order_held c.args.self.now c.self.inside.table c.self.inside.locks.locks c.args.volume.now c.refuse_key.new.volume (ap (λ (x : UnitsState). x.units) c.self.view_is) c.in-Ok.ensures.same c.requires.order
