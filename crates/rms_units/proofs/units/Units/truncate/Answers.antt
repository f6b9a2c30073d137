-- A file is truncated for a unit: refused, or gone down while that was looked at or under way.
use Rattle.std.proofs.Common.{◌≡◌, Some, None, IfErr, refl, sym, ap, subst, ◌∙◌, inl, ◌≤◌, ◌+◌, ◌^◌, OnOk, ℕ, List, length, IfSome}
use Rattle.careful_write.specs.State.{content}
use Rattle.unit_journal.specs.Groups.{Caused, DiskAdvances, Grows}
use Rattle.unit_journal.specs.Leaving.{FellIn}
use Rattle.unit_journal.proofs.Breaking.{fell_old}
use Rattle.unit_journal.proofs.Falling.{fell_caused, fell_goes, same_goes}
use Rattle.unit_journal.proofs.Growing.{fell_grows, grows_nowhere}
use Rattle.unit_table.specs.Units.{OpenUnit, has_changed, with_unit}
use Rattle.volume.specs.State.{SameVolume, VolumeState}
use Rattle.rms_units.specs.State.{UnitsState, unit_of, ImagesGrow}
use Rattle.rms_units.specs.Truncating.{ChangesCutErr, CutBroke, CutRefused, cut_refused_before_reading, ChangesCut, cut_asked, with_positions}
use Rattle.key_changes.specs.unit_cuts.Truncating.{AllTold, begins_at, entry_sizes, keys_cut}
use Rattle.key_changes.proofs.unit_cuts.CutFrames.{told_none}
use Rattle.key_changes.proofs.unit_cuts.CutSofar.{leaves_told}
use Rattle.rms_units.proofs.ImageSound.{ordered_spans, settlements_at}
use Rattle.rms_units.proofs.CutReads.{breaks_cut_from, cut_from}
use Rattle.rms_units.proofs.OrderLemmas.{placed_in}
use Rattle.key_changes.proofs.unit_cuts.Outcomes.{of_some, the_one}
use Rattle.rms_units.proofs.Refusing.{either_way, refused_so}
use Rattle.image_room.specs.Room.{images_end, images_refused}
use Rattle.volume.specs.declared.catalog.Catalog.{Catalog}
use Rattle.rms_units.proofs.ReadLemmas.{order_held}
use Rattle.change_set.specs.Maps.{empty_map}
use Rattle.volume_files.specs.record_files.Any.{map_of}
use Rattle.record_locks.specs.Locks.{LockTable, with_locks}
use Rattle.unit_journal.specs.Room.{journal_refused}
use Rattle.vms_base.specs.Ids.{serial_of, tid_of}
use Rattle.vms_model.specs.Ids.{Id}
use Rattle.rms_units.proofs.CutRooms.{late_none}
use Rattle.rms_units.proofs.units.Units.truncate.Goals as goal
use Rattle.rms_units.proofs.units.Units.truncate.Goals.{in-Err-make_cut, in-Ok-make_cut}

pub refuse_cut-requires-clause-placed : goal.refuse_cut-requires-clause-placed
refuse_cut-requires-clause-placed g c = placed_in c.args.self.now c.args.volume.now c.args.cut.now.file c.args.cut.now.head c.requires.order c.requires.head

pub refuse_cut-requires-clause-images : goal.refuse_cut-requires-clause-images
refuse_cut-requires-clause-images g c = settlements_at c.args.self.now (record { units = c.self.inside.table; locks = c.self.inside.locks.locks }) c.args.volume.now c.args.cut.now.file c.args.cut.now.head c.self.view_is c.requires.order c.requires.head

pub refuse_cut-requires-clause-ordered : goal.refuse_cut-requires-clause-ordered
refuse_cut-requires-clause-ordered g c = ordered_spans c.args.self.now c.args.volume.now c.args.cut.now.file c.args.cut.now.head c.requires.order c.requires.head

pub returns-in-Err-clause-refused : goal.returns-in-Err-clause-refused
returns-in-Err-clause-refused g c =
    let v = c.args.volume.now in
    let w = c.refuse_cut.new.volume in
    let a = c.args.cut.now in
    let s : UnitsState = record { units = c.self.inside.table; locks = c.self.inside.locks.locks } in
    let one = the_one (unit_of c.args.place c.args.self.now) c.requires.unit in
    let at : unit_of c.args.place s ≡ Some one.0 = ap (unit_of c.args.place) c.self.view_is ∙ one.1 in
    refused_so c.in-Err.e (λ cause. CutRefused one.0 a.file a.head a.from cause s v × SameVolume v w) (λ cause. SameVolume v w) (λ down. (cut_refused_before_reading one.0 a.file a.head a.from s.locks ≡ None) × FellIn down v w) (λ down. Unit {0}) (c.in-Err.ensures.err one.0 at) (λ cause p. p.1) (λ down q. tt)

pub returns-in-Err-clause-grows : goal.returns-in-Err-clause-grows
returns-in-Err-clause-grows g c =
    let v = c.args.volume.now in
    let w = c.refuse_cut.new.volume in
    let a = c.args.cut.now in
    let s : UnitsState = record { units = c.self.inside.table; locks = c.self.inside.locks.locks } in
    let one = the_one (unit_of c.args.place c.args.self.now) c.requires.unit in
    let at : unit_of c.args.place s ≡ Some one.0 = ap (unit_of c.args.place) c.self.view_is ∙ one.1 in
    either_way c.in-Err.e (λ cause. CutRefused one.0 a.file a.head a.from cause s v × SameVolume v w) (λ down. (cut_refused_before_reading one.0 a.file a.head a.from s.locks ≡ None) × FellIn down v w) (λ o. Grows 0 0 v w) (c.in-Err.ensures.err one.0 at)
    (λ cause p. grows_nowhere 0 0 v w (ap (λ (x : VolumeState). x.catalog) p.1)) (λ down q. fell_grows 0 0 down v w q.1)

pub returns-in-Err-clause-goes : goal.returns-in-Err-clause-goes
returns-in-Err-clause-goes g c =
    let v = c.args.volume.now in
    let w = c.refuse_cut.new.volume in
    let a = c.args.cut.now in
    let s : UnitsState = record { units = c.self.inside.table; locks = c.self.inside.locks.locks } in
    let one = the_one (unit_of c.args.place c.args.self.now) c.requires.unit in
    let at : unit_of c.args.place s ≡ Some one.0 = ap (unit_of c.args.place) c.self.view_is ∙ one.1 in
    either_way c.in-Err.e (λ cause. CutRefused one.0 a.file a.head a.from cause s v × SameVolume v w) (λ down. (cut_refused_before_reading one.0 a.file a.head a.from s.locks ≡ None) × FellIn down v w) (λ o. DiskAdvances v.store.disk w.store.disk) (c.in-Err.ensures.err one.0 at)
    (λ cause p. same_goes v w p.1) (λ down q. fell_goes down v w q.1)

pub returns-in-Err-clause-cause : goal.returns-in-Err-clause-cause
returns-in-Err-clause-cause g c =
    let v = c.args.volume.now in
    let w = c.refuse_cut.new.volume in
    let a = c.args.cut.now in
    let s : UnitsState = record { units = c.self.inside.table; locks = c.self.inside.locks.locks } in
    let one = the_one (unit_of c.args.place c.args.self.now) c.requires.unit in
    let at : unit_of c.args.place s ≡ Some one.0 = ap (unit_of c.args.place) c.self.view_is ∙ one.1 in
    either_way c.in-Err.e (λ cause. CutRefused one.0 a.file a.head a.from cause s v × SameVolume v w) (λ down. (cut_refused_before_reading one.0 a.file a.head a.from s.locks ≡ None) × FellIn down v w) (λ o. Caused o v.store.disk w.store.disk) (c.in-Err.ensures.err one.0 at)
    (λ cause p. tt) (λ down q. fell_caused down v w q.1)

pub returns-in-Err-clause-pool : goal.returns-in-Err-clause-pool
returns-in-Err-clause-pool g c =
    let v = c.args.volume.now in
    let w = c.refuse_cut.new.volume in
    let a = c.args.cut.now in
    let s : UnitsState = record { units = c.self.inside.table; locks = c.self.inside.locks.locks } in
    let one = the_one (unit_of c.args.place c.args.self.now) c.requires.unit in
    let at : unit_of c.args.place s ≡ Some one.0 = ap (unit_of c.args.place) c.self.view_is ∙ one.1 in
    either_way c.in-Err.e (λ cause. CutRefused one.0 a.file a.head a.from cause s v × SameVolume v w) (λ down. (cut_refused_before_reading one.0 a.file a.head a.from s.locks ≡ None) × FellIn down v w) (λ o. w.store.pool ≡ v.store.pool) (c.in-Err.ensures.err one.0 at)
    (λ cause p. ap (λ (x : VolumeState). x.store.pool) p.1) (λ down q. ap (λ (x : VolumeState). x.store.pool) q.1)

pub returns-in-Err-clause-err : goal.returns-in-Err-clause-err
returns-in-Err-clause-err g c = λ u is.
    let v = c.args.volume.now in
    let w = c.refuse_cut.new.volume in
    let a = c.args.cut.now in
    let s : UnitsState = record { units = c.self.inside.table; locks = c.self.inside.locks.locks } in
    let at : unit_of c.args.place s ≡ Some u = ap (unit_of c.args.place) c.self.view_is ∙ is in (
      c.self.view_is,
      refused_so c.in-Err.e (λ cause. CutRefused u a.file a.head a.from cause s v × SameVolume v w) (λ cause. CutRefused u a.file a.head a.from cause c.args.self.now v × SameVolume v w) (λ down. (cut_refused_before_reading u a.file a.head a.from s.locks ≡ None) × FellIn down v w)
          (λ down. CutBroke u a.file a.head a.from c.args.self.now v w) (c.in-Err.ensures.err u at)
          (λ cause p. (subst (λ (x : UnitsState). CutRefused u a.file a.head a.from cause x v) c.self.view_is p.0, p.1))
          (λ down q. record {
            early = subst (λ (x : UnitsState). cut_refused_before_reading u a.file a.head a.from x.locks ≡ None) c.self.view_is q.0;
            breaks = inl (leaves_told (λ x. Some x ≡ content v.store) (AllTold a.head v.catalog.ru (content v.store)) w.store.disk
                (λ x old. told_none a.head v.catalog.ru (content v.store) x old) (fell_old down v v w c.one_content.ensures c.requires.order.idle.ready refl q.1));
          }),
    )

pub returns-clause-err : goal.returns-clause-err
returns-clause-err g c =
    let v = c.args.volume.now in
    let w = c.make_cut.new.volume in
    let a = c.args.cut.now in
    let s : UnitsState = record { units = c.self.inside.table; locks = c.self.inside.locks.locks } in
    let t : UnitsState = record { units = c.make_cut.new.table; locks = c.make_cut.new.locks.locks } in
    elim c.match-make_cut.branch [
      | in-Err-make_cut e ↦ subst (λ r. IfErr r (λ x. (u : OpenUnit) → unit_of c.args.place c.args.self.now ≡ Some u → ChangesCutErr u a.file a.head a.from x c.args.self.now v t w)) (sym e.result-is)
          (λ u is.
          let at : unit_of c.args.place s ≡ Some u = ap (unit_of c.args.place) c.self.view_is ∙ is in
          let spared = e.in-Err-make_cut.ensures.spared in
          let same : t ≡ s = λ i. record { units = spared.0 i; locks = (spared.1 i).locks } in
          let early = of_some (λ (x : OpenUnit). cut_refused_before_reading x a.file a.head a.from s.locks ≡ None) (unit_of c.args.place s) u at c.in-Ok.ensures.early in (
            same ∙ c.self.view_is,
            subst (λ (y : UnitsState). CutBroke u a.file a.head a.from y v w) c.self.view_is record { early = early; breaks = breaks_cut_from v c.refuse_cut.new.volume c.in-Ok.ensures.same u a.file a.head a.from s w (e.in-Err-make_cut.ensures.breaks u at) },
          ))
      | in-Ok-make_cut k ↦ subst (λ r. IfErr r (λ x. (u : OpenUnit) → unit_of c.args.place c.args.self.now ≡ Some u → ChangesCutErr u a.file a.head a.from x c.args.self.now v t w)) (sym k.result-is) tt
    ]

pub returns-clause-images : goal.returns-clause-images
returns-clause-images g c =
    let v = c.args.volume.now in
    let w = c.make_cut.new.volume in
    elim c.match-make_cut.branch [
      | in-Err-make_cut e ↦ subst (λ r. OnOk r (ImagesGrow v w)) (sym e.result-is) tt
      | in-Ok-make_cut k ↦ subst (λ r. OnOk r (ImagesGrow v w)) (sym k.result-is)
          (subst (λ (x : Catalog). images_end w.catalog.heads ≤ images_end x.heads + 2 ^ 24) (ap (λ (x : VolumeState). x.catalog) c.in-Ok.ensures.same) k.in-Ok-make_cut.ensures.images)
    ]

pub make_cut-requires-clause-order : goal.make_cut-requires-clause-order
make_cut-requires-clause-order g c = order_held c.args.self.now c.self.inside.table c.self.inside.locks.locks c.args.volume.now c.refuse_cut.new.volume (ap (λ (x : UnitsState). x.units) c.self.view_is) c.in-Ok.ensures.same c.requires.order

pub returns-clause-done : goal.returns-clause-done
returns-clause-done g c =
    let v = c.args.volume.now in
    let x = c.refuse_cut.new.volume in
    let w = c.make_cut.new.volume in
    let a = c.args.cut.now in
    let same = c.in-Ok.ensures.same in
    let s : UnitsState = record { units = c.self.inside.table; locks = c.self.inside.locks.locks } in
    let t : UnitsState = record { units = c.make_cut.new.table; locks = c.make_cut.new.locks.locks } in
    let us = c.self.inside.table.places in
    let gone = entry_sizes empty_map (keys_cut a.head a.from) in
    let size = c.in-Ok.size in
    let b = c.branch-branch.result in
    elim c.match-make_cut.branch [
      | in-Err-make_cut e ↦ subst (λ r. OnOk r ((u : OpenUnit) → unit_of c.args.place c.args.self.now ≡ Some u → ChangesCut c.args.place u a.file a.head a.from c.args.self.now v t w)) (sym e.result-is) tt
      | in-Ok-make_cut k ↦ subst (λ r. OnOk r ((u : OpenUnit) → unit_of c.args.place c.args.self.now ≡ Some u → ChangesCut c.args.place u a.file a.head a.from c.args.self.now v t w)) (sym k.result-is)
          (λ u is.
          let at : unit_of c.args.place s ≡ Some u = ap (unit_of c.args.place) c.self.view_is ∙ is in
          let own = of_some (λ (y : OpenUnit). (tid_of b.tid ≡ y.tid) × (serial_of b.serial ≡ y.serial)) (unit_of c.args.place s) u at
          (subst (λ (y : UnitsState). IfSome (unit_of c.args.place y) (λ (z : OpenUnit). (tid_of b.tid ≡ z.tid) × (serial_of b.serial ≡ z.serial))) (sym c.self.view_is) c.branch-branch.ensures) in
          let fits = of_some (λ (y : OpenUnit). journal_refused v.catalog.ru us y size ≡ None) (unit_of c.args.place s) u at c.in-Ok.ensures.fits in
          let free = of_some (λ (y : OpenUnit). images_refused a.head a.file us (has_changed y a.file) gone size ≡ None) (unit_of c.args.place s) u at c.in-Ok.ensures.rooms in
          let m = k.in-Ok-make_cut.ensures.makes u at in
          let locks = ap (λ (y : LockTable). y.locks) k.in-Ok-make_cut.ensures.locks in
          subst (λ (y : UnitsState). ChangesCut c.args.place u a.file a.head a.from y v t w) c.self.view_is
          record {
            early = of_some (λ (y : OpenUnit). cut_refused_before_reading y a.file a.head a.from s.locks ≡ None) (unit_of c.args.place s) u at c.in-Ok.ensures.early;
            late = λ d told form laid. late_none u a.file a.head a.from s v (map_of a.head d) size (c.in-Ok.ensures.size d told form laid) fits free;
            entries = m.0;
            made = cut_from v x same u.tid u.serial a.file a.head a.from m.0 w m.1;
            units = m.2 ∙ ap (λ (y : VolumeState). with_unit c.args.place (with_positions (begins_at y.catalog.ru.end m.0.had) a.file u) s.units) same;
            files = of_some (λ (y : OpenUnit). length y.files ≡ 64) (unit_of c.args.place s) u at c.in-Ok.ensures.files;
            locks = locks ∙ ap (λ (y : Id). with_locks y a.file (cut_asked a.head a.from) s.locks) own.1;
          })
    ]
