-- The entries are written, and then the records go with the journals' ends.
use Rattle.std.proofs.Common.{◌≡◌, ◌+◌, ◌-◌, ◌≤◌, ◌^◌, ℕ, List, [], Option, Some, true, refl, sym, ap, subst, ◌∙◌, arith, inl}
use Rattle.std.proofs.lemmas.Result.{on_err_weaker, on_ok_weaker}
use Rattle.careful_write.specs.State.{content}
use Rattle.change_set.specs.Files.{free_frames}
use Rattle.change_set.specs.Maps.{Map, empty_map}
use Rattle.change_set.specs.declared.walk.Place.{Place}
use Rattle.file_base.specs.declared.head.Span.{Span}
use Rattle.vms_base.specs.Ids.{serial_of, tid_of}
use Rattle.vms_model.specs.Keys.{Number}
use Rattle.volume.specs.Catalogs.{IsSound, head_at}
use Rattle.volume.specs.State.{VolumeState}
use Rattle.volume.specs.declared.catalog.Catalog.{Catalog}
use Rattle.volume_files.proofs.Places.{placed}
use Rattle.image_appends.specs.Images.{HasRoom}
use Rattle.unit_cuts.specs.Moving.{MovesAll}
use Rattle.unit_cuts.specs.Truncating.{AllTold, AreBegun, CutEntries, IsTold, LiesBeside, MakesCut, WritesBehind, begins_at, cut_entries, entry_sizes, keys_cut}
use Rattle.unit_cuts.proofs.CutEntering.{images_beside, lies_past}
use Rattle.unit_cuts.proofs.CutFrames.{begins_on, begun_on, images_hold, images_keep, keeps_then, records_back, records_on, told_ru, told_written, writes_hold, writes_keep}
use Rattle.unit_cuts.proofs.CutMade.{breaks_cut, enters_cut, first_begins, placed_still, room_still, tell_had, with_had}
use Rattle.unit_cuts.proofs.CutSofar.{leaves_told}
use Rattle.unit_cuts.proofs.cutting.cut_records.Goals as goal

pub enter_images-requires-clause-placed : goal.enter_images-requires-clause-placed
enter_images-requires-clause-placed g c =
    let v = c.args.volume.now in
    let cut = c.args.cut.now in
    placed v.catalog.home.node v.catalog cut.file cut.head v.store.disk c.requires.whole c.requires.sound c.requires.most c.requires.there

pub enter_images-requires-clause-beside : goal.enter_images-requires-clause-beside
enter_images-requires-clause-beside g c =
    let v = c.args.volume.now in
    let cut = c.args.cut.now in
    images_beside v.catalog.home.node v.store.disk.size v.catalog cut.file cut.head c.requires.whole c.requires.sound c.requires.there (λ kept. (c.requires.images.afters kept).room.ring.from) (λ kept. (c.requires.images.befores kept).room.ring.from)

pub enter_behind-requires-clause-placed : goal.enter_behind-requires-clause-placed
enter_behind-requires-clause-placed g c =
    let v = c.args.volume.now in
    let cut = c.args.cut.now in
    placed_still cut.head v c.enter_images.new.volume c.enter_images.ensures.counts.size (placed v.catalog.home.node v.catalog cut.file cut.head v.store.disk c.requires.whole c.requires.sound c.requires.most c.requires.there)

pub enter_behind-requires-clause-beside : goal.enter_behind-requires-clause-beside
enter_behind-requires-clause-beside g c = λ kept.
    let v = c.args.volume.now in
    let cut = c.args.cut.now in
    subst (LiesBeside cut.head) (sym c.ru.ensures) (lies_past v.catalog.home.node v.store.disk.size v.catalog cut.file cut.head c.requires.whole c.requires.sound c.requires.there)

pub enter_behind-requires-clause-places : goal.enter_behind-requires-clause-places
enter_behind-requires-clause-places g c =
    let v = c.args.volume.now in
    let x = c.enter_images.new.volume in
    let cut = c.args.cut.now in
    let h = cut.head in
    let im = c.in-Ok.ensures.enters in
    let beside = images_beside v.catalog.home.node v.store.disk.size v.catalog cut.file h c.requires.whole c.requires.sound c.requires.there (λ kept. (c.requires.images.afters kept).room.ring.from) (λ kept. (c.requires.images.befores kept).room.ring.from) in
    begun_on h v x (images_keep h im.entries v x beside im.writes) c.enter_images.new.room.places c.requires.sequential (subst (λ (ps : List Place). AreBegun h v ps) (sym c.enter_images.ensures.places) c.requires.places)

pub enter_behind-requires-clause-room : goal.enter_behind-requires-clause-room
enter_behind-requires-clause-room g c = λ kept.
    let v = c.args.volume.now in
    let x = c.enter_images.new.volume in
    subst (λ (s : Span). HasRoom c.args.size s x.store.disk) (sym c.ru.ensures) (room_still c.args.size v.catalog.ru v x c.enter_images.ensures.counts.size c.requires.fits)

pub enter_behind-requires-clause-low : goal.enter_behind-requires-clause-low
enter_behind-requires-clause-low g c = λ kept. subst (λ (s : Span). s.end + c.args.size ≤ 2 ^ 62) (sym c.ru.ensures) c.requires.low

pub enter_behind-requires-clause-size : goal.enter_behind-requires-clause-size
enter_behind-requires-clause-size g c = λ kept.
    let v = c.args.volume.now in
    let x = c.enter_images.new.volume in
    let cut = c.args.cut.now in
    let h = cut.head in
    let im = c.in-Ok.ensures.enters in
    let beside = images_beside v.catalog.home.node v.store.disk.size v.catalog cut.file h c.requires.whole c.requires.sound c.requires.there (λ kept. (c.requires.images.afters kept).room.ring.from) (λ kept. (c.requires.images.befores kept).room.ring.from) in
    records_on h v x (images_keep h im.entries v x beside im.writes) (λ (m : Map). c.args.size ≡ entry_sizes m (keys_cut h cut.from)) c.requires.size

pub cut_behind-requires-clause-holds : goal.cut_behind-requires-clause-holds
cut_behind-requires-clause-holds g c =
    let v = c.args.volume.now in
    let x = c.enter_images.new.volume in
    let y = c.enter_behind.new.volume in
    let front = c.catalogs_stand_on_the_front.ensures in
    let im = c.in-Ok.ensures.enters in
    let en = c.in-Ok-enter_behind.ensures.enters in
    writes_hold true c.ru.result.now en.entries x y en.writes front (images_hold c.args.cut.now.head im.entries v x front im.writes c.requires.holds)

pub cut_behind-requires-clause-begins : goal.cut_behind-requires-clause-begins
cut_behind-requires-clause-begins g c =
    let v = c.args.volume.now in
    let x = c.enter_images.new.volume in
    let y = c.enter_behind.new.volume in
    let cut = c.args.cut.now in
    let h = cut.head in
    let im = c.in-Ok.ensures.enters in
    let en = c.in-Ok-enter_behind.ensures.enters in
    let beside = images_beside v.catalog.home.node v.store.disk.size v.catalog cut.file h c.requires.whole c.requires.sound c.requires.there (λ kept. (c.requires.images.afters kept).room.ring.from) (λ kept. (c.requires.images.befores kept).room.ring.from) in
    let past : LiesBeside h c.ru.result.now = subst (LiesBeside h) (sym c.ru.ensures) (lies_past v.catalog.home.node v.store.disk.size v.catalog cut.file h c.requires.whole c.requires.sound c.requires.there) in
    let keeps = keeps_then h v x y (images_keep h im.entries v x beside im.writes) (writes_keep true c.ru.result.now en.entries x y en.writes h (λ kept. past)) in
    begins_on h v y keeps c.first_place-first.result (Some (Number cut.from)) c.requires.sequential (first_begins h v c.first_place-first.result c.args.room.now.places c.first_place-first.ensures c.requires.places)

pub returns-in-Err-clause-breaks : goal.returns-in-Err-clause-breaks
returns-in-Err-clause-breaks g c = inl c.in-Err.ensures.err

pub returns-in-Err-enter_behind-clause-breaks : goal.returns-in-Err-enter_behind-clause-breaks
returns-in-Err-enter_behind-clause-breaks g c =
    let v = c.args.volume.now in
    let x = c.enter_images.new.volume in
    let h = c.args.cut.now.head in
    let im = c.in-Ok.ensures.enters in
    inl (leaves_told (IsTold true c.ru.result.now (content x.store)) (AllTold h v.catalog.ru (content v.store)) c.enter_behind.new.volume.store.disk
    (λ b told. subst (λ (o : Option (List (List ℕ))). AllTold h v.catalog.ru o b) c.requires.idle.current
    (told_ru h v.catalog.ru im.entries v x b im.writes (subst (λ (s : Span). IsTold true s x.store.current b) c.ru.ensures (subst (λ (o : Option (List (List ℕ))). IsTold true c.ru.result.now o b) (sym c.in-Ok.ensures.idle.current) told))))
    c.in-Err-enter_behind.ensures.err)

pub returns-clause-enters : goal.returns-clause-enters
returns-clause-enters g c =
    let v = c.args.volume.now in
    let x = c.enter_images.new.volume in
    let y = c.enter_behind.new.volume in
    let cut = c.args.cut.now in
    let h = cut.head in
    let ru = c.ru.result.now in
    let tid = tid_of c.args.branch.now.tid in
    let serial = serial_of c.args.branch.now.serial in
    let im = c.in-Ok.ensures.enters in
    let en = c.in-Ok-enter_behind.ensures.enters in
    let beside = images_beside v.catalog.home.node v.store.disk.size v.catalog cut.file h c.requires.whole c.requires.sound c.requires.there (λ kept. (c.requires.images.afters kept).room.ring.from) (λ kept. (c.requires.images.befores kept).room.ring.from) in
    let past : LiesBeside h ru = subst (LiesBeside h) (sym c.ru.ensures) (lies_past v.catalog.home.node v.store.disk.size v.catalog cut.file h c.requires.whole c.requires.sound c.requires.there) in
    let first = images_keep h im.entries v x beside im.writes in
    let keeps = keeps_then h v x y first (writes_keep true ru en.entries x y en.writes h (λ kept. past)) in
    let es : CutEntries = record im.entries { had = en.entries } in
    on_ok_weaker c.cut_behind.result
    (λ all. (
      es,
      record {
        images = tell_had tid serial cut.file h cut.from v im.entries en.entries im.tells;
        tells = records_back h v x first (λ (m : Map). en.entries ≡ cut_entries tid serial cut.file m (keys_cut h cut.from)) (en.tells refl);
        enters = enters_cut cut.file h cut.from es c.in-Ok.spans ru c.in-Ok-enter_behind.span v x y c.cut_behind.new.volume keeps (with_had h im.entries en.entries v x im.writes) c.ru.ensures en.writes im.afters im.befores en.span all;
      },
      record { gone = im.few_gone; images = im.few_images; had = en.few },
      en.positions refl ∙ ap (λ (s : Span). begins_at s.end en.entries) c.ru.ensures,
    ))
    c.cut_behind.ensures.cuts

pub returns-clause-breaks : goal.returns-clause-breaks
returns-clause-breaks g c =
    let v = c.args.volume.now in
    let x = c.enter_images.new.volume in
    let y = c.enter_behind.new.volume in
    let cut = c.args.cut.now in
    let h = cut.head in
    let ru = c.ru.result.now in
    let tid = tid_of c.args.branch.now.tid in
    let serial = serial_of c.args.branch.now.serial in
    let im = c.in-Ok.ensures.enters in
    let en = c.in-Ok-enter_behind.ensures.enters in
    let beside = images_beside v.catalog.home.node v.store.disk.size v.catalog cut.file h c.requires.whole c.requires.sound c.requires.there (λ kept. (c.requires.images.afters kept).room.ring.from) (λ kept. (c.requires.images.befores kept).room.ring.from) in
    let past : LiesBeside h ru = subst (LiesBeside h) (sym c.ru.ensures) (lies_past v.catalog.home.node v.store.disk.size v.catalog cut.file h c.requires.whole c.requires.sound c.requires.there) in
    let first = images_keep h im.entries v x beside im.writes in
    let keeps = keeps_then h v x y first (writes_keep true ru en.entries x y en.writes h (λ kept. past)) in
    let es : CutEntries = record im.entries { had = en.entries } in
    let images = with_had h im.entries en.entries v x im.writes in
    on_err_weaker c.cut_behind.result
    (λ broke. breaks_cut h (λ made. (ds : CutEntries) × MakesCut tid serial cut.file h cut.from ds v made) (MovesAll cut.file h cut.from c.in-Ok.spans c.in-Ok-enter_behind.span y) v y c.cut_behind.new.volume
    (λ b is. subst (λ (o : Option (List (List ℕ))). AllTold h v.catalog.ru o b) c.requires.idle.current
    (told_written h es v x y v.catalog.ru b images (subst (λ (s : Span). WritesBehind true s en.entries x y) c.ru.ensures en.writes) (is ∙ sym c.in-Ok-enter_behind.ensures.idle.current)))
    (λ made all. (
      es,
      record {
        images = tell_had tid serial cut.file h cut.from v im.entries en.entries im.tells;
        tells = records_back h v x first (λ (m : Map). en.entries ≡ cut_entries tid serial cut.file m (keys_cut h cut.from)) (en.tells refl);
        enters = enters_cut cut.file h cut.from es c.in-Ok.spans ru c.in-Ok-enter_behind.span v x y made keeps images c.ru.ensures en.writes im.afters im.befores en.span all;
      },
    )) broke)
    c.cut_behind.ensures.breaks
