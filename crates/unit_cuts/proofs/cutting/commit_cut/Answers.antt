-- The images are written, and then the records go with the journals' ends and the settlement.
use Rattle.std.proofs.Common.{◌≡◌, ◌+◌, ◌-◌, ◌≤◌, ◌^◌, ℕ, List, [], Option, Some, true, refl, sym, ap, subst, ◌∙◌, arith, inl}
use Rattle.std.proofs.lemmas.Result.{on_err_weaker, on_ok_weaker}
use Rattle.careful_write.specs.State.{content}
use Rattle.change_set.specs.Files.{free_frames}
use Rattle.change_set.specs.Maps.{Map, empty_map}
use Rattle.change_set.specs.declared.walk.Place.{Place}
use Rattle.file_base.specs.declared.head.Span.{Span}
use Rattle.vms_base.specs.Ids.{serial_of, tid_of}
use Rattle.vms_model.specs.Keys.{Number}
use Rattle.volume.specs.Catalogs.{IsSound, head_at}
use Rattle.volume.specs.State.{VolumeState}
use Rattle.volume.specs.declared.catalog.Catalog.{Catalog}
use Rattle.volume_files.proofs.Places.{placed}
use Rattle.unit_table.specs.declared.place.Branch.{Branch}
use Rattle.vms_base.specs.declared.ids.Serial.{Serial}
use Rattle.unit_cuts.specs.Moving.{CommitsBehind, EntersImages}
use Rattle.unit_cuts.specs.Truncating.{AllTold, CommitsCut, CutEntries, entry_sizes, keys_cut}
use Rattle.unit_cuts.proofs.CutEntering.{images_beside}
use Rattle.unit_cuts.proofs.CutFrames.{begins_on, images_hold, images_keep, told_images}
use Rattle.unit_cuts.proofs.CutMade.{breaks_cut, commits_cut, first_begins, fit_less, room_to_close, tell_had, with_had}
use Rattle.unit_cuts.proofs.cutting.commit_cut.Goals as goal

pub enter_images-requires-clause-placed : goal.enter_images-requires-clause-placed
enter_images-requires-clause-placed g c =
    let v = c.args.volume.now in
    let cut = c.args.cut.now in
    placed v.catalog.home.node v.catalog cut.file cut.head v.store.disk c.requires.whole c.requires.sound c.requires.most c.requires.there

pub enter_images-requires-clause-beside : goal.enter_images-requires-clause-beside
enter_images-requires-clause-beside g c =
    let v = c.args.volume.now in
    let cut = c.args.cut.now in
    images_beside v.catalog.home.node v.store.disk.size v.catalog cut.file cut.head c.requires.whole c.requires.sound c.requires.there (λ kept. (c.requires.images.afters kept).room.ring.from) (λ kept. (c.requires.images.befores kept).room.ring.from)

pub enter_images-requires-clause-fit : goal.enter_images-requires-clause-fit
enter_images-requires-clause-fit g c = fit_less c.args.cut.now.head (entry_sizes empty_map (keys_cut c.args.cut.now.head c.args.cut.now.from)) c.args.size c.args.volume.now.store.disk c.requires.images

pub commit_behind-requires-clause-holds : goal.commit_behind-requires-clause-holds
commit_behind-requires-clause-holds g c =
    let im = c.in-Ok.ensures.enters in
    images_hold c.args.cut.now.head im.entries c.args.volume.now c.enter_images.new.volume c.catalogs_stand_on_the_front.ensures im.writes c.requires.holds

pub commit_behind-requires-clause-begins : goal.commit_behind-requires-clause-begins
commit_behind-requires-clause-begins g c =
    let v = c.args.volume.now in
    let x = c.enter_images.new.volume in
    let cut = c.args.cut.now in
    let h = cut.head in
    let im = c.in-Ok.ensures.enters in
    let beside = images_beside v.catalog.home.node v.store.disk.size v.catalog cut.file h c.requires.whole c.requires.sound c.requires.there (λ kept. (c.requires.images.afters kept).room.ring.from) (λ kept. (c.requires.images.befores kept).room.ring.from) in
    begins_on h v x (images_keep h im.entries v x beside im.writes) c.first_place-first.result (Some (Number cut.from)) c.requires.sequential (first_begins h v c.first_place-first.result c.args.room.now.places c.first_place-first.ensures c.requires.places)

pub commit_behind-requires-clause-afters : goal.commit_behind-requires-clause-afters
commit_behind-requires-clause-afters g c =
    let h = c.args.cut.now.head in
    let im = c.in-Ok.ensures.enters in
    room_to_close h.marks.ai (entry_sizes empty_map (keys_cut h c.args.cut.now.from)) h.ai c.in-Ok.spans.afters im.entries.gone c.args.volume.now c.enter_images.new.volume c.enter_images.ensures.counts.size im.afters im.few_gone c.requires.images.afters

pub commit_behind-requires-clause-befores : goal.commit_behind-requires-clause-befores
commit_behind-requires-clause-befores g c =
    let h = c.args.cut.now.head in
    let im = c.in-Ok.ensures.enters in
    room_to_close h.marks.bi c.args.size h.bi c.in-Ok.spans.befores im.entries.images c.args.volume.now c.enter_images.new.volume c.enter_images.ensures.counts.size im.befores im.few_images c.requires.images.befores

pub returns-in-Err-clause-breaks : goal.returns-in-Err-clause-breaks
returns-in-Err-clause-breaks g c = inl c.in-Err.ensures.err

pub returns-clause-makes : goal.returns-clause-makes
returns-clause-makes g c =
    let v = c.args.volume.now in
    let x = c.enter_images.new.volume in
    let cut = c.args.cut.now in
    let h = cut.head in
    let own = c.own_branch-branch.ensures in
    let spans = c.in-Ok.spans in
    let gone = entry_sizes empty_map (keys_cut h cut.from) in
    let left = c.args.units.now.places in
    let serial : Serial = record { 0 = c.args.tid.0 } in
    let im : EntersImages gone c.args.size (tid_of c.args.tid) (serial_of serial) cut.file h cut.from v x spans =
    subst (λ (b : Branch). EntersImages gone c.args.size (tid_of b.tid) (serial_of b.serial) cut.file h cut.from v x spans) own c.in-Ok.ensures.enters in
    let beside = images_beside v.catalog.home.node v.store.disk.size v.catalog cut.file h c.requires.whole c.requires.sound c.requires.there (λ kept. (c.requires.images.afters kept).room.ring.from) (λ kept. (c.requires.images.befores kept).room.ring.from) in
    let keeps = images_keep h im.entries v x beside im.writes in
    let es : CutEntries = record im.entries { had = [] } in
    on_ok_weaker c.commit_behind.result
    (λ all. (
      es,
      commits_cut cut.file h cut.from es spans c.args.tid c.args.moment.0 left v x c.commit_behind.new.volume keeps (with_had h im.entries [] v x im.writes) (tell_had (tid_of c.args.tid) (serial_of serial) cut.file h cut.from v im.entries [] im.tells) im.afters im.befores
          (subst (λ (b : Branch). CommitsBehind cut.file h cut.from spans b.tid b.serial c.args.moment.0 left x c.commit_behind.new.volume) own all),
      record { gone = im.few_gone; images = im.few_images; had = omega arith },
    ))
    c.commit_behind.ensures.makes

pub returns-clause-breaks : goal.returns-clause-breaks
returns-clause-breaks g c =
    let v = c.args.volume.now in
    let x = c.enter_images.new.volume in
    let cut = c.args.cut.now in
    let h = cut.head in
    let b = c.own_branch-branch.result in
    let own = c.own_branch-branch.ensures in
    let spans = c.in-Ok.spans in
    let gone = entry_sizes empty_map (keys_cut h cut.from) in
    let left = c.args.units.now.places in
    let serial : Serial = record { 0 = c.args.tid.0 } in
    let im : EntersImages gone c.args.size (tid_of c.args.tid) (serial_of serial) cut.file h cut.from v x spans =
    subst (λ (y : Branch). EntersImages gone c.args.size (tid_of y.tid) (serial_of y.serial) cut.file h cut.from v x spans) own c.in-Ok.ensures.enters in
    let beside = images_beside v.catalog.home.node v.store.disk.size v.catalog cut.file h c.requires.whole c.requires.sound c.requires.there (λ kept. (c.requires.images.afters kept).room.ring.from) (λ kept. (c.requires.images.befores kept).room.ring.from) in
    let keeps = images_keep h im.entries v x beside im.writes in
    let es : CutEntries = record im.entries { had = [] } in
    on_err_weaker c.commit_behind.result
    (λ broke. breaks_cut h (λ made. (ds : CutEntries) × CommitsCut cut.file h cut.from ds c.args.tid c.args.moment.0 left v made) (CommitsBehind cut.file h cut.from spans b.tid b.serial c.args.moment.0 left x) v x c.commit_behind.new.volume
    (λ d is. subst (λ (o : Option (List (List ℕ))). AllTold h v.catalog.ru o d) c.requires.idle.current (told_images h im.entries v x v.catalog.ru d im.writes (is ∙ sym c.in-Ok.ensures.idle.current)))
    (λ made all. (
      es,
      commits_cut cut.file h cut.from es spans c.args.tid c.args.moment.0 left v x made keeps (with_had h im.entries [] v x im.writes) (tell_had (tid_of c.args.tid) (serial_of serial) cut.file h cut.from v im.entries [] im.tells) im.afters im.befores
          (subst (λ (y : Branch). CommitsBehind cut.file h cut.from spans y.tid y.serial c.args.moment.0 left x made) own all),
    )) broke)
    c.commit_behind.ensures.breaks
