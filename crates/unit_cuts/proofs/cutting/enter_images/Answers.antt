-- The images of before come first, and then those of after.
use Rattle.std.proofs.Common.{◌≡◌, ℕ, List, [], Option, Some, true, false, sym, ap, subst, ◌∙◌}
use Rattle.careful_write.specs.State.{content}
use Rattle.change_set.specs.Maps.{Map, empty_map}
use Rattle.change_set.specs.declared.walk.Place.{Place}
use Rattle.vms_base.specs.Ids.{serial_of, tid_of}
use Rattle.unit_cuts.specs.Moving.{Fits}
use Rattle.unit_cuts.specs.Truncating.{AllTold, AreBegun, IsTold, cut_entries, keys_cut}
use Rattle.unit_cuts.proofs.CutFrames.{begun_on, records_back, told_afters, told_befores, writes_keep}
use Rattle.unit_cuts.proofs.CutMade.{fits_still, placed_still}
use Rattle.unit_cuts.proofs.CutSofar.{leaves_told}
use Rattle.unit_cuts.proofs.cutting.enter_images.Goals as goal

pub enter_afters-requires-clause-placed : goal.enter_afters-requires-clause-placed
enter_afters-requires-clause-placed g c = placed_still c.args.cut.now.head c.args.volume.now c.enter_befores.new.volume c.enter_befores.ensures.counts.size c.requires.placed

pub enter_afters-requires-clause-places : goal.enter_afters-requires-clause-places
enter_afters-requires-clause-places g c =
    let h = c.args.cut.now.head in
    let v = c.args.volume.now in
    let b = c.enter_befores.new.volume in
    let first = c.in-Ok.ensures.enters in
    begun_on h v b (writes_keep h.marks.bi h.bi first.entries v b first.writes h c.requires.beside.befores) c.enter_befores.new.room.places c.requires.sequential (subst (λ (ps : List Place). AreBegun h v ps) (sym c.enter_befores.ensures.places) c.requires.places)

pub enter_afters-requires-clause-fit : goal.enter_afters-requires-clause-fit
enter_afters-requires-clause-fit g c = λ kept. fits_still _ c.args.cut.now.head.ai c.args.volume.now c.enter_befores.new.volume c.enter_befores.ensures.counts.size (c.requires.fit.afters kept)

pub returns-in-Err-clause-err : goal.returns-in-Err-clause-err
returns-in-Err-clause-err g c =
    let h = c.args.cut.now.head in
    let v = c.args.volume.now in
    leaves_told (IsTold h.marks.bi h.bi (content v.store)) (AllTold h v.catalog.ru (content v.store)) c.enter_befores.new.volume.store.disk (λ x told. told_befores h v.catalog.ru (content v.store) x told) c.in-Err.ensures.err

pub returns-in-Err-enter_afters-clause-err : goal.returns-in-Err-enter_afters-clause-err
returns-in-Err-enter_afters-clause-err g c =
    let h = c.args.cut.now.head in
    let v = c.args.volume.now in
    let b = c.enter_befores.new.volume in
    let first = c.in-Ok.ensures.enters in
    leaves_told (IsTold h.marks.ai h.ai (content b.store)) (AllTold h v.catalog.ru (content v.store)) c.enter_afters.new.volume.store.disk
    (λ x told. subst (λ (o : Option (List (List ℕ))). AllTold h v.catalog.ru o x) c.requires.idle.current
    (told_afters h v.catalog.ru first.entries v b x first.writes (subst (λ (o : Option (List (List ℕ))). IsTold h.marks.ai h.ai o x) (sym c.in-Ok.ensures.idle.current) told)))
    c.in-Err-enter_afters.ensures.err

pub returns-clause-enters : goal.returns-clause-enters
returns-clause-enters g c =
    let cut = c.args.cut.now in
    let h = cut.head in
    let v = c.args.volume.now in
    let b = c.enter_befores.new.volume in
    let first = c.in-Ok.ensures.enters in
    let second = c.in-Ok-enter_afters.ensures.enters in
    let tid = tid_of c.args.branch.now.tid in
    let serial = serial_of c.args.branch.now.serial in
    record {
      entries = record { gone = second.entries; images = first.entries; had = [] };
      writes = record { mid = b; befores = first.writes; afters = second.writes };
      tells = record {
        gone = λ kept. records_back h v b (writes_keep h.marks.bi h.bi first.entries v b first.writes h c.requires.beside.befores) (λ (m : Map). second.entries ≡ cut_entries tid serial cut.file empty_map (keys_cut h cut.from)) (second.tells kept);
        images = first.tells;
      };
      afters = second.span;
      befores = first.span;
      few_gone = second.few;
      few_images = first.few;
    }
