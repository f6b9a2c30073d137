use Rattle.std.proofs.Common.{◌≡◌, ℕ, suc, ◌+◌, ◌-◌, ◌*◌, ◌<◌, ◌≤◌, [], ◌∷◌, List, Some, length, map, ap, subst, sym, ◌∙◌, arith, inl, inr}
use Rattle.std.proofs.lemmas.List.{length-append, length-map}
use Rattle.careful_write.specs.Steps.{Quiet}
use Rattle.journal_format.specs.journal_model.Ring.{ring_size}
use Rattle.ru_journal.specs.Units.{unit_of}
use Rattle.unit_entries.specs.Opening.{AreAlike, AreFiledIn, AreFilesAt}
use Rattle.unit_entries.proofs.OpenLemmas.{alike_long, all_less, first_holds}
use Rattle.unit_table.specs.Units.{OpenUnit, Units, begun, is_active, no_units}
use Rattle.image_room.specs.Room.{AllSettlementsFit, IsTooFull}
use Rattle.vms_model.specs.Ids.{Id}
use Rattle.volume.specs.Catalogs.{IsSound}
use Rattle.volume.specs.State.{SameVolume, VolumeState}
use Rattle.unit_aborts.proofs.ImageLemmas.{fit_seen, full_seen}
use Rattle.unit_aborts.specs.Growing.{AreTold, GrowsBy}
use Rattle.unit_aborts.specs.Reopening.{AreFound, AreFoundIn, AreUnits, HasTaken, aborting, full, left_after, left_units, taken}
use Rattle.unit_aborts.proofs.GrowLemmas.{by_more, by_most, by_none}
use Rattle.unit_aborts.proofs.TakeLemmas.{left_begins, may_abort, may_begin, next_alike, none_alike, one_fewer, quiet_on, quiet_there, rest_alike, take_read}
use Rattle.unit_aborts.proofs.reopening.reopen_units.Goals as goal

pub returns-then-not-has_room-clause-reopens : goal.returns-then-not-has_room-clause-reopens
returns-then-not-has_room-clause-reopens g c =
    let v = c.args.volume.now in
    let us = c.read_units.new.state.units in
    let are = c.in-Ok-true.ensures.units c.in-Ok-true.field-0-test in
    let count : length c.units.result.now ≡ length us = sym (length-map c.units.result.now unit_of) ∙ ap length c.units.ensures.value in
    let same = c.in-Ok-true.ensures.same in
    let no = subst (λ (x : VolumeState). ring_size x.catalog.ru < x.catalog.ru.end - x.catalog.ru.first + 48 * length c.units.result.now) same (c.has_room.ensures.no c.if-not-has_room.true) in
    full us are (inl (omega (arith, no, count))) same c.clear.ensures.items (ap begun c.clear-then-not-has_room.ensures)

pub images_fit-requires : goal.images_fit-requires
images_fit-requires g c =
    let node = c.requires.may.may.node in
    record { sound = (node, subst (λ (x : VolumeState). IsSound node x.store.disk.size x.catalog) (sym c.in-Ok-true.ensures.same) c.requires.may.may.sound) }

pub returns-then-not-images_fit-clause-reopens : goal.returns-then-not-images_fit-clause-reopens
returns-then-not-images_fit-clause-reopens g c =
    let us = c.read_units.new.state.units in
    let t = c.read_units.new.units in
    let same = c.in-Ok-true.ensures.same in
    let whole = c.in-Ok-true.field-0-test in
    let no = subst (λ (x : VolumeState). IsTooFull t.places x.catalog.heads) same (c.images_fit.ensures.no c.if-not-images_fit.true) in
    full us (c.in-Ok-true.ensures.units whole) (inr (begun t, c.in-Ok-true.ensures.alike whole, c.in-Ok-true.ensures.found whole, c.in-Ok-true.ensures.files whole, full_seen t c.args.volume.now.catalog.heads c.stand_in_order.ensures no)) same
    c.clear.ensures.items (ap begun c.clear-then-not-images_fit.ensures)

-- no unit is left
none_fit : (t : Units) (v w : VolumeState) → SameVolume v w → t ≡ no_units → AllSettlementsFit [] v.catalog.heads → AllSettlementsFit (map Some (begun t)) w.catalog.heads
none_fit t v w same none fit = subst (λ (x : Units). AllSettlementsFit (map Some (begun x)) w.catalog.heads) (sym none) (subst (λ (x : VolumeState). AllSettlementsFit [] x.catalog.heads) (sym same) fit)

pub returns-in-Ok-false-clause-images : goal.returns-in-Ok-false-clause-images
returns-in-Ok-false-clause-images g c = none_fit c.clear-in-Ok-false.new.self c.args.volume.now c.read_units.new.volume c.in-Ok-false.ensures.same c.clear-in-Ok-false.ensures c.requires.may.images

pub returns-then-not-has_room-clause-images : goal.returns-then-not-has_room-clause-images
returns-then-not-has_room-clause-images g c = none_fit c.clear-then-not-has_room.new.self c.args.volume.now c.read_units.new.volume c.in-Ok-true.ensures.same c.clear-then-not-has_room.ensures c.requires.may.images

pub returns-then-not-images_fit-clause-images : goal.returns-then-not-images_fit-clause-images
returns-then-not-images_fit-clause-images g c = none_fit c.clear-then-not-images_fit.new.self c.args.volume.now c.read_units.new.volume c.in-Ok-true.ensures.same c.clear-then-not-images_fit.ensures c.requires.may.images

pub returns-clause-images : goal.returns-clause-images
returns-clause-images g c = c.loop-place.invariant.may.images

pub loop-place-init : goal.loop-place-init
loop-place-init g c =
    let v = c.args.volume.now in
    let us = c.read_units.new.state.units in
    let same = c.in-Ok-true.ensures.same in
    let alike = c.in-Ok-true.ensures.alike c.in-Ok-true.field-0-test in
    let long = alike_long us (begun c.read_units.new.units) alike in
    let count : length c.units.result.now ≡ length us = sym (length-map c.units.result.now unit_of) ∙ ap length c.units.ensures.value in
    let few = c.units.ensures.few in
    let yes = subst (λ (x : VolumeState). x.catalog.ru.end - x.catalog.ru.first + 48 * length c.units.result.now ≤ ring_size x.catalog.ru) same (c.has_room.ensures.yes c.if-not-has_room.false) in
    let none = ap length c.clear.ensures.items in
    let wide = c.clear.ensures.capacity in
    let places = c.requires.places in
    let t = c.read_units.new.units in
    let fits = fit_seen t v.catalog.heads c.stand_in_order.ensures (subst (λ (x : VolumeState). AllSettlementsFit t.places x.catalog.heads) same (c.images_fit.ensures.yes c.if-not-images_fit.false)) in
    record {
      taken = subst (λ (n : ℕ). HasTaken c.args.clock.0 us n v c.read_units.new.volume c.clear.new.self.items) (sym none) (same, c.clear.ensures.items);
      alike = subst (λ (n : ℕ). AreAlike (left_after n us) (begun c.read_units.new.units)) (sym none) alike;
      found = c.in-Ok-true.ensures.found c.in-Ok-true.field-0-test;
      filed = c.in-Ok-true.ensures.files c.in-Ok-true.field-0-test;
      may = take_read v.catalog.ru.first (begun c.read_units.new.units) c.args.clock.0 v c.read_units.new.volume same
          (may_begin (begun c.read_units.new.units) c.args.clock.0 v c.requires.may (c.in-Ok-true.ensures.within c.in-Ok-true.field-0-test) (c.in-Ok-true.ensures.ascends c.in-Ok-true.field-0-test) (omega (arith, long, few)) (omega (arith, yes, long, count)) (subst (λ (x : VolumeState). length x.catalog.heads ≡ 64) same c.images_fit.ensures.whole) fits);
      places = omega (arith, places, wide);
      few = omega (arith, none, long, few);
      grows = by_none (length c.clear.new.self.items) c.args.clock.0 v c.read_units.new.volume c.read_units.ensures.kept;
      told = subst (AreTold c.read_units.new.volume) (sym c.clear.ensures.items) tt;
      heads = ap (λ (x : VolumeState). length x.catalog.heads) same;
      quiet = subst (λ (x : VolumeState). Quiet v.store.disk x.store.disk) (sym same) (quiet_there v.store.disk);
      pool = ap (λ (x : VolumeState). x.store.pool) same;
    }

pub abort_next-requires-clause-may : goal.abort_next-requires-clause-may
abort_next-requires-clause-may g c = (c.args.volume.now.catalog.ru.first, c.loop-place.invariant.may)

pub abort_next-requires-clause-places : goal.abort_next-requires-clause-places
abort_next-requires-clause-places g c =
    let next = c.in-Some.ensures.found.1 in
    let more = one_fewer is_active (begun c.loop-place.units) next.unit next.first in
    let few = c.loop-place.invariant.few in
    let places = c.loop-place.invariant.places in
    omega (arith, more, few, places)

pub returns-in-Err-abort_next-clause-fails : goal.returns-in-Err-abort_next-clause-fails
returns-in-Err-abort_next-clause-fails g c =
    let v = c.args.volume.now in
    let us = c.read_units.new.state.units in
    let n = length c.loop-place.out.items in
    let next = c.in-Some.ensures.found.1 in
    let ws = begun c.loop-place.units in
    let r = next_alike (left_after n us) ws next.unit c.loop-place.invariant.alike next.first in
    let u = r.0 in
    let breaks = c.in-Err-abort_next.ensures.breaks next.unit next.first in
    let rest = subst (AreAlike (left_after (suc n) us)) (sym c.abort_next.ensures.less) (rest_alike (left_after n us) ws c.loop-place.invariant.alike) in
    aborting us n c.loop-place.volume u (c.in-Ok-true.ensures.units c.in-Ok-true.field-0-test) r.1 (subst (HasTaken c.args.clock.0 us n v c.loop-place.volume) (sym c.in-Err-abort_next.ensures.same) c.loop-place.invariant.taken) record {
      positions = next.unit.positions;
      found = subst (λ (x : Id). AreFound x v next.unit.positions) r.2.serial (first_holds (λ (w : OpenUnit). AreFound w.serial v w.positions) is_active ws next.unit c.loop-place.invariant.found next.first);
      files = next.unit.files;
      filed = first_holds (λ (w : OpenUnit). AreFilesAt v w.positions w.files) is_active ws next.unit c.loop-place.invariant.filed next.first;
      room = breaks.room;
      tid = breaks.tid;
      serial = breaks.serial;
      same_tid = breaks.same_tid ∙ r.2.tid;
      same_serial = breaks.same_serial ∙ r.2.serial;
      breaks = breaks.breaks (left_units (left_after (suc n) us)) (left_begins (left_after (suc n) us) (begun c.abort_next.new.units) rest);
    }

pub returns-in-Err-abort_next-clause-few : goal.returns-in-Err-abort_next-clause-few
returns-in-Err-abort_next-clause-few g c = let few = c.loop-place.invariant.few in let same = ap length c.in-Err-abort_next.ensures.same in omega (arith, few, same)

pub returns-in-Err-abort_next-clause-grows : goal.returns-in-Err-abort_next-clause-grows
returns-in-Err-abort_next-clause-grows g c =
    let next = c.in-Some.ensures.found.1 in
    let more = one_fewer is_active (begun c.loop-place.units) next.unit next.first in
    let few = c.loop-place.invariant.few in
    by_most 64 c.args.clock.0 c.args.volume.now c.abort_next.new.volume (length c.loop-place.out.items + 1) (omega (arith, more, few))
    (by_more (length c.loop-place.out.items) c.args.clock.0 c.args.volume.now c.loop-place.volume c.abort_next.new.volume c.loop-place.invariant.grows c.abort_next.ensures.grows)

pub loop-place-preserved : goal.loop-place-preserved
loop-place-preserved g c =
    let v = c.args.volume.now in
    let us = c.read_units.new.state.units in
    let out = c.loop-place.out.items in
    let new = c.abort_next.new.out.items in
    let n = length out in
    let next = c.in-Some.ensures.found.1 in
    let ws = begun c.loop-place.units in
    let r = next_alike (left_after n us) ws next.unit c.loop-place.invariant.alike next.first in
    let undoes = c.in-Ok.ensures.undoes next.unit next.first in
    let rest = subst (AreAlike (left_after (suc n) us)) (sym c.abort_next.ensures.less) (rest_alike (left_after n us) ws c.loop-place.invariant.alike) in
    let long : length new ≡ suc n = (let e = ap length undoes.told in let a = length-append out (undoes.one ∷ []) in omega (arith, e, a)) in
    let more = one_fewer is_active ws next.unit next.first in
    let less = ap length c.abort_next.ensures.less in
    let places = c.loop-place.invariant.places in
    let wide = c.abort_next.ensures.places in
    let few = c.loop-place.invariant.few in
    let one : n + 1 ≡ suc n = omega arith in
    record {
      taken = subst (λ (k : ℕ). HasTaken c.args.clock.0 us k v c.abort_next.new.volume new) (sym long) (
        c.loop-place.volume,
        out,
        r.0,
        undoes.one,
        c.loop-place.invariant.taken,
        r.1,
        record {
          positions = next.unit.positions;
          found = subst (λ (x : Id). AreFound x v next.unit.positions) r.2.serial (first_holds (λ (w : OpenUnit). AreFound w.serial v w.positions) is_active ws next.unit c.loop-place.invariant.found next.first);
          files = next.unit.files;
          filed = first_holds (λ (w : OpenUnit). AreFilesAt v w.positions w.files) is_active ws next.unit c.loop-place.invariant.filed next.first;
          room = undoes.room;
          tid = undoes.tid ∙ r.2.tid;
          serial = undoes.serial ∙ r.2.serial;
          moment = undoes.moment;
          aborts = undoes.aborts (left_units (left_after (suc n) us)) (left_begins (left_after (suc n) us) (begun c.abort_next.new.units) rest);
          idle = undoes.idle;
        },
        undoes.told,
      );
      alike = subst (λ (k : ℕ). AreAlike (left_after k us) (begun c.abort_next.new.units)) (sym long) rest;
      found = subst (AreFoundIn v) (sym c.abort_next.ensures.less) (all_less (λ (w : OpenUnit). AreFound w.serial v w.positions) is_active ws c.loop-place.invariant.found);
      filed = subst (AreFiledIn v) (sym c.abort_next.ensures.less) (all_less (λ (w : OpenUnit). AreFilesAt v w.positions w.files) is_active ws c.loop-place.invariant.filed);
      may = c.in-Ok.ensures.may v.catalog.ru.first c.loop-place.invariant.may;
      places = omega (arith, places, wide);
      few = omega (arith, few, more, less, long);
      grows = subst (λ (k : ℕ). GrowsBy k c.args.clock.0 v c.abort_next.new.volume) (one ∙ sym long) (by_more n c.args.clock.0 v c.loop-place.volume c.abort_next.new.volume c.loop-place.invariant.grows c.abort_next.ensures.grows);
      told = c.abort_next.ensures.told c.loop-place.invariant.told;
      heads = c.in-Ok.ensures.heads ∙ c.loop-place.invariant.heads;
      quiet = quiet_on v.store.disk c.loop-place.volume.store.disk c.abort_next.new.volume.store.disk c.loop-place.invariant.quiet c.in-Ok.ensures.counts;
      pool = c.abort_next.ensures.pool ∙ c.loop-place.invariant.pool;
    }

pub loop-place-smaller : goal.loop-place-smaller
loop-place-smaller g c =
    let next = c.in-Some.ensures.found.1 in
    let more = one_fewer is_active (begun c.loop-place.units) next.unit next.first in
    let less = ap length c.abort_next.ensures.less in
    omega (arith, more, less)

pub returns-clause-reopens : goal.returns-clause-reopens
returns-clause-reopens g c =
    let us = c.read_units.new.state.units in
    let n = length c.loop-place.out.items in
    taken us n (c.in-Ok-true.ensures.units c.in-Ok-true.field-0-test) c.loop-place.invariant.taken (none_alike (left_after n us) (begun c.loop-place.units) c.loop-place.invariant.alike c.in_default.ensures.none)
    (record { alike = c.loop-place.invariant.alike; found = c.loop-place.invariant.found; filed = c.loop-place.invariant.filed; prepared = c.in_default.ensures.none })

pub returns-clause-room : goal.returns-clause-room
returns-clause-room g c = let m = c.loop-place.invariant.may in let a = m.room in let b = m.behind in omega (arith, a, b)

pub returns-clause-ascends : goal.returns-clause-ascends
returns-clause-ascends g c = c.loop-place.invariant.may.positions

pub returns-clause-may : goal.returns-clause-may
returns-clause-may g c = may_abort c.args.volume.now.catalog.ru.first (begun c.loop-place.units) c.args.clock.0 c.loop-place.volume c.loop-place.invariant.may
