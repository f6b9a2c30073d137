use Rattle.std.proofs.Common.{◌≡◌, ℕ, ◌+◌, ◌≤◌, ◌^◌, List, Option, Some, IfSome, IsSome, map, option_map, refl, sym, ap, subst, ◌∙◌, arith}
use Rattle.std.specs.List.{All}
use Rattle.unit_journal.specs.Settling.{next_moment}
use Rattle.unit_table.specs.Units.{OpenUnit, begun, earliest, first_that, is_active, unit_at, without_first}
use Rattle.vms_base.specs.Ids.{serial_of, tid_of}
use Rattle.vms_model.specs.Ids.{Id}
use Rattle.volume.specs.declared.catalog.Catalog.{Catalog}
use Rattle.volume.specs.State.{VolumeState}
use Rattle.unit_aborts.specs.Aborting.{Aborts, BreaksOff, HasRoom, ImagesHaveRoom}
use Rattle.unit_aborts.specs.Growing.{AreTold, GrowsBy}
use Rattle.unit_aborts.specs.Reopening.{MayTake, failed_at}
use Rattle.unit_aborts.proofs.GrowLemmas.{by_one, told_more, told_on}
use Rattle.unit_aborts.proofs.TakeLemmas.{aborts_as, breaks_as, left_seen, low_taken, may_abort, next_may, order_gone, room_taken, rooms_taken}
use Rattle.unit_aborts.proofs.reopening.abort_next.Goals as goal

one_id : (a b : Id) → ◌≡◌ {A = Option Id} (Some a) (Some b) → a ≡ b
one_id a b e = cc

one_unit : (a b : OpenUnit) → ◌≡◌ {A = Option OpenUnit} (Some a) (Some b) → a ≡ b
one_unit a b e = cc

pub abort_unit-requires-clause-unit : goal.abort_unit-requires-clause-unit
abort_unit-requires-clause-unit g c = subst IsSome (sym c.requires.next.there) refl

pub abort_unit-requires-clause-may : goal.abort_unit-requires-clause-may
abort_unit-requires-clause-may g c = may_abort c.requires.may.0 (begun c.args.units.now) c.args.clock.0 c.args.volume.now c.requires.may.1

pub abort_unit-requires-clause-low : goal.abort_unit-requires-clause-low
abort_unit-requires-clause-low g c =
    subst (λ (o : Option OpenUnit). IfSome o (λ (u : OpenUnit). All (λ p. p ≤ 2 ^ 62) u.positions)) (sym c.requires.next.there)
    (low_taken c.requires.may.0 (begun c.args.units.now) c.args.clock.0 c.args.volume.now c.requires.may.1 c.requires.next.unit c.requires.next.first)

pub abort_unit-requires-clause-room : goal.abort_unit-requires-clause-room
abort_unit-requires-clause-room g c =
    subst (λ (o : Option OpenUnit). IfSome o (λ (u : OpenUnit). HasRoom u.positions c.args.volume.now)) (sym c.requires.next.there)
    (room_taken c.requires.may.0 (begun c.args.units.now) c.args.clock.0 c.args.volume.now c.requires.may.1 c.requires.next.unit c.requires.next.first)

pub abort_unit-requires-clause-rooms : goal.abort_unit-requires-clause-rooms
abort_unit-requires-clause-rooms g c =
    subst (λ (o : Option OpenUnit). IfSome o (λ (u : OpenUnit). ImagesHaveRoom u.positions u.files c.args.volume.now)) (sym c.requires.next.there)
    (rooms_taken c.requires.may.0 (begun c.args.units.now) c.args.clock.0 c.args.volume.now c.requires.may.1 c.requires.next.unit c.requires.next.first)

pub returns-in-Err-clause-less : goal.returns-in-Err-clause-less
returns-in-Err-clause-less g c = ap begun c.abort_unit.ensures.units ∙ c.requires.next.gone

pub returns-clause-less : goal.returns-clause-less
returns-clause-less g c = ap begun c.abort_unit.ensures.units ∙ c.requires.next.gone

pub returns-in-Err-clause-breaks : goal.returns-in-Err-clause-breaks
returns-in-Err-clause-breaks g c = λ u at.
    let v = c.args.volume.now in
    let w = c.abort_unit.new.volume in
    let b = c.in_Some-branch.branch in
    let next = c.requires.next in
    let same = one_unit next.unit u (sym next.first ∙ at) in
    let order = order_gone c.args.units.now c.abort_unit.new.units c.args.place c.stand_in_order.ensures c.requires.place (subst IsSome (sym next.there) refl) c.abort_unit.ensures.units in
    let breaks = subst (λ (o : Option OpenUnit). IfSome o (λ (x : OpenUnit). BreaksOff (failed_at x.positions x.files b.tid b.serial c.next_moment-moment.result.0 c.abort_unit.new.units.places) v w)) next.there c.in-Err.ensures.breaks in
    let moment = c.next_moment-moment.ensures ∙ ap (next_moment c.args.clock.0) c.home.ensures in
    record {
      room = rooms_taken c.requires.may.0 (begun c.args.units.now) c.args.clock.0 v c.requires.may.1 u at;
      tid = b.tid;
      serial = b.serial;
      same_tid = one_id (tid_of b.tid) next.unit.tid (c.in_Some-branch.ensures.tid ∙ ap (option_map (λ (x : OpenUnit). x.tid)) next.there) ∙ ap (λ (x : OpenUnit). x.tid) same;
      same_serial = one_id (serial_of b.serial) next.unit.serial (c.in_Some-branch.ensures.serial ∙ ap (option_map (λ (x : OpenUnit). x.serial)) next.there) ∙ ap (λ (x : OpenUnit). x.serial) same;
      breaks = λ others is.
          breaks_as u.positions u.files b.tid b.serial (next_moment c.args.clock.0 v.catalog.home) c.abort_unit.new.units.places others v w (left_seen c.abort_unit.new.units order ∙ sym is)
          (subst (λ (n : ℕ). BreaksOff (failed_at u.positions u.files b.tid b.serial n c.abort_unit.new.units.places) v w) moment
          (subst (λ (x : OpenUnit). BreaksOff (failed_at x.positions x.files b.tid b.serial c.next_moment-moment.result.0 c.abort_unit.new.units.places) v w) same breaks));
    }

pub returns-clause-undoes : goal.returns-clause-undoes
returns-clause-undoes g c = λ u at.
    let v = c.args.volume.now in
    let w = c.abort_unit.new.volume in
    let b = c.in_Some-branch.branch in
    let next = c.requires.next in
    let same = one_unit next.unit u (sym next.first ∙ at) in
    let order = order_gone c.args.units.now c.abort_unit.new.units c.args.place c.stand_in_order.ensures c.requires.place (subst IsSome (sym next.there) refl) c.abort_unit.ensures.units in
    let aborts = subst (λ (o : Option OpenUnit). IfSome o (λ (x : OpenUnit). Aborts (failed_at x.positions x.files b.tid b.serial c.next_moment-moment.result.0 c.abort_unit.new.units.places) v w)) next.there c.in-Ok.ensures.aborts in
    record {
      one = record { tid = b.tid; serial = b.serial; moment = c.next_moment-moment.result };
      room = rooms_taken c.requires.may.0 (begun c.args.units.now) c.args.clock.0 v c.requires.may.1 u at;
      tid = one_id (tid_of b.tid) next.unit.tid (c.in_Some-branch.ensures.tid ∙ ap (option_map (λ (x : OpenUnit). x.tid)) next.there) ∙ ap (λ (x : OpenUnit). x.tid) same;
      serial = one_id (serial_of b.serial) next.unit.serial (c.in_Some-branch.ensures.serial ∙ ap (option_map (λ (x : OpenUnit). x.serial)) next.there) ∙ ap (λ (x : OpenUnit). x.serial) same;
      moment = c.next_moment-moment.ensures ∙ ap (next_moment c.args.clock.0) c.home.ensures;
      aborts = λ others is.
          aborts_as u.positions u.files b.tid b.serial c.next_moment-moment.result.0 c.abort_unit.new.units.places others v w (left_seen c.abort_unit.new.units order ∙ sym is)
          (subst (λ (x : OpenUnit). Aborts (failed_at x.positions x.files b.tid b.serial c.next_moment-moment.result.0 c.abort_unit.new.units.places) v w) same aborts);
      idle = c.in-Ok.ensures.idle;
      told = c.push_reserved.ensures.items;
    }

pub returns-clause-may : goal.returns-clause-may
returns-clause-may g c = λ start may.
    let v = c.args.volume.now in
    let w = c.abort_unit.new.volume in
    let b = c.in_Some-branch.branch in
    let next = c.requires.next in
    let order = order_gone c.args.units.now c.abort_unit.new.units c.args.place c.stand_in_order.ensures c.requires.place (subst IsSome (sym next.there) refl) c.abort_unit.ensures.units in
    let less = ap begun c.abort_unit.ensures.units ∙ next.gone in
    let aborts = subst (λ (o : Option OpenUnit). IfSome o (λ (x : OpenUnit). Aborts (failed_at x.positions x.files b.tid b.serial c.next_moment-moment.result.0 c.abort_unit.new.units.places) v w)) next.there c.in-Ok.ensures.aborts in
    let left = aborts_as next.unit.positions next.unit.files b.tid b.serial c.next_moment-moment.result.0 c.abort_unit.new.units.places (map Some (without_first is_active (begun c.args.units.now))) v w
    (left_seen c.abort_unit.new.units order ∙ ap (λ (us : List OpenUnit). earliest (map Some us)) less) aborts in
    subst (λ (us : List OpenUnit). MayTake start us c.args.clock.0 w) (sym less)
    (next_may start (begun c.args.units.now) next.unit c.args.clock.0 v w next.unit.positions b.tid b.serial c.next_moment-moment.result.0 may next.first (c.next_moment-moment.ensures ∙ ap (next_moment c.args.clock.0) c.home.ensures)
    left c.abort_unit.ensures.once.end c.in-Ok.ensures.idle c.in-Ok.ensures.holds c.abort_unit.ensures.counts.size c.abort_unit.ensures.pool)

pub returns-clause-heads : goal.returns-clause-heads
returns-clause-heads g c =
    let start = c.requires.may.0 in
    let may = c.requires.may.1 in
    let v = c.args.volume.now in
    let w = c.abort_unit.new.volume in
    let b = c.in_Some-branch.branch in
    let next = c.requires.next in
    let order = order_gone c.args.units.now c.abort_unit.new.units c.args.place c.stand_in_order.ensures c.requires.place (subst IsSome (sym next.there) refl) c.abort_unit.ensures.units in
    let less = ap begun c.abort_unit.ensures.units ∙ next.gone in
    let aborts = subst (λ (o : Option OpenUnit). IfSome o (λ (x : OpenUnit). Aborts (failed_at x.positions x.files b.tid b.serial c.next_moment-moment.result.0 c.abort_unit.new.units.places) v w)) next.there c.in-Ok.ensures.aborts in
    let left = aborts_as next.unit.positions next.unit.files b.tid b.serial c.next_moment-moment.result.0 c.abort_unit.new.units.places (map Some (without_first is_active (begun c.args.units.now))) v w
    (left_seen c.abort_unit.new.units order ∙ ap (λ (us : List OpenUnit). earliest (map Some us)) less) aborts in
    (next_may start (begun c.args.units.now) next.unit c.args.clock.0 v w next.unit.positions b.tid b.serial c.next_moment-moment.result.0 may next.first (c.next_moment-moment.ensures ∙ ap (next_moment c.args.clock.0) c.home.ensures)
    left c.abort_unit.ensures.once.end c.in-Ok.ensures.idle c.in-Ok.ensures.holds c.abort_unit.ensures.counts.size c.abort_unit.ensures.pool).long ∙ sym may.long

pub returns-in-Err-clause-grows : goal.returns-in-Err-clause-grows
returns-in-Err-clause-grows g c = by_one c.args.clock.0 c.next_moment-moment.result.0 c.args.volume.now c.abort_unit.new.volume (c.next_moment-moment.ensures ∙ ap (next_moment c.args.clock.0) c.home.ensures) c.abort_unit.ensures.grows c.abort_unit.ensures.once

pub returns-clause-grows : goal.returns-clause-grows
returns-clause-grows g c = by_one c.args.clock.0 c.next_moment-moment.result.0 c.args.volume.now c.abort_unit.new.volume (c.next_moment-moment.ensures ∙ ap (next_moment c.args.clock.0) c.home.ensures) c.abort_unit.ensures.grows c.abort_unit.ensures.once

pub returns-in-Err-clause-told : goal.returns-in-Err-clause-told
returns-in-Err-clause-told g c = λ all.
    let grows = by_one c.args.clock.0 c.next_moment-moment.result.0 c.args.volume.now c.abort_unit.new.volume (c.next_moment-moment.ensures ∙ ap (next_moment c.args.clock.0) c.home.ensures) c.abort_unit.ensures.grows c.abort_unit.ensures.once in
    told_on c.args.volume.now c.abort_unit.new.volume c.args.out.now.items grows.later all

pub returns-clause-told : goal.returns-clause-told
returns-clause-told g c = λ all.
    let v = c.args.volume.now in
    let w = c.abort_unit.new.volume in
    let b = c.in_Some-branch.branch in
    let next = c.requires.next in
    let grows = by_one c.args.clock.0 c.next_moment-moment.result.0 v w (c.next_moment-moment.ensures ∙ ap (next_moment c.args.clock.0) c.home.ensures) c.abort_unit.ensures.grows c.abort_unit.ensures.once in
    let aborts = subst (λ (o : Option OpenUnit). IfSome o (λ (x : OpenUnit). Aborts (failed_at x.positions x.files b.tid b.serial c.next_moment-moment.result.0 c.abort_unit.new.units.places) v w)) next.there c.in-Ok.ensures.aborts in
    let last : w.catalog.home.greatest_moment.0 ≡ c.next_moment-moment.result.0 = ap (λ (k : Catalog). k.home.greatest_moment.0) aborts.makes.settles.catalog in
    subst (AreTold w) (sym c.push_reserved.ensures.items)
    (told_more w c.args.out.now.items (record { tid = b.tid; serial = b.serial; moment = c.next_moment-moment.result }) (omega (arith, last)) (told_on v w c.args.out.now.items grows.later all))
