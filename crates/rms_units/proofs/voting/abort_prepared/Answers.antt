-- A prepared unit is aborted: the units that are left stay in order with the volume.
use Rattle.std.proofs.Common.{◌≡◌, ◌+◌, ◌≤◌, ◌^◌, ℕ, List, Option, Some, IfSome, length, ap, sym, subst, ◌∙◌}
use Rattle.std.specs.List.{All}
use Rattle.unit_entries.specs.log_laws.Slots.{forgotten}
use Rattle.unit_restarts.specs.unit_aborts.Aborting.{HasRoom, ImagesHaveRoom}
use Rattle.kept_files.specs.Keeping.{StandBehind}
use Rattle.unit_journal.specs.Settling.{next_moment}
use Rattle.unit_table.specs.Units.{OpenUnit, unit_at}
use Rattle.unit_votes.specs.Voting.{AbortsLogged, BreaksOffLogged}
use Rattle.vms_base.specs.Ids.{serial_of, tid_of}
use Rattle.rms_units.specs.Aborting.{abortion_of}
use Rattle.rms_units.specs.State.{UnitsState, without_place}
use Rattle.rms_units.proofs.AbortLemmas.{low_changes, may_abort, room_to_abort}
use Rattle.rms_units.proofs.SettledLemmas.{grows_next}
use Rattle.rms_units.proofs.VoteLemmas.{order_aborted_logged}
use Rattle.rms_units.proofs.ImageSound.{all_have_room, stand_behind}
use Rattle.key_changes.proofs.unit_cuts.Outcomes.{of_some, the_one}
use Rattle.rms_units.proofs.voting.abort_prepared.Goals as goal

pub abort_logged-requires-clause-may : goal.abort_logged-requires-clause-may
abort_logged-requires-clause-may g c =
    let s : UnitsState = record { units = c.args.table.now; locks = c.args.locks.now.locks } in
    may_abort s c.args.volume.now c.requires.order c.requires.early

pub abort_logged-requires-clause-low : goal.abort_logged-requires-clause-low
abort_logged-requires-clause-low g c =
    let s : UnitsState = record { units = c.args.table.now; locks = c.args.locks.now.locks } in
    let one = the_one (unit_at c.args.table.now.places c.args.place) c.requires.there in
    subst (λ (o : Option OpenUnit). IfSome o (λ (u : OpenUnit). All (λ p. p ≤ 2 ^ 62) u.positions)) (sym one.1) (low_changes c.args.place one.0 s c.args.volume.now one.1 c.requires.order c.requires.early)

pub abort_logged-requires-clause-room : goal.abort_logged-requires-clause-room
abort_logged-requires-clause-room g c =
    let s : UnitsState = record { units = c.args.table.now; locks = c.args.locks.now.locks } in
    let one = the_one (unit_at c.args.table.now.places c.args.place) c.requires.there in
    subst (λ (o : Option OpenUnit). IfSome o (λ (u : OpenUnit). HasRoom u.positions c.args.volume.now)) (sym one.1) (room_to_abort c.args.place one.0 s c.args.volume.now one.1 c.requires.order)

pub abort_logged-requires-clause-rooms : goal.abort_logged-requires-clause-rooms
abort_logged-requires-clause-rooms g c =
    let v = c.args.volume.now in
    let s : UnitsState = record { units = c.args.table.now; locks = c.args.locks.now.locks } in
    let one = the_one (unit_at c.args.table.now.places c.args.place) c.requires.there in
    subst (λ (o : Option OpenUnit). IfSome o (λ (u : OpenUnit). ImagesHaveRoom u.positions u.files v)) (sym one.1) (λ changed. all_have_room c.args.place one.0 s v one.1 c.requires.order)

pub abort_logged-requires-clause-beside : goal.abort_logged-requires-clause-beside
abort_logged-requires-clause-beside g c =
    let v = c.args.volume.now in
    let n = length c.args.log.now in
    let s : UnitsState = record { units = c.args.table.now; locks = c.args.locks.now.locks } in
    let one = the_one (unit_at c.args.table.now.places c.args.place) c.requires.there in
    subst (λ (o : Option OpenUnit). IfSome o (λ (u : OpenUnit). StandBehind u.files (584 + n) v.catalog.heads)) (sym one.1) (stand_behind one.0.files n s v c.requires.order c.requires.before)

pub returns-in-Err-clause-grows : goal.returns-in-Err-clause-grows
returns-in-Err-clause-grows g c =
    let next = c.next_moment-moment.ensures ∙ ap (next_moment c.args.clock.0) c.home.ensures in
    grows_next c.args.clock.0 c.next_moment-moment.result.0 c.args.volume.now c.abort_logged.new.volume next c.abort_logged.ensures.grows

pub returns-clause-grows : goal.returns-clause-grows
returns-clause-grows g c =
    let next = c.next_moment-moment.ensures ∙ ap (next_moment c.args.clock.0) c.home.ensures in
    grows_next c.args.clock.0 c.next_moment-moment.result.0 c.args.volume.now c.abort_logged.new.volume next c.abort_logged.ensures.grows

pub returns-in-Err-clause-breaks : goal.returns-in-Err-clause-breaks
returns-in-Err-clause-breaks g c = λ u at.
    let v = c.args.volume.now in
    let w = c.abort_logged.new.volume in
    let b = c.args.branch.now in
    let o = unit_at c.args.table.now.places c.args.place in
    let same = of_some (λ (x : OpenUnit). (tid_of b.tid ≡ x.tid) × (serial_of b.serial ≡ x.serial)) o u at c.requires.unit in
    let s : UnitsState = record { units = c.args.table.now; locks = c.args.locks.now.locks } in
    let t : UnitsState = record { units = c.abort_logged.new.units; locks = c.release_all.new.self.locks } in
    let next = c.next_moment-moment.ensures ∙ ap (next_moment c.args.clock.0) c.home.ensures in
    record {
      spent = (λ i. record { units = c.abort_logged.ensures.units i; locks = (c.release_all.ensures.locks i).locks }) ∙ (λ i. without_place c.args.place (same.1 i) s);
      tid = b.tid;
      serial = b.serial;
      same_tid = same.0;
      same_serial = same.1;
      breaks = subst (λ (n : ℕ). BreaksOffLogged (abortion_of u b.tid b.serial c.args.reason n t) c.args.log.now c.abort_logged.new.log v w) next
          (of_some (λ (x : OpenUnit). BreaksOffLogged (abortion_of x b.tid b.serial c.args.reason c.next_moment-moment.result.0 t) c.args.log.now c.abort_logged.new.log v w) o u at c.in-Err.ensures.breaks);
    }

pub returns-clause-order : goal.returns-clause-order
returns-clause-order g c =
    let v = c.args.volume.now in
    let w = c.abort_logged.new.volume in
    let b = c.args.branch.now in
    let o = unit_at c.args.table.now.places c.args.place in
    let one = the_one o c.requires.there in
    let u = one.0 in
    let same = of_some (λ (x : OpenUnit). (tid_of b.tid ≡ x.tid) × (serial_of b.serial ≡ x.serial)) o u one.1 c.requires.unit in
    let s : UnitsState = record { units = c.args.table.now; locks = c.args.locks.now.locks } in
    let t : UnitsState = record { units = c.abort_logged.new.units; locks = c.release_all.new.self.locks } in
    let next = c.next_moment-moment.ensures ∙ ap (next_moment c.args.clock.0) c.home.ensures in
    let spent : t ≡ without_place c.args.place u.serial s = (λ i. record { units = c.abort_logged.ensures.units i; locks = (c.release_all.ensures.locks i).locks }) ∙ (λ i. without_place c.args.place (same.1 i) s) in
    let moment = c.next_moment-moment.result.0 in
    order_aborted_logged c.args.place u b.tid b.serial c.args.clock.0 moment c.args.log.now c.abort_logged.new.log s t v w one.1 next spent c.args.reason c.requires.order c.requires.early c.requires.clock
    (of_some (λ (x : OpenUnit). AbortsLogged (abortion_of x b.tid b.serial c.args.reason moment t) c.args.log.now c.abort_logged.new.log v w) o u one.1 c.in-Ok.ensures.aborts)
    c.abort_logged.ensures.once c.in-Ok.ensures.idle c.in-Ok.ensures.holds c.abort_logged.ensures.counts.size c.abort_logged.ensures.pool

pub returns-clause-aborts : goal.returns-clause-aborts
returns-clause-aborts g c = λ u at.
    let v = c.args.volume.now in
    let w = c.abort_logged.new.volume in
    let b = c.args.branch.now in
    let o = unit_at c.args.table.now.places c.args.place in
    let same = of_some (λ (x : OpenUnit). (tid_of b.tid ≡ x.tid) × (serial_of b.serial ≡ x.serial)) o u at c.requires.unit in
    let s : UnitsState = record { units = c.args.table.now; locks = c.args.locks.now.locks } in
    let t : UnitsState = record { units = c.abort_logged.new.units; locks = c.release_all.new.self.locks } in
    record {
      spent = (λ i. record { units = c.abort_logged.ensures.units i; locks = (c.release_all.ensures.locks i).locks }) ∙ (λ i. without_place c.args.place (same.1 i) s);
      tid = same.0;
      serial = same.1;
      moment = c.next_moment-moment.ensures ∙ ap (next_moment c.args.clock.0) c.home.ensures;
      slots = c.in-Ok.ensures.slots ∙ ap (λ x. forgotten x c.args.log.now) same.1;
      aborts = of_some (λ (x : OpenUnit). AbortsLogged (abortion_of x b.tid b.serial c.args.reason c.next_moment-moment.result.0 t) c.args.log.now c.abort_logged.new.log v w) o u at c.in-Ok.ensures.aborts;
    }
