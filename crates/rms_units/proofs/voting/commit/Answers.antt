-- A unit is committed with a record in the log: the units that are left stay in order with the volume.
use Rattle.std.proofs.Common.{◌≡◌, ◌+◌, ◌-◌, ◌==◌, ℕ, Bool, List, Option, Some, length, not, ap, sym, subst, ◌∙◌}
use Rattle.std.specs.Prelude.{if◌then◌else◌}
use Rattle.journal_model.specs.Ring.{ring_size}
use Rattle.lmcp_log.specs.Log.{slot_of}
use Rattle.unit_entries.specs.log_laws.Slots.{settled_in}
use Rattle.std.specs.Prelude.{option_copied}
use Rattle.unit_journal.specs.Entries.{settled_entry}
use Rattle.unit_journal.specs.Groups.{Breaks}
use Rattle.unit_journal.specs.Settling.{entry_if, next_moment}
use Rattle.unit_table.specs.Units.{OpenUnit, unit_at}
use Rattle.unit_votes.specs.Voting.{MakesLogged, Settlement}
use Rattle.vms_base.specs.Ids.{serial_of, tid_of}
use Rattle.vms_model.specs.Transactions.{Commit}
use Rattle.volume.specs.State.{VolumeState}
use Rattle.volume_format.specs.declared.home.Ending.TheVariants as ending
use Rattle.rms_units.specs.Calls.{is_some_change}
use Rattle.rms_units.specs.State.{UnitsState, without_place}
use Rattle.rms_units.specs.Voting.{commit_of}
use Rattle.rms_units.proofs.RoomLemmas.{room_to_settle}
use Rattle.rms_units.proofs.SettledLemmas.{grows_next, has_change}
use Rattle.rms_units.proofs.VoteLemmas.{is_changed, order_committed_logged}
use Rattle.image_appends.specs.Settling.{AllHaveRoom}
use Rattle.rms_units.proofs.ImageSound.{all_have_room, stand_behind}
use Rattle.key_changes.proofs.unit_cuts.Outcomes.{of_some, the_one}
use Rattle.rms_units.proofs.voting.commit.Goals as goal

pub commit_logged-requires-clause-room : goal.commit_logged-requires-clause-room
commit_logged-requires-clause-room g c = λ changed.
    let v = c.args.volume.now in
    let o = unit_at c.args.table.now.places c.args.place in
    let one = the_one o c.requires.there in
    let positions = of_some (λ (x : OpenUnit). c.positions.result.now ≡ x.positions) o one.0 one.1 c.positions.ensures.value in
    room_to_settle c.args.table.now.places c.args.place one.0 (v.catalog.ru.end - v.catalog.ru.first) (ring_size v.catalog.ru) one.1
    (λ none. has_change c.positions.result.now (sym (ap not c.is_empty-has_changed.ensures) ∙ changed) (positions ∙ none)) c.requires.order.room

pub commit_logged-requires-clause-rooms : goal.commit_logged-requires-clause-rooms
commit_logged-requires-clause-rooms g c = λ changed.
    let v = c.args.volume.now in
    let o = unit_at c.args.table.now.places c.args.place in
    let one = the_one o c.requires.there in
    let s : UnitsState = record { units = c.args.table.now; locks = c.args.locks.now.locks } in
    let files = of_some (λ (x : OpenUnit). c.files.result.now ≡ x.files) o one.0 one.1 c.files.ensures in
    subst (λ (fs : List Bool). AllHaveRoom fs 48 v.catalog.heads v.store.disk) (sym files) (all_have_room c.args.place one.0 s v one.1 c.requires.order)

pub commit_logged-requires-clause-beside : goal.commit_logged-requires-clause-beside
commit_logged-requires-clause-beside g c = λ changed.
    let s : UnitsState = record { units = c.args.table.now; locks = c.args.locks.now.locks } in
    stand_behind c.files.result.now (length c.args.log.now) s c.args.volume.now c.requires.order c.requires.before

pub returns-in-Err-clause-grows : goal.returns-in-Err-clause-grows
returns-in-Err-clause-grows g c =
    let next = c.next_moment-moment.ensures ∙ ap (next_moment c.args.clock.0) c.home.ensures in
    grows_next c.args.clock.0 c.next_moment-moment.result.0 c.args.volume.now c.commit_logged.new.volume next c.commit_logged.ensures.grows

pub returns-clause-grows : goal.returns-clause-grows
returns-clause-grows g c =
    let next = c.next_moment-moment.ensures ∙ ap (next_moment c.args.clock.0) c.home.ensures in
    grows_next c.args.clock.0 c.next_moment-moment.result.0 c.args.volume.now c.commit_logged.new.volume next c.commit_logged.ensures.grows

pub returns-in-Err-clause-breaks : goal.returns-in-Err-clause-breaks
returns-in-Err-clause-breaks g c = λ u at.
    let v = c.args.volume.now in
    let w = c.commit_logged.new.volume in
    let b = c.args.branch.now in
    let o = unit_at c.args.table.now.places c.args.place in
    let same = of_some (λ (x : OpenUnit). (tid_of b.tid ≡ x.tid) × (serial_of b.serial ≡ x.serial)) o u at c.requires.unit in
    let s : UnitsState = record { units = c.args.table.now; locks = c.args.locks.now.locks } in
    let t : UnitsState = record { units = c.remove.new.self; locks = c.release_all.new.self.locks } in
    let next = c.next_moment-moment.ensures ∙ ap (next_moment c.args.clock.0) c.home.ensures in
    let positions = of_some (λ (x : OpenUnit). c.positions.result.now ≡ x.positions) o u at c.positions.ensures.value in
    let files = of_some (λ (x : OpenUnit). c.files.result.now ≡ x.files) o u at c.files.ensures in
    let changed = is_changed c.is_empty-has_changed.result c.positions.result.now u.positions c.is_empty-has_changed.ensures positions in
    let rec = slot_of (option_copied c.args.logged) in
    record {
      spent = (λ i. record { units = c.remove.ensures i; locks = (c.release_all.ensures.locks i).locks }) ∙ (λ i. without_place c.args.place (same.1 i) s);
      tid = b.tid;
      serial = b.serial;
      same_tid = same.0;
      same_serial = same.1;
      breaks = subst (λ (n : ℕ). Breaks (MakesLogged (commit_of u b.tid b.serial n t) rec c.args.log.now c.commit_logged.new.log v) v w) next
          (subst (λ (x : Settlement). Breaks (MakesLogged x rec c.args.log.now c.commit_logged.new.log v) v w)
          (λ i. record { files = files i; tid = b.tid; serial = b.serial; ending = ending.Commit; moment = c.next_moment-moment.result.0; entry = entry_if (changed i) (settled_entry (same.0 i) (same.1 i) Commit c.next_moment-moment.result.0); left = t.units.places })
          c.in-Err.ensures.breaks);
    }

pub returns-clause-order : goal.returns-clause-order
returns-clause-order g c =
    let v = c.args.volume.now in
    let w = c.commit_logged.new.volume in
    let b = c.args.branch.now in
    let o = unit_at c.args.table.now.places c.args.place in
    let one = the_one o c.requires.there in
    let u = one.0 in
    let same = of_some (λ (x : OpenUnit). (tid_of b.tid ≡ x.tid) × (serial_of b.serial ≡ x.serial)) o u one.1 c.requires.unit in
    let s : UnitsState = record { units = c.args.table.now; locks = c.args.locks.now.locks } in
    let t : UnitsState = record { units = c.remove.new.self; locks = c.release_all.new.self.locks } in
    let next = c.next_moment-moment.ensures ∙ ap (next_moment c.args.clock.0) c.home.ensures in
    let spent : t ≡ without_place c.args.place u.serial s = (λ i. record { units = c.remove.ensures i; locks = (c.release_all.ensures.locks i).locks }) ∙ (λ i. without_place c.args.place (same.1 i) s) in
    let moment = c.next_moment-moment.result.0 in
    let positions = of_some (λ (x : OpenUnit). c.positions.result.now ≡ x.positions) o u one.1 c.positions.ensures.value in
    let files = of_some (λ (x : OpenUnit). c.files.result.now ≡ x.files) o u one.1 c.files.ensures in
    let changed = is_changed c.is_empty-has_changed.result c.positions.result.now u.positions c.is_empty-has_changed.ensures positions in
    let rec = slot_of (option_copied c.args.logged) in
    order_committed_logged c.args.place u b.tid b.serial c.args.clock.0 moment c.args.log.now c.commit_logged.new.log s t v w one.1 next spent rec c.requires.order c.requires.early c.requires.clock
    (subst (λ (x : Settlement). MakesLogged x rec c.args.log.now c.commit_logged.new.log v w)
    (λ i. record { files = files i; tid = b.tid; serial = b.serial; ending = ending.Commit; moment = moment; entry = entry_if (changed i) (settled_entry (same.0 i) (same.1 i) Commit moment); left = t.units.places })
    c.in-Ok.ensures.makes)
    (c.in-Ok.ensures.end ∙ ap (λ (has : Bool). v.catalog.ru.end + (if has then 48 else 0)) changed) c.in-Ok.ensures.idle c.in-Ok.ensures.holds c.commit_logged.ensures.counts.size c.commit_logged.ensures.pool

pub returns-clause-commits : goal.returns-clause-commits
returns-clause-commits g c = λ u at.
    let v = c.args.volume.now in
    let w = c.commit_logged.new.volume in
    let b = c.args.branch.now in
    let o = unit_at c.args.table.now.places c.args.place in
    let same = of_some (λ (x : OpenUnit). (tid_of b.tid ≡ x.tid) × (serial_of b.serial ≡ x.serial)) o u at c.requires.unit in
    let s : UnitsState = record { units = c.args.table.now; locks = c.args.locks.now.locks } in
    let t : UnitsState = record { units = c.remove.new.self; locks = c.release_all.new.self.locks } in
    let moment = c.next_moment-moment.result.0 in
    let positions = of_some (λ (x : OpenUnit). c.positions.result.now ≡ x.positions) o u at c.positions.ensures.value in
    let files = of_some (λ (x : OpenUnit). c.files.result.now ≡ x.files) o u at c.files.ensures in
    let changed = is_changed c.is_empty-has_changed.result c.positions.result.now u.positions c.is_empty-has_changed.ensures positions in
    let rec = slot_of (option_copied c.args.logged) in
    record {
      spent = (λ i. record { units = c.remove.ensures i; locks = (c.release_all.ensures.locks i).locks }) ∙ (λ i. without_place c.args.place (same.1 i) s);
      tid = same.0;
      serial = same.1;
      moment = c.next_moment-moment.ensures ∙ ap (next_moment c.args.clock.0) c.home.ensures;
      slots = c.commit_logged.ensures.slots ∙ ap (λ x. settled_in x rec c.args.log.now) same.1;
      makes = subst (λ (x : Settlement). MakesLogged x rec c.args.log.now c.commit_logged.new.log v w)
          (λ i. record { files = files i; tid = b.tid; serial = b.serial; ending = ending.Commit; moment = moment; entry = entry_if (changed i) (settled_entry (same.0 i) (same.1 i) Commit moment); left = t.units.places })
          c.in-Ok.ensures.makes;
    }
