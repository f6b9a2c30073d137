-- A unit votes.
use Rattle.std.proofs.Common.{◌≡◌, ◌+◌, ◌-◌, ◌∙◌, ℕ, Bool, true, false, List, Option, Some, IfSome, not, refl, sym, ap, subst, inl, inr}
use Rattle.std.specs.Prelude.{◌⊎◌, if◌then◌else◌}
use Rattle.journal_model.specs.Ring.{ring_size}
use Rattle.unit_entries.specs.log_laws.Slots.{has_free, has_slot, put_in}
use Rattle.unit_journal.specs.Groups.{Breaks}
use Rattle.unit_table.specs.Units.{OpenUnit, Units, prepared_unit, unit_at, with_unit}
use Rattle.unit_votes.specs.Voting.{vote_entry, vote_record}
use Rattle.vms_base.specs.Ids.{serial_of, tid_of}
use Rattle.vms_model.specs.Ids.{Id}
use Rattle.volume.specs.State.{VolumeState}
use Rattle.rms_units.specs.State.{UnitsState, without_place}
use Rattle.rms_units.specs.Voting.{votes_yes}
use Rattle.rms_units.proofs.RoomLemmas.{room_to_settle}
use Rattle.rms_units.proofs.SettledLemmas.{has_change}
use Rattle.rms_units.proofs.VoteLemmas.{is_changed, order_spent, order_voted, vote_of}
use Rattle.key_changes.proofs.unit_cuts.Outcomes.{of_some, the_one}
use Rattle.rms_units.proofs.voting.vote.Goals as goal

pub enter_vote-requires-clause-room : goal.enter_vote-requires-clause-room
enter_vote-requires-clause-room g c = λ changed.
    let v = c.args.volume.now in
    let o = unit_at c.args.table.now.places c.args.place in
    let one = the_one o c.requires.there in
    let positions = of_some (λ (x : OpenUnit). c.positions-2.result.now ≡ x.positions) o one.0 one.1 c.positions-2.ensures.value in
    room_to_settle c.args.table.now.places c.args.place one.0 (v.catalog.ru.end - v.catalog.ru.first) (ring_size v.catalog.ru) one.1
    (λ none. has_change c.positions-2.result.now (sym (ap not c.is_empty-has_changed.ensures) ∙ changed) (positions ∙ none)) c.requires.order.room

pub enter_vote-requires-clause-may : goal.enter_vote-requires-clause-may
enter_vote-requires-clause-may g c =
    let b = c.args.branch.now in
    let o = unit_at c.args.table.now.places c.args.place in
    let one = the_one o c.requires.there in
    let u = one.0 in
    let same = of_some (λ (x : OpenUnit). (tid_of b.tid ≡ x.tid) × (serial_of b.serial ≡ x.serial)) o u one.1 c.requires.unit in
    let positions = of_some (λ (x : OpenUnit). c.positions.result.now ≡ x.positions) o u one.1 c.positions.ensures.value in
    let yes : votes_yes u.positions c.args.rms.now ≡ true = ap (λ (ps : List ℕ). votes_yes ps c.args.rms.now) (sym positions) ∙ sym c.votes_yes.ensures ∙ c.if-not-votes_yes.false in
    let slot = of_some (λ (x : OpenUnit). votes_yes x.positions c.args.rms.now ≡ true → (has_slot x.serial c.args.log.now ≡ true) ⊎ (has_free c.args.log.now ≡ true)) o u one.1 c.requires.slot in
    record { own = refl; form = refl; slot = subst (λ (x : Id). (has_slot x c.args.log.now ≡ true) ⊎ (has_free c.args.log.now ≡ true)) (sym same.1) (slot yes) }

pub returns-then-not-votes_yes-clause-order : goal.returns-then-not-votes_yes-clause-order
returns-then-not-votes_yes-clause-order g c =
    let b = c.args.branch.now in
    let o = unit_at c.args.table.now.places c.args.place in
    let one = the_one o c.requires.there in
    let u = one.0 in
    let same = of_some (λ (x : OpenUnit). (tid_of b.tid ≡ x.tid) × (serial_of b.serial ≡ x.serial)) o u one.1 c.requires.unit in
    let s : UnitsState = record { units = c.args.table.now; locks = c.args.locks.now.locks } in
    let t : UnitsState = record { units = c.remove.new.self; locks = c.release_all.new.self.locks } in
    let spent : t ≡ without_place c.args.place u.serial s = (λ i. record { units = c.remove.ensures i; locks = (c.release_all.ensures.locks i).locks }) ∙ (λ i. without_place c.args.place (same.1 i) s) in
    order_spent c.args.place u s t c.args.volume.now one.1 spent c.requires.order

pub returns-then-not-votes_yes-clause-votes : goal.returns-then-not-votes_yes-clause-votes
returns-then-not-votes_yes-clause-votes g c = λ u at.
    let b = c.args.branch.now in
    let o = unit_at c.args.table.now.places c.args.place in
    let same = of_some (λ (x : OpenUnit). (tid_of b.tid ≡ x.tid) × (serial_of b.serial ≡ x.serial)) o u at c.requires.unit in
    let positions = of_some (λ (x : OpenUnit). c.positions.result.now ≡ x.positions) o u at c.positions.ensures.value in
    let s : UnitsState = record { units = c.args.table.now; locks = c.args.locks.now.locks } in
    record {
      no = ap (λ (ps : List ℕ). votes_yes ps c.args.rms.now) (sym positions) ∙ sym c.votes_yes.ensures ∙ c.if-not-votes_yes.true;
      spent = (λ i. record { units = c.remove.ensures i; locks = (c.release_all.ensures.locks i).locks }) ∙ (λ i. without_place c.args.place (same.1 i) s);
      slots = refl;
      same = refl;
    }

pub returns-in-Err-clause-breaks : goal.returns-in-Err-clause-breaks
returns-in-Err-clause-breaks g c = λ u at.
    let v = c.args.volume.now in
    let w = c.enter_vote.new.volume in
    let b = c.args.branch.now in
    let o = unit_at c.args.table.now.places c.args.place in
    let same = of_some (λ (x : OpenUnit). (tid_of b.tid ≡ x.tid) × (serial_of b.serial ≡ x.serial)) o u at c.requires.unit in
    let positions = of_some (λ (x : OpenUnit). c.positions.result.now ≡ x.positions) o u at c.positions.ensures.value in
    let positions_2 = of_some (λ (x : OpenUnit). c.positions-2.result.now ≡ x.positions) o u at c.positions-2.ensures.value in
    let changed = is_changed c.is_empty-has_changed.result c.positions-2.result.now u.positions c.is_empty-has_changed.ensures positions_2 in
    let s : UnitsState = record { units = c.args.table.now; locks = c.args.locks.now.locks } in
    record {
      yes = ap (λ (ps : List ℕ). votes_yes ps c.args.rms.now) (sym positions) ∙ sym c.votes_yes.ensures ∙ c.if-not-votes_yes.false;
      spent = (λ i. record { units = c.remove-in-Err.ensures i; locks = (c.release_all-in-Err.ensures.locks i).locks }) ∙ (λ i. without_place c.args.place (same.1 i) s);
      breaks = vote_of (λ (P : VolumeState → Type 0). Breaks P v w) u (tid_of b.tid) (serial_of b.serial) c.args.rms.now (not c.is_empty-has_changed.result) c.args.log.now c.enter_vote.new.log v same.0 same.1 changed c.in-Err.ensures.breaks;
    }

pub returns-clause-order : goal.returns-clause-order
returns-clause-order g c =
    let v = c.args.volume.now in
    let w = c.enter_vote.new.volume in
    let b = c.args.branch.now in
    let o = unit_at c.args.table.now.places c.args.place in
    let one = the_one o c.requires.there in
    let u = one.0 in
    let at = one.1 in
    let positions = of_some (λ (x : OpenUnit). c.positions-2.result.now ≡ x.positions) o u at c.positions-2.ensures.value in
    let changed = is_changed c.is_empty-has_changed.result c.positions-2.result.now u.positions c.is_empty-has_changed.ensures positions in
    let active = of_some (λ (x : OpenUnit). x.prepared ≡ false) o u at c.requires.active in
    let s : UnitsState = record { units = c.args.table.now; locks = c.args.locks.now.locks } in
    let t : UnitsState = record { units = c.prepare.new.self; locks = c.args.locks.now.locks } in
    let set = of_some (λ (x : OpenUnit). c.prepare.new.self ≡ with_unit c.args.place (prepared_unit x) c.args.table.now) o u at c.prepare.ensures in
    order_voted c.args.place u (vote_record (tid_of b.tid) (serial_of b.serial) c.args.rms.now) (vote_entry (not c.is_empty-has_changed.result) (tid_of b.tid) (serial_of b.serial)) c.args.log.now c.enter_vote.new.log s t v w at active
    (ap (λ (x : Units). x.places) set) c.in-Ok.ensures.makes (c.in-Ok.ensures.end ∙ ap (λ (has : Bool). v.catalog.ru.end + (if has then 48 else 0)) changed) c.requires.order c.in-Ok.ensures.idle c.in-Ok.ensures.holds
    c.enter_vote.ensures.counts.size c.enter_vote.ensures.pool

pub returns-clause-votes : goal.returns-clause-votes
returns-clause-votes g c = λ u at.
    let v = c.args.volume.now in
    let w = c.enter_vote.new.volume in
    let b = c.args.branch.now in
    let o = unit_at c.args.table.now.places c.args.place in
    let same = of_some (λ (x : OpenUnit). (tid_of b.tid ≡ x.tid) × (serial_of b.serial ≡ x.serial)) o u at c.requires.unit in
    let positions = of_some (λ (x : OpenUnit). c.positions.result.now ≡ x.positions) o u at c.positions.ensures.value in
    let positions_2 = of_some (λ (x : OpenUnit). c.positions-2.result.now ≡ x.positions) o u at c.positions-2.ensures.value in
    let changed = is_changed c.is_empty-has_changed.result c.positions-2.result.now u.positions c.is_empty-has_changed.ensures positions_2 in
    let set = of_some (λ (x : OpenUnit). c.prepare.new.self ≡ with_unit c.args.place (prepared_unit x) c.args.table.now) o u at c.prepare.ensures in
    record {
      yes = ap (λ (ps : List ℕ). votes_yes ps c.args.rms.now) (sym positions) ∙ sym c.votes_yes.ensures ∙ c.if-not-votes_yes.false;
      unit = λ i. record { units = set i; locks = c.args.locks.now.locks };
      slots = c.enter_vote.ensures.slots ∙ (λ i. put_in (vote_record (same.0 i) (same.1 i) c.args.rms.now) c.args.log.now);
      makes = vote_of (λ (P : VolumeState → Type 0). P w) u (tid_of b.tid) (serial_of b.serial) c.args.rms.now (not c.is_empty-has_changed.result) c.args.log.now c.enter_vote.new.log v same.0 same.1 changed c.in-Ok.ensures.makes;
    }
