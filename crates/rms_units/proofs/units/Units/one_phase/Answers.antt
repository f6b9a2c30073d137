-- A unit is committed, and what is left stays in order.
use Rattle.std.proofs.Common.{Result, Ok, Err, OnErr, ◌≡◌, ◌+◌, ◌*◌, ◌≤◌, ℕ, Bool, List, Option, Some, not, IfSome, IsSome, length, ap, sym, subst, ◌∙◌, arith, true, false, ◌^◌, if◌then◌else◌}
use Rattle.kept_files.specs.file_settlements.Settling.{SettlesFiles}
use Rattle.image_appends.specs.Settling.{AllHaveRoom}
use Rattle.kept_files.proofs.Kept.{kept_few}
use Rattle.unit_journal.specs.Groups.{Breaks}
use Rattle.unit_journal.specs.Entries.{settled_entry}
use Rattle.unit_journal.specs.Settling.{entry_if}
use Rattle.vms_model.specs.Transactions.{Commit}
use Rattle.volume_format.specs.declared.home.Ending.TheVariants as ending
use Rattle.rms_units.proofs.ImageSound.{all_have_room}
use Rattle.unit_journal.specs.Settling.{next_moment}
use Rattle.unit_table.specs.Units.{OpenUnit}
use Rattle.vms_base.specs.Ids.{serial_of, tid_of}
use Rattle.rms_units.specs.Calls.{Commits, CommitsNot}
use Rattle.rms_units.specs.State.{IsInOrder, UnitsState, unit_of, without_place}
use Rattle.rms_units.proofs.Holding.{released_fits}
use Rattle.key_changes.proofs.unit_cuts.Outcomes.{of_some, the_one}
use Rattle.rms_units.proofs.SettledLemmas.{commits, commits_not, order_committed, room_to_commit}
use Rattle.rms_units.proofs.EndLemmas.{alike_settled}
use Rattle.rms_units.proofs.units.Units.one_phase.Goals as goal

pub settle_in_files-requires-clause-room : goal.settle_in_files-requires-clause-room
settle_in_files-requires-clause-room g c =
    let v = c.args.volume.now in
    let place = c.unit.inside.place in
    let s : UnitsState = record { units = c.self.inside.table; locks = c.self.inside.locks.locks } in
    let o : Option OpenUnit = unit_of place s in
    let same : o ≡ unit_of c.args.unit c.args.self.now = λ i. unit_of (c.unit.view_is i) (c.self.view_is i) in
    let one = the_one o (subst (λ (x : Option OpenUnit). IsSome x) (sym same) c.requires.unit) in
    let u = one.0 in
    let at : o ≡ Some u = one.1 in
    let ps = c.positions.result.now in
    let b = c.branch-branch.result in
    let is = of_some (λ (x : OpenUnit). (tid_of b.tid ≡ x.tid) × (serial_of b.serial ≡ x.serial)) o u at (subst (λ (x : UnitsState). IfSome (unit_of place x) (λ (y : OpenUnit). (tid_of b.tid ≡ y.tid) × (serial_of b.serial ≡ y.serial))) (sym c.self.view_is) c.branch-branch.ensures) in
    let positions = of_some (λ (x : OpenUnit). ps ≡ x.positions) o u at c.positions.ensures.value in
    let files = of_some (λ (x : OpenUnit). c.files.result.now ≡ x.files) o u at c.files.ensures in
    let changed = not c.is_empty-has_changed.result in
    let whether = ap not c.is_empty-has_changed.ensures in
    let moment = c.next_moment-moment.result.0 in
    let next : moment ≡ next_moment c.args.clock.0 v.catalog.home = c.next_moment-moment.ensures ∙ ap (next_moment c.args.clock.0) c.home.ensures in
    let t : UnitsState = record { units = c.remove.new.self; locks = c.release_all.new.self.locks } in
    let spent : t ≡ without_place place u.serial s = (λ i. record { units = c.remove.ensures i; locks = (c.release_all.ensures.locks i).locks }) ∙ (λ i. without_place place (is.1 i) s) in
    room_to_commit place u b.tid b.serial c.args.clock.0 moment ps changed s t v v at positions is.0 is.1 next spent whether (subst (λ (x : UnitsState). IsInOrder x v) (sym c.self.view_is) c.requires.order)

pub settle_in_files-requires-clause-rooms : goal.settle_in_files-requires-clause-rooms
settle_in_files-requires-clause-rooms g c = λ changed.
    let v = c.args.volume.now in
    let place = c.unit.inside.place in
    let s : UnitsState = record { units = c.self.inside.table; locks = c.self.inside.locks.locks } in
    let o : Option OpenUnit = unit_of place s in
    let same : o ≡ unit_of c.args.unit c.args.self.now = λ i. unit_of (c.unit.view_is i) (c.self.view_is i) in
    let one = the_one o (subst (λ (x : Option OpenUnit). IsSome x) (sym same) c.requires.unit) in
    let files = of_some (λ (x : OpenUnit). c.files.result.now ≡ x.files) o one.0 one.1 c.files.ensures in
    subst (λ (fs : List Bool). AllHaveRoom fs 48 v.catalog.heads v.store.disk) (sym files) (all_have_room place one.0 s v one.1 (subst (λ (x : UnitsState). IsInOrder x v) (sym c.self.view_is) c.requires.order))

pub settle_in_files-requires-clause-staged : goal.settle_in_files-requires-clause-staged
settle_in_files-requires-clause-staged g c =
    let v = c.args.volume.now in
    let none = ap length c.requires.order.idle.unstaged in
    let few = kept_few c.files.result.now 0 v.catalog.heads in
    let long : length c.files.result.now ≡ 64 = c.tell_each_file.ensures in
    omega (arith, none, few, long)

pub invariant_of-self : goal.invariant_of-self
invariant_of-self g c = released_fits (serial_of c.branch-branch.result.serial) c.self.inside.locks c.release_all.new.self c.release_all.ensures.locks c.self.invariant.0 c.self.invariant.1

pub invariant_of-self-2 : goal.invariant_of-self-2
invariant_of-self-2 g c = released_fits (serial_of c.branch-branch.result.serial) c.self.inside.locks c.release_all.new.self c.release_all.ensures.locks c.self.invariant.0 c.self.invariant.1

pub returns-clause-order : goal.returns-clause-order
returns-clause-order g c =
    let v = c.args.volume.now in
    let place = c.unit.inside.place in
    let s : UnitsState = record { units = c.self.inside.table; locks = c.self.inside.locks.locks } in
    let o : Option OpenUnit = unit_of place s in
    let same : o ≡ unit_of c.args.unit c.args.self.now = λ i. unit_of (c.unit.view_is i) (c.self.view_is i) in
    let one = the_one o (subst (λ (x : Option OpenUnit). IsSome x) (sym same) c.requires.unit) in
    let u = one.0 in
    let at : o ≡ Some u = one.1 in
    let ps = c.positions.result.now in
    let b = c.branch-branch.result in
    let is = of_some (λ (x : OpenUnit). (tid_of b.tid ≡ x.tid) × (serial_of b.serial ≡ x.serial)) o u at (subst (λ (x : UnitsState). IfSome (unit_of place x) (λ (y : OpenUnit). (tid_of b.tid ≡ y.tid) × (serial_of b.serial ≡ y.serial))) (sym c.self.view_is) c.branch-branch.ensures) in
    let positions = of_some (λ (x : OpenUnit). ps ≡ x.positions) o u at c.positions.ensures.value in
    let files = of_some (λ (x : OpenUnit). c.files.result.now ≡ x.files) o u at c.files.ensures in
    let changed = not c.is_empty-has_changed.result in
    let whether = ap not c.is_empty-has_changed.ensures in
    let moment = c.next_moment-moment.result.0 in
    let next : moment ≡ next_moment c.args.clock.0 v.catalog.home = c.next_moment-moment.ensures ∙ ap (next_moment c.args.clock.0) c.home.ensures in
    let t : UnitsState = record { units = c.remove.new.self; locks = c.release_all.new.self.locks } in
    let spent : t ≡ without_place place u.serial s = (λ i. record { units = c.remove.ensures i; locks = (c.release_all.ensures.locks i).locks }) ∙ (λ i. without_place place (is.1 i) s) in
    let w = c.settle_in_files.new.volume in
    let done = c.in_ok-settle_in_files.ensures in
    order_committed place u b.tid b.serial c.args.clock.0 moment ps changed s t v w at positions is.0 is.1 next spent whether (subst (λ (x : UnitsState). IsInOrder x v) (sym c.self.view_is) c.requires.order) c.requires.early c.requires.clock
    (subst (λ (fs : List Bool). SettlesFiles fs b.tid b.serial ending.Commit moment (entry_if changed (settled_entry (tid_of b.tid) (serial_of b.serial) Commit moment)) t.units.places v w) files (done.makes t.units.places (sym c.earliest.ensures))) done.end done.idle done.holds c.settle_in_files.ensures.counts.size c.settle_in_files.ensures.pool

pub returns-clause-done : goal.returns-clause-done
returns-clause-done g c = λ u there.
    let v = c.args.volume.now in
    let place = c.unit.inside.place in
    let s : UnitsState = record { units = c.self.inside.table; locks = c.self.inside.locks.locks } in
    let o : Option OpenUnit = unit_of place s in
    let same : o ≡ unit_of c.args.unit c.args.self.now = λ i. unit_of (c.unit.view_is i) (c.self.view_is i) in
    let at : o ≡ Some u = same ∙ there in
    let ps = c.positions.result.now in
    let b = c.branch-branch.result in
    let is = of_some (λ (x : OpenUnit). (tid_of b.tid ≡ x.tid) × (serial_of b.serial ≡ x.serial)) o u at (subst (λ (x : UnitsState). IfSome (unit_of place x) (λ (y : OpenUnit). (tid_of b.tid ≡ y.tid) × (serial_of b.serial ≡ y.serial))) (sym c.self.view_is) c.branch-branch.ensures) in
    let positions = of_some (λ (x : OpenUnit). ps ≡ x.positions) o u at c.positions.ensures.value in
    let files = of_some (λ (x : OpenUnit). c.files.result.now ≡ x.files) o u at c.files.ensures in
    let changed = not c.is_empty-has_changed.result in
    let whether = ap not c.is_empty-has_changed.ensures in
    let moment = c.next_moment-moment.result.0 in
    let next : moment ≡ next_moment c.args.clock.0 v.catalog.home = c.next_moment-moment.ensures ∙ ap (next_moment c.args.clock.0) c.home.ensures in
    let t : UnitsState = record { units = c.remove.new.self; locks = c.release_all.new.self.locks } in
    let spent : t ≡ without_place place u.serial s = (λ i. record { units = c.remove.ensures i; locks = (c.release_all.ensures.locks i).locks }) ∙ (λ i. without_place place (is.1 i) s) in
    let w = c.settle_in_files.new.volume in
    subst (λ (x : UnitsState). Commits c.args.unit u b.tid b.serial c.args.clock.0 moment x v t w) c.self.view_is
    (subst (λ (p : ℕ). Commits p u b.tid b.serial c.args.clock.0 moment s v t w) c.unit.view_is
    (commits place u b.tid b.serial c.args.clock.0 moment ps changed s t v w at positions is.0 is.1 next spent whether (subst (λ (fs : List Bool). SettlesFiles fs b.tid b.serial ending.Commit moment (entry_if changed (settled_entry (tid_of b.tid) (serial_of b.serial) Commit moment)) t.units.places v w) files (c.in_ok-settle_in_files.ensures.makes t.units.places (sym c.earliest.ensures)))))

pub returns-in_err-settle_in_files-clause-err : goal.returns-in_err-settle_in_files-clause-err
returns-in_err-settle_in_files-clause-err g c = on_err_any c.from_residual.result _ (λ u there.
    let v = c.args.volume.now in
    let place = c.unit.inside.place in
    let s : UnitsState = record { units = c.self.inside.table; locks = c.self.inside.locks.locks } in
    let o : Option OpenUnit = unit_of place s in
    let same : o ≡ unit_of c.args.unit c.args.self.now = λ i. unit_of (c.unit.view_is i) (c.self.view_is i) in
    let at : o ≡ Some u = same ∙ there in
    let ps = c.positions.result.now in
    let b = c.branch-branch.result in
    let is = of_some (λ (x : OpenUnit). (tid_of b.tid ≡ x.tid) × (serial_of b.serial ≡ x.serial)) o u at (subst (λ (x : UnitsState). IfSome (unit_of place x) (λ (y : OpenUnit). (tid_of b.tid ≡ y.tid) × (serial_of b.serial ≡ y.serial))) (sym c.self.view_is) c.branch-branch.ensures) in
    let positions = of_some (λ (x : OpenUnit). ps ≡ x.positions) o u at c.positions.ensures.value in
    let files = of_some (λ (x : OpenUnit). c.files.result.now ≡ x.files) o u at c.files.ensures in
    let changed = not c.is_empty-has_changed.result in
    let whether = ap not c.is_empty-has_changed.ensures in
    let moment = c.next_moment-moment.result.0 in
    let next : moment ≡ next_moment c.args.clock.0 v.catalog.home = c.next_moment-moment.ensures ∙ ap (next_moment c.args.clock.0) c.home.ensures in
    let t : UnitsState = record { units = c.remove.new.self; locks = c.release_all.new.self.locks } in
    let spent : t ≡ without_place place u.serial s = (λ i. record { units = c.remove.ensures i; locks = (c.release_all.ensures.locks i).locks }) ∙ (λ i. without_place place (is.1 i) s) in
    let w = c.settle_in_files.new.volume in
    subst (λ (x : UnitsState). CommitsNot c.args.unit u c.args.clock.0 x v t w) c.self.view_is
    (subst (λ (p : ℕ). CommitsNot p u c.args.clock.0 s v t w) c.unit.view_is
    (commits_not place u b.tid b.serial c.args.clock.0 moment ps changed s t v w at positions is.0 is.1 next spent whether (subst (λ (fs : List Bool). Breaks (SettlesFiles fs b.tid b.serial ending.Commit moment (entry_if changed (settled_entry (tid_of b.tid) (serial_of b.serial) Commit moment)) t.units.places v) v w) files (c.in_err-settle_in_files.ensures.breaks t.units.places (sym c.earliest.ensures))))))
  where
    on_err_any : {A E : Type 0} (r : Result A E) (P : Type 0) → P → OnErr r P
    on_err_any (Ok x) P p = tt
    on_err_any (Err e) P p = p

pub returns-clause-images : goal.returns-clause-images
returns-clause-images g c =
    let v = c.args.volume.now in
    let w = c.settle_in_files.new.volume in
    let one = the_one (unit_of c.args.unit c.args.self.now) c.requires.unit in
    let alike = alike_settled _ _ _ _ _ _ _ v w (returns-clause-done g c one.0 one.1).makes in
    let end = c.in_ok-settle_in_files.ensures.end in
    let few = at_most (not c.is_empty-has_changed.result) in
    omega (arith, alike, end, few)
  where
    at_most : (b : Bool) → (if b then 48 else 0) ≤ 48
    at_most true = omega arith
    at_most false = omega arith
