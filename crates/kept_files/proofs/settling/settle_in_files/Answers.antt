use Rattle.std.proofs.Common.{◌≡◌, ℕ, ◌+◌, ◌*◌, ◌≤◌, List, Bool, length, refl, arith}
use Rattle.std.proofs.lemmas.Result.{on_err_weaker, on_ok_weaker}
use Rattle.vms_base.specs.Ids.{serial_of, tid_of}
use Rattle.vms_base.specs.Outcomes.{outcome_of}
use Rattle.file_settlements.proofs.Behind.{breaks_behind}
use Rattle.file_settlements.specs.Settling.{SettlesFiles}
use Rattle.file_settlements.specs.unit_journal.Entries.{settled_entry}
use Rattle.file_settlements.specs.unit_journal.Settling.{entry_if}
use Rattle.kept_files.proofs.Kept.{count_kept, kept_takes, settles_alike}
use Rattle.kept_files.proofs.settling.settle_in_files.Goals as goal

pub settle_with_files-requires-clause-staged : goal.settle_with_files-requires-clause-staged
settle_with_files-requires-clause-staged g c =
    let v = c.args.volume.now in
    let count = count_kept v.catalog.heads c.args.files.now c.keeping-kept.result (omega arith) c.keeping-kept.ensures in
    omega (arith, count, c.requires.staged)

pub settle_with_files-requires-clause-rooms : goal.settle_with_files-requires-clause-rooms
settle_with_files-requires-clause-rooms g c = λ changed file takes.
    let v = c.args.volume.now in
    c.requires.rooms changed file (kept_takes v.catalog.heads c.args.files.now c.keeping-kept.result (omega arith) c.keeping-kept.ensures file takes)

pub returns-clause-makes : goal.returns-clause-makes
returns-clause-makes g c =
    let v = c.args.volume.now in
    let b = c.args.branch.now in
    let e = entry_if c.args.has_changed (settled_entry (tid_of b.tid) (serial_of b.serial) (outcome_of c.args.outcome) c.args.moment.0) in
    on_ok_weaker c.settle_with_files.result
    (λ makes left is. settles_alike c.args.files.now c.keeping-kept.result b.tid b.serial c.args.ending c.args.moment.0 e left v c.settle_with_files.new.volume (omega arith) c.keeping-kept.ensures (makes left is))
    c.settle_with_files.ensures.makes

pub returns-clause-breaks : goal.returns-clause-breaks
returns-clause-breaks g c =
    let v = c.args.volume.now in
    let b = c.args.branch.now in
    let e = entry_if c.args.has_changed (settled_entry (tid_of b.tid) (serial_of b.serial) (outcome_of c.args.outcome) c.args.moment.0) in
    on_err_weaker c.settle_with_files.result
    (λ breaks left is. breaks_behind (SettlesFiles c.keeping-kept.result b.tid b.serial c.args.ending c.args.moment.0 e left v) (SettlesFiles c.args.files.now b.tid b.serial c.args.ending c.args.moment.0 e left v) v v c.settle_with_files.new.volume refl
    (λ made makes. settles_alike c.args.files.now c.keeping-kept.result b.tid b.serial c.args.ending c.args.moment.0 e left v made (omega arith) c.keeping-kept.ensures makes) (breaks left is))
    c.settle_with_files.ensures.breaks
