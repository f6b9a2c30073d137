use Rattle.std.proofs.Common.{ℕ, Bool, List, Option, subst, sym, ap, inl, inr, arith}
use Rattle.std.proofs.lemmas.Result.{on_err_weaker, on_ok_weaker}
use Rattle.journal_format.specs.journal_model.Entries.{Entry}
use Rattle.unit_entries.proofs.StoreLemmas.{of_content}
use Rattle.unit_table.specs.Units.{unit_at}
use Rattle.vms_base.specs.Ids.{serial_of, tid_of}
use Rattle.vms_model.specs.Transactions.{Abort}
use Rattle.volume_format.specs.declared.home.Ending.TheVariants as ending
use Rattle.unit_journal.specs.Entries.{settled_entry}
use Rattle.unit_journal.specs.Groups.{Breaks}
use Rattle.unit_journal.specs.Settling.{entry_if}
use Rattle.kept_files.specs.file_settlements.Settling.{SettlesFiles}
use Rattle.unit_undo.specs.Way.{Undoes, FailsOnTheWay}
use Rattle.unit_aborts.specs.Aborting.{has_changes}
use Rattle.unit_aborts.proofs.AbortLemmas.{is_changed}
use Rattle.unit_aborts.proofs.ImageLemmas.{few_kept, of_three, rooms_after}
use Rattle.unit_aborts.proofs.GrowLemmas.{grows_behind, once_behind, undone_grows, undone_once}
use Rattle.unit_aborts.proofs.aborting.abort_unit.Goals as goal

pub returns-in-Err-clause-breaks : goal.returns-in-Err-clause-breaks
returns-in-Err-clause-breaks g c =
    of_content (unit_at c.args.units.now.places c.args.place) (λ u value. inl (subst (λ (ps : List ℕ). FailsOnTheWay ps c.args.volume.now c.undo_unit.new.volume) value c.in-Err.ensures.down)) c.positions-2.ensures.value

pub returns-clause-aborts : goal.returns-clause-aborts
returns-clause-aborts g c =
    let v = c.args.volume.now in
    let mid = c.undo_unit.new.volume in
    let w = c.settle_in_files.new.volume in
    let b = c.args.branch.now in
    let left = c.remove-2.new.self.places in
    let settled = settled_entry (tid_of b.tid) (serial_of b.serial) Abort c.args.moment.0 in
    on_ok_weaker c.settle_in_files.result
    (λ makes. of_three (unit_at c.args.units.now.places c.args.place) (λ u one value files. record {
      mid = mid;
      goes = c.in-Ok.ensures.goes;
      undoes = subst (λ (ps : List ℕ). Undoes ps v mid) value c.in-Ok.ensures.undoes;
      makes = subst (λ (fs : List Bool). SettlesFiles fs b.tid b.serial (ending.Abort c.args.reason) c.args.moment.0 (entry_if (has_changes u.positions) settled) left mid w) files
          (subst (λ (e : Option Entry). SettlesFiles c.files.result.now b.tid b.serial (ending.Abort c.args.reason) c.args.moment.0 e left mid w)
          (ap (λ (has : Bool). entry_if has settled) (is_changed c.is_empty-has_changed.result c.positions.result.now u.positions c.is_empty-has_changed.ensures one)) (makes left (sym c.earliest.ensures)));
    }) c.positions.ensures.value c.positions-2.ensures.value c.files.ensures)
    c.settle_in_files.ensures.makes

pub returns-clause-breaks : goal.returns-clause-breaks
returns-clause-breaks g c =
    let v = c.args.volume.now in
    let mid = c.undo_unit.new.volume in
    let w = c.settle_in_files.new.volume in
    let b = c.args.branch.now in
    let left = c.remove-2.new.self.places in
    let settled = settled_entry (tid_of b.tid) (serial_of b.serial) Abort c.args.moment.0 in
    on_err_weaker c.settle_in_files.result
    (λ breaks. of_three (unit_at c.args.units.now.places c.args.place) (λ u one value files. inr record {
      mid = mid;
      goes = c.in-Ok.ensures.goes;
      undoes = subst (λ (ps : List ℕ). Undoes ps v mid) value c.in-Ok.ensures.undoes;
      breaks = subst (λ (fs : List Bool). Breaks (SettlesFiles fs b.tid b.serial (ending.Abort c.args.reason) c.args.moment.0 (entry_if (has_changes u.positions) settled) left mid) mid w) files
          (subst (λ (e : Option Entry). Breaks (SettlesFiles c.files.result.now b.tid b.serial (ending.Abort c.args.reason) c.args.moment.0 e left mid) mid w)
          (ap (λ (has : Bool). entry_if has settled) (is_changed c.is_empty-has_changed.result c.positions.result.now u.positions c.is_empty-has_changed.ensures one)) (breaks left (sym c.earliest.ensures)));
    }) c.positions.ensures.value c.positions-2.ensures.value c.files.ensures)
    c.settle_in_files.ensures.breaks

pub returns-in-Err-clause-grows : goal.returns-in-Err-clause-grows
returns-in-Err-clause-grows g c = undone_grows c.args.moment.0 c.args.volume.now c.undo_unit.new.volume c.undo_unit.ensures.heads

pub returns-in-Err-clause-once : goal.returns-in-Err-clause-once
returns-in-Err-clause-once g c = undone_once c.args.moment.0 c.args.volume.now c.undo_unit.new.volume c.undo_unit.ensures.heads

pub returns-clause-grows : goal.returns-clause-grows
returns-clause-grows g c = grows_behind c.args.moment.0 c.args.volume.now c.undo_unit.new.volume c.settle_in_files.new.volume c.undo_unit.ensures.heads c.settle_in_files.ensures.grows

pub returns-clause-once : goal.returns-clause-once
returns-clause-once g c = once_behind c.args.moment.0 c.args.volume.now c.undo_unit.new.volume c.settle_in_files.new.volume c.undo_unit.ensures.heads c.settle_in_files.ensures.once

pub settle_in_files-requires-clause-staged : goal.settle_in_files-requires-clause-staged
settle_in_files-requires-clause-staged g c =
    let v = c.args.volume.now in
    let mid = c.undo_unit.new.volume in
    let kept = few_kept v mid c.in-Ok.ensures.goes.journals c.files.result.now in
    omega (arith, kept, c.files_kept.ensures.value, c.keys_beside-most.ensures.few, c.in-Ok.ensures.room)

pub settle_in_files-requires-clause-rooms : goal.settle_in_files-requires-clause-rooms
settle_in_files-requires-clause-rooms g c = rooms_after (unit_at c.args.units.now.places c.args.place) c.args.volume.now c.undo_unit.new.volume c.in-Ok.ensures.goes c.is_empty-has_changed.result c.positions.result.now c.files.result.now
    c.is_empty-has_changed.ensures c.positions.ensures.value c.files.ensures c.requires.rooms c.requires.unit
