-- A prepared unit is aborted, and its slot is freed in the last group.
use Rattle.std.proofs.Common.{◌≡◌, ℕ, ◌+◌, ◌*◌, ◌<◌, ◌≤◌, Bool, true, List, Option, Some, None, IfSome, length, not, subst, sym, ap, ◌∙◌, inl, inr, arith}
use Rattle.std.proofs.lemmas.Result.{on_err_weaker, on_ok_weaker}
use Rattle.journal_model.specs.Entries.{Entry}
use Rattle.careful_write.proofs.Reading.{same_so}
use Rattle.unit_aborts.specs.Aborting.{Abortion}
use Rattle.unit_aborts.specs.Aborting.{has_changes}
use Rattle.unit_aborts.proofs.AbortLemmas.{is_changed}
use Rattle.unit_aborts.proofs.ImageLemmas.{few_kept, of_three, rooms_after}
use Rattle.block_disk.specs.Disk.{DiskState}
use Rattle.careful_write.specs.State.{StoreState}
use Rattle.unit_aborts.specs.image_appends.Settling.{AllHaveRoom}
use Rattle.kept_files.specs.Keeping.{StandBehind, kept_in}
use Rattle.unit_aborts.proofs.GrowLemmas.{grows_behind, once_behind, undone_grows, undone_once}
use Rattle.unit_entries.proofs.StoreLemmas.{of_content}
use Rattle.unit_journal.specs.Entries.{settled_entry}
use Rattle.unit_journal.specs.Settling.{entry_if}
use Rattle.kept_files.specs.file_settlements.Settling.{SettlesFiles}
use Rattle.unit_table.specs.Units.{unit_at}
use Rattle.unit_aborts.specs.unit_undo.Way.{FailsOnTheWay, Undoes}
use Rattle.vms_base.specs.Ids.{serial_of, tid_of}
use Rattle.vms_model.specs.Transactions.{Abort}
use Rattle.volume.specs.declared.catalog.Catalog.{Catalog}
use Rattle.volume_format.specs.declared.home.Ending.TheVariants as ending
use Rattle.unit_votes.specs.Voting.{MakesLogged, abort_settlement}
use Rattle.unit_votes.proofs.Keeping.{if_entry, lie_after, log_settled_in}
use Rattle.unit_votes.proofs.Settled.{breaks_from, grows_from_there, once_from_there, same_content}
use Rattle.unit_votes.proofs.aborting.abort_logged.Goals as goal

pub returns-in-Err-clause-breaks : goal.returns-in-Err-clause-breaks
returns-in-Err-clause-breaks g c =
    of_content (unit_at c.args.units.now.places c.args.place) (λ u value. inl (subst (λ (ps : List ℕ). FailsOnTheWay ps c.args.volume.now c.undo_unit.new.volume) value c.in-Err.ensures.down)) c.positions-2.ensures.value

of_five : {X : Type 0} (o : Option X) {P Q R S T U : X → Type 0} → ((x : X) → P x → Q x → R x → S x → T x → U x) → IfSome o P → IfSome o Q → IfSome o R → IfSome o S → IfSome o T → IfSome o U
of_five None f p q r s t = tt
of_five (Some x) f p q r s t = f x p q r s t

pub settle_in_files-requires-clause-rooms : goal.settle_in_files-requires-clause-rooms
settle_in_files-requires-clause-rooms g c = λ changed.
    let mid = c.undo_unit.new.volume in
    let logged = c.set_record.new.volume in
    let files = c.files.result.now in
    subst (λ (k : Catalog). AllHaveRoom files 48 k.heads logged.store.disk) (sym c.set_record.ensures.catalog)
    (subst (λ (d : DiskState). AllHaveRoom files 48 mid.catalog.heads d) (sym (ap (λ (s : StoreState). s.disk) c.set_record.ensures.rest))
    (rooms_after (unit_at c.args.units.now.places c.args.place) c.args.volume.now mid c.in-Ok.ensures.goes c.is_empty-has_changed.result c.positions.result.now files
    c.is_empty-has_changed.ensures c.positions.ensures.value c.files.ensures c.requires.rooms c.requires.unit changed))

pub returns-clause-aborts : goal.returns-clause-aborts
returns-clause-aborts g c =
    let v = c.args.volume.now in
    let mid = c.undo_unit.new.volume in
    let logged = c.set_record.new.volume in
    let w = c.settle_in_files.new.volume in
    let b = c.args.branch.now in
    let ss = c.set_record.new.log in
    let o = unit_at c.args.units.now.places c.args.place in
    let left = c.remove-2.new.self.places in
    let settled = settled_entry (tid_of b.tid) (serial_of b.serial) Abort c.args.moment.0 in
    let some : 0 < logged.catalog.ru.blocks = subst (λ (k : Catalog). 0 < k.ru.blocks) (sym (c.set_record.ensures.catalog ∙ c.in-Ok.ensures.goes.catalog)) c.requires.may.ring.some in
    let lie = lie_after o v mid logged (length c.args.log.now) (length ss) c.in-Ok.ensures.goes c.set_record.ensures.catalog (ap (λ (s : StoreState). s.disk) c.set_record.ensures.rest) c.set_record.ensures.long c.requires.rooms c.requires.beside in
    on_ok_weaker c.settle_in_files.result
    (λ makes. of_five o (λ u one value files lies long.
    let same = ap (λ (has : Bool). entry_if has settled) (is_changed c.is_empty-has_changed.result c.positions.result.now u.positions c.is_empty-has_changed.ensures one) in
    let settles : SettlesFiles u.files b.tid b.serial (ending.Abort c.args.reason) c.args.moment.0 (entry_if (has_changes u.positions) settled) left logged w =
    subst (λ (fs : List Bool). SettlesFiles fs b.tid b.serial (ending.Abort c.args.reason) c.args.moment.0 (entry_if (has_changes u.positions) settled) left logged w) files
    (subst (λ (e : Option Entry). SettlesFiles c.files.result.now b.tid b.serial (ending.Abort c.args.reason) c.args.moment.0 e left logged w) same (makes left (sym c.earliest.ensures))) in
    record {
      mid = mid;
      goes = c.in-Ok.ensures.goes;
      undoes = subst (λ (ps : List ℕ). Undoes ps v mid) value c.in-Ok.ensures.undoes;
      makes = record { logged = logged; log = c.set_record.ensures.sets; makes = settles };
      log = λ h. log_settled_in c.log_is_as_it_was_left.ensures.beside c.one_entry_more.ensures.others u.files b.tid b.serial (ending.Abort c.args.reason) c.args.moment.0 (entry_if (has_changes u.positions) settled) left ss logged w long some
          (if_entry (AllHaveRoom u.files 48 logged.catalog.heads logged.store.disk × StandBehind u.files (584 + length ss) logged.catalog.heads) (has_changes u.positions) settled lies) settles (c.set_record.ensures.log h);
    }) c.positions.ensures.value c.positions-2.ensures.value c.files.ensures lie c.positions.ensures.files)
    c.settle_in_files.ensures.makes

pub returns-clause-breaks : goal.returns-clause-breaks
returns-clause-breaks g c =
    let v = c.args.volume.now in
    let mid = c.undo_unit.new.volume in
    let logged = c.set_record.new.volume in
    let w = c.settle_in_files.new.volume in
    let b = c.args.branch.now in
    let left = c.remove-2.new.self.places in
    let settled = settled_entry (tid_of b.tid) (serial_of b.serial) Abort c.args.moment.0 in
    on_err_weaker c.settle_in_files.result
    (λ breaks. of_three (unit_at c.args.units.now.places c.args.place) (λ u one value files.
    let x : Abortion = record { positions = u.positions; files = u.files; tid = b.tid; serial = b.serial; reason = c.args.reason; moment = c.args.moment.0; left = left } in
    let same = ap (λ (has : Bool). entry_if has settled) (is_changed c.is_empty-has_changed.result c.positions.result.now u.positions c.is_empty-has_changed.ensures one) in
    inr record {
      mid = mid;
      goes = c.in-Ok.ensures.goes;
      undoes = subst (λ (ps : List ℕ). Undoes ps v mid) value c.in-Ok.ensures.undoes;
      breaks = breaks_from (SettlesFiles c.files.result.now b.tid b.serial (ending.Abort c.args.reason) c.args.moment.0 (entry_if (not c.is_empty-has_changed.result) settled) left logged) (MakesLogged (abort_settlement x) None c.args.log.now c.set_record.new.log mid) mid logged w
          (same_content mid logged (same_so _ c.set_record.new.volume.store c.set_record.ensures.rest))
          (λ made makes. record {
            logged = logged;
            log = c.set_record.ensures.sets;
            makes = subst (λ (fs : List Bool). SettlesFiles fs b.tid b.serial (ending.Abort c.args.reason) c.args.moment.0 (entry_if (has_changes u.positions) settled) left logged made) files
                (subst (λ (e : Option Entry). SettlesFiles c.files.result.now b.tid b.serial (ending.Abort c.args.reason) c.args.moment.0 e left logged made) same makes);
          })
          (breaks left (sym c.earliest.ensures));
    }) c.positions.ensures.value c.positions-2.ensures.value c.files.ensures)
    c.settle_in_files.ensures.breaks

pub settle_in_files-requires-clause-staged : goal.settle_in_files-requires-clause-staged
settle_in_files-requires-clause-staged g c =
    let v = c.args.volume.now in
    let mid = c.undo_unit.new.volume in
    let logged = c.set_record.new.volume in
    let kept = few_kept v mid c.in-Ok.ensures.goes.journals c.files.result.now in
    let same = ap (λ (k : Catalog). kept_in c.files.result.now k.heads) c.set_record.ensures.catalog in
    omega (arith, kept, same, c.files_kept.ensures.value, c.keys_beside-most.ensures.few, c.in-Ok.ensures.room, c.set_record.ensures.few)

pub returns-in-Err-clause-grows : goal.returns-in-Err-clause-grows
returns-in-Err-clause-grows g c = undone_grows c.args.moment.0 c.args.volume.now c.undo_unit.new.volume c.undo_unit.ensures.heads

pub returns-in-Err-clause-once : goal.returns-in-Err-clause-once
returns-in-Err-clause-once g c = undone_once c.args.moment.0 c.args.volume.now c.undo_unit.new.volume c.undo_unit.ensures.heads

pub returns-clause-grows : goal.returns-clause-grows
returns-clause-grows g c = grows_behind c.args.moment.0 c.args.volume.now c.undo_unit.new.volume c.settle_in_files.new.volume c.undo_unit.ensures.heads
    (grows_from_there 0 c.args.moment.0 c.undo_unit.new.volume c.set_record.new.volume c.settle_in_files.new.volume c.set_record.ensures.catalog c.settle_in_files.ensures.grows)

pub returns-clause-once : goal.returns-clause-once
returns-clause-once g c = once_behind c.args.moment.0 c.args.volume.now c.undo_unit.new.volume c.settle_in_files.new.volume c.undo_unit.ensures.heads
    (once_from_there c.args.moment.0 c.undo_unit.new.volume c.set_record.new.volume c.settle_in_files.new.volume c.set_record.ensures.catalog c.settle_in_files.ensures.once)
