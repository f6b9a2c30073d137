-- A branch is committed with what the log has of it from then on.
use Rattle.std.proofs.Common.{◌≡◌, ℕ, ◌+◌, ◌*◌, ◌<◌, ◌≤◌, true, length, sym, ap, subst, arith}
use Rattle.block_disk.specs.Disk.{DiskState}
use Rattle.careful_write.specs.State.{StoreState}
use Rattle.kept_files.proofs.Kept.{kept_few}
use Rattle.std.proofs.lemmas.Result.{on_err_weaker, on_ok_weaker}
use Rattle.std.specs.Prelude.{option_copied}
use Rattle.lmcp_log.specs.Log.{slot_of}
use Rattle.careful_write.proofs.Reading.{same_so}
use Rattle.unit_journal.specs.Entries.{settled_entry}
use Rattle.unit_journal.specs.Settling.{entry_if}
use Rattle.kept_files.specs.file_settlements.Settling.{SettlesFiles}
use Rattle.unit_aborts.specs.image_appends.Settling.{AllHaveRoom}
use Rattle.kept_files.specs.Keeping.{StandBehind}
use Rattle.vms_base.specs.Ids.{serial_of, tid_of}
use Rattle.vms_model.specs.Transactions.{Commit}
use Rattle.volume.specs.declared.catalog.Catalog.{Catalog}
use Rattle.volume_format.specs.declared.home.Ending.TheVariants as ending
use Rattle.unit_votes.specs.Voting.{MakesLogged, Settlement}
use Rattle.unit_votes.proofs.Keeping.{if_entry, log_settled_in}
use Rattle.unit_votes.proofs.Settled.{breaks_from, grows_from_there, same_content}
use Rattle.unit_votes.proofs.committing.commit_logged.Goals as goal

pub returns-clause-makes : goal.returns-clause-makes
returns-clause-makes g c =
    let left = c.args.left.now.places in
    on_ok_weaker c.settle_in_files.result
    (λ makes. record { logged = c.set_record.new.volume; log = c.set_record.ensures.sets; makes = makes left (sym c.earliest.ensures) })
    c.settle_in_files.ensures.makes

pub returns-clause-breaks : goal.returns-clause-breaks
returns-clause-breaks g c =
    let v = c.args.volume.now in
    let logged = c.set_record.new.volume in
    let b = c.args.branch.now in
    let left = c.args.left.now.places in
    let e = entry_if c.args.has_changed (settled_entry (tid_of b.tid) (serial_of b.serial) Commit c.args.moment.0) in
    let x : Settlement = record { files = c.args.files.now; tid = b.tid; serial = b.serial; ending = ending.Commit; moment = c.args.moment.0; entry = e; left = left } in
    let rec = slot_of (option_copied c.args.logged) in
    on_err_weaker c.settle_in_files.result
    (λ breaks. breaks_from (SettlesFiles c.args.files.now b.tid b.serial ending.Commit c.args.moment.0 e left logged) (MakesLogged x rec c.args.log.now c.set_record.new.log v) v logged c.settle_in_files.new.volume
    (same_content v logged (same_so _ c.set_record.new.volume.store c.set_record.ensures.rest))
    (λ made makes. record { logged = logged; log = c.set_record.ensures.sets; makes = makes })
    (breaks left (sym c.earliest.ensures)))
    c.settle_in_files.ensures.breaks

pub returns-clause-log : goal.returns-clause-log
returns-clause-log g c =
    let b = c.args.branch.now in
    let left = c.args.left.now.places in
    let e = entry_if c.args.has_changed (settled_entry (tid_of b.tid) (serial_of b.serial) Commit c.args.moment.0) in
    let some : 0 < c.set_record.new.volume.catalog.ru.blocks = subst (λ (k : Catalog). 0 < k.ru.blocks) (sym c.set_record.ensures.catalog) c.requires.ring.some in
    let v = c.args.volume.now in
    let files = c.args.files.now in
    let logged = c.set_record.new.volume in
    let ss = c.set_record.new.log in
    let long : length ss ≡ length c.args.log.now = c.set_record.ensures.long in
    let lie : c.args.has_changed ≡ true → AllHaveRoom files 48 logged.catalog.heads logged.store.disk × StandBehind files (584 + length ss) logged.catalog.heads =
    (λ changed. (
      subst (λ (k : Catalog). AllHaveRoom files 48 k.heads logged.store.disk) (sym c.set_record.ensures.catalog)
          (subst (λ (d : DiskState). AllHaveRoom files 48 v.catalog.heads d) (sym (ap (λ (s : StoreState). s.disk) c.set_record.ensures.rest)) (c.requires.rooms changed)),
      subst (λ (k : Catalog). StandBehind files (584 + length ss) k.heads) (sym c.set_record.ensures.catalog) (subst (λ (n : ℕ). StandBehind files (584 + n) v.catalog.heads) (sym long) (c.requires.beside changed)),
    )) in
    on_ok_weaker c.settle_in_files.result
    (λ makes h. log_settled_in c.log_is_as_it_was_left.ensures.beside c.one_entry_more.ensures.others files b.tid b.serial ending.Commit c.args.moment.0 e left ss logged c.settle_in_files.new.volume (omega arith) some
    (if_entry (AllHaveRoom files 48 logged.catalog.heads logged.store.disk × StandBehind files (584 + length ss) logged.catalog.heads) c.args.has_changed (settled_entry (tid_of b.tid) (serial_of b.serial) Commit c.args.moment.0) lie)
    (makes left (sym c.earliest.ensures)) (c.set_record.ensures.log h))
    c.settle_in_files.ensures.makes

pub settle_in_files-requires-clause-rooms : goal.settle_in_files-requires-clause-rooms
settle_in_files-requires-clause-rooms g c = λ changed.
    let v = c.args.volume.now in
    let files = c.args.files.now in
    let logged = c.set_record.new.volume in
    subst (λ (k : Catalog). AllHaveRoom files 48 k.heads logged.store.disk) (sym c.set_record.ensures.catalog)
    (subst (λ (d : DiskState). AllHaveRoom files 48 v.catalog.heads d) (sym (ap (λ (s : StoreState). s.disk) c.set_record.ensures.rest)) (c.requires.rooms changed))

pub returns-clause-grows : goal.returns-clause-grows
returns-clause-grows g c = grows_from_there 0 c.args.moment.0 c.args.volume.now c.set_record.new.volume c.settle_in_files.new.volume c.set_record.ensures.catalog c.settle_in_files.ensures.grows

pub settle_in_files-requires-clause-staged : goal.settle_in_files-requires-clause-staged
settle_in_files-requires-clause-staged g c =
    let logged = c.set_record.new.volume in
    let few = kept_few c.args.files.now 0 logged.catalog.heads in
    let staged = c.set_record.ensures.few in
    omega (arith, few, staged, ap length c.requires.idle.unstaged)
