-- The disk went down while the settlement was made.
use Rattle.std.proofs.Common.{ap}
use Rattle.std.proofs.lemmas.Result.{on_err_weaker}
use Rattle.careful_write.specs.State.{content}
use Rattle.vms_base.specs.Ids.{serial_of, tid_of}
use Rattle.vms_base.specs.Outcomes.{outcome_of}
use Rattle.unit_journal.specs.Entries.{settled_entry}
use Rattle.unit_journal.specs.Settling.{MakesSettlement, entry_if}
use Rattle.file_settlements.specs.Settling.{SettlesFiles}
use Rattle.file_settlements.proofs.Behind.{breaks_behind}
use Rattle.file_settlements.proofs.settling.settle_with_files.Goals as goal

pub returns-clause-breaks : goal.returns-clause-breaks
returns-clause-breaks g c =
    let v = c.args.volume.now in
    let mid = c.enter_in_files.new.volume in
    let b = c.args.branch.now in
    let e = entry_if c.args.has_changed (settled_entry (tid_of b.tid) (serial_of b.serial) (outcome_of c.args.outcome) c.args.moment.0) in
    on_err_weaker c.settle_staged.result
    (λ breaks left is. breaks_behind (MakesSettlement b.tid b.serial c.args.ending c.args.moment.0 e left mid) (SettlesFiles c.args.files.now b.tid b.serial c.args.ending c.args.moment.0 e left v) v mid c.settle_staged.new.volume (ap content c.in-Ok.ensures.rest)
    (λ made makes. record { mid = mid; entered = record { current = c.in-Ok.ensures.current; catalog = c.in-Ok.ensures.catalog }; settles = makes }) (breaks left is))
    c.settle_staged.ensures.breaks
