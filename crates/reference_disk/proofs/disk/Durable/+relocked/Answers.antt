use Rattle.std.proofs.Common.{◌≡◌, ◌∙◌, List, Option, ap}
use Rattle.std.proofs.lemmas.Result.{IfOk-weaker}
use Rattle.reference_index.specs.run_model.World as world
use Rattle.reference_index.specs.run_model.Locks.{Lock}
use Rattle.tm_types.specs.Parts.{log_record_of}
use Rattle.reference_index.specs.Standing.{locks_of}
use Rattle.reference_world.specs.Standing.{directory_of}
use Rattle.reference_units.specs.Entries.{entries_of}
use Rattle.reference_index.proofs.ListLemmas.{behind_first}
use Rattle.reference_disk.specs.Disks.{durable_of, log_records_of}
use Rattle.reference_disk.proofs.DiskLemmas.{first_relocked}
use Rattle.reference_disk.proofs.disk.Durable.+relocked.Goals as goal

pub returns-in_ok-more-in-len1-up : goal.returns-in_ok-more-in-len1-up
returns-in_ok-more-in-len1-up t c =
    let d = durable_of c.args.self.now in
    let r = log_record_of c.r-item.result in
    let more : locks_of c.in_ok-more-in-len1-up.more.items ≡ world.relocked_by r.serial d.directory d.units.entries (locks_of c.args.locks.items) =
    c.in_ok-more-in-len1-up.ensures
    ∙ (λ i. world.relocked_by r.serial (directory_of (c.as_slice.ensures.value i)) (entries_of (c.as_slice-in-len1-up.ensures.value i)) (locks_of c.args.locks.items)) in
    IfOk-weaker c.relocked.result _ _ (λ v is. is ∙ ap (λ (ls : List Lock). world.relocked (log_records_of (behind_first c.args.records.now)) d ls) more
    ∙ first_relocked d c.args.records.now c.r-item.result (locks_of c.args.locks.items) c.in-len1-up.len_at_least c.r-item.is) c.relocked.ensures
