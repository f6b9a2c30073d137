-- What a disk has, by its first entries and records.
use Rattle.std.proofs.Common.{◌≡◌, ◌≤◌, ℕ, List, ◌∷◌, sym, ap, length, get_or}
use Rattle.std.specs.Prelude.{map}
use Rattle.log_laws.specs.commit_protocol.Messages.{LogRecord}
use Rattle.log_laws.specs.commit_protocol.Table.{Key, record_key}
use Rattle.reference_index.specs.run_model.World as world
use Rattle.reference_index.specs.run_model.Locks.{Lock}
use Rattle.vms_base.specs.declared.protocol.LogRec.{LogRec}
use Rattle.tm_types.specs.Parts.{log_record_of}
use Rattle.reference_index.proofs.ListLemmas.{behind_first, parts}
use Rattle.reference_disk.specs.Disks.{log_records_of}

-- the branches of records, by the first of them
pub first_key : (rs : List LogRec) (r : LogRec) → 1 ≤ length rs → r ≡ get_or rs 0 r →
    record_key (log_record_of r) ∷ map (λ (q : LogRecord). record_key q) (log_records_of (behind_first rs)) ≡ map (λ (q : LogRecord). record_key q) (log_records_of rs)
first_key rs r some is = ap (λ xs. map (λ (q : LogRecord). record_key q) (log_records_of xs)) (sym (parts rs r some is))

-- the locks that branches hold after a boot, by the first of their records
pub first_relocked : (d : world.Durable) (rs : List LogRec) (r : LogRec) (ls : List Lock) → 1 ≤ length rs → r ≡ get_or rs 0 r →
    world.relocked (log_records_of (behind_first rs)) d (world.relocked_by (log_record_of r).serial d.directory d.units.entries ls) ≡ world.relocked (log_records_of rs) d ls
first_relocked d rs r ls some is = ap (λ xs. world.relocked (log_records_of xs) d ls) (sym (parts rs r some is))
