use Rattle.std.proofs.Common.{◌≡◌, drop, map}
use Rattle.std.specs.List.{list_any}
use Rattle.commit_protocol.specs.Messages.{same_id}
use Rattle.vms_base.specs.Ids.{tid_of}
use Rattle.tm_types.specs.Parts.{log_record_of}
use Rattle.tm_table.proofs.places.has_record.Given as goal

abbrev pub invariant-loop-r : goal.invariant-loop-r
invariant-loop-r l = list_any (λ r. same_id r.tid (tid_of l.tid)) (map log_record_of (drop l.r-index l.records)) ≡ list_any (λ r. same_id r.tid (tid_of l.tid)) (map log_record_of l.records)
