use Rattle.commit_protocol.specs.Messages.{same_id}
use Rattle.vms_base.specs.Ids.{serial_of}
use Rattle.tm_types.specs.Parts.{log_record_of}
use Rattle.tm_table.proofs.PlaceLemmas.{NoneSoFar}
use Rattle.tm_table.proofs.places.place_of_record.Given as goal

abbrev pub invariant-loop-i : goal.invariant-loop-i
invariant-loop-i l = NoneSoFar (λ r. same_id (log_record_of r).serial (serial_of l.serial)) l.records l.i
