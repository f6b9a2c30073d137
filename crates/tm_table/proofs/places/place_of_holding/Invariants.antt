use Rattle.commit_protocol.specs.Table.{holds}
use Rattle.tm_types.specs.Parts.{log_record_of}
use Rattle.vms_base.specs.Ids.{serial_of}
use Rattle.tm_table.proofs.PlaceLemmas.{NoneSoFar}
use Rattle.tm_table.proofs.places.place_of_holding.Given as goal

abbrev pub invariant-loop-i : goal.invariant-loop-i
invariant-loop-i l = NoneSoFar (λ r. holds (serial_of l.serial) l.rm (log_record_of r)) l.records l.i
