use Rattle.commit_protocol.specs.Table.{waits_for}
use Rattle.tm_types.specs.Branches.{key_at}
use Rattle.tm_types.specs.Parts.{log_record_of}
use Rattle.tm_table.proofs.PlaceLemmas.{NoneSoFar}
use Rattle.tm_table.proofs.places.place_of_waiting.Given as goal

abbrev pub invariant-loop-i : goal.invariant-loop-i
invariant-loop-i l = NoneSoFar (λ r. waits_for (key_at l.tid l.serial) (log_record_of r)) l.records l.i
