use Rattle.commit_protocol.specs.Messages.{same_id}
use Rattle.vms_base.specs.Ids.{serial_of}
use Rattle.tm_types.specs.Branches.{branch_of}
use Rattle.tm_table.proofs.PlaceLemmas.{NoneSoFar}
use Rattle.tm_table.proofs.places.place_of_serial.Given as goal

abbrev pub invariant-loop-i : goal.invariant-loop-i
invariant-loop-i l = NoneSoFar (λ b. same_id (branch_of b).key.serial (serial_of l.serial)) l.branches l.i
