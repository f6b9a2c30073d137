use Rattle.commit_protocol.specs.Table.{same_key}
use Rattle.tm_types.specs.Branches.{key_at, branch_of}
use Rattle.tm_table.proofs.PlaceLemmas.{NoneSoFar}
use Rattle.tm_table.proofs.places.place.Given as goal

abbrev pub invariant-loop-i : goal.invariant-loop-i
invariant-loop-i l = NoneSoFar (λ b. same_key (branch_of b).key (key_at l.tid l.serial)) l.branches l.i
