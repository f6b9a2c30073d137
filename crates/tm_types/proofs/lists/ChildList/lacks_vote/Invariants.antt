use Rattle.std.proofs.Common.{◌≡◌, drop, map}
use Rattle.commit_protocol.specs.Rows.{lacks_vote}
use Rattle.std.specs.List.{list_any}
use Rattle.tm_types.specs.Parts.{child_of}
use Rattle.vms_base.specs.Ids.{serial_of}
use Rattle.tm_types.proofs.lists.ChildList.lacks_vote.Given as goal

abbrev pub invariant-loop-c : goal.invariant-loop-c
invariant-loop-c l = list_any (λ d. lacks_vote (serial_of l.serial) d) (map child_of (drop l.c-index l.c-items)) ≡ list_any (λ d. lacks_vote (serial_of l.serial) d) (map child_of l.c-items)
