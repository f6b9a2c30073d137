use Rattle.std.proofs.Common.{◌≡◌, drop, map}
use Rattle.commit_protocol.specs.Rows.{all_voted}
use Rattle.tm_types.specs.Parts.{child_of}
use Rattle.tm_types.proofs.lists.ChildList.all_voted.Given as goal

abbrev pub invariant-loop-c : goal.invariant-loop-c
invariant-loop-c l = all_voted (map child_of (drop l.c-index l.c-items)) ≡ all_voted (map child_of l.c-items)
