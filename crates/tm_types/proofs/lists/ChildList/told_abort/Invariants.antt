use Rattle.std.proofs.Common.{◌≡◌, ◌≤◌, ◌++◌, length, drop, map}
use Rattle.tm_types.proofs.ListLemmas.{hearing}
use Rattle.tm_types.specs.Parts.{child_of}
use Rattle.vms_base.specs.Ids.{serial_of}
use Rattle.tm_types.proofs.lists.ChildList.told_abort.Given as goal

abbrev pub invariant-loop-c : goal.invariant-loop-c
invariant-loop-c l = record {
  count : length l.list ≤ l.c-index;
  made : map serial_of l.list ++ hearing (map child_of (drop l.c-index l.c-items)) ≡ hearing (map child_of l.c-items);
}
