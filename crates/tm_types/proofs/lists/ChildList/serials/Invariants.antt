use Rattle.std.proofs.Common.{◌≡◌, ◌≤◌, ◌++◌, length, drop, map}
use Rattle.commit_protocol.specs.Rows.{serials}
use Rattle.tm_types.specs.Parts.{child_of}
use Rattle.vms_base.specs.Ids.{serial_of}
use Rattle.tm_types.proofs.lists.ChildList.serials.Given as goal

abbrev pub invariant-loop-c : goal.invariant-loop-c
invariant-loop-c l = record {
  count : length l.list ≤ l.c-index;
  made : map serial_of l.list ++ serials (map child_of (drop l.c-index l.c-items)) ≡ serials (map child_of l.c-items);
}
