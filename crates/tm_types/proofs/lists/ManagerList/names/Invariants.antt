use Rattle.std.proofs.Common.{◌≡◌, ◌≤◌, ◌++◌, length, drop, map}
use Rattle.commit_protocol.specs.Rows.{joined}
use Rattle.tm_types.specs.Parts.{manager_of}
use Rattle.tm_types.proofs.lists.ManagerList.names.Given as goal

abbrev pub invariant-loop-m : goal.invariant-loop-m
invariant-loop-m l = record {
  count : length l.list ≤ l.m-index;
  made : l.list ++ joined (map manager_of (drop l.m-index l.m-items)) ≡ joined (map manager_of l.m-items);
}
