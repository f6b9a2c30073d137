use Rattle.std.proofs.Common.{◌≡◌, ◌≤◌, ◌++◌, length, drop, map}
use Rattle.commit_protocol.specs.Rows.{asks}
use Rattle.tm_types.specs.Parts.{manager_of, rm_event_of}
use Rattle.tm_types.proofs.lists.ManagerList.asked.Given as goal

abbrev pub invariant-loop-m : goal.invariant-loop-m
invariant-loop-m l = record {
  count : length l.list ≤ l.m-index;
  made : map manager_of l.list ++ asks (rm_event_of l.event) (map manager_of (drop l.m-index l.m-items)) ≡ asks (rm_event_of l.event) (map manager_of l.m-items);
}
