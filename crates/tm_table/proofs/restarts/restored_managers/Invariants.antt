use Rattle.std.proofs.Common.{◌≡◌, ◌≤◌, ◌++◌, length, drop, map}
use Rattle.commit_protocol.specs.Table.{managers_of}
use Rattle.tm_types.specs.Parts.{manager_of}
use Rattle.tm_table.proofs.restarts.restored_managers.Given as goal

abbrev pub invariant-loop-rm : goal.invariant-loop-rm
invariant-loop-rm l = record {
  count : length l.list ≤ l.rm-index;
  made : map manager_of l.list ++ managers_of (drop l.rm-index l.rm-items) ≡ managers_of l.rm-items;
}
