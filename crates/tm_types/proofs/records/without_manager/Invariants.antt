use Rattle.std.proofs.Common.{◌≡◌, ◌≤◌, ◌++◌, length, drop}
use Rattle.commit_protocol.specs.Table.{without_rm}
use Rattle.tm_types.proofs.records.without_manager.Given as goal

abbrev pub invariant-loop-y : goal.invariant-loop-y
invariant-loop-y l = record {
  count : length l.list ≤ l.y-index;
  made : l.list ++ without_rm l.rm (drop l.y-index l.y-items) ≡ without_rm l.rm l.y-items;
}
