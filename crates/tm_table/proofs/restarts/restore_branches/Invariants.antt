use Rattle.std.proofs.Common.{◌≡◌, ◌≤◌, ◌++◌, drop, map, vec_len, vec_capacity}
use Rattle.commit_protocol.specs.Table.{branches_of}
use Rattle.tm_types.specs.Parts.{log_record_of}
use Rattle.tm_types.specs.Branches.{branch_of}
use Rattle.tm_table.proofs.restarts.restore_branches.Given as goal

abbrev pub invariant-loop-r : goal.invariant-loop-r
invariant-loop-r l = record {
  count : vec_len l.branches ≤ l.r-index;
  capacity : vec_capacity l.branches ≡ vec_capacity l.fn.branches;
  made : map branch_of l.branches.items ++ branches_of (map log_record_of (drop l.r-index l.prepared)) ≡ branches_of (map log_record_of l.prepared);
}
