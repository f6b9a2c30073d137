use Rattle.std.proofs.Common.{◌≡◌, ◌≤◌, ◌++◌, drop, map, vec_len, vec_capacity}
use Rattle.tm_types.specs.Parts.{log_record_of}
use Rattle.tm_table.proofs.restarts.restore_records.Given as goal

abbrev pub invariant-loop-r : goal.invariant-loop-r
invariant-loop-r l = record {
  count : vec_len l.records ≤ l.r-index;
  capacity : vec_capacity l.records ≡ vec_capacity l.fn.records;
  made : map log_record_of l.records.items ++ map log_record_of (drop l.r-index l.committed) ≡ map log_record_of l.committed;
}
