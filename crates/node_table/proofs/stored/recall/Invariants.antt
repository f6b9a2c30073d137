use Rattle.std.proofs.Common.{◌≡◌, ◌≤◌, take, length, vec_capacity}
use Rattle.node_table.proofs.Recalling.{serials_in}
use Rattle.node_table.proofs.stored.recall.Given as goal

abbrev pub invariant-loop-record : goal.invariant-loop-record
invariant-loop-record l = record {
  serials : l.in_doubt.items ≡ serials_in (take l.record-index l.prepared);
  count : length l.in_doubt.items ≡ l.record-index;
  room : 64 ≤ vec_capacity l.in_doubt;
}
