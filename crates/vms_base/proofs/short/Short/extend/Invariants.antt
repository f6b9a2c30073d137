use Rattle.std.proofs.Common.{◌≡◌, ◌≤◌, ◌+◌, ◌++◌, take, length}
use Rattle.vms_base.proofs.short.Short.extend.Given as goal

abbrev pub invariant-loop-b : goal.invariant-loop-b
invariant-loop-b g l = record {
  few : length l.initial.self + length l.bytes ≤ g.row.N;
  all : l.self ≡ l.initial.self ++ take l.b-index l.bytes;
}
