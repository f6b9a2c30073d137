use Rattle.std.proofs.Common.{◌≡◌, ◌≤◌, ◌++◌, length, drop, map}
use Rattle.commit_protocol.specs.Table.{without}
use Rattle.vms_base.specs.Ids.{serial_of}
use Rattle.tm_types.proofs.records.without_serial.Given as goal

abbrev pub invariant-loop-s : goal.invariant-loop-s
invariant-loop-s l = record {
  count : length l.list ≤ l.s-index;
  made : map serial_of l.list ++ without (serial_of l.serial) (map serial_of (drop l.s-index l.s-items)) ≡ without (serial_of l.serial) (map serial_of l.s-items);
}
