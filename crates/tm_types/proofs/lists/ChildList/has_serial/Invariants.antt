use Rattle.std.proofs.Common.{◌≡◌, drop, map}
use Rattle.commit_protocol.specs.Rows.{has_serial}
use Rattle.tm_types.specs.Parts.{child_of}
use Rattle.vms_base.specs.Ids.{serial_of}
use Rattle.tm_types.proofs.lists.ChildList.has_serial.Given as goal

abbrev pub invariant-loop-c : goal.invariant-loop-c
invariant-loop-c l = has_serial (serial_of l.serial) (map child_of (drop l.c-index l.c-items)) ≡ has_serial (serial_of l.serial) (map child_of l.c-items)
