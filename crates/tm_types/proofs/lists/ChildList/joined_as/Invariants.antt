use Rattle.std.proofs.Common.{◌≡◌, drop, map}
use Rattle.commit_protocol.specs.Rows.{joined_as}
use Rattle.tm_types.specs.Parts.{child_of}
use Rattle.vms_base.specs.Ids.{bid_of, serial_of}
use Rattle.tm_types.proofs.lists.ChildList.joined_as.Given as goal

abbrev pub invariant-loop-c : goal.invariant-loop-c
invariant-loop-c l = joined_as (bid_of l.bid) (serial_of l.serial) (map child_of (drop l.c-index l.c-items)) ≡ joined_as (bid_of l.bid) (serial_of l.serial) (map child_of l.c-items)
