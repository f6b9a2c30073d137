use Rattle.std.proofs.Common.{◌≡◌, drop, map}
use Rattle.commit_protocol.specs.Rows.{has_bid}
use Rattle.tm_types.specs.Parts.{child_of}
use Rattle.vms_base.specs.Ids.{bid_of}
use Rattle.tm_types.proofs.lists.ChildList.has_bid.Given as goal

abbrev pub invariant-loop-c : goal.invariant-loop-c
invariant-loop-c l = has_bid (bid_of l.bid) (map child_of (drop l.c-index l.c-items)) ≡ has_bid (bid_of l.bid) (map child_of l.c-items)
