use Rattle.std.proofs.Common.{◌≡◌, drop, map}
use Rattle.commit_protocol.specs.Rows.{all_taken}
use Rattle.tm_types.specs.Parts.{child_of}
use Rattle.vms_base.specs.Ids.{bid_of}
use Rattle.tm_types.proofs.lists.BidList.all_taken.Given as goal

abbrev pub invariant-loop-b : goal.invariant-loop-b
invariant-loop-b l = all_taken (map bid_of (drop l.b-index l.b-items)) (map child_of l.children) ≡ all_taken (map bid_of l.b-items) (map child_of l.children)
