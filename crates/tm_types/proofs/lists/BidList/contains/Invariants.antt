use Rattle.std.proofs.Common.{◌≡◌, drop, map}
use Rattle.std.specs.List.{list_any}
use Rattle.commit_protocol.specs.Messages.{same_id}
use Rattle.vms_base.specs.Ids.{bid_of}
use Rattle.tm_types.proofs.lists.BidList.contains.Given as goal

abbrev pub invariant-loop-b : goal.invariant-loop-b
invariant-loop-b l = list_any (λ x. same_id x (bid_of l.bid)) (map bid_of (drop l.b-index l.b-items)) ≡ list_any (λ x. same_id x (bid_of l.bid)) (map bid_of l.b-items)
