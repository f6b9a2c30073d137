use Rattle.std.proofs.Common.{◌≡◌, take}
use Rattle.tm_types.proofs.lists.BidList.copy.Given as goal

abbrev pub invariant-loop-b : goal.invariant-loop-b
invariant-loop-b l = l.list ≡ take l.b-index l.b-items
