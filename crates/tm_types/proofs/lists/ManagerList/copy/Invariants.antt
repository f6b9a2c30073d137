use Rattle.std.proofs.Common.{◌≡◌, take}
use Rattle.tm_types.proofs.lists.ManagerList.copy.Given as goal

abbrev pub invariant-loop-m : goal.invariant-loop-m
invariant-loop-m l = l.list ≡ take l.m-index l.m-items
