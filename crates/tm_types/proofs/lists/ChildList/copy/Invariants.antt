use Rattle.std.proofs.Common.{◌≡◌, take}
use Rattle.tm_types.proofs.lists.ChildList.copy.Given as goal

abbrev pub invariant-loop-c : goal.invariant-loop-c
invariant-loop-c l = l.list ≡ take l.c-index l.c-items
