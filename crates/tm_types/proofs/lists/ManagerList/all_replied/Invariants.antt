use Rattle.std.proofs.Common.{◌≡◌, drop, map}
use Rattle.commit_protocol.specs.Rows.{all_replied}
use Rattle.tm_types.specs.Parts.{manager_of}
use Rattle.tm_types.proofs.lists.ManagerList.all_replied.Given as goal

abbrev pub invariant-loop-m : goal.invariant-loop-m
invariant-loop-m l = all_replied (map manager_of (drop l.m-index l.m-items)) ≡ all_replied (map manager_of l.m-items)
