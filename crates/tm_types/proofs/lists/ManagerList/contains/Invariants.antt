use Rattle.std.proofs.Common.{◌≡◌, drop, map}
use Rattle.std.specs.List.{list_any}
use Rattle.commit_protocol.specs.Messages.{same_name}
use Rattle.tm_types.specs.Parts.{manager_of}
use Rattle.tm_types.proofs.lists.ManagerList.contains.Given as goal

abbrev pub invariant-loop-m : goal.invariant-loop-m
invariant-loop-m l = list_any (λ m. same_name m.rm l.rm) (map manager_of (drop l.m-index l.m-items)) ≡ list_any (λ m. same_name m.rm l.rm) (map manager_of l.m-items)
