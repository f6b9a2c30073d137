use Rattle.std.proofs.Common.{◌≡◌, drop}
use Rattle.std.specs.List.{list_any}
use Rattle.commit_protocol.specs.Messages.{same_name}
use Rattle.tm_types.proofs.records.has_rm.Given as goal

abbrev pub invariant-loop-y : goal.invariant-loop-y
invariant-loop-y l = list_any (λ x. same_name x l.rm) (drop l.y-index l.y-items) ≡ list_any (λ x. same_name x l.rm) l.y-items
