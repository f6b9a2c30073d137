use Rattle.std.proofs.Common.{◌≡◌, ◌&&◌, not, drop, map}
use Rattle.std.specs.List.{list_any}
use Rattle.commit_protocol.specs.Messages.{same_name}
use Rattle.commit_protocol.specs.Rows.{is_noted}
use Rattle.tm_types.specs.Parts.{child_of}
use Rattle.tm_types.proofs.lists.ChildList.awaits.Given as goal

abbrev pub invariant-loop-c : goal.invariant-loop-c
invariant-loop-c l = list_any (λ d. same_name d.serial.node l.node && not (is_noted d.vote)) (map child_of (drop l.c-index l.c-items)) ≡ list_any (λ d. same_name d.serial.node l.node && not (is_noted d.vote)) (map child_of l.c-items)
