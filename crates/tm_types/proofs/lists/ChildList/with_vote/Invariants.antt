use Rattle.std.proofs.Common.{◌≡◌, ◌≤◌, ◌++◌, length, drop, map}
use Rattle.commit_protocol.specs.Rows.{note_vote}
use Rattle.tm_types.proofs.ListLemmas.{unless_noted}
use Rattle.net_wire.specs.Messages.{kind_of}
use Rattle.tm_types.specs.Parts.{child_of}
use Rattle.vms_base.specs.Ids.{serial_of}
use Rattle.tm_types.proofs.lists.ChildList.with_vote.Given as goal

abbrev pub invariant-loop-c : goal.invariant-loop-c
invariant-loop-c l = record {
  count : length l.list ≤ l.c-index;
  made : map child_of l.list ++ unless_noted l.noted (note_vote (serial_of l.serial) (kind_of l.vote)) (map child_of (drop l.c-index l.c-items)) ≡ note_vote (serial_of l.serial) (kind_of l.vote) (map child_of l.c-items);
}
