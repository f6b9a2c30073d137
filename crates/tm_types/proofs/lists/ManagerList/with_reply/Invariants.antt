use Rattle.std.proofs.Common.{◌≡◌, ◌≤◌, ◌++◌, length, drop, map}
use Rattle.commit_protocol.specs.Rows.{note_reply}
use Rattle.tm_types.proofs.ListLemmas.{unless_noted}
use Rattle.tm_types.specs.Parts.{manager_of, reply_of}
use Rattle.tm_types.proofs.lists.ManagerList.with_reply.Given as goal

abbrev pub invariant-loop-m : goal.invariant-loop-m
invariant-loop-m l = record {
  count : length l.list ≤ l.m-index;
  made : map manager_of l.list ++ unless_noted l.noted (note_reply l.rm (reply_of l.reply)) (map manager_of (drop l.m-index l.m-items)) ≡ note_reply l.rm (reply_of l.reply) (map manager_of l.m-items);
}
