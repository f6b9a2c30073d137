use Rattle.std.proofs.Common.{◌≡◌, ◌+◌, ◌≤◌, drop, length}
use Rattle.commit_protocol.specs.Rows.{tells}
use Rattle.tm_types.specs.Parts.{rm_event_of}
use Rattle.tm_types.specs.Branches.{key_at}
use Rattle.tm_table.specs.Doing.{does}
use Rattle.tm_table.proofs.table.Table.tell_each.Given as goal

abbrev pub invariant-loop-rm : goal.invariant-loop-rm
invariant-loop-rm l = record {
  done : does (tells (rm_event_of l.event) (key_at l.tid l.serial) (drop l.rm-index l.rm-items)) l.self ≡ does (tells (rm_event_of l.event) (key_at l.tid l.serial) l.rm-items) l.fn.self;
  table : l.self.tm ≡ l.fn.self.tm;
  room : length l.self.effects ≤ length l.fn.self.effects + l.rm-index;
}
