use Rattle.std.proofs.Common.{◌≡◌, ◌+◌, ◌≤◌, drop, map, length}
use Rattle.commit_protocol.specs.Rows.{sends_all, to_each}
use Rattle.vms_base.specs.Ids.{tid_of, serial_of}
use Rattle.net_wire.specs.Messages.{kind_of}
use Rattle.tm_table.specs.Doing.{does}
use Rattle.tm_table.proofs.table.Table.send_each.Given as goal

abbrev pub invariant-loop-s : goal.invariant-loop-s
invariant-loop-s l = record {
  done : does (sends_all (to_each (kind_of l.kind) (tid_of l.tid) (map serial_of (drop l.s-index l.s-items)))) l.self ≡ does (sends_all (to_each (kind_of l.kind) (tid_of l.tid) (map serial_of l.s-items))) l.fn.self;
  table : l.self.tm ≡ l.fn.self.tm;
  room : length l.self.effects ≤ length l.fn.self.effects + l.s-index;
}
