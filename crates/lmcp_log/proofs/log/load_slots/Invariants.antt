use Rattle.std.proofs.Common.{◌≡◌, ◌≤◌, IfSome, length, map, vec_capacity}
use Rattle.log_laws.specs.commit_protocol.Messages.{LogRecord}
use Rattle.log_laws.specs.commit_protocol.Table.{record_serials}
use Rattle.log_laws.specs.commit_protocol.World.{In}
use Rattle.log_laws.specs.commit_protocol.Agreement.{Distinct}
use Rattle.log_laws.specs.Slots.{records_in}
use Rattle.careful_write.specs.Reads.{SameButReads}
use Rattle.lmcp_log.specs.Slot.{IsRecord}
use Rattle.lmcp_log.specs.Log.{slot_of, IsReading}
use Rattle.lmcp_log.proofs.log.load_slots.Given as goal

abbrev pub invariant-loop-i : goal.invariant-loop-i
invariant-loop-i g l = record {
  same : SameButReads l.fn.store l.store;
  count : length l.slots.items ≡ l.i;
  within : l.i ≤ l.count;
  room : 512 ≤ vec_capacity l.slots;
  reading : IfSome l.fn.store.current (IsReading (map slot_of l.slots.items));
  records : (r : LogRecord) → In r (records_in (map slot_of l.slots.items)) → IsRecord r;
  distinct : Distinct (record_serials (records_in (map slot_of l.slots.items)));
}
