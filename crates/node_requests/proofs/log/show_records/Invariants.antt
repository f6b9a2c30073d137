use Rattle.std.proofs.Common.{◌≡◌, ◌≤◌, length, map, take}
use Rattle.world_laws.specs.log_laws.Slots.{records_in, slot_records}
use Rattle.world_laws.specs.run_model.Answers.{log_line}
use Rattle.emitter_model.specs.Emitting.{Emits, Since}
use Rattle.node_requests.proofs.log.show_records.Given as goal

abbrev pub invariant-loop-slot : goal.invariant-loop-slot
invariant-loop-slot g l = record {
  within : l.slot ≤ length (g.U.RecoveryUnits.state l.running.stored.units).log;
  few : l.count ≤ l.slot;
  place : g.E.Emit.place l.out ≡ g.E.Emit.place l.fn.out;
  since : Since (g.E.Emit.shows l.fn.out) (g.E.Emit.shows l.out);
  shows : Emits (g.E.Emit.shows l.fn.out) (map log_line (slot_records 0 (take l.slot (g.U.RecoveryUnits.state l.running.stored.units).log))) (g.E.Emit.shows l.out);
  count : l.count ≡ length (records_in (take l.slot (g.U.RecoveryUnits.state l.running.stored.units).log));
}
