use Rattle.std.proofs.Common.{◌≡◌, ◌≤◌, length, take}
use Rattle.world_laws.specs.log_laws.Slots.{committed_of, free_slots, prepared_of, records_in}
use Rattle.node_requests.proofs.log.count_slots.Given as goal

abbrev pub invariant-loop-slot : goal.invariant-loop-slot
invariant-loop-slot g l = record {
  within : l.slot ≤ length (g.U.RecoveryUnits.state l.running.stored.units).log;
  few : (l.counts.committed ≤ l.slot) × (l.counts.prepared ≤ l.slot) × (l.counts.free ≤ l.slot);
  committed : l.counts.committed ≡ length (committed_of (records_in (take l.slot (g.U.RecoveryUnits.state l.running.stored.units).log)));
  prepared : l.counts.prepared ≡ length (prepared_of (records_in (take l.slot (g.U.RecoveryUnits.state l.running.stored.units).log)));
  free : l.counts.free ≡ free_slots (take l.slot (g.U.RecoveryUnits.state l.running.stored.units).log);
}
