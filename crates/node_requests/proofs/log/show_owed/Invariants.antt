use Rattle.std.proofs.Common.{◌≡◌, ◌≤◌, flat_map, length, take}
use Rattle.emitter_model.specs.Emitting.{Emits, Since}
use Rattle.node_requests.specs.Managers.{owed_lines_at}
use Rattle.node_requests.proofs.log.show_owed.Given as goal

abbrev pub invariant-loop-slot : goal.invariant-loop-slot
invariant-loop-slot g l = record {
  within : l.slot ≤ length (g.U.RecoveryUnits.state l.running.stored.units).log;
  place : g.E.Emit.place l.out ≡ g.E.Emit.place l.fn.out;
  since : Since (g.E.Emit.shows l.fn.out) (g.E.Emit.shows l.out);
  shows : Emits (g.E.Emit.shows l.fn.out) (flat_map (owed_lines_at l.rm) (take l.slot (g.U.RecoveryUnits.state l.running.stored.units).log)) (g.E.Emit.shows l.out);
}
