use Rattle.std.proofs.Common.{◌≡◌, ℕ, List, true}
use Rattle.block_disk.specs.Disk.{CallLog}
use Rattle.emitter_model.specs.Emitting.{Since}
use Rattle.said_steps.specs.run_model.World.{World}
use Rattle.statement_steps.specs.Settling.{AreUp, asks_of}
use Rattle.run_nodes.specs.Held.{AreNodes, kept_all, names_of}
use Rattle.run_nodes.specs.Phases.{Enters, PartsDone}
use Rattle.run_nodes.specs.Told.{TurnTold}
use Rattle.run_nodes.proofs.settling.ask_all.Given as goal

abbrev pub invariant-loop-place : goal.invariant-loop-place
invariant-loop-place g l = record {
  names : names_of l.nodes ≡ names_of l.fn.nodes;
  nodes : (count : ℕ) → AreNodes g.D.Disk.state g.U.RecoveryUnits.state count l.fn.shared l.fn.nodes → AreNodes g.D.Disk.state g.U.RecoveryUnits.state count l.shared l.nodes;
  in_use : l.fn.shared.in_use ≡ true → l.shared.in_use ≡ true;
  place : g.E.Emit.place l.out ≡ g.E.Emit.place l.fn.out;
  since : Since (g.E.Emit.shows l.fn.out) (g.E.Emit.shows l.out);
  told : TurnTold (names_of l.fn.nodes) (kept_all g.D.Disk.state g.U.RecoveryUnits.state l.fn.nodes) l.fn.shared (g.E.Emit.shows l.fn.out) (g.E.Emit.shows l.out) (kept_all g.D.Disk.state g.U.RecoveryUnits.state l.nodes) l.shared;
  goes : (logs : List CallLog) (w u : World) → Enters logs w u (kept_all g.D.Disk.state g.U.RecoveryUnits.state l.fn.nodes) l.fn.shared → AreUp u.nodes →
      (h : PartsDone asks_of logs w u l.place (g.E.Emit.shows l.fn.out) (g.E.Emit.shows l.out) (kept_all g.D.Disk.state g.U.RecoveryUnits.state l.nodes) l.shared) × AreUp h.world.nodes;
}
