use Rattle.std.specs.Prelude.{slice_get}
use Rattle.std.proofs.Common.{◌≡◌, ◌≤◌, ℕ, List, Some, true}
use Rattle.block_disk.specs.Disk.{CallLog}
use Rattle.emitter_model.specs.Emitting.{Shown, Since}
use Rattle.said_steps.specs.run_model.World.{Node, World}
use Rattle.statement_steps.specs.Settling.{AreUp, asks_of, doubts_of}
use Rattle.run_nodes.specs.Held.{AreNodes, kept_all, names_of}
use Rattle.run_nodes.specs.Phases.{AskingAt, PartsDone}
use Rattle.run_nodes.specs.Told.{TurnTold}
use Rattle.run_nodes.proofs.settling.ask_at.Given as goal

abbrev pub invariant-loop-number : goal.invariant-loop-number
invariant-loop-number g l = record {
  names : names_of l.nodes ≡ names_of l.fn.nodes;
  nodes : (count : ℕ) → AreNodes g.D.Disk.state g.U.RecoveryUnits.state count l.fn.shared l.fn.nodes → AreNodes g.D.Disk.state g.U.RecoveryUnits.state count l.shared l.nodes;
  in_use : l.fn.shared.in_use ≡ true → l.shared.in_use ≡ true;
  place : g.E.Emit.place l.out ≡ g.E.Emit.place l.fn.out;
  since : Since (g.E.Emit.shows l.fn.out) (g.E.Emit.shows l.out);
  few : l.unanswered ≤ l.number;
  told : TurnTold (names_of l.fn.nodes) (kept_all g.D.Disk.state g.U.RecoveryUnits.state l.fn.nodes) l.fn.shared (g.E.Emit.shows l.fn.out) (g.E.Emit.shows l.out) (kept_all g.D.Disk.state g.U.RecoveryUnits.state l.nodes) l.shared;
  asking : (logs : List CallLog) (w u : World) (a : Shown) (h : PartsDone asks_of logs w u l.fn.place a (g.E.Emit.shows l.fn.out) (kept_all g.D.Disk.state g.U.RecoveryUnits.state l.fn.nodes) l.fn.shared) → AreUp h.world.nodes → (n : Node) → slice_get h.world.nodes l.fn.place ≡ Some n →
      AskingAt logs w h.world l.fn.place n.name (doubts_of n) l.number l.unanswered (g.E.Emit.shows l.fn.out) (g.E.Emit.shows l.out) (kept_all g.D.Disk.state g.U.RecoveryUnits.state l.nodes) l.shared;
}
