use Rattle.std.proofs.Common.{◌≡◌, ℕ, List, true}
use Rattle.block_disk.specs.Disk.{CallLog}
use Rattle.emitter_model.specs.Emitting.{Since}
use Rattle.script_lang.specs.script_model.Statements.{Settle}
use Rattle.said_steps.specs.run_model.Statements.{begun_with}
use Rattle.said_steps.specs.run_model.World.{World}
use Rattle.statement_steps.specs.run_agreement.Laws.{NamesApart}
use Rattle.statement_steps.specs.Settling.{restart_of}
use Rattle.run_nodes.specs.Held.{AreNodes, kept_all, names_of}
use Rattle.run_nodes.specs.Phases.{AreTold, Enters, GoesUp}
use Rattle.run_nodes.specs.Told.{RestartsTold}
use Rattle.run_nodes.proofs.settling.restart_all.Given as goal

abbrev pub invariant-loop-place : goal.invariant-loop-place
invariant-loop-place g l = record {
  names : names_of l.nodes ≡ names_of l.fn.nodes;
  nodes : (count : ℕ) → AreNodes g.D.Disk.state g.U.RecoveryUnits.state count l.fn.shared l.fn.nodes → AreNodes g.D.Disk.state g.U.RecoveryUnits.state count l.shared l.nodes;
  used : l.shared.in_use ≡ true;
  place : g.E.Emit.place l.out ≡ g.E.Emit.place l.fn.out;
  since : Since (g.E.Emit.shows l.fn.out) (g.E.Emit.shows l.out);
  told : RestartsTold l.place (kept_all g.D.Disk.state g.U.RecoveryUnits.state l.fn.nodes) l.fn.shared (g.E.Emit.shows l.fn.out) (g.E.Emit.shows l.out) (kept_all g.D.Disk.state g.U.RecoveryUnits.state l.nodes) l.shared;
  goes : (logs : List CallLog) (w : World) → Enters logs w (begun_with Settle w) (kept_all g.D.Disk.state g.U.RecoveryUnits.state l.fn.nodes) l.fn.shared → NamesApart w.nodes → AreTold (begun_with Settle w) →
      GoesUp restart_of logs w (begun_with Settle w) l.place l.place (g.E.Emit.shows l.fn.out) (g.E.Emit.shows l.out) (kept_all g.D.Disk.state g.U.RecoveryUnits.state l.nodes) l.shared;
}
