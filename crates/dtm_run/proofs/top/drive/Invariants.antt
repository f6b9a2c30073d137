use Rattle.std.proofs.Common.{◌≡◌, ◌≤◌, List, false}
use Rattle.transcript.specs.Reading.{IsSound, lines_ahead, taken_bytes}
use Rattle.world_laws.specs.run_model.World.{Node}
use Rattle.world_laws.specs.run_model.Transcript.{AreOpening}
use Rattle.day_run.specs.run_nodes.Held.{AreNodes, kept_all, names_of}
use Rattle.day_run.specs.run_nodes.Together.{disks_of, said_together}
use Rattle.dtm_run.specs.Headline.{AllGo, DisksRepresent}
use Rattle.dtm_run.proofs.Driving.{Going}
use Rattle.dtm_run.proofs.Telling.{Telling}
use Rattle.dtm_run.proofs.top.drive.Given as goal

abbrev pub invariant-loop-number : goal.invariant-loop-number
invariant-loop-number g l = record {
  sound : IsSound l.reader;
  few : l.number ≤ 1000001;
  nodes : AreNodes g.D.Disk.state g.U.RecoveryUnits.state l.number l.shared l.nodes;
  names : names_of l.nodes ≡ names_of l.fn.nodes;
  goes : AllGo (disks_of (kept_all g.D.Disk.state g.U.RecoveryUnits.state l.fn.nodes)) (disks_of (kept_all g.D.Disk.state g.U.RecoveryUnits.state l.nodes));
  same_sink : l.out.sink.ghost_name ≡ l.fn.out.sink.ghost_name;
  failed : l.out.failed ≡ false;
  read_count : g.S.Source.faults l.fn.source ≤ g.S.Source.faults l.source;
  write_count : g.K.Sink.faults l.fn.out.sink.now ≤ g.K.Sink.faults l.out.sink.now;
  going : (said : List Node) → AreOpening said → DisksRepresent (names_of l.fn.nodes) (disks_of (kept_all g.D.Disk.state g.U.RecoveryUnits.state l.fn.nodes)) said →
      Going (names_of l.fn.nodes) (record { nodes = said; disks = disks_of (kept_all g.D.Disk.state g.U.RecoveryUnits.state l.fn.nodes) }) (lines_ahead l.fn.reader (g.S.Source.left l.fn.source)) (lines_ahead l.reader (g.S.Source.left l.source)) (g.K.Sink.shown l.fn.out.sink.now) (g.K.Sink.shown l.out.sink.now)
      l.number (taken_bytes l.reader) (kept_all g.D.Disk.state g.U.RecoveryUnits.state l.nodes) l.shared;
  telling : Telling (names_of l.fn.nodes) (disks_of (kept_all g.D.Disk.state g.U.RecoveryUnits.state l.fn.nodes)) (lines_ahead l.fn.reader (g.S.Source.left l.fn.source)) (lines_ahead l.reader (g.S.Source.left l.source)) (g.K.Sink.shown l.fn.out.sink.now) (g.K.Sink.shown l.out.sink.now)
      l.number (taken_bytes l.reader) (disks_of (kept_all g.D.Disk.state g.U.RecoveryUnits.state l.nodes)) (said_together (kept_all g.D.Disk.state g.U.RecoveryUnits.state l.nodes) l.shared);
}
