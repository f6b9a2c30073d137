use Rattle.std.proofs.Common.{◌≡◌, ◌+◌, ◌≤◌, List, length}
use Rattle.block_disk.specs.Disk.{CallLog}
use Rattle.world_laws.specs.run_model.World.{DiskCounts, Node, opened}
use Rattle.world_laws.specs.run_model.Transcript.{AreOpening}
use Rattle.run_nodes.specs.Held.{AreNodes, kept_all, names_of}
use Rattle.run_nodes.specs.Together.{StandsTogether, disks_of, said_together}
use Rattle.day_model.specs.Readings.{AllSpeak}
use Rattle.day_script.specs.Scripts.{ahead}
use Rattle.day_tally.specs.Counters.{tallied_in}
use Rattle.day_run.specs.Serving.{AreLarge}
use Rattle.day_run.proofs.Going.{dumps_in}
use Rattle.day_run.proofs.Served.{Serving}
use Rattle.day_run.proofs.Telling.{Telling}
use Rattle.day_run.proofs.serving.serve_day.Given as goal

abbrev pub invariant-loop-number : goal.invariant-loop-number
invariant-loop-number g l = record {
  room : l._number + length (ahead l.script) ≤ 140023;
  speaks : AllSpeak (ahead l.script);
  dumps : length l.counts + dumps_in (ahead l.script) ≤ 6;
  nodes : AreNodes g.D.Disk.state g.U.RecoveryUnits.state l._number l.shared l.nodes;
  names : names_of l.nodes ≡ names_of l.fn.nodes;
  large : AreLarge (disks_of (kept_all g.D.Disk.state g.U.RecoveryUnits.state l.nodes));
  served : (logs : List CallLog) (first : List Node) (disks : List DiskCounts) → AreOpening first → StandsTogether logs (kept_all g.D.Disk.state g.U.RecoveryUnits.state l.fn.nodes) l.fn.shared (opened first disks) →
      Serving logs (opened first disks) l.fn.asked.count l.fn.asked.start (ahead l.script) (tallied_in l.lines) l.counts (kept_all g.D.Disk.state g.U.RecoveryUnits.state l.nodes) l.shared;
  told : Telling (names_of l.fn.nodes) (disks_of (kept_all g.D.Disk.state g.U.RecoveryUnits.state l.fn.nodes)) l.fn.asked.count l.fn.asked.start (ahead l.script) (tallied_in l.lines) l.counts
      (disks_of (kept_all g.D.Disk.state g.U.RecoveryUnits.state l.nodes)) (said_together (kept_all g.D.Disk.state g.U.RecoveryUnits.state l.nodes) l.shared);
}
