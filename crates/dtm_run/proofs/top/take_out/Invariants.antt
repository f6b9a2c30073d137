use Rattle.std.proofs.Common.{◌≡◌, ◌+◌, ◌≤◌, take, drop}
use Rattle.indexmap.specs.IndexMap.{spare}
use Rattle.dtm_run.specs.Taking.{AreNew}
use Rattle.dtm_run.proofs.top.take_out.Given as goal

abbrev pub invariant-loop-number : goal.invariant-loop-number
invariant-loop-number g l = record {
  left : l.rack.nodes.entries ≡ drop l._number l.fn.rack.nodes.entries;
  new : AreNew g.D.Disk.state g.U.RecoveryUnits.state (take l._number l.fn.rack.nodes.entries) l.nodes.nodes.entries;
  room : 8 ≤ spare l.nodes.nodes + l._number;
  spare_room : spare l.fn.rack.nodes ≤ spare l.rack.nodes;
}
