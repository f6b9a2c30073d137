use Rattle.std.proofs.Common.{◌≡◌, ◌+◌, ◌≤◌, take, drop}
use Rattle.indexmap.specs.IndexMap.{spare}
use Rattle.day_run.specs.run_nodes.Held.{kept_all, names_of}
use Rattle.day_run.specs.run_nodes.Together.{disks_of}
use Rattle.dtm_run.specs.Racks.{names_in, states_in}
use Rattle.dtm_run.proofs.top.put_back.Given as goal

abbrev pub invariant-loop-number : goal.invariant-loop-number
invariant-loop-number g l = record {
  left : l.nodes.nodes.entries ≡ drop l._number l.fn.nodes.nodes.entries;
  names : names_in l.rack ≡ take l._number (names_of l.fn.nodes);
  disks : states_in g.D.Disk.state l.rack ≡ take l._number (disks_of (kept_all g.D.Disk.state g.U.RecoveryUnits.state l.fn.nodes));
  room : 8 ≤ spare l.rack.nodes + l._number;
}
