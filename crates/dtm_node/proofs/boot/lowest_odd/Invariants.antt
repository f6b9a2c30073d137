use Rattle.std.proofs.Common.{◌≡◌, ◌≤◌, take, length}
use Rattle.recovery_units.specs.volume_model.Bars.{lowest_odd_ring, lowest_odd_root}
use Rattle.dtm_node.proofs.boot.lowest_odd.Given as goal

abbrev pub invariant-loop-file : goal.invariant-loop-file
invariant-loop-file g l = record {
  ring : l.ring ≡ lowest_odd_ring (take l.file l.fn.volume.catalog.heads);
  root : l.root ≡ lowest_odd_root (take l.file l.fn.volume.catalog.heads);
  ring_most : l.ring ≤ 65536;
  root_most : l.root ≤ 65536;
  long : 1 ≤ l.file → length l.fn.volume.catalog.heads ≡ 64;
}
