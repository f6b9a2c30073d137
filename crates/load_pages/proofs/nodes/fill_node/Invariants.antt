use Rattle.std.proofs.Common.{◌*◌, take}
use Rattle.load_pages.proofs.NodeFills.{NodeTo}
use Rattle.load_pages.proofs.nodes.fill_node.Given as goal

abbrev pub invariant-loop-i : goal.invariant-loop-i
invariant-loop-i l = record {
  to : NodeTo l.head l.first l.keys l.i (take (512 * l.head.bucket) l.bytes);
}
