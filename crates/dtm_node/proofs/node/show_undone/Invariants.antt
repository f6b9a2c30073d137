use Rattle.std.proofs.Common.{◌≡◌, map, take}
use Rattle.emitter_model.specs.Emitting.{Emits, Since}
use Rattle.dtm_node.specs.Nodes.{undone_line}
use Rattle.dtm_node.proofs.node.show_undone.Given as goal

abbrev pub invariant-loop-unit : goal.invariant-loop-unit
invariant-loop-unit g l = record {
  place : g.E.Emit.place l.out ≡ g.E.Emit.place l.fn.out;
  since : Since (g.E.Emit.shows l.fn.out) (g.E.Emit.shows l.out);
  emits : Emits (g.E.Emit.shows l.fn.out) (map undone_line (take l.unit-index l.units)) (g.E.Emit.shows l.out);
}
