use Rattle.std.proofs.Common.{◌≡◌, map, take}
use Rattle.emitter_model.specs.Emitting.{Emits, Since}
use Rattle.dtm_node.specs.Opening.{prepared_told}
use Rattle.dtm_node.proofs.node.show_prepared.Given as goal

abbrev pub invariant-loop-logged : goal.invariant-loop-logged
invariant-loop-logged g l = record {
  place : g.E.Emit.place l.out ≡ g.E.Emit.place l.fn.out;
  since : Since (g.E.Emit.shows l.fn.out) (g.E.Emit.shows l.out);
  emits : Emits (g.E.Emit.shows l.fn.out) (map prepared_told (take l.logged-index l.records)) (g.E.Emit.shows l.out);
}
