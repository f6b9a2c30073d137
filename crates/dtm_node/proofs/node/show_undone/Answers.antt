use Rattle.std.proofs.Common.{List, subst, sym, ◌∙◌}
use Rattle.emitter_model.specs.Emitting.{Emits}
use Rattle.emitter_model.specs.transcript_model.Lines.{Line}
use Rattle.emitter_model.proofs.EmittingLemmas.{emits_on, since_on}
use Rattle.dtm_node.specs.Nodes.{undone_line}
use Rattle.dtm_node.proofs.Reopening.{lines_more}
use Rattle.dtm_node.proofs.node.show_undone.Goals as goal

pub loop-unit-preserved : goal.loop-unit-preserved
loop-unit-preserved g c =
    let before = g.E.Emit.shows c.args.out.now in
    let after = g.E.Emit.shows c.emit.new.self in
    record {
      place = c.emit.ensures.same_place ∙ c.loop-unit.invariant.place;
      since = since_on _ _ _ c.loop-unit.invariant.since c.emit.ensures.since;
      emits = subst (λ (ls : List Line). Emits before ls after) (lines_more undone_line c.args.units.now c.loop-unit.unit-index c.unit-item.result c.loop-unit-test.true (sym c.unit-item.is)) (emits_on _ _ _ _ _ c.loop-unit.invariant.emits c.emit.ensures.emits);
    }
