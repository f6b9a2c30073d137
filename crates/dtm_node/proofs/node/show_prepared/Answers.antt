use Rattle.std.proofs.Common.{List, subst, sym, ◌∙◌}
use Rattle.emitter_model.specs.Emitting.{Emits}
use Rattle.emitter_model.specs.transcript_model.Lines.{Line}
use Rattle.emitter_model.proofs.EmittingLemmas.{emits_on, since_on}
use Rattle.dtm_node.specs.Opening.{prepared_told}
use Rattle.dtm_node.proofs.Reopening.{lines_more}
use Rattle.dtm_node.proofs.node.show_prepared.Goals as goal

pub loop-logged-preserved : goal.loop-logged-preserved
loop-logged-preserved g c =
    let before = g.E.Emit.shows c.args.out.now in
    let after = g.E.Emit.shows c.emit.new.self in
    record {
      place = c.emit.ensures.same_place ∙ c.loop-logged.invariant.place;
      since = since_on _ _ _ c.loop-logged.invariant.since c.emit.ensures.since;
      emits = subst (λ (ls : List Line). Emits before ls after) (lines_more prepared_told c.args.records.now c.loop-logged.logged-index c.logged-item.result c.loop-logged-test.true (sym c.logged-item.is)) (emits_on _ _ _ _ _ c.loop-logged.invariant.emits c.emit.ensures.emits);
    }
