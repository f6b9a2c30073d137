use Rattle.std.proofs.Common.{ℕ, List, ◌∷◌, ◌++◌, refl, ap, sym, ◌∙◌, take, flat_map}
use Rattle.emitter_model.proofs.transcript_model.LineLemmas.{flat_map_more}
use Rattle.transcript.proofs.BufferedLemmas.{appends3, appends_none}
use Rattle.transcript.proofs.emit.SinkEmit.put_managers_behind.Goals as goal

pub loop-rm-init : goal.loop-rm-init
loop-rm-init g c = record { same_sink = refl; number = refl; appends = appends_none _ }

pub loop-rm-preserved : goal.loop-rm-preserved
loop-rm-preserved g c =
    let F : List ℕ → List ℕ = λ rm. 44 ∷ rm in
    let xs = c.args.rms.now in
    let i = c.loop-rm.rm-index in
    let x = c.rm-item.result in
    record {
      same_sink = cc;
      number = cc;
      appends = appends3 _ _ _ _ _ _ _ _ c.loop-rm.invariant.appends c.put.ensures.appends c.put-in-loop-rm.ensures.appends (flat_map_more F xs i x c.loop-rm-test.true ∙ ap (λ y. flat_map F (take i xs) ++ F y) (sym c.rm-item.is) ∙ ap (λ y. flat_map F (take i xs) ++ F y) (sym c.bytes.ensures.value));
    }
