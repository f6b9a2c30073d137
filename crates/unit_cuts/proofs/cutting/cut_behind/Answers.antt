-- The disk went down while the records went.
use Rattle.std.proofs.Common.{ap, subst, ◌∙◌}
use Rattle.std.proofs.lemmas.Result.{on_err_weaker}
use Rattle.careful_write.specs.State.{IsEither, Leaves, StoreState, content}
use Rattle.unit_journal.proofs.Breaking.{breaks_made}
use Rattle.unit_cuts.specs.Moving.{MovesAll}
use Rattle.unit_cuts.proofs.cutting.cut_behind.Goals as goal

pub returns-clause-breaks : goal.returns-clause-breaks
returns-clause-breaks g c =
    let v = c.args.volume.now in
    let cut = c.args.cut.now in
    let made = c.stage_ru.new.self in
    on_err_weaker c.apply.result
    (λ leaves. breaks_made (MovesAll cut.file cut.head cut.from c.args.spans.now c.args.ru.now v) v made (record made { store = c.apply.new.self })
    (record {
      moved = c.cut_file.new.volume;
      moves = c.in-Ok.ensures.moves;
      current = ap (λ (s : StoreState). s.current) c.in-Ok-stage_ru.ensures.store;
      catalog = c.in-Ok-stage_ru.ensures.ru;
    })
    (ap content c.in-Ok-stage_ru.ensures.store ∙ ap content c.in-Ok.ensures.rest)
    (subst (λ (s : StoreState). Leaves (IsEither (content s) s.current) c.apply.new.self.disk) c.store.ensures.value leaves))
    c.apply.ensures.err
