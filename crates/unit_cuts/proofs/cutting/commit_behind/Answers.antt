-- The journals have room for the settlement; or the disk went down while it was under way.
use Rattle.std.proofs.Common.{◌≡◌, None, refl, ap, subst, ◌∙◌}
use Rattle.std.proofs.lemmas.Result.{on_err_weaker, on_ok_weaker}
use Rattle.careful_write.specs.State.{IsEither, Leaves, StoreState, content}
use Rattle.unit_journal.proofs.Breaking.{breaks_made}
use Rattle.unit_cuts.specs.Moving.{CommitsBehind}
use Rattle.unit_cuts.proofs.CutMade.{behind_as, commits_behind, moved_room_after, moved_room_before}
use Rattle.unit_cuts.proofs.cutting.commit_behind.Goals as goal

pub settle_own-requires-clause-afters : goal.settle_own-requires-clause-afters
settle_own-requires-clause-afters g c =
    let cut = c.args.cut.now in
    moved_room_after cut.file cut.head cut.from c.args.spans.now c.args.volume.now c.cut_file.new.volume c.requires.whole c.requires.there c.in-Ok.ensures.moves (ap (λ (s : StoreState). s.disk) c.in-Ok.ensures.rest) c.requires.afters

pub settle_own-requires-clause-befores : goal.settle_own-requires-clause-befores
settle_own-requires-clause-befores g c =
    let cut = c.args.cut.now in
    moved_room_before cut.file cut.head cut.from c.args.spans.now c.args.volume.now c.cut_file.new.volume c.requires.whole c.requires.there c.in-Ok.ensures.moves (ap (λ (s : StoreState). s.disk) c.in-Ok.ensures.rest) c.requires.befores

pub returns-clause-makes : goal.returns-clause-makes
returns-clause-makes g c =
    let v = c.args.volume.now in
    let cut = c.args.cut.now in
    let b = c.args.branch.now in
    let made = c.stage_settlement.new.volume in
    on_ok_weaker c.apply.result
    (λ current. behind_as cut.file cut.head cut.from c.args.spans.now b.tid b.serial c.args.moment.0 c.args.units.now.places v made (record made { store = c.apply.new.self }) (current ∙ ap (λ (s : StoreState). s.current) c.store.ensures.value) refl
    (commits_behind cut.file cut.head cut.from c.args.spans.now b.tid b.serial c.args.moment.0 c.args.units.now.places v c.cut_file.new.volume c.settle_own.new.volume made c.in-Ok.ensures.moves c.settle_own.ensures.is c.in-Ok-settle_own.ensures.closes c.stage_settlement.ensures.store c.stage_settlement.ensures.catalog))
    c.apply.ensures.current

pub returns-clause-breaks : goal.returns-clause-breaks
returns-clause-breaks g c =
    let v = c.args.volume.now in
    let cut = c.args.cut.now in
    let b = c.args.branch.now in
    let made = c.stage_settlement.new.volume in
    on_err_weaker c.apply.result
    (λ leaves. breaks_made (CommitsBehind cut.file cut.head cut.from c.args.spans.now b.tid b.serial c.args.moment.0 c.args.units.now.places v) v made (record made { store = c.apply.new.self })
    (commits_behind cut.file cut.head cut.from c.args.spans.now b.tid b.serial c.args.moment.0 c.args.units.now.places v c.cut_file.new.volume c.settle_own.new.volume made c.in-Ok.ensures.moves c.settle_own.ensures.is c.in-Ok-settle_own.ensures.closes c.stage_settlement.ensures.store c.stage_settlement.ensures.catalog)
    (ap content c.stage_settlement.ensures.store ∙ ap content c.in-Ok-settle_own.ensures.rest ∙ ap content c.in-Ok.ensures.rest)
    (subst (λ (s : StoreState). Leaves (IsEither (content s) s.current) c.apply.new.self.disk) c.store.ensures.value leaves))
    c.apply.ensures.err
