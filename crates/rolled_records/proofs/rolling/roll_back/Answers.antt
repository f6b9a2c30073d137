use Rattle.std.proofs.Common.{List, map, ap, ◌∙◌}
use Rattle.journal_format.specs.declared.head.EntryHead.{EntryHead}
use Rattle.recovery_model.specs.Places.{undone_places}
use Rattle.image_journals.specs.Headers.{header_told}
use Rattle.rolled_records.proofs.RollLemmas.{back_told, on_ok}
use Rattle.rolled_records.proofs.rolling.roll_back.Goals as goal

pub returns-in-Ok-undone-clause-rolled : goal.returns-in-Ok-undone-clause-rolled
returns-in-Ok-undone-clause-rolled g c =
    let entries = c.in-Ok.entries in
    let places = c.deref-in-Ok-undone-2.ensures.value ∙ c.in-Ok-undone.ensures.places ∙ ap (λ (hs : List EntryHead). undone_places c.args.until.0 (map header_told hs)) c.deref.ensures.value in
    on_ok c.set_places.result (λ sets.
    back_told c.images_follow.ensures.read c.images_follow.ensures.placed c.places_are_rolled.ensures c.args.images.now c.args.until.0 c.args.map.now c.set_places.new.map entries.heads.items entries.positions.items
    c.deref-in-Ok-undone.result.now c.deref-in-Ok-undone-2.result.now c.read_from.new.store.current c.args.store.now.current c.in-Ok.ensures.ok.current c.deref-in-Ok-undone.ensures.value sets places c.in-Ok.ensures.read) c.set_places.ensures.set
