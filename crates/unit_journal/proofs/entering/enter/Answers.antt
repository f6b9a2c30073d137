-- An entry is entered: what the volume keeps is still what its content tells.
use Rattle.std.proofs.Common.{◌≡◌, List, ℕ, length, option_map, IfSome, Option, arith, ap, sym, subst, ◌∙◌}
use Rattle.careful_write.proofs.Touched.{length-with_number}
use Rattle.careful_write.specs.State.{StoreState}
use Rattle.journal_format.specs.journal_model.Ring.{put_stream}
use Rattle.volume.specs.Catalogs.{TellsCatalog}
use Rattle.unit_journal.proofs.Entered.{still_tells}
use Rattle.unit_journal.proofs.entering.enter.Goals as goal

pub returns-clause-few : goal.returns-clause-few
returns-clause-few g c =
    let staged = ap (λ (s : StoreState). length s.touched) c.in-Ok-stage_ru.ensures.store in
    let before = ap (λ (s : StoreState). length s.touched) c.store.ensures.value in
    omega (arith, staged, before, length-with_number 583 c.append.new.store.touched, c.in-Ok.ensures.touched)

pub returns-clause-holds : goal.returns-clause-holds
returns-clause-holds g c =
    let v = c.args.volume.now in
    let adds : c.append.new.store.current ≡ option_map (λ (x : List (List ℕ)). put_stream x v.catalog.ru v.catalog.ru.end c.args.entry.now) v.store.current =
    c.in-Ok.ensures.adds ∙ (λ i. option_map (λ (x : List (List ℕ)). put_stream x (c.ru.ensures i) (c.ru.ensures i).end c.args.entry.now) (c.store.ensures.value i).current) in
    λ held. c.in-Ok-stage_ru.ensures.holds
    (subst (λ (told : Option (List (List ℕ))). IfSome told (TellsCatalog v.catalog)) (sym adds)
    (still_tells v.catalog v.catalog.ru v.catalog.ru.end c.args.entry.now v.store.current c.catalogs_stand_on_the_front.ensures c.one_entry_more.ensures.others c.requires.behind c.requires.ring.some held))
