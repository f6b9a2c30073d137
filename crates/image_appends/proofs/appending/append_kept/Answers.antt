-- One entry more stands behind the blocks that tell the volume.
use Rattle.std.proofs.Common.{◌≡◌, List, ℕ, length, option_map, IfSome, Option, arith, ap, sym, subst, ◌∙◌, ◌+◌}
use Rattle.careful_write.proofs.Touched.{length-with_number}
use Rattle.careful_write.specs.State.{StoreState}
use Rattle.journal_format.specs.journal_model.Ring.{put_stream}
use Rattle.volume.specs.Catalogs.{TellsCatalog}
use Rattle.unit_journal.proofs.Entered.{still_tells}
use Rattle.image_appends.specs.Images.{span_of}
use Rattle.image_appends.proofs.appending.append_kept.Goals as goal

pub returns-clause-few : goal.returns-clause-few
returns-clause-few g c =
    let staged = ap (λ (s : StoreState). length s.touched) c.in-Ok-stage_head.ensures.store in
    let before = ap (λ (s : StoreState). length s.touched) c.store.ensures.value in
    omega (arith, staged, before, length-with_number (519 + c.args.file) c.append.new.store.touched, c.in-Ok.ensures.few)

pub returns-clause-holds : goal.returns-clause-holds
returns-clause-holds g c =
    let v = c.args.volume.now in
    let s = span_of c.args.side c.args.head.now in
    let adds : c.append.new.store.current ≡ option_map (λ (x : List (List ℕ)). put_stream x s s.end c.args.entry.now) v.store.current =
    c.in-Ok.ensures.adds ∙ (λ i. option_map (λ (x : List (List ℕ)). put_stream x (c.span_of-span.ensures i) (c.span_of-span.ensures i).end c.args.entry.now) (c.store.ensures.value i).current) in
    λ held. c.in-Ok-stage_head.ensures.holds
    (subst (λ (told : Option (List (List ℕ))). IfSome told (TellsCatalog v.catalog)) (sym adds)
    (still_tells v.catalog s s.end c.args.entry.now v.store.current c.catalogs_stand_on_the_front.ensures c.one_entry_more.ensures.others c.requires.room.behind c.requires.room.ring.some held))
