use Rattle.std.proofs.Common.{◌≡◌, [], List, length, sym, ap, subst, ◌∙◌, eq-eqb, rules}
use Rattle.std.proofs.lemmas.Bool.{false≢true}
use Rattle.volume_format.specs.Home.{sizes_of}
use Rattle.extents.specs.declared.extent.Extent.{Extent}
use Rattle.volume.specs.declared.load.Finding.{Finding}
use Rattle.volume.specs.Limits.{data_area}
use Rattle.volume.specs.Listing.{LiesApart, ListsTo}
use Rattle.volume.proofs.Listed.{entries_listed_told, extents_listed_told, none_left}
use Rattle.volume.proofs.listing.list_files.Goals as goal

pub returns-then-not-is_empty-clause-lists : goal.returns-then-not-is_empty-clause-lists
returns-then-not-is_empty-clause-lists g c =
    entries_listed_told c.args.store.now.current c.args.node.now c.args.store.now.fits c.args.home.now c.list_entries.new.out c.requires.home c.in_ok-list_entries.ensures.lists
    (λ none. false≢true (sym c.if-not-is_empty.true ∙ c.is_empty.ensures ∙ eq-eqb (length c.items.result.now) 0 (ap (λ (l : List Finding). length l) (c.items.ensures.value ∙ none))))

pub returns-clause-lists : goal.returns-clause-lists
returns-clause-lists g c =
    let home = c.args.home.now in
    let zero : length c.items.result.now ≡ 0 = search rules in
    let none : c.list_entries.new.out ≡ [] = none_left c.list_entries.new.out c.items.result.now c.items.ensures.value zero in
    let area = c.data_area.ensures ∙ ap data_area c.sizes.ensures in
    extents_listed_told c.args.store.now.current c.args.node.now c.args.store.now.fits home c.list_entries.new.heads c.list_entries.new.out c.list_extents.new.out
    c.requires.home c.in_ok-list_entries.ensures.tried c.in_ok-list_entries.ensures.lists none c.list_entries.ensures.count
    (subst (λ (es : List Extent). ListsTo 5 (LiesApart (data_area (sizes_of c.args.home.now)) es) 64 c.list_extents.new.out) c.all_extents.ensures
    (subst (λ (a : Extent). ListsTo 5 (LiesApart a c.all_extents.result) 64 c.list_extents.new.out) area c.list_extents.ensures))
