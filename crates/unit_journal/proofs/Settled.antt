-- A settlement, from what is entered and what is staged behind that.
use Rattle.std.proofs.Common.{◌≡◌, ℕ, List, Option, Some, None, option_map, slice_set, refl, sym, ap, subst, ◌∙◌}
use Rattle.careful_write.specs.Reads.{SameButReads}
use Rattle.careful_write.specs.State.{StoreState, content}
use Rattle.journal_format.specs.journal_model.Entries.{Entry}
use Rattle.unit_table.specs.Units.{OpenUnit, earliest}
use Rattle.vms_base.specs.declared.ids.Serial.{Serial}
use Rattle.vms_base.specs.declared.ids.Tid.{Tid}
use Rattle.volume.specs.State.{VolumeState, with_block}
use Rattle.volume.specs.declared.catalog.Catalog.{Catalog}
use Rattle.volume_format.specs.declared.home.Ending.{Ending}
use Rattle.volume_format.specs.Home.{home_block_of, ru_block_of}
use Rattle.unit_journal.specs.Settling.{MakesSettlement, content_with, from_earliest, settled_home, span_with, starting}

abbrev Content : Type 0
Content = List (List ℕ)

one_by_one : (f g h : Content → Content) (old : Option Content) → option_map f (option_map g (option_map h old)) ≡ option_map (λ (c : Content). f (g (h c))) old
one_by_one f g h None = refl
one_by_one f g h (Some c) = refl

module _ (tid : Tid) (serial : Serial) (ending : Ending) (moment : ℕ) (e : Option Entry) (left : List (Option OpenUnit)) (v mid made : VolumeState) where
  -- the blocks of a settlement are staged
  abbrev pub IsStaged : Type 0
  IsStaged = made.store ≡ with_block 583 (ru_block_of (from_earliest left mid.catalog.ru)) (with_block 518 (home_block_of (settled_home tid serial ending moment mid.catalog.home)) mid.store)

  pub makes : mid.store.current ≡ option_map (content_with e v.catalog.ru) v.store.current → mid.catalog ≡ record v.catalog { ru = span_with e v.catalog.ru } →
      IsStaged → made.catalog ≡ record mid.catalog { home = settled_home tid serial ending moment mid.catalog.home; ru = from_earliest left mid.catalog.ru } → MakesSettlement tid serial ending moment e left v made
  makes entered span staged catalog = record {
    current = ap (λ (s : StoreState). s.current) staged
        ∙ (λ i. option_map (λ (c : Content). slice_set c 65 (ru_block_of (from_earliest left (span i).ru))) (option_map (λ (c : Content). slice_set c 0 (home_block_of (settled_home tid serial ending moment (span i).home))) (entered i)))
        ∙ one_by_one (λ (c : Content). slice_set c 65 (ru_block_of (from_earliest left (span_with e v.catalog.ru)))) (λ (c : Content). slice_set c 0 (home_block_of (settled_home tid serial ending moment v.catalog.home))) (content_with e v.catalog.ru) v.store.current;
    catalog = catalog ∙ (λ i. record (span i) { home = settled_home tid serial ending moment (span i).home; ru = from_earliest left (span i).ru });
  }

  -- and the disk's content is as it was
  pub unmoved : SameButReads (record v.store { current = mid.store.current; touched = mid.store.touched }) mid.store → IsStaged → content made.store ≡ content v.store
  unmoved rest staged = ap content staged ∙ ap content rest

  -- so from the position on that is the earliest
  abbrev pub IsStagedFrom : Option ℕ → Type 0
  IsStagedFrom first = made.store ≡ with_block 583 (ru_block_of (starting first mid.catalog.ru)) (with_block 518 (home_block_of (settled_home tid serial ending moment mid.catalog.home)) mid.store)

  abbrev pub StartsFrom : Option ℕ → Type 0
  StartsFrom first = made.catalog ≡ record mid.catalog { home = settled_home tid serial ending moment mid.catalog.home; ru = starting first mid.catalog.ru }

  pub makes_from : (first : Option ℕ) → earliest left ≡ first → mid.store.current ≡ option_map (content_with e v.catalog.ru) v.store.current → mid.catalog ≡ record v.catalog { ru = span_with e v.catalog.ru } → IsStagedFrom first → StartsFrom first →
      MakesSettlement tid serial ending moment e left v made
  makes_from first is entered span staged catalog = makes entered span (subst IsStagedFrom (sym is) staged) (subst StartsFrom (sym is) catalog)

  pub unmoved_from : (first : Option ℕ) → SameButReads (record v.store { current = mid.store.current; touched = mid.store.touched }) mid.store → IsStagedFrom first → content made.store ≡ content v.store
  unmoved_from first rest staged = ap content staged ∙ ap content rest

  pub starts_from : (first : Option ℕ) → mid.catalog ≡ record v.catalog { ru = span_with e v.catalog.ru } → StartsFrom first → made.catalog ≡ record v.catalog { home = settled_home tid serial ending moment v.catalog.home; ru = starting first (span_with e v.catalog.ru) }
  starts_from first span catalog = catalog ∙ (λ i. record (span i) { home = settled_home tid serial ending moment (span i).home; ru = starting first (span i).ru })
