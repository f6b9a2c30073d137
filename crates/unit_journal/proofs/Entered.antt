-- What is entered in the journal stands behind the blocks that tell the volume.
use Rattle.std.proofs.Common.{◌≡◌, ℕ, ◌<◌, ◌≤◌, List, Option, Some, None, IfSome, length, option_map, slice_set, refl, sym, arith, inl}
use Rattle.careful_write.specs.State.{StoreState}
use Rattle.careful_write.specs.declared.down.Down.{Down}
use Rattle.file_base.specs.declared.head.Span.{Span}
use Rattle.journal_format.specs.journal_model.Ring.{KeepsOthers, put_stream}
use Rattle.journal_store.specs.Leaving.{Fell}
use Rattle.volume.specs.declared.catalog.Catalog.{Catalog}
use Rattle.volume.specs.Catalogs.{StandsOnTheFront, TellsCatalog}
use Rattle.volume.specs.State.{VolumeState}
use Rattle.volume_format.specs.Home.{ru_block_of}
use Rattle.unit_journal.specs.Leaving.{FellIn}
use Rattle.unit_journal.specs.Settling.{content_with}
use Rattle.unit_journal.specs.Spans.{entered, longer}

-- blocks of the ring alone are other
abbrev pub OthersStay : Type 0
OthersStay = (bs : List ℕ) (c : List (List ℕ)) (s : Span) (p : ℕ) → 0 < s.blocks → KeepsOthers s c (put_stream c s p bs)

pub still_tells : (k : Catalog) (s : Span) (p : ℕ) (bs : List ℕ) (old : Option (List (List ℕ))) → StandsOnTheFront → OthersStay → 584 ≤ s.start → 0 < s.blocks → IfSome old (TellsCatalog k) → IfSome (option_map (λ c. put_stream c s p bs) old) (TellsCatalog k)
still_tells k s p bs None front stay behind some tells = tt
still_tells k s p bs (Some c) front stay behind some tells =
    front k c (put_stream c s p bs) (λ n below. sym ((stay bs c s p some).others n (inl (omega (arith, behind, below))))) tells

pub with_span : (s : Span) (bs : List ℕ) (old : Option (List (List ℕ))) → option_map (λ (c : List (List ℕ)). slice_set c 65 (ru_block_of (longer (length bs) s))) (option_map (λ (c : List (List ℕ)). put_stream c s s.end bs) old) ≡ option_map (entered s bs) old
with_span s bs None = refl
with_span s bs (Some c) = refl

-- a store of which the disk went down in a call that left nothing staged
pub fell_store : (down : Down) (v : VolumeState) (s : StoreState) → Fell down v.store s → FellIn down v (record v { store = s })
fell_store down v s fell = λ i. record v { store = record { disk = fell.disk i; current = fell.current i; touched = fell.touched i; pool = fell.pool i; fits = fell.fits i; reads = s.reads } }

-- nothing is entered
pub same_content : (s : Span) (old : Option (List (List ℕ))) → old ≡ option_map (content_with None s) old
same_content s None = refl
same_content s (Some c) = refl
