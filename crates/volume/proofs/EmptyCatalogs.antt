-- An empty volume tells no file, and meets the five conditions.
use Rattle.std.proofs.Common.{◌≡◌, ℕ, ◌+◌, ◌<◌, List, true, Option, Some, None, IfSome, get_or, replicate, zero, suc, refl, sym, ap, subst, ◌∙◌, arith}
use Rattle.std.proofs.lemmas.List.{get_or-replicate}
use Rattle.std.proofs.lemmas.Bool.Decides.{nat_tests}
use Rattle.careful_write.specs.block_disk.Blocks.{block_at}
use Rattle.careful_write.specs.Content.{content_of}
use Rattle.file_base.specs.declared.head.FileHead.{FileHead}
use Rattle.volume_format.specs.declared.home.Home.{Home}
use Rattle.volume_format.specs.Home.{IsHome, HasHome, HasRu, home_block_of, ru_rows}
use Rattle.volume_format.proofs.Splices.{laid_again}
use Rattle.extents.specs.declared.extent.Extent.{Extent}
use Rattle.extents.specs.Extents.{FitsAt, all_extents, covers, nowhere}
use Rattle.volume.specs.Limits.{EntryFits, SizesFit, data_area}
use Rattle.volume.specs.Catalogs.{IsNew, IsSound, TellsCatalog, TellsEntry, head_at}
use Rattle.volume.specs.Empty.{IsEmptyVolume, empty_catalog, empty_home}

abbrev no_heads : ℕ → List (Option FileHead)
no_heads n = replicate n None

no_head : (f : ℕ) → f < 64 → head_at (no_heads 64) f ≡ None
no_head f within = get_or-replicate 64 f None None within

-- each extent of an empty directory is empty
all_nowhere : (n i : ℕ) → get_or (all_extents (no_heads n)) i nowhere ≡ nowhere
all_nowhere zero i = refl
all_nowhere (suc n) zero = refl
all_nowhere (suc n) (suc zero) = refl
all_nowhere (suc n) (suc (suc zero)) = refl
all_nowhere (suc n) (suc (suc (suc zero))) = refl
all_nowhere (suc n) (suc (suc (suc (suc i)))) = all_nowhere n i

not_covered : (n : ℕ) → covers nowhere n ≡ true → ⊥
not_covered n h = grind (arith, nat_tests)

none_covered : (i n : ℕ) → covers (get_or (all_extents (no_heads 64)) i nowhere) n ≡ true → ⊥
none_covered i n h = not_covered n (ap (λ (e : Extent). covers e n) (sym (all_nowhere 64 i)) ∙ h)

fit_nowhere : (area : Extent) (i : ℕ) → FitsAt area (all_extents (no_heads 64)) i
fit_nowhere area i = record { inside = λ n h. absurd (none_covered i n h); apart = λ n h. absurd (none_covered i n h) }

empty_ru : (start blocks : ℕ) → HasRu (replicate {A = ℕ} 512 0) (record { start = start; blocks = blocks; first = 0; end = 0 })
empty_ru start blocks = laid_again 0 (ru_rows (record { start = start; blocks = blocks; first = 0; end = 0 })) (replicate {A = ℕ} 512 0) refl (refl, (refl, tt)) refl (refl, (refl, tt))

empty_tells : (h : Home) (c : List (List ℕ)) → IsHome h → HasHome (home_block_of h) h → IsEmptyVolume h c → TellsCatalog (empty_catalog h) c
empty_tells h c is has empty = record {
  ranges = is;
  home = subst (λ (b : List ℕ). HasHome b h) (sym empty.home_block) has;
  heads = λ f within.
      subst (λ (o : Option FileHead). TellsEntry (block_at c (1 + f)) o) (sym (no_head f within))
      (record { ranges = tt; bytes = sym (empty.zeros (1 + f) (omega arith) (omega arith)) });
  ru = subst (λ (b : List ℕ). HasRu b (empty_catalog h).ru) (sym (empty.zeros 65 (omega arith) (omega arith))) (empty_ru (584 + h.slots) h.ru_blocks);
}

-- where the blocks of the disk are told
pub tells_told : (h : Home) (told : Option (List (List ℕ))) → IsHome h → HasHome (home_block_of h) h → IfSome told (λ bs. IsEmptyVolume h (content_of bs)) → IfSome told (λ bs. TellsCatalog (empty_catalog h) (content_of bs))
tells_told h None is has empty = tt
tells_told h (Some bs) is has empty = empty_tells h (content_of bs) is has empty

pub empty_sound : (node : List ℕ) (disk slots ru_blocks : ℕ) → SizesFit disk (record { blocks = disk; slots = slots; ru_blocks = ru_blocks }) → IsSound node disk (empty_catalog (empty_home node disk slots ru_blocks))
empty_sound node disk slots ru_blocks fit = record {
  version = refl;
  sizes = fit;
  home = record { owner = refl; moment = omega arith };
  files = λ f within. subst (EntryFits 0) (sym (no_head f within)) tt;
  names = λ f within. subst (IsNew (no_heads 64) f) (sym (no_head f within)) tt;
  extents = λ i within. fit_nowhere (data_area (record { blocks = disk; slots = slots; ru_blocks = ru_blocks })) i;
  ru_start = refl;
  ru_blocks = refl;
}
