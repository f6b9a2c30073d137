-- Records that take the place of a file's own.
use Rattle.std.proofs.Common.{◌≡◌, ◌≢◌, ◌<◌, ◌≤◌, ◌+◌, ◌-◌, ◌*◌, ℕ, Bool, true, false, List, [], length, Option, Some, None, IfSome, option_map, slice_set, refl, sym, ◌∙◌, ap, subst, arith, inl, inr, ⊎_elim, get_or-set_other, length-set}
use Rattle.std.specs.Prelude.{◌⊎◌, ◌||◌, ◌==◌, MatchOption, IsSomeAnd}
use Rattle.block_disk.specs.Blocks.{block_at}
use Rattle.block_disk.specs.Disk.{DiskState}
use Rattle.careful_write.specs.Content.{content_of}
use Rattle.careful_write.specs.State.{IsEither, Leaves}
use Rattle.careful_write.specs.Steps.{AgreesOff}
use Rattle.change_set.specs.Files.{AgreesOn, AgreesOut, LeavesOut, in_extent}
use Rattle.file_base.specs.declared.head.FileHead.{FileHead}
use Rattle.load_pages.specs.load_laws.Loads.{IsLoaded, loaded_head}
use Rattle.load_pages.specs.load_laws.Records.{Keyed}
use Rattle.record_files.specs.Any.{IsFile, IsLaidOut, layout_of, map_of}
use Rattle.record_files.specs.Local.{layout_local_law, local_law, valid_local_law}
use Rattle.volume.specs.declared.catalog.Catalog.{Catalog}
use Rattle.volume.specs.Catalogs.{StandsOnTheFront, TellsCatalog}
use Rattle.vms_base.specs.declared.moments.Moment.{Moment}
use Rattle.file_recoveries.specs.Heads.{with_new_journals}
use Rattle.recover_rms.specs.Replacing.{IsHeadWith, IsOldOrNew, IsRun, ReplacesIn, is_replaced, is_unused, moved_head, wanted_buckets, with_head}
use Rattle.recover_rms.proofs.PlaceLemmas.{bucket_stays, alloc_stays, extent_stays, run_behind, run_unused, start_stays}

is_false : (b : Bool) → (b ≡ true → ⊥) → b ≡ false
is_false true never = absurd (never refl)
is_false false never = refl

or_left : (a b : Bool) → (a || b) ≡ false → a ≡ false
or_left true b p = p
or_left false b p = refl

or_right : (a b : Bool) → (a || b) ≡ false → b ≡ false
or_right true b p = let no : ⊥ = cc in absurd no
or_right false b p = p

apart_of : (n k : ℕ) → (n == k) ≡ false → n ≢ k
apart_of n k differ same = let no : ⊥ = grind (arith, same, differ) in no

-- loaded records stand while the blocks of the file do
stays_loaded : (h : FileHead) (a b : List (List ℕ)) (es : List Keyed) → IsFile h → AgreesOn h a b → IsLoaded h a es → IsLoaded h b es
stays_loaded h a b es form agrees loaded = record {
  laid = valid_local_law h a b form agrees loaded.laid;
  map_is = sym (local_law h a b form agrees loaded.laid) ∙ loaded.map_is;
  layout = sym (layout_local_law h a b form agrees loaded.laid) ∙ loaded.layout;
}

-- The head that a load leaves, in the lowest run.

pub moved_is : (h k : FileHead) (g greatest : Moment) (start buckets : ℕ) → k ≡ with_new_journals h greatest → greatest ≡ g → record k { start = start; alloc = buckets } ≡ moved_head h g start buckets
moved_is h k g greatest start buckets is same = ap (λ (x : FileHead). record x { start = start; alloc = buckets }) (is ∙ ap (with_new_journals h) same)

module _ (v : Catalog) (h : FileHead) (es : List Keyed) (start buckets : ℕ) (new : FileHead) (is : new ≡ loaded_head (moved_head h v.home.greatest_moment start buckets) es) where
  pub start_is : new.start ≡ start
  start_is = ap (λ (k : FileHead). k.start) is ∙ start_stays h.organization (moved_head h v.home.greatest_moment start buckets) es

  pub alloc_is : new.alloc ≡ buckets
  alloc_is = ap (λ (k : FileHead). k.alloc) is ∙ alloc_stays h.organization (moved_head h v.home.greatest_moment start buckets) es

  pub head_with : buckets ≡ wanted_buckets h es → IsRun v start (buckets * h.bucket) → ((lower : ℕ) → lower < start → IsRun v lower (buckets * h.bucket) → ⊥) → IsFile new → IsHeadWith v h es new
  head_with wanted run lowest form = record {
    is = is ∙ (λ i. loaded_head (moved_head h v.home.greatest_moment (sym start_is i) (sym alloc_is i)) es);
    buckets = alloc_is ∙ wanted;
    free = subst (λ (b : ℕ). IsRun v new.start (b * h.bucket)) (sym alloc_is) (subst (λ (s : ℕ). IsRun v s (buckets * h.bucket)) (sym start_is) run);
    lowest = λ lower lt r. lowest lower (subst (λ (s : ℕ). lower < s) start_is lt) (subst (λ (b : ℕ). IsRun v lower (b * h.bucket)) alloc_is r);
    form = form;
  }

  -- its buckets are those that the load wrote
  pub extent_is : (n : ℕ) → in_extent new n ≡ in_extent (moved_head h v.home.greatest_moment start buckets) n
  extent_is n = ap (λ (k : FileHead). in_extent k n) is ∙ extent_stays h.organization (moved_head h v.home.greatest_moment start buckets) es n

  pub out_is : (a b : Option (List (List ℕ))) → AgreesOut (in_extent (moved_head h v.home.greatest_moment start buckets)) a b → AgreesOut (in_extent new) a b
  out_is None b out = out
  out_is (Some a) None out = out
  out_is (Some a) (Some b) out = record { size = out.size; others = λ n off. out.others n (sym (extent_is n) ∙ off) }

-- The blocks of the head that is loaded, in free blocks of the volume.
module _ (f : ℕ) (v : Catalog) (h : FileHead) (es : List Keyed) (new : FileHead) (head : IsHeadWith v h es new) where
  blocks_are : new.alloc * new.bucket ≡ new.alloc * h.bucket
  blocks_are = let same : new.bucket ≡ h.bucket = ap (λ (k : FileHead). k.bucket) head.is ∙ bucket_stays h.organization (moved_head h v.home.greatest_moment new.start new.alloc) es in ap (λ (b : ℕ). new.alloc * b) same

  pub new_unused : (n : ℕ) → in_extent new n ≡ true → is_unused v n ≡ true
  new_unused n is = run_unused v new.start (new.alloc * h.bucket) head.free new refl blocks_are n is

  pub new_behind : (n : ℕ) → in_extent new n ≡ true → 66 ≤ n
  new_behind n is = run_behind v new.start (new.alloc * h.bucket) head.free new refl n is

  off_front : (n : ℕ) → n < 66 → in_extent new n ≡ false
  off_front n below = is_false (in_extent new n) (λ is. let behind = new_behind n is in omega (arith, below, behind))

  -- what stood but in the new buckets, stood but in free blocks
  pub only_unused : (a b : List (List ℕ)) → AgreesOff (in_extent new) a b → AgreesOff (is_unused v) a b
  only_unused a b agrees = record { size = agrees.size; others = λ n off. agrees.others n (is_false (in_extent new n) (λ is. let both : true ≡ false = sym (new_unused n is) ∙ off in let no : ⊥ = cc in no)) }

  -- the directory block is none of theirs
  other_than : f < 64 → (n : ℕ) → in_extent new n ≡ true → n ≢ 1 + f
  other_than low n is same = let behind = new_behind n is in omega (arith, low, behind, same)

  -- from the loaded buckets to the written head
  pub replaces_in : (a b : List (List ℕ)) (bytes : List ℕ) → StandsOnTheFront → f < 64 → AgreesOff (in_extent new) a b → IsLoaded new b es → (TellsCatalog v b → TellsCatalog (with_head f new v) (slice_set b (1 + f) bytes)) →
      ReplacesIn f v h es a (slice_set b (1 + f) bytes) new
  replaces_in a b bytes front low agrees loaded tells = record {
    head = head;
    loaded = stays_loaded new b (slice_set b (1 + f) bytes) es head.form (λ n is. sym (get_or-set_other b (1 + f) n bytes [] (other_than low n is))) loaded;
    others = record {
      size = length-set b (1 + f) bytes ∙ agrees.size;
      others = λ n off.
          get_or-set_other b (1 + f) n bytes [] (apart_of n (1 + f) (or_right (in_extent new n) (n == 1 + f) off)) ∙ agrees.others n (or_left (in_extent new n) (n == 1 + f) off);
    };
    tells = λ told. tells (front v a b (λ n below. sym (agrees.others n (off_front n below))) told);
  }

  abbrev pub swapped : List ℕ → Option (List (List ℕ)) → Option (List (List ℕ))
  swapped bytes o = option_map (λ (blocks : List (List ℕ)). slice_set blocks (1 + f) bytes) o

  -- the volume's catalog stands while its buckets are loaded
  pub front_stays : (a b : Option (List (List ℕ))) → StandsOnTheFront → AgreesOut (in_extent new) a b → IfSome a (TellsCatalog v) → IfSome b (TellsCatalog v)
  front_stays None b front out tells = subst (λ o. IfSome o (TellsCatalog v)) (sym out) tt
  front_stays (Some a) None front out tells = absurd out
  front_stays (Some a) (Some b) front out tells = front v a b (λ n below. sym (out.others n (off_front n below))) tells

  module _ (front : StandsOnTheFront) (bytes : List ℕ) (low : f < 64) where
    pub told_so : (a b : Option (List (List ℕ))) → AgreesOut (in_extent new) a b → IfSome b (λ c. IsLoaded new c es) → (IfSome b (TellsCatalog v) → IfSome (swapped bytes b) (TellsCatalog (with_head f new v))) →
        MatchOption a (swapped bytes b ≡ None) (λ content. IsSomeAnd (swapped bytes b) (λ after. ReplacesIn f v h es content after new))
    told_so None b out loaded tells = ap (swapped bytes) out
    told_so (Some a) None out loaded tells = absurd out
    told_so (Some a) (Some b) out loaded tells = replaces_in a b bytes front low out loaded tells

    pub swapping_leaves : (a b : Option (List (List ℕ))) (disk : DiskState) → AgreesOut (in_extent new) a b → IfSome b (λ c. IsLoaded new c es) → (IfSome b (TellsCatalog v) → IfSome (swapped bytes b) (TellsCatalog (with_head f new v))) →
        Leaves (IsEither b (swapped bytes b)) disk → Leaves (λ d. IfSome a (λ content. IsOldOrNew f v h es content d)) disk
    swapping_leaves a b disk out loaded tells leaves image may = let at = leaves image may in (at.0, told a b out loaded tells at.1)
      where
        told : (a b : Option (List (List ℕ))) → AgreesOut (in_extent new) a b → IfSome b (λ c. IsLoaded new c es) → (IfSome b (TellsCatalog v) → IfSome (swapped bytes b) (TellsCatalog (with_head f new v))) → IsEither b (swapped bytes b) (content_of image) →
            IfSome a (λ content. IsOldOrNew f v h es content (content_of image))
        told None b out loaded tells either = tt
        told (Some c) None out loaded tells either = absurd out
        told (Some c) (Some d) out loaded tells either = ⊎_elim
            (λ before. let same : content_of image ≡ d = cc in inl (subst (AgreesOff (is_unused v) c) (sym same) (only_unused c d out)))
            (λ after. let same : content_of image ≡ slice_set d (1 + f) bytes = cc in inr (new, subst (λ (x : List (List ℕ)). ReplacesIn f v h es c x new) (sym same) (replaces_in c d bytes front low out loaded tells)))
            either

  -- an image of a volume whose disk went down as the buckets were loaded
  pub loading_leaves : (a : Option (List (List ℕ))) (disk : DiskState) → LeavesOut (in_extent new) a disk → Leaves (λ d. IfSome a (λ content. IsOldOrNew f v h es content d)) disk
  loading_leaves a disk leaves image may = let at = leaves image may in (at.0, told a at.1)
    where
      told : (a : Option (List (List ℕ))) → IfSome a (λ before. AgreesOff (in_extent new) before (content_of image)) → IfSome a (λ content. IsOldOrNew f v h es content (content_of image))
      told None agrees = tt
      told (Some c) agrees = inl (only_unused c (content_of image) agrees)
