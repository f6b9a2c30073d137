-- A volume once records were loaded and the head was written.
use Rattle.std.proofs.Common.{◌≡◌, ◌<◌, ◌≤◌, ◌+◌, ◌-◌, ◌*◌, ℕ, Bool, true, false, List, length, Option, Some, None, IfSome, option_map, slice_set, refl, sym, ◌∙◌, ap, subst, arith, inl}
use Rattle.std.specs.Prelude.{IsSomeAnd, MatchOption}
use Rattle.block_disk.specs.Counts.{counted}
use Rattle.block_disk.specs.Disk.{DiskState}
use Rattle.careful_write.specs.Content.{content_of}
use Rattle.careful_write.specs.Down.{CountsDown}
use Rattle.careful_write.specs.State.{IsEither, IsIdle, Leaves, StoreState}
use Rattle.careful_write.specs.Steps.{AgreesOff, CountsOnce, Quiet}
use Rattle.careful_write.specs.declared.down.Down.{Down}
use Rattle.change_set.specs.Files.{AgreesOut, IsPlaced, LeavesOut, in_extent}
use Rattle.file_base.specs.declared.head.FileHead.{FileHead}
use Rattle.file_loads.specs.Failing.{FellIn, Wrote}
use Rattle.load_pages.specs.load_laws.Loads.{AreLoadable, IsLoaded, loaded_head}
use Rattle.load_pages.specs.load_laws.Records.{Keyed}
use Rattle.record_files.specs.Any.{IsFile}
use Rattle.vms_base.specs.declared.moments.Moment.{Moment}
use Rattle.volume.specs.declared.catalog.Catalog.{Catalog}
use Rattle.volume.specs.Catalogs.{IsSound, StandsOnTheFront, TellsCatalog, head_at}
use Rattle.volume.specs.State.{Holds, VolumeState}
use Rattle.volume_files.proofs.Places.{fits_at}
use Rattle.file_recoveries.specs.Heads.{with_new_journals}
use Rattle.file_recoveries.specs.declared.errors.RecoverErr.{RecoverErr}
use Rattle.file_recoveries.specs.declared.errors.RecoverErr.TheVariants as err
use Rattle.recover_rms.specs.Loading.{AreKept}
use Rattle.recover_rms.specs.Replacing.{FellReplacing, IsHeadWith, IsOldOrNew, IsRun, NotLoaded, NotReplaced, Replaced, ReplacesIn, is_unused, moved_head, wanted_buckets, with_head}
use Rattle.recover_rms.proofs.PlaceLemmas.{moved_loadable, moved_placed, run_unused}
use Rattle.recover_rms.proofs.ReplaceLemmas.{front_stays, head_with, moved_is, out_is, swapped, swapping_leaves, told_so}

-- Counts, one step after another.

then_counts : (failed stopped : Bool) (a b c : DiskState) → Quiet a b → CountsOnce failed stopped b c → CountsOnce failed stopped a c
then_counts failed stopped a b c first second = record {
  size = second.size ∙ first.size;
  calls = second.calls ∙ first.calls;
  faults = second.faults ∙ ap (counted failed) first.faults;
  stops = second.stops ∙ ap (counted stopped) first.stops;
  told = second.told ∙ first.told;
}

-- Where the head is written.

block_is : (f : ℕ) → 519 + f - 518 ≡ 1 + f
block_is f = omega arith

abbrev pub staged : ℕ → List ℕ → Option (List (List ℕ)) → Option (List (List ℕ))
staged f bytes o = option_map (λ (blocks : List (List ℕ)). slice_set blocks (519 + f - 518) bytes) o

-- A file that is loaded into a run of free blocks.
module _ (v : VolumeState) (f : ℕ) (h : FileHead) (es : List Keyed) (name : List ℕ) (long : length v.catalog.heads ≡ 64) (sound : IsSound name v.store.disk.size v.catalog) (there : head_at v.catalog.heads f ≡ Some h) (start buckets : ℕ)
    (wanted : buckets ≡ wanted_buckets h es) (run : IsRun v.catalog start (buckets * h.bucket)) (k : FileHead) (greatest : Moment) (is : k ≡ with_new_journals h greatest) (same : greatest ≡ v.catalog.home.greatest_moment) (o : StoreState) (from : o ≡ v.store) where
  -- the head that is loaded
  abbrev pub before : FileHead
  before = record k { start = start; alloc = buckets }

  before_is : before ≡ moved_head h v.catalog.home.greatest_moment start buckets
  before_is = moved_is h k v.catalog.home.greatest_moment greatest start buckets is same

  pub before_loadable : AreKept h es → AreLoadable before es
  before_loadable kept = subst (λ (x : FileHead). AreLoadable x es) (sym before_is) (moved_loadable v.catalog h start buckets es (fits_at name v.store.disk.size v.catalog f h long sound there) wanted run kept)

  pub before_placed : v.store.disk.size ≤ 65536 → IsPlaced before o.disk
  before_placed most = subst (λ (s : StoreState). IsPlaced before s.disk) (sym from) (subst (λ (x : FileHead). IsPlaced x v.store.disk) (sym before_is) (moved_placed v.catalog h start buckets es (fits_at name v.store.disk.size v.catalog f h long sound there) wanted run v.store.disk sound.sizes.blocks most))

  -- The load was cut short.

  is_false : (b : Bool) → (b ≡ true → ⊥) → b ≡ false
  is_false true never = absurd (never refl)
  is_false false never = refl

  only_free : (a b : List (List ℕ)) → AgreesOff (in_extent (moved_head h v.catalog.home.greatest_moment start buckets)) a b → AgreesOff (is_unused v.catalog) a b
  only_free a b agrees = record {
    size = agrees.size;
    others = λ n off. agrees.others n (is_false (in_extent (moved_head h v.catalog.home.greatest_moment start buckets) n)
        (λ within. let both : true ≡ false = sym (run_unused v.catalog start (buckets * h.bucket) run (moved_head h v.catalog.home.greatest_moment start buckets) refl refl n within) ∙ off in let no : ⊥ = cc in no));
  }

  cut_leaves : (a : Option (List (List ℕ))) (disk : DiskState) → LeavesOut (in_extent (moved_head h v.catalog.home.greatest_moment start buckets)) a disk → Leaves (λ d. IfSome a (λ content. IsOldOrNew f v.catalog h es content d)) disk
  cut_leaves a disk leaves image may = let at = leaves image may in (at.0, told a at.1)
    where
      told : (a : Option (List (List ℕ))) → IfSome a (λ x. AgreesOff (in_extent (moved_head h v.catalog.home.greatest_moment start buckets)) x (content_of image)) → IfSome a (λ content. IsOldOrNew f v.catalog h es content (content_of image))
      told None agrees = tt
      told (Some c) agrees = inl (only_free c (content_of image) agrees)

  pub not_loaded_so : (e : RecoverErr) (s : StoreState) → NotLoaded before e o s → NotReplaced f h es e v (record v { store = s })
  not_loaded_so err.Memory s none = ap (λ (x : StoreState). record v { store = x }) (none ∙ from)
  not_loaded_so (err.Down down) s fell =
      let here = subst (λ (x : StoreState). FellIn before down x s) from fell in
      record {
        leaves = cut_leaves v.store.current s.disk (subst (λ (x : FileHead). LeavesOut (in_extent x) v.store.current s.disk) before_is here.leaves);
        counts = here.counts;
        pool = here.pool;
        home = refl;
        ru = refl;
      }
  not_loaded_so (err.Full free needed) s other = absurd other
  not_loaded_so err.NoJournal s other = absurd other
  not_loaded_so err.NoSave s other = absurd other
  not_loaded_so (err.InUse serial) s other = absurd other
  not_loaded_so (err.Early until save) s other = absurd other
  not_loaded_so (err.Span needed first) s other = absurd other

  -- The load was done.
  module _ (new : FileHead) (s : StoreState) (head : new ≡ loaded_head before es) (form : IsFile new) (loaded : IfSome s.current (λ b. IsLoaded new b es)) (wrote_there : Wrote before o s) (lowest : (lower : ℕ) → lower < start → IsRun v.catalog lower (buckets * h.bucket) → ⊥)
      (front : StandsOnTheFront) (bytes : List ℕ) (low : f < 64) (tells : Holds (record v { store = s }) → IfSome (staged f bytes s.current) (TellsCatalog (with_head f new v.catalog))) where
    wrote : Wrote before v.store s
    wrote = subst (λ (x : StoreState). Wrote before x s) from wrote_there

    new_is : new ≡ loaded_head (moved_head h v.catalog.home.greatest_moment start buckets) es
    new_is = head ∙ ap (λ (x : FileHead). loaded_head x es) before_is

    with_es : IsHeadWith v.catalog h es new
    with_es = head_with v.catalog h es start buckets new new_is wanted run lowest form

    outside : AgreesOut (in_extent new) v.store.current s.current
    outside = out_is v.catalog h es start buckets new new_is v.store.current s.current (subst (λ (x : FileHead). AgreesOut (in_extent x) v.store.current s.current) before_is wrote.outside)

    staged_is : staged f bytes s.current ≡ swapped f v.catalog h es new with_es bytes s.current
    staged_is = ap (λ (n : ℕ). option_map (λ (blocks : List (List ℕ)). slice_set blocks n bytes) s.current) (block_is f)

    told : IfSome s.current (TellsCatalog v.catalog) → IfSome (swapped f v.catalog h es new with_es bytes s.current) (TellsCatalog (with_head f new v.catalog))
    told holds = subst (λ (o : Option (List (List ℕ))). IfSome o (TellsCatalog (with_head f new v.catalog))) staged_is (tells holds)

    pub replaced_so : (w : VolumeState) (count : ℕ) → w.store.current ≡ staged f bytes s.current → IsIdle w.store → w.catalog ≡ with_head f new v.catalog → Quiet s.disk w.store.disk → w.store.pool ≡ s.pool → count ≡ length es → Replaced f h es count v w
    replaced_so w count current idle catalog quiet pool counted_is = record {
      new = new;
      head = with_es;
      told = subst (λ (o : Option (List (List ℕ))). MatchOption v.store.current (o ≡ None) (λ content. IsSomeAnd o (λ after. ReplacesIn f v.catalog h es content after new))) (sym (current ∙ staged_is))
          (told_so f v.catalog h es new with_es front bytes low v.store.current s.current outside loaded told);
      catalog = catalog;
      counted = counted_is;
      holds = λ holds. subst (λ (x : Catalog). IfSome w.store.current (TellsCatalog x)) (sym catalog) (subst (λ (o : Option (List (List ℕ))). IfSome o (TellsCatalog (with_head f new v.catalog))) (sym current)
          (tells (front_stays f v.catalog h es new with_es v.store.current s.current front outside holds)));
      idle = idle;
      quiet = then_counts false false v.store.disk s.disk w.store.disk wrote.quiet quiet;
      pool = pool ∙ wrote.pool;
    }

    pub fell_so : (w : VolumeState) (down : Down) → Leaves (IsEither s.current (staged f bytes s.current)) w.store.disk → CountsDown down s.disk w.store.disk → w.store.pool ≡ s.pool → w.catalog ≡ with_head f new v.catalog → FellReplacing f h es down v w
    fell_so w down leaves counts pool catalog = record {
      leaves = swapping_leaves f v.catalog h es new with_es front bytes low v.store.current s.current w.store.disk outside loaded told (subst (λ (o : Option (List (List ℕ))). Leaves (IsEither s.current o) w.store.disk) staged_is leaves);
      counts = then_counts _ _ v.store.disk s.disk w.store.disk wrote.quiet counts;
      pool = pool ∙ wrote.pool;
      home = ap (λ (x : Catalog). x.home) catalog;
      ru = ap (λ (x : Catalog). x.ru) catalog;
    }
