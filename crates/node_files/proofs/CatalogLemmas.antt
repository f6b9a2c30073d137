-- Changes of a volume's catalog and of its front blocks.
use Rattle.std.proofs.Common.{◌≡◌, ◌≢◌, ⊎_elim, ℕ, zero, suc, ◌+◌, ◌-◌, ◌*◌, ◌<◌, ◌≤◌, List, [], Bool, true, false, Option, Some, None, IfSome, length, slice_set, nat_lt, nat_le, refl, sym, ap, subst, ◌∙◌, arith, get_or-set_same, get_or-set_other}
use Rattle.std.specs.Prelude.{◌&&◌, ◌||◌, ◌==◌, ◌⊎◌}
use Rattle.std.proofs.lemmas.List.{get_or_past}
use Rattle.std.proofs.lemmas.Bool.{cases_lt, cases_eq}
use Rattle.std.proofs.lemmas.Bool.Decides.{nat_tests}
use Rattle.block_disk.specs.Blocks.{block_at}
use Rattle.block_disk.specs.Disk.{DiskState}
use Rattle.careful_write.specs.Steps.{AgreesOff}
use Rattle.file_base.specs.declared.head.FileHead.{FileHead}
use Rattle.file_base.specs.declared.head.Organization.{Organization}
use Rattle.file_base.specs.declared.head.Organization.TheVariants.{Sequential, Relative, Indexed}
use Rattle.volume_format.specs.declared.home.Ending.{Ending}
use Rattle.volume_format.specs.Home.{sizes_of}
use Rattle.vms_base.specs.declared.ids.Serial.{Serial}
use Rattle.change_set.specs.Files.{AgreesOn, AgreesOut, IsPlaced, SameFile, in_extent}
use Rattle.record_files.specs.Any as any
use Rattle.record_files.specs.Any.{FormBy}
use Rattle.volume.specs.declared.catalog.Catalog.{Catalog}
use Rattle.volume.specs.Catalogs.{IsSound, IsNew, StandsOnTheFront, TellsCatalog}
use Rattle.volume.specs.Limits.{FileFits, EntryFits, SaveFits, KeysFit, RootFits, data_area, file_buckets, save_buckets}
use Rattle.volume.specs.declared.limits.Buckets.{Buckets}
use Rattle.directory_model.specs.run_model.World.{File}
use Rattle.directory_model.specs.Files.{AreFiles, AreNamedOnce, Fit, head_at}
use Rattle.directory_model.specs.Laws.{KeepsHeads, LieApart, StandsOnExtents, marked}

-- Heads.

pub head_below : (heads : List (Option FileHead)) (f : ℕ) (h : FileHead) → length heads ≡ 64 → head_at heads f ≡ Some h → f < 64
head_below heads f h long there = ⊎_elim (λ lt. lt) (λ past. let none = get_or_past heads f None (omega (arith, long, past)) in let no_way : ⊥ = cc in absurd no_way) (cases_lt f 64)

pub head_set : (heads : List (Option FileHead)) (f : ℕ) (h : FileHead) → length heads ≡ 64 → f < 64 → head_at (slice_set heads f (Some h)) f ≡ Some h
head_set heads f h long below = get_or-set_same heads f (Some h) None (omega (arith, long, below))

pub head_other : (heads : List (Option FileHead)) (f g : ℕ) (h : FileHead) → g ≢ f → head_at (slice_set heads f (Some h)) g ≡ head_at heads g
head_other heads f g h apart = get_or-set_other heads f g (Some h) None apart

pub fits_at : (name : List ℕ) (size : ℕ) (v : Catalog) (f : ℕ) (h : FileHead) → length v.heads ≡ 64 → IsSound name size v → head_at v.heads f ≡ Some h → FileFits v.home.greatest_moment.0 h
fits_at name size v f h long sound there = subst (λ o. EntryFits v.home.greatest_moment.0 o) there (sound.files f (head_below v.heads f h long there))

-- Extents.

pub fit_of : (name : List ℕ) (size : ℕ) (v : Catalog) → length v.heads ≡ 64 → IsSound name size v → Fit (data_area (sizes_of v.home)) v.heads
fit_of name size v long sound = record { heads_long = long; behind = omega arith; each = sound.extents }

in_extent_first : (start count : ℕ) → 1 ≤ count → (nat_le (start - 518) (start - 518) && nat_lt (start - 518) (start - 518 + count)) ≡ true
in_extent_first start count some = grind (arith, nat_tests)

in_extent_last : (start count : ℕ) → 1 ≤ count → (nat_le (start - 518) (start - 518 + count - 1) && nat_lt (start - 518 + count - 1) (start - 518 + count)) ≡ true
in_extent_last start count some = grind (arith, nat_tests)

pub some_blocks : (a b : ℕ) → 1 ≤ a → 1 ≤ b → 1 ≤ a * b
some_blocks zero b p q = let no_way : ⊥ = omega (arith, p) in absurd no_way
some_blocks (suc a) zero p q = let no_way : ⊥ = omega (arith, q) in absurd no_way
some_blocks (suc a) (suc b) p q = omega arith

pub placed : (name : List ℕ) (v : Catalog) (f : ℕ) (h : FileHead) (disk : DiskState) → LieApart → length v.heads ≡ 64 → IsSound name disk.size v → disk.size ≤ 65536 → head_at v.heads f ≡ Some h → IsPlaced h disk
placed name v f h disk apart long sound most there =
    let fits = fits_at name disk.size v f h long sound there in
    let fit = fit_of name disk.size v long sound in
    let some = some_blocks h.alloc h.bucket (omega (arith, fits.buckets.least, fits.buckets.most)) fits.bucket.least_blocks in
    let first = apart.within _ v.heads f (h.start - 518) h fit there (in_extent_first h.start (h.alloc * h.bucket) some) in
    let last = apart.within _ v.heads f (h.start - 518 + h.alloc * h.bucket - 1) h fit there (in_extent_last h.start (h.alloc * h.bucket) some) in
    record {
      from = omega (arith, first.0);
      to = omega (arith, first.0, last.1, sound.sizes.blocks);
      fits = most;
      blocks = fits.bucket.most_blocks;
      one = fits.bucket.least_blocks;
      least = fits.bucket.least_record;
      records = fits.bucket.record_fits;
      greatest = fits.bucket.most_record;
    }

pub named_new : (heads : List (Option FileHead)) (g : ℕ) (o : Option FileHead) → head_at heads g ≡ o → AreNamedOnce heads → IsNew heads g o
named_new heads g None is once = tt
named_new heads g (Some h) is once = once g h is

pub named_once : (node : List ℕ) (size : ℕ) (v : Catalog) → length v.heads ≡ 64 → IsSound node size v → AreNamedOnce v.heads
named_once node size v long sound = λ f h there. subst (λ o. IsNew v.heads f o) there (sound.names f (head_below v.heads f h long there))

pub sound_set : (name : List ℕ) (size : ℕ) (v : Catalog) (f : ℕ) (h : FileHead) → length v.heads ≡ 64 → f < 64 → Fit (data_area (sizes_of v.home)) (slice_set v.heads f (Some h)) → AreNamedOnce (slice_set v.heads f (Some h)) → FileFits v.home.greatest_moment.0 h → IsSound name size v →
    IsSound name size (record v { heads = slice_set v.heads f (Some h) })
sound_set name size v f h long below fit once fits sound = record {
  version = sound.version;
  sizes = sound.sizes;
  home = sound.home;
  files = λ g lt. ⊎_elim
      (λ same. subst (λ o. EntryFits v.home.greatest_moment.0 o) (sym (ap (head_at (slice_set v.heads f (Some h))) same ∙ head_set v.heads f h long below)) fits)
      (λ apart. subst (λ o. EntryFits v.home.greatest_moment.0 o) (sym (head_other v.heads f g h apart)) (sound.files g lt))
      (cases_eq g f);
  names = λ g lt. named_new (slice_set v.heads f (Some h)) g (head_at (slice_set v.heads f (Some h)) g) refl once;
  extents = fit.each;
  ru_start = sound.ru_start;
  ru_blocks = sound.ru_blocks;
}

-- A file is marked.

root_marked : (o : Organization) (units : Bool) (h : FileHead) (b : Buckets) → RootFits o h b → RootFits o (marked units h) b
root_marked Sequential units h b f = f
root_marked Relative units h b f = f
root_marked Indexed units h b f = f

keys_marked : (o : Organization) (units : Bool) (h : FileHead) → KeysFit o h → KeysFit o (marked units h)
keys_marked Sequential units h f = f
keys_marked Relative units h f = f
keys_marked Indexed units h f = f

pub fits_marked : (g : ℕ) (units : Bool) (h : FileHead) → FileFits g h → FileFits g (marked units h)
fits_marked g units h f = record { bucket = record { least_blocks = f.bucket.least_blocks; most_blocks = f.bucket.most_blocks; least_record = f.bucket.least_record; most_record = f.bucket.most_record; record_fits = f.bucket.record_fits }; keys = keys_marked h.organization units h f.keys; buckets = record { least = f.buckets.least; most = f.buckets.most; root = root_marked h.organization units h (file_buckets h) f.buckets.root }; ai = f.ai; bi = f.bi; since = f.since; save = save_marked h.marks.save f.save }
  where
    save_marked : (m : Bool) → SaveFits m g h → SaveFits m g (marked units h)
    save_marked true s = record { buckets = record { least = s.buckets.least; most = s.buckets.most; root = root_marked h.organization units h (save_buckets h.save) s.buckets.root }; position = s.position; moment = s.moment }
    save_marked false s = s

pub sound_marked : (name : List ℕ) (size : ℕ) (v : Catalog) (f : ℕ) (h : FileHead) (units : Bool) → KeepsHeads → length v.heads ≡ 64 → head_at v.heads f ≡ Some h → IsSound name size v → IsSound name size (record v { heads = slice_set v.heads f (Some (marked units h)) })
sound_marked name size v f h units law long there s =
    sound_set name size v f (marked units h) long (head_below v.heads f h long there) (law.marks (data_area (sizes_of v.home)) v.heads f h units (fit_of name size v long s) there) (law.marks_named v.heads f h units (named_once name size v long s) there)
    (fits_marked v.home.greatest_moment.0 units h (fits_at name size v f h long s there)) s

-- A file is changed: its head is one of the same file.

-- the head with other used buckets, another root, other levels and another count
abbrev moved : FileHead → ℕ → ℕ → ℕ → ℕ → FileHead
moved h used root levels count = record h { used = used; root = root; levels = levels; count = count }

keys_moved : (o : Organization) (h : FileHead) (used root levels count : ℕ) → KeysFit o h → KeysFit o (moved h used root levels count)
keys_moved Sequential h used root levels count f = f
keys_moved Relative h used root levels count f = f
keys_moved Indexed h used root levels count f = f

root_moved : (o : Organization) (h : FileHead) (used root levels count : ℕ) (b : Buckets) → RootFits o h b → RootFits o (moved h used root levels count) b
root_moved Sequential h used root levels count b f = f
root_moved Relative h used root levels count b f = f
root_moved Indexed h used root levels count b f = f

pub off_front : (h : FileHead) (n : ℕ) → n < 66 → (in_extent h n ≡ true → 66 ≤ n) → in_extent h n ≡ false
off_front h n below behind = is_false (in_extent h n) (λ t. let b = behind t in omega arith)
  where
    is_false : (b : Bool) → (b ≡ true → ⊥) → b ≡ false
    is_false true so = absurd (so refl)
    is_false false so = refl

-- a file of the catalog has no front block
pub file_off_front : (name : List ℕ) (size : ℕ) (v : Catalog) (f : ℕ) (h : FileHead) → LieApart → length v.heads ≡ 64 → IsSound name size v → head_at v.heads f ≡ Some h → (n : ℕ) → n < 66 → in_extent h n ≡ false
file_off_front name size v f h apart long sound there = λ n below. off_front h n below (λ t. let in_area = apart.within (data_area (sizes_of v.home)) v.heads f n h (fit_of name size v long sound) there t in omega (arith, in_area.0))

pub holds_out : (p : ℕ → Bool) (v : Catalog) (old new : Option (List (List ℕ))) → StandsOnTheFront → ((n : ℕ) → n < 66 → p n ≡ false) → AgreesOut p old new → IfSome old (TellsCatalog v) → IfSome new (TellsCatalog v)
holds_out p v None new front off out holds = subst (λ o. IfSome o (TellsCatalog v)) (sym out) tt
holds_out p v (Some a) None front off out holds = absurd out
holds_out p v (Some a) (Some c) front off out holds = front v a c (λ n below. sym (out.others n (off n below))) holds

-- a content but for some blocks
pub out_some : (p : ℕ → Bool) (old after : Option (List (List ℕ))) (a : List (List ℕ)) → old ≡ Some a → AgreesOut p old after → (c : List (List ℕ)) × (after ≡ Some c) × AgreesOff p a c
out_some p old None a is out = absurd (let o = rw is at out in o)
out_some p old (Some c) a is out = (c, refl, (let o = rw is at out in o))
