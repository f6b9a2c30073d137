-- A volume stays sound where the head of a file becomes another one of the same file.
use Rattle.std.proofs.Common.{◌≡◌, ⊎_elim, inl, inr, ℕ, zero, suc, ◌+◌, ◌*◌, ◌<◌, ◌≤◌, List, [], ◌∷◌, ◌++◌, Bool, true, false, Option, Some, None, length, slice_set, refl, sym, ap, subst, ◌∙◌, arith, get_or-set_same, get_or-set_other, length-set}
use Rattle.std.specs.Prelude.{◌⊎◌}
use Rattle.std.proofs.lemmas.Bool.{cases_eq}
use Rattle.file_base.specs.declared.head.FileHead.{FileHead}
use Rattle.file_base.specs.declared.head.Organization.{Organization}
use Rattle.file_base.specs.declared.head.Organization.TheVariants.{Sequential, Relative, Indexed}
use Rattle.volume.specs.extents.declared.extent.Extent.{Extent as Area}
use Rattle.volume.specs.extents.Extents.{FitsAt, all_extents, extents_of}
use Rattle.change_set.specs.Files.{SameFile}
use Rattle.record_files.specs.Any as any
use Rattle.record_files.specs.Any.{FormBy}
use Rattle.volume.specs.volume_format.Home.{sizes_of}
use Rattle.volume.specs.declared.catalog.Catalog.{Catalog}
use Rattle.volume.specs.declared.limits.Buckets.{Buckets}
use Rattle.volume.specs.Catalogs.{IsNew, IsSound, NewName, head_at}
use Rattle.volume.specs.Limits.{EntryFits, FileFits, KeysFit, RootFits, SaveFits, data_area, file_buckets, save_buckets}
use Rattle.volume_files.proofs.FormLemmas.{RootIs, root_is}
use Rattle.volume_files.proofs.Places.{Fit, fit_of, fits_at, head_below}

-- What stands at a number once a head is set.

set_at : (heads : List (Option FileHead)) (f g : ℕ) (new h : FileHead) → head_at (slice_set heads f (Some new)) g ≡ Some h → ((g ≡ f) × (h ≡ new)) ⊎ (head_at heads g ≡ Some h)
set_at [] f g new h there = inr there
set_at (o ∷ heads) zero zero new h there = inl (refl, (let e : new ≡ h = cc in sym e))
set_at (o ∷ heads) zero (suc g) new h there = inr there
set_at (o ∷ heads) (suc f) zero new h there = inr there
set_at (o ∷ heads) (suc f) (suc g) new h there = ⊎_elim (λ here. inl (ap suc here.0, here.1)) (λ old. inr old) (set_at heads f g new h there)

-- each file's name is that of no lower number
abbrev AreNamedOnce : List (Option FileHead) → Type 0
AreNamedOnce heads = (f : ℕ) (h : FileHead) → head_at heads f ≡ Some h → NewName heads f h.name

-- what stands at a number under the name that stood there before
named_still : (heads : List (Option FileHead)) (f : ℕ) (h new : FileHead) → AreNamedOnce heads → head_at heads f ≡ Some h → new.name ≡ h.name → AreNamedOnce (slice_set heads f (Some new))
named_still heads f h new once is name g other there lower third below there_too same =
    let first = was g other there in
    let second = was lower third there_too in
    once g first.0 first.1 lower second.0 below second.1 (sym second.2 ∙ same ∙ first.2)
  where
    was : (g : ℕ) (other : FileHead) → head_at (slice_set heads f (Some new)) g ≡ Some other → (old : FileHead) × (head_at heads g ≡ Some old) × (other.name ≡ old.name)
    was g other there = ⊎_elim (λ it. (h, ap (head_at heads) it.0 ∙ is, ap (λ (x : FileHead). x.name) it.1 ∙ name)) (λ old. (other, old, refl)) (set_at heads f g new other there)

same_extents : (heads : List (Option FileHead)) (f : ℕ) (h new : FileHead) → extents_of (Some h) ≡ extents_of (Some new) → head_at heads f ≡ Some h → all_extents heads ≡ all_extents (slice_set heads f (Some new))
same_extents [] f h new same there = refl
same_extents (None ∷ heads) zero h new same there = let no : ⊥ = cc in absurd no
same_extents (Some first ∷ heads) zero h new same there = let it : first ≡ h = cc in ap (λ (x : FileHead). all_extents (Some x ∷ heads)) it ∙ ap (λ es. es ++ all_extents heads) same
same_extents (o ∷ heads) (suc f) h new same there = ap (λ es. extents_of o ++ es) (same_extents heads f h new same there)

fit_still : (area : Area) (heads : List (Option FileHead)) (f : ℕ) (h new : FileHead) → Fit area heads → head_at heads f ≡ Some h → extents_of (Some h) ≡ extents_of (Some new) → Fit area (slice_set heads f (Some new))
fit_still area heads f h new fit there same = record {
  heads_long = length-set heads f (Some new) ∙ fit.heads_long;
  behind = fit.behind;
  each = subst (λ es. (i : ℕ) → i < 256 → FitsAt area es i) (same_extents heads f h new same there) fit.each;
}

named_new : (heads : List (Option FileHead)) (g : ℕ) (o : Option FileHead) → head_at heads g ≡ o → AreNamedOnce heads → IsNew heads g o
named_new heads g None is once = tt
named_new heads g (Some h) is once = once g h is

named_once : (node : List ℕ) (size : ℕ) (v : Catalog) → length v.heads ≡ 64 → IsSound node size v → AreNamedOnce v.heads
named_once node size v long sound = λ f h there. subst (λ o. IsNew v.heads f o) there (sound.names f (head_below v.heads f h long there))

new_at : (heads : List (Option FileHead)) (f : ℕ) (h : FileHead) → length heads ≡ 64 → f < 64 → head_at (slice_set heads f (Some h)) f ≡ Some h
new_at heads f h long below = get_or-set_same heads f (Some h) None (omega (arith, long, below))

other_at : (heads : List (Option FileHead)) (f g : ℕ) (h : FileHead) → (g ≡ f → ⊥) → head_at (slice_set heads f (Some h)) g ≡ head_at heads g
other_at heads f g h apart = get_or-set_other heads f g (Some h) None apart

sound_set : (name : List ℕ) (size : ℕ) (v : Catalog) (f : ℕ) (h : FileHead) → length v.heads ≡ 64 → f < 64 → Fit (data_area (sizes_of v.home)) (slice_set v.heads f (Some h)) → AreNamedOnce (slice_set v.heads f (Some h)) → FileFits v.home.greatest_moment.0 h → IsSound name size v →
    IsSound name size (record v { heads = slice_set v.heads f (Some h) })
sound_set name size v f h long below fit once fits sound = record {
  version = sound.version;
  sizes = sound.sizes;
  home = sound.home;
  files = λ g lt. ⊎_elim
      (λ same. subst (λ o. EntryFits v.home.greatest_moment.0 o) (sym (ap (head_at (slice_set v.heads f (Some h))) same ∙ new_at v.heads f h long below)) fits)
      (λ apart. subst (λ o. EntryFits v.home.greatest_moment.0 o) (sym (other_at v.heads f g h apart)) (sound.files g lt))
      (cases_eq g f);
  names = λ g lt. named_new (slice_set v.heads f (Some h)) g (head_at (slice_set v.heads f (Some h)) g) refl once;
  extents = fit.each;
  ru_start = sound.ru_start;
  ru_blocks = sound.ru_blocks;
}

-- A file is changed: its head is one of the same file.

-- the head with other used buckets, another root, other levels and another count
abbrev moved : FileHead → ℕ → ℕ → ℕ → ℕ → FileHead
moved h used root levels count = record h { used = used; root = root; levels = levels; count = count }

keys_moved : (o : Organization) (h : FileHead) (used root levels count : ℕ) → KeysFit o h → KeysFit o (moved h used root levels count)
keys_moved Sequential h used root levels count f = f
keys_moved Relative h used root levels count f = f
keys_moved Indexed h used root levels count f = f

root_moved : (o : Organization) (h : FileHead) (used root levels count : ℕ) (b : Buckets) → RootFits o h b → RootFits o (moved h used root levels count) b
root_moved Sequential h used root levels count b f = f
root_moved Relative h used root levels count b f = f
root_moved Indexed h used root levels count b f = f

buckets_moved : (o : Organization) (h : FileHead) (used root levels count : ℕ) → FormBy o (moved h used root levels count) → RootIs o (moved h used root levels count) → 1 ≤ h.alloc → RootFits o h (file_buckets h) →
    (1 ≤ used) × (used ≤ h.alloc) × RootFits o (moved h used root levels count) (file_buckets (moved h used root levels count))
buckets_moved Sequential h used root levels count form is some f = (form.one, form.used, (is.0, is.1))
buckets_moved Relative h used root levels count form is some f = ((let e = form.used in omega (arith, e, some)), (let e = form.used in omega (arith, e)), (is.0, is.1, is.2, f.3, form.used ∙ f.3))
buckets_moved Indexed h used root levels count form is some f = ((let e = form.root.root in omega (arith, e)), form.root.within, (form.root.root, is))

fits_moved : (g : ℕ) (h : FileHead) (used root levels count : ℕ) → any.IsFile (moved h used root levels count) → RootIs h.organization (moved h used root levels count) → FileFits g h → FileFits g (moved h used root levels count)
fits_moved g h used root levels count form is f =
    let b = buckets_moved h.organization h used root levels count form is (omega (arith, f.buckets.least, f.buckets.most)) f.buckets.root in
    record {
      bucket = record { least_blocks = f.bucket.least_blocks; most_blocks = f.bucket.most_blocks; least_record = f.bucket.least_record; most_record = f.bucket.most_record; record_fits = f.bucket.record_fits };
      keys = keys_moved h.organization h used root levels count f.keys;
      buckets = record { least = b.0; most = b.1; root = b.2 };
      ai = f.ai;
      bi = f.bi;
      since = f.since;
      save = save_moved h.marks.save f.save;
    }
  where
    save_moved : (m : Bool) → SaveFits m g h → SaveFits m g (moved h used root levels count)
    save_moved true s = record { buckets = record { least = s.buckets.least; most = s.buckets.most; root = root_moved h.organization h used root levels count (save_buckets h.save) s.buckets.root }; position = s.position; moment = s.moment }
    save_moved false s = s

-- the head of the same file fits as it did
fits_same : (g : ℕ) (h new : FileHead) → SameFile h new → any.IsFile new ⊎ (new ≡ h) → FileFits g h → FileFits g new
fits_same g h new same form f = ⊎_elim
    (λ is.
    let at : any.IsFile (moved h new.used new.root new.levels new.count) = subst any.IsFile same.is is in
    subst (FileFits g) (sym same.is) (fits_moved g h new.used new.root new.levels new.count at (root_is (moved h new.used new.root new.levels new.count) at) f))
    (λ is. subst (FileFits g) (sym is) f)
    form

extents_same : (h new : FileHead) → SameFile h new → extents_of (Some h) ≡ extents_of (Some new)
extents_same h new same = sym (ap (λ (x : FileHead). extents_of (Some x)) same.is)

pub sound_changed : (name : List ℕ) (size : ℕ) (v : Catalog) (f : ℕ) (h new : FileHead) → length v.heads ≡ 64 → head_at v.heads f ≡ Some h → SameFile h new → any.IsFile new ⊎ (new ≡ h) → IsSound name size v → IsSound name size (record v { heads = slice_set v.heads f (Some new) })
sound_changed name size v f h new long there same form s =
    sound_set name size v f new long (head_below v.heads f h long there) (fit_still (data_area (sizes_of v.home)) v.heads f h new (fit_of name size v long s) there (extents_same h new same)) (named_still v.heads f h new (named_once name size v long s) there (ap (λ (x : FileHead). x.name) same.is))
    (fits_same v.home.greatest_moment.0 h new same form (fits_at name size v f h long s there)) s

-- and where the head becomes any that fits, of the same name, and lies where it lay
pub sound_with : (name : List ℕ) (size : ℕ) (v : Catalog) (f : ℕ) (h new : FileHead) → length v.heads ≡ 64 → head_at v.heads f ≡ Some h → extents_of (Some h) ≡ extents_of (Some new) → new.name ≡ h.name → FileFits v.home.greatest_moment.0 new → IsSound name size v →
    IsSound name size (record v { heads = slice_set v.heads f (Some new) })
sound_with name size v f h new long there same called fits s =
    sound_set name size v f new long (head_below v.heads f h long there) (fit_still (data_area (sizes_of v.home)) v.heads f h new (fit_of name size v long s) there same) (named_still v.heads f h new (named_once name size v long s) there called) fits s
