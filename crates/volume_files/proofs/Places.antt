-- A file lies in the data area, behind the blocks that tell the volume.
use Rattle.std.proofs.Common.{◌≡◌, ℕ, zero, suc, ◌+◌, ◌-◌, ◌*◌, ◌<◌, ◌≤◌, List, [], ◌∷◌, length, Bool, true, false, Option, Some, None, nat_le, nat_lt, slice_index_or, refl, ap, subst, ◌∙◌, arith, ⊎_elim}
use Rattle.std.specs.Prelude.{◌&&◌}
use Rattle.std.proofs.lemmas.List.{get_or_past}
use Rattle.std.proofs.lemmas.Bool.{cases_lt}
use Rattle.std.proofs.lemmas.Bool.Decides.{nat_tests}
use Rattle.block_disk.specs.Disk.{DiskState}
use Rattle.file_base.specs.declared.head.FileHead.{FileHead}
use Rattle.change_set.specs.Files.{IsPlaced, in_extent}
use Rattle.volume.specs.extents.declared.extent.Extent.{Extent as Area}
use Rattle.volume.specs.extents.Extents.{FitsAt, all_extents, covers, extent, nowhere}
use Rattle.volume.proofs.extents.Used.{covered, covering}
use Rattle.volume.specs.volume_format.Home.{sizes_of}
use Rattle.volume.specs.declared.catalog.Catalog.{Catalog}
use Rattle.volume.specs.Catalogs.{IsSound, head_at}
use Rattle.volume.specs.Limits.{FileFits, EntryFits, data_area}

-- each extent of the heads lies in an area behind block 518, and apart from those before it
pub record Fit (area : Area) (heads : List (Option FileHead)) : Type 0 where
  pub heads_long : length heads ≡ 64
  pub behind : 518 ≤ area.start
  pub each : (i : ℕ) → i < 256 → FitsAt area (all_extents heads) i

pub within_list : {A : Type 0} (xs : List (Option A)) (f : ℕ) (x : A) → slice_index_or xs f None ≡ Some x → f < length xs
within_list [] f x there = let none : ⊥ = cc in absurd none
within_list (y ∷ xs) zero x there = omega arith
within_list (y ∷ xs) (suc f) x there = let more = within_list xs f x there in omega arith

-- the blocks of a file's buckets
abbrev pub own : FileHead → Area
own h = extent h.start (h.alloc * h.bucket)

pub four_more : (f : ℕ) → 4 * suc f ≡ suc (suc (suc (suc (4 * f))))
four_more f = omega arith

-- they are the first of its four extents
pub own_at : (heads : List (Option FileHead)) (f : ℕ) (h : FileHead) → head_at heads f ≡ Some h → slice_index_or (all_extents heads) (4 * f) nowhere ≡ own h
own_at [] f h there = let no : ⊥ = cc in absurd no
own_at (None ∷ heads) zero h there = let no : ⊥ = cc in absurd no
own_at (Some first ∷ heads) zero h there = let same : first ≡ h = cc in ap own same
own_at (None ∷ heads) (suc f) h there = ap (λ i. slice_index_or (all_extents (None ∷ heads)) i nowhere) (four_more f) ∙ own_at heads f h there
own_at (Some first ∷ heads) (suc f) h there = ap (λ i. slice_index_or (all_extents (Some first ∷ heads)) i nowhere) (four_more f) ∙ own_at heads f h there

pub four_each : (heads : List (Option FileHead)) → length (all_extents heads) ≡ 4 * length heads
four_each [] = refl
four_each (None ∷ heads) = let rest = four_each heads in omega arith
four_each (Some h ∷ heads) = let rest = four_each heads in omega arith

extent_holds : (from size n : ℕ) → (nat_le from n && nat_lt n (from + size)) ≡ true → (from ≤ n) × (n < from + size)
extent_holds from size n is = (grind (arith, nat_tests), grind (arith, nat_tests))

module _ (area : Area) (heads : List (Option FileHead)) (fit : Fit area heads) where
  -- a file's own blocks lie in the area
  own_within : (f : ℕ) (h : FileHead) → head_at heads f ≡ Some h → (n : ℕ) → covers (own h) n ≡ true → covers area n ≡ true
  own_within f h there =
      let below = within_list heads f h there in
      let long = fit.heads_long in
      let fits = fit.each (4 * f) (omega arith) in
      subst (λ e. (n : ℕ) → covers e n ≡ true → covers area n ≡ true) (own_at heads f h there) fits.inside

  -- a block of the content, as one of the disk
  on_disk : (f n : ℕ) (h : FileHead) → head_at heads f ≡ Some h → in_extent h n ≡ true → covers (own h) (n + 518) ≡ true
  on_disk f n h there in_it =
      let lies = extent_holds (h.start - 518) (h.alloc * h.bucket) n in_it in
      let first = covered area h.start (own_within f h there h.start (covering (own h) h.start (omega arith) (omega (arith, lies)))) in
      let far = fit.behind in
      covering (own h) (n + 518) (omega (arith, lies, first)) (omega (arith, lies, first))

  pub within : (f n : ℕ) (h : FileHead) → head_at heads f ≡ Some h → in_extent h n ≡ true → (area.start ≤ n + 518) × (n + 518 < area.end)
  within f n h there in_it = covered area (n + 518) (own_within f h there (n + 518) (on_disk f n h there in_it))

pub head_below : (heads : List (Option FileHead)) (f : ℕ) (h : FileHead) → length heads ≡ 64 → head_at heads f ≡ Some h → f < 64
head_below heads f h long there = ⊎_elim (λ lt. lt) (λ past. let none = get_or_past heads f None (omega (arith, long, past)) in let no_way : ⊥ = cc in absurd no_way) (cases_lt f 64)

pub fits_at : (name : List ℕ) (size : ℕ) (v : Catalog) (f : ℕ) (h : FileHead) → length v.heads ≡ 64 → IsSound name size v → head_at v.heads f ≡ Some h → FileFits v.home.greatest_moment.0 h
fits_at name size v f h long sound there = subst (λ o. EntryFits v.home.greatest_moment.0 o) there (sound.files f (head_below v.heads f h long there))

pub fit_of : (name : List ℕ) (size : ℕ) (v : Catalog) → length v.heads ≡ 64 → IsSound name size v → Fit (data_area (sizes_of v.home)) v.heads
fit_of name size v long sound = record { heads_long = long; behind = omega arith; each = sound.extents }

in_extent_first : (start count : ℕ) → 1 ≤ count → (nat_le (start - 518) (start - 518) && nat_lt (start - 518) (start - 518 + count)) ≡ true
in_extent_first start count some = grind (arith, nat_tests)

in_extent_last : (start count : ℕ) → 1 ≤ count → (nat_le (start - 518) (start - 518 + count - 1) && nat_lt (start - 518 + count - 1) (start - 518 + count)) ≡ true
in_extent_last start count some = grind (arith, nat_tests)

some_blocks : (a b : ℕ) → 1 ≤ a → 1 ≤ b → 1 ≤ a * b
some_blocks zero b p q = let no_way : ⊥ = omega (arith, p) in absurd no_way
some_blocks (suc a) zero p q = let no_way : ⊥ = omega (arith, q) in absurd no_way
some_blocks (suc a) (suc b) p q = omega arith

pub placed : (name : List ℕ) (v : Catalog) (f : ℕ) (h : FileHead) (disk : DiskState) → length v.heads ≡ 64 → IsSound name disk.size v → disk.size ≤ 65536 → head_at v.heads f ≡ Some h → IsPlaced h disk
placed name v f h disk long sound most there =
    let fits = fits_at name disk.size v f h long sound there in
    let fit = fit_of name disk.size v long sound in
    let some = some_blocks h.alloc h.bucket (omega (arith, fits.buckets.least, fits.buckets.most)) fits.bucket.least_blocks in
    let first = within _ v.heads fit f (h.start - 518) h there (in_extent_first h.start (h.alloc * h.bucket) some) in
    let last = within _ v.heads fit f (h.start - 518 + h.alloc * h.bucket - 1) h there (in_extent_last h.start (h.alloc * h.bucket) some) in
    record {
      from = omega (arith, first.0);
      to = omega (arith, first.0, last.1, sound.sizes.blocks);
      fits = most;
      blocks = fits.bucket.most_blocks;
      one = fits.bucket.least_blocks;
      least = fits.bucket.least_record;
      records = fits.bucket.record_fits;
      greatest = fits.bucket.most_record;
    }

-- a file lies behind the front
pub behind_front : (name : List ℕ) (size : ℕ) (v : Catalog) (f : ℕ) (h : FileHead) → length v.heads ≡ 64 → IsSound name size v → head_at v.heads f ≡ Some h → (n : ℕ) → in_extent h n ≡ true → 66 ≤ n
behind_front name size v f h long sound there n is =
    let in_area = within _ v.heads (fit_of name size v long sound) f n h there is in omega (arith, in_area.0)
