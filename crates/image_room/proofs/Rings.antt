-- Where the rings of a sound volume's journals of images lie.
use Rattle.std.proofs.Common.{◌≡◌, ℕ, zero, suc, ◌+◌, ◌-◌, ◌*◌, ◌<◌, ◌≤◌, ◌^◌, List, [], ◌∷◌, length, Bool, true, false, Option, Some, None, slice_index_or, refl, sym, ap, subst, ◌∙◌, arith}
use Rattle.block_disk.specs.Disk.{DiskState}
use Rattle.file_base.specs.declared.head.FileHead.{FileHead}
use Rattle.file_base.specs.declared.head.Span.{Span}
use Rattle.volume.specs.extents.declared.extent.Extent.{Extent as Area}
use Rattle.volume.specs.extents.Extents.{all_extents, covers, extent, nowhere}
use Rattle.volume.proofs.extents.Used.{covered, covering}
use Rattle.image_appends.specs.journal_model.Ring.{ring_size}
use Rattle.image_appends.specs.journal_store.Rings.{IsRing}
use Rattle.volume.specs.volume_format.Home.{sizes_of}
use Rattle.volume.specs.declared.catalog.Catalog.{Catalog}
use Rattle.volume.specs.Catalogs.{IsSound, head_at}
use Rattle.volume.specs.Limits.{BlocksFit, FileFits, SpanFits, data_area}
use Rattle.volume_files.proofs.Places.{Fit, fit_of, fits_at, within_list}
use Rattle.image_appends.specs.declared.side.Side.{Side}
use Rattle.image_appends.specs.declared.side.Side.TheVariants.{After, Before}
use Rattle.image_appends.specs.Images.{HasRoom, is_kept, span_of}

-- A file's journals are the second and the third of its four extents.

abbrev pub place_of : Side → ℕ
place_of After = 1
place_of Before = 2

abbrev pub span_extent : Side → FileHead → Area
span_extent side h = extent (span_of side h).start (span_of side h).blocks

four_on : (f p : ℕ) → 4 * suc f + p ≡ suc (suc (suc (suc (4 * f + p))))
four_on f p = omega arith

pub span_at : (side : Side) (heads : List (Option FileHead)) (f : ℕ) (h : FileHead) → head_at heads f ≡ Some h → slice_index_or (all_extents heads) (4 * f + place_of side) nowhere ≡ span_extent side h
span_at side [] f h there = let no : ⊥ = cc in absurd no
span_at After (None ∷ heads) zero h there = let no : ⊥ = cc in absurd no
span_at Before (None ∷ heads) zero h there = let no : ⊥ = cc in absurd no
span_at After (Some first ∷ heads) zero h there = let same : first ≡ h = cc in ap (span_extent After) same
span_at Before (Some first ∷ heads) zero h there = let same : first ≡ h = cc in ap (span_extent Before) same
span_at side (None ∷ heads) (suc f) h there = ap (λ i. slice_index_or (all_extents (None ∷ heads)) i nowhere) (four_on f (place_of side)) ∙ span_at side heads f h there
span_at side (Some first ∷ heads) (suc f) h there = ap (λ i. slice_index_or (all_extents (Some first ∷ heads)) i nowhere) (four_on f (place_of side)) ∙ span_at side heads f h there

pub place_some : (side : Side) → 1 ≤ place_of side
place_some After = omega arith
place_some Before = omega arith

pub place_few : (side : Side) → place_of side ≤ 3
place_few After = omega arith
place_few Before = omega arith

-- A journal that a file keeps.

span_fits : (side : Side) (greatest : ℕ) (h : FileHead) → FileFits greatest h → SpanFits (is_kept side h) (span_of side h)
span_fits After greatest h fits = fits.ai
span_fits Before greatest h fits = fits.bi

blocks_some : (marked : Bool) (s : Span) → BlocksFit marked s → marked ≡ true → 1 ≤ s.blocks
blocks_some true s fits is = fits
blocks_some false s fits is = let no : ⊥ = cc in absurd no

module _ (name : List ℕ) (v : Catalog) (disk : DiskState) (long : length v.heads ≡ 64) (sound : IsSound name disk.size v) (side : Side) (f : ℕ) (h : FileHead) (there : head_at v.heads f ≡ Some h) (kept : is_kept side h ≡ true) where
  abbrev s : Span
  s = span_of side h

  abbrev area : Area
  area = data_area (sizes_of v.home)

  fits : SpanFits (is_kept side h) s
  fits = span_fits side v.home.greatest_moment.0 h (fits_at name disk.size v f h long sound there)

  some : 1 ≤ s.blocks
  some = blocks_some (is_kept side h) s fits.blocks kept

  inside : (n : ℕ) → covers (span_extent side h) n ≡ true → covers area n ≡ true
  inside =
      let below = within_list v.heads f h there in
      let few = place_few side in
      let behind = sound.extents (4 * f + place_of side) (omega (arith, below, long, few)) in
      subst (λ (e : Area). (n : ℕ) → covers e n ≡ true → covers area n ≡ true) (span_at side v.heads f h there) behind.inside

  pub first_in : (area.start ≤ s.start) × (s.start < area.end)
  first_in = covered area s.start (inside s.start (covering (span_extent side h) s.start (omega arith) (omega (arith, some))))

  last_in : (area.start ≤ s.start + s.blocks - 1) × (s.start + s.blocks - 1 < area.end)
  last_in = covered area (s.start + s.blocks - 1) (inside (s.start + s.blocks - 1) (covering (span_extent side h) (s.start + s.blocks - 1) (omega (arith, some)) (omega (arith, some))))

  ends : area.end ≡ disk.size
  ends = sound.sizes.blocks

  begins : 584 ≤ area.start
  begins = omega arith

  -- it has a ring with room, where its entries and these bytes are no more than the ring has
  pub ring_in : (size : ℕ) → disk.size ≤ 65536 → s.end - s.first + size ≤ ring_size s → HasRoom size s disk
  ring_in size most room = record {
    ring = record {
      from = omega (arith, begins, first_in.0);
      to = omega (arith, some, last_in.1, ends);
      fits = most;
      some = omega (arith, some);
      order = fits.ordered;
      low = let low = fits.most in omega (arith, low);
      room = omega (arith, room);
    };
    behind = omega (arith, begins, first_in.0);
    room = room;
  }
