-- What a sound volume has of a file lies on its disk.
use Rattle.std.proofs.Common.{◌≡◌, ◌<◌, ◌≤◌, ◌+◌, ◌-◌, ◌*◌, ℕ, zero, suc, Bool, true, false, List, [], ◌∷◌, length, Option, Some, None, nat_le, nat_lt, slice_index_or, refl, ap, subst, ◌∙◌, arith}
use Rattle.block_disk.specs.Disk.{DiskState}
use Rattle.change_set.specs.Files.{IsPlaced}
use Rattle.volume.specs.extents.declared.extent.Extent.{Extent}
use Rattle.volume.specs.extents.Extents.{FitsAt, all_extents, covers, extent, nowhere}
use Rattle.volume.proofs.extents.Used.{covered, covering}
use Rattle.file_base.specs.declared.head.FileHead.{FileHead}
use Rattle.file_base.specs.declared.head.Span.{Span}
use Rattle.journal_model.specs.Ring.{ring_size}
use Rattle.image_entries.specs.journal_store.Rings.{IsRing}
use Rattle.file_recoveries.specs.save_laws.Saves.{save_head}
use Rattle.volume.specs.declared.catalog.Catalog.{Catalog}
use Rattle.volume.specs.Catalogs.{IsSound, head_at}
use Rattle.volume.specs.Limits.{BlocksFit, CopyFits, FileFits, SaveFits, SpanFits, data_area}
use Rattle.volume.specs.volume_format.Home.{sizes_of}
use Rattle.volume_files.proofs.Places.{Fit, fit_of, fits_at, four_more, head_below, placed}
use Rattle.file_recoveries.specs.Rolling.{IsReadable}
use Rattle.recover_rms.specs.Calls.{AreInRings}

-- The extents of a file behind the first.

-- the extents of its journals and of its save
abbrev pub part : ℕ → FileHead → Extent
part zero h = extent h.start (h.alloc * h.bucket)
part (suc zero) h = extent h.ai.start h.ai.blocks
part (suc (suc zero)) h = extent h.bi.start h.bi.blocks
part (suc (suc (suc k))) h = extent h.save.start (h.save.alloc * h.bucket)

first_parts : (k : ℕ) (h : FileHead) (heads : List (Option FileHead)) → k < 4 → slice_index_or (all_extents (Some h ∷ heads)) k nowhere ≡ part k h
first_parts zero h heads low = refl
first_parts (suc zero) h heads low = refl
first_parts (suc (suc zero)) h heads low = refl
first_parts (suc (suc (suc zero))) h heads low = refl
first_parts (suc (suc (suc (suc k)))) h heads low = let no : ⊥ = omega (arith, low) in absurd no

four_behind : (o : Option FileHead) (heads : List (Option FileHead)) (i : ℕ) → slice_index_or (all_extents (o ∷ heads)) (suc (suc (suc (suc i)))) nowhere ≡ slice_index_or (all_extents heads) i nowhere
four_behind None heads i = refl
four_behind (Some h) heads i = refl

four_on : (f k : ℕ) → 4 * suc f + k ≡ suc (suc (suc (suc (4 * f + k))))
four_on f k = omega arith

pub part_at : (heads : List (Option FileHead)) (f k : ℕ) (h : FileHead) → k < 4 → head_at heads f ≡ Some h → slice_index_or (all_extents heads) (4 * f + k) nowhere ≡ part k h
part_at [] f k h low there = let no : ⊥ = cc in absurd no
part_at (None ∷ heads) zero k h low there = let no : ⊥ = cc in absurd no
part_at (Some first ∷ heads) zero k h low there = let same : first ≡ h = cc in ap (λ (i : ℕ). slice_index_or (all_extents (Some first ∷ heads)) i nowhere) (nothing k) ∙ first_parts k first heads low ∙ ap (part k) same
  where
    nothing : (k : ℕ) → 4 * 0 + k ≡ k
    nothing k = omega arith
part_at (o ∷ heads) (suc f) k h low there = ap (λ (i : ℕ). slice_index_or (all_extents (o ∷ heads)) i nowhere) (four_on f k) ∙ four_behind o heads (4 * f + k) ∙ part_at heads f k h low there

-- an extent with a block lies in the area
lies_in : (area : Extent) (start blocks : ℕ) → 1 ≤ blocks → ((n : ℕ) → covers (extent start blocks) n ≡ true → covers area n ≡ true) → (area.start ≤ start) × (start + blocks ≤ area.end)
lies_in area start blocks some inside =
    let first = covered area start (inside start (covering (extent start blocks) start (omega arith) (omega (arith, some)))) in
    let last = covered area (start + blocks - 1) (inside (start + blocks - 1) (covering (extent start blocks) (start + blocks - 1) (omega (arith, some)) (omega (arith, some)))) in
    (first.0, omega (arith, last.1, some))

module _ (name : List ℕ) (v : Catalog) (f : ℕ) (h : FileHead) (disk : DiskState) (long : length v.heads ≡ 64) (sound : IsSound name disk.size v) (most : disk.size ≤ 65536) (there : head_at v.heads f ≡ Some h) where
  fits : FileFits v.home.greatest_moment.0 h
  fits = fits_at name disk.size v f h long sound there

  inside : (k : ℕ) → k < 4 → (n : ℕ) → covers (part k h) n ≡ true → covers (data_area (sizes_of v.home)) n ≡ true
  inside k low =
      let below = head_below v.heads f h long there in
      subst (λ (e : Extent). (n : ℕ) → covers e n ≡ true → covers (data_area (sizes_of v.home)) n ≡ true) (part_at v.heads f k h low there) (sound.extents (4 * f + k) (omega (arith, below, low))).inside

  ring_lies : (k : ℕ) (s : Span) → k < 4 → part k h ≡ extent s.start s.blocks → SpanFits true s → s.end - s.first ≤ ring_size s → IsRing s disk
  ring_lies k s low is span room =
      let at = lies_in (data_area (sizes_of v.home)) s.start s.blocks span.blocks (subst (λ (e : Extent). (n : ℕ) → covers e n ≡ true → covers (data_area (sizes_of v.home)) n ≡ true) is (inside k low)) in
      let size = sound.sizes.blocks in
      record { from = omega (arith, at.0); to = omega (arith, at.1, size); fits = most; some = span.blocks; order = span.ordered; low = span.most; room = room }

  some_more : (a b : ℕ) → 1 ≤ a → 1 ≤ b → 1 ≤ a * b
  some_more zero b p q = let no_way : ⊥ = omega (arith, p) in absurd no_way
  some_more (suc a) zero p q = let no_way : ⊥ = omega (arith, q) in absurd no_way
  some_more (suc a) (suc b) p q = omega arith

  save_lies : CopyFits v.home.greatest_moment.0 h → IsPlaced (save_head h) disk
  save_lies copy =
      let least = copy.buckets.least in
      let few = copy.buckets.most in
      let at = lies_in (data_area (sizes_of v.home)) h.save.start (h.save.alloc * h.bucket) (some_more h.save.alloc h.bucket (omega (arith, least, few)) fits.bucket.least_blocks) (inside 3 (omega arith)) in
      let size = sound.sizes.blocks in
      record {
        from = omega (arith, at.0);
        to = omega (arith, at.1, size);
        fits = most;
        blocks = fits.bucket.most_blocks;
        one = fits.bucket.least_blocks;
        least = fits.bucket.least_record;
        records = fits.bucket.record_fits;
        greatest = fits.bucket.most_record;
      }

  pub readable : AreInRings h → IsReadable h disk
  readable rings = record {
    buckets = placed name v f h disk long sound most there;
    save = λ kept. save_lies (subst (λ (b : Bool). SaveFits b v.home.greatest_moment.0 h) kept fits.save);
    ai = λ marked. ring_lies 1 h.ai (omega arith) refl (subst (λ (b : Bool). SpanFits b h.ai) marked fits.ai) (rings.after marked);
    bi = λ marked. ring_lies 2 h.bi (omega arith) refl (subst (λ (b : Bool). SpanFits b h.bi) marked fits.bi) (rings.before marked);
  }
