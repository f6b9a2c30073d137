-- Files whose extents fit lie apart.
use Rattle.std.proofs.Common.{◌≡◌, ◌≢◌, ℕ, zero, suc, ◌+◌, ◌-◌, ◌*◌, ◌<◌, ◌≤◌, List, [], ◌∷◌, length, take, Bool, true, false, Option, Some, None, nat_le, nat_lt, slice_index_or, refl, sym, ap, subst, ◌∙◌, arith, inl, inr, ◌⊎◌}
use Rattle.std.specs.Prelude.{◌&&◌}
use Rattle.std.proofs.lemmas.Bool.{cases_lt}
use Rattle.std.proofs.lemmas.Bool.Decides.{nat_tests}
use Rattle.std.proofs.lemmas.List.{get_or-take, length-take}
use Rattle.block_disk.specs.Blocks.{block_at}
use Rattle.file_images.specs.careful_write.State.{EachWhole}
use Rattle.file_images.specs.careful_write.Steps.{AgreesOff}
use Rattle.extents.specs.file_base.declared.head.FileHead.{FileHead}
use Rattle.extents.specs.file_base.declared.head.Span.{Span}
use Rattle.file_images.specs.change_set.Files.{AgreesOn, in_extent}
use Rattle.file_images.specs.Files.{SameRing}
use Rattle.file_images.specs.journal_model.Ring.{KeepsOthers}
use Rattle.file_images.specs.save_laws.Saves.{save_head}
use Rattle.extents.specs.declared.extent.Extent.{Extent as Area}
use Rattle.extents.specs.Extents.{IsFreeRun, all_extents, covers, extent, extents_of, is_used, nowhere}
use Rattle.extents.proofs.Used.{covered, covering, free_is, used_at, not_both}
use Rattle.directory_model.specs.Files.{AgreesOnCarried, AgreesOnFile, Fit, head_at}
use Rattle.directory_model.specs.Laws.{LieApart, SameBut, WritesApart, in_blocks}
use Rattle.directory_model.proofs.Places.{within_list}

-- the blocks of a file's buckets
abbrev pub own : FileHead → Area
own h = extent h.start (h.alloc * h.bucket)

-- the extents of a file are four of all
pub extent_at : (heads : List (Option FileHead)) (f k : ℕ) (h : FileHead) → head_at heads f ≡ Some h → k < 4 → slice_index_or (all_extents heads) (4 * f + k) nowhere ≡ slice_index_or (extents_of (Some h)) k nowhere
extent_at [] f k h there less = let no : ⊥ = cc in absurd no
extent_at (None ∷ heads) zero k h there less = let no : ⊥ = cc in absurd no
extent_at (Some first ∷ heads) zero k h there less = let same : first ≡ h = cc in at k less ∙ ap (λ (x : FileHead). slice_index_or (extents_of (Some x)) k nowhere) same
  where
    at : (k : ℕ) → k < 4 → slice_index_or (all_extents (Some first ∷ heads)) (4 * zero + k) nowhere ≡ slice_index_or (extents_of (Some first)) k nowhere
    at zero less = refl
    at (suc zero) less = refl
    at (suc (suc zero)) less = refl
    at (suc (suc (suc zero))) less = refl
    at (suc (suc (suc (suc k)))) less = absurd (omega arith)
extent_at (None ∷ heads) (suc f) k h there less = ap (λ i. slice_index_or (all_extents (None ∷ heads)) i nowhere) (let e : 4 * suc f + k ≡ suc (suc (suc (suc (4 * f + k)))) = omega arith in e) ∙ extent_at heads f k h there less
extent_at (Some first ∷ heads) (suc f) k h there less = ap (λ i. slice_index_or (all_extents (Some first ∷ heads)) i nowhere) (let e : 4 * suc f + k ≡ suc (suc (suc (suc (4 * f + k)))) = omega arith in e) ∙ extent_at heads f k h there less

-- its buckets are the first
pub own_at : (heads : List (Option FileHead)) (f : ℕ) (h : FileHead) → head_at heads f ≡ Some h → slice_index_or (all_extents heads) (4 * f) nowhere ≡ own h
own_at heads f h there = ap (λ i. slice_index_or (all_extents heads) i nowhere) (let e : 4 * f ≡ 4 * f + 0 = omega arith in e) ∙ extent_at heads f 0 h there (omega arith)

pub four_each : (heads : List (Option FileHead)) → length (all_extents heads) ≡ 4 * length heads
four_each [] = refl
four_each (None ∷ heads) = let rest = four_each heads in omega arith
four_each (Some h ∷ heads) = let rest = four_each heads in omega arith

pub extent_holds : (from size n : ℕ) → (nat_le from n && nat_lt n (from + size)) ≡ true → (from ≤ n) × (n < from + size)
extent_holds from size n is = (grind (arith, nat_tests), grind (arith, nat_tests))

pub holds_extent : (from size n : ℕ) → from ≤ n → n < from + size → (nat_le from n && nat_lt n (from + size)) ≡ true
holds_extent from size n least most = grind (arith, nat_tests)

outside_extent : (from size n : ℕ) → (nat_le from n && nat_lt n (from + size)) ≡ false → (n < from) ⊎ (from + size ≤ n)
outside_extent from size n is = elim (cases_lt n from) [
  | inl less ↦ inl less
  | inr more ↦ elim (cases_lt n (from + size)) [
    | inl within ↦ let both : true ≡ false = sym (holds_extent from size n more within) ∙ is in let no : ⊥ = cc in absurd no
    | inr behind ↦ inr behind
  ]
]

-- only blocks of a ring differ
pub off_ring : (s : Span) (a b : List (List ℕ)) → KeepsOthers s a b → AgreesOff (in_blocks s.start s.blocks) a b
off_ring s a b keeps = record { size = keeps.size; others = λ n out. keeps.others n (outside_extent (s.start - 518) s.blocks n out) }

module _ (area : Area) (heads : List (Option FileHead)) (fit : Fit area heads) where
  abbrev at : ℕ → Area
  at i = slice_index_or (all_extents heads) i nowhere

  pub long : length (all_extents heads) ≡ 256
  long = let all = four_each heads in let count = fit.heads_long in omega arith

  -- of two extents, no block is one of both
  pub pair : (i j n : ℕ) → j < i → i < 256 → covers (at i) n ≡ true → covers (at j) n ≡ true → ⊥
  pair i j n below within has has_too =
      let count = long in
      let front : length (take i (all_extents heads)) ≡ i = omega (arith, length-take i (all_extents heads), count) in
      let same : slice_index_or (take i (all_extents heads)) j nowhere ≡ at j = get_or-take i (all_extents heads) j nowhere below in
      not_both (is_used (take i (all_extents heads)) n) (used_at (take i (all_extents heads)) j n nowhere (omega (arith, front)) (ap (λ e. covers e n) same ∙ has_too)) ((fit.each i within).apart n has)

  never_both : (i j n : ℕ) → i ≢ j → i < 256 → j < 256 → covers (at i) n ≡ true → covers (at j) n ≡ true → ⊥
  never_both i j n differs first second has has_too = elim (cases_lt j i) [
    | inl below ↦ pair i j n below first has has_too
    | inr above ↦ pair j i n (omega arith) second has_too has
  ]

  -- a block of the content, as one of the disk, where its extent is one of all
  pub on_disk : (i start blocks n : ℕ) → i < 256 → at i ≡ extent start blocks → in_blocks start blocks n ≡ true → covers (at i) (n + 518) ≡ true
  on_disk i start blocks n within is in_it =
      let lies = extent_holds (start - 518) blocks n in_it in
      let inside = subst (λ e. (n : ℕ) → covers e n ≡ true → covers area n ≡ true) is (fit.each i within).inside in
      let first = covered area start (inside start (covering (extent start blocks) start (omega arith) (omega (arith, lies)))) in
      let far = fit.behind in
      ap (λ e. covers e (n + 518)) is ∙ covering (extent start blocks) (n + 518) (omega (arith, lies, first)) (omega (arith, lies, first))

  pub in_area : (i start blocks n : ℕ) → i < 256 → at i ≡ extent start blocks → in_blocks start blocks n ≡ true → (area.start ≤ n + 518) × (n + 518 < area.end)
  in_area i start blocks n within is in_it = covered area (n + 518) ((fit.each i within).inside (n + 518) (on_disk i start blocks n within is in_it))

  apart_at : (i j s t u v n : ℕ) → i ≢ j → i < 256 → j < 256 → at i ≡ extent s t → at j ≡ extent u v → in_blocks u v n ≡ true → in_blocks s t n ≡ false
  apart_at i j s t u v n differs first second is is_too in_it = go (in_blocks s t n) refl
    where
      go : (b : Bool) → in_blocks s t n ≡ b → in_blocks s t n ≡ false
      go true has = absurd (never_both i j (n + 518) differs first second (on_disk i s t n first is has) (on_disk j u v n second is_too in_it))
      go false has = has

  pub number_low : (f : ℕ) (h : FileHead) → head_at heads f ≡ Some h → f < 64
  number_low f h there = let below = within_list heads f h there in let count = fit.heads_long in omega arith

  -- What stands where all blocks but those of some are the same.
  module _ (a b : List (List ℕ)) (size : length b ≡ length a) (whole : EachWhole b) where
    ring_stands : (s : Span) → ((n : ℕ) → in_blocks s.start s.blocks n ≡ true → block_at b n ≡ block_at a n) → SameRing s a b
    ring_stands s same = record { size = size; whole = whole; blocks = λ k from to. same k (holds_extent (s.start - 518) s.blocks k from to) }

    -- so of a file, each of whose extents stands
    pub file_stands_in : (g : ℕ) (k : FileHead) → head_at heads g ≡ Some k → ((l u v n : ℕ) → l < 4 → at (4 * g + l) ≡ extent u v → in_blocks u v n ≡ true → block_at b n ≡ block_at a n) → AgreesOnFile k a b
    file_stands_in g k there same = record {
      own = λ n in_it. sym (same 0 k.start (k.alloc * k.bucket) n (omega arith) (extent_at heads g 0 k there (omega arith)) in_it);
      carried = record {
        after = λ m. ring_stands k.ai (λ n. same 1 k.ai.start k.ai.blocks n (omega arith) (extent_at heads g 1 k there (omega arith)));
        before = λ m. ring_stands k.bi (λ n. same 2 k.bi.start k.bi.blocks n (omega arith) (extent_at heads g 2 k there (omega arith)));
        save = λ m n in_it. sym (same 3 k.save.start (k.save.alloc * k.bucket) n (omega arith) (extent_at heads g 3 k there (omega arith)) in_it);
      };
    }

    -- only blocks of one extent of a file differ
    module _ (f k s t : ℕ) (h : FileHead) (there : head_at heads f ≡ Some h) (less : k < 4) (is : at (4 * f + k) ≡ extent s t) (off : (n : ℕ) → in_blocks s t n ≡ false → block_at b n ≡ block_at a n) where
      stays_at : (g l u v n : ℕ) (other : FileHead) → head_at heads g ≡ Some other → l < 4 → 4 * f + k ≢ 4 * g + l → at (4 * g + l) ≡ extent u v → in_blocks u v n ≡ true → block_at b n ≡ block_at a n
      stays_at g l u v n other there_too low differs is_too in_it =
          let first = number_low f h there in
          let second = number_low g other there_too in
          off n (apart_at (4 * f + k) (4 * g + l) s t u v n differs (omega arith) (omega arith) is is_too in_it)

      others_stand : SameBut f heads a b
      others_stand g other differs there_too = file_stands_in g other there_too (λ l u v n low is_too. stays_at g l u v n other there_too low (λ e. differs (omega arith)) is_too)

      own_stands : (l u v : ℕ) → l < 4 → k ≢ l → at (4 * f + l) ≡ extent u v → (n : ℕ) → in_blocks u v n ≡ true → block_at b n ≡ block_at a n
      own_stands l u v low differs is_too n = stays_at f l u v n h there low (λ e. differs (omega arith)) is_too

    -- only blocks of a free run differ
    free_stands : (start blocks : ℕ) → IsFreeRun area (all_extents heads) start blocks → ((n : ℕ) → in_blocks start blocks n ≡ false → block_at b n ≡ block_at a n) → (g : ℕ) (other : FileHead) → head_at heads g ≡ Some other → AgreesOnFile other a b
    free_stands start blocks run off g other there = file_stands_in g other there (λ l u v n low is in_it. off n (in_run_not l u v n low is in_it))
      where
        unused : (n : ℕ) → in_blocks start blocks n ≡ true → is_used (all_extents heads) (n + 518) ≡ false
        unused n in_it =
            let lies = extent_holds (start - 518) blocks n in_it in
            let first = covered area start (free_is area (all_extents heads) start run.first).0 in
            let far = fit.behind in
            (free_is area (all_extents heads) (n + 518) (run.all (n + 518) (omega (arith, lies, first)) (omega (arith, lies, first)))).1

        in_run_not : (l u v n : ℕ) → l < 4 → at (4 * g + l) ≡ extent u v → in_blocks u v n ≡ true → in_blocks start blocks n ≡ false
        in_run_not l u v n low is in_it = go (in_blocks start blocks n) refl
          where
            go : (x : Bool) → in_blocks start blocks n ≡ x → in_blocks start blocks n ≡ false
            go true has =
                let number = number_low g other there in
                let count = long in
                absurd (not_both (is_used (all_extents heads) (n + 518)) (used_at (all_extents heads) (4 * g + l) (n + 518) nowhere (omega arith) (on_disk (4 * g + l) u v n (omega arith) is in_it)) (unused n has))
            go false has = has

    -- blocks of the area are the same
    before_stands : ((n : ℕ) → area.start ≤ n + 518 → block_at a n ≡ block_at b n) → (g : ℕ) (other : FileHead) → head_at heads g ≡ Some other → AgreesOnFile other a b
    before_stands same g other there = file_stands_in g other there (λ l u v n low is in_it. let number = number_low g other there in sym (same n (in_area (4 * g + l) u v n (omega arith) is in_it).0))

  -- The extents of a file.

  pub own_is : (f : ℕ) (h : FileHead) → head_at heads f ≡ Some h → at (4 * f + 0) ≡ extent h.start (h.alloc * h.bucket)
  own_is f h there = extent_at heads f 0 h there (omega arith)

  pub after_is : (f : ℕ) (h : FileHead) → head_at heads f ≡ Some h → at (4 * f + 1) ≡ extent h.ai.start h.ai.blocks
  after_is f h there = extent_at heads f 1 h there (omega arith)

  pub before_is : (f : ℕ) (h : FileHead) → head_at heads f ≡ Some h → at (4 * f + 2) ≡ extent h.bi.start h.bi.blocks
  before_is f h there = extent_at heads f 2 h there (omega arith)

  pub save_is : (f : ℕ) (h : FileHead) → head_at heads f ≡ Some h → at (4 * f + 3) ≡ extent h.save.start (h.save.alloc * h.bucket)
  save_is f h there = extent_at heads f 3 h there (omega arith)

  in_file : (f : ℕ) (h : FileHead) (a b : List (List ℕ)) → head_at heads f ≡ Some h → AgreesOff (in_extent h) a b → EachWhole b → SameBut f heads a b × AgreesOnCarried h a b
  in_file f h a b there agrees whole =
      let stays = own_stands a b agrees.size whole f 0 h.start (h.alloc * h.bucket) h there (omega arith) (own_is f h there) agrees.others in (
        others_stand a b agrees.size whole f 0 h.start (h.alloc * h.bucket) h there (omega arith) (own_is f h there) agrees.others,
        record {
          after = λ m. ring_stands a b agrees.size whole h.ai (stays 1 h.ai.start h.ai.blocks (omega arith) (λ e. omega arith) (after_is f h there));
          before = λ m. ring_stands a b agrees.size whole h.bi (stays 2 h.bi.start h.bi.blocks (omega arith) (λ e. omega arith) (before_is f h there));
          save = λ m n in_it. sym (stays 3 h.save.start (h.save.alloc * h.bucket) (omega arith) (λ e. omega arith) (save_is f h there) n in_it);
        },
      )

  in_after : (f : ℕ) (h : FileHead) (a b : List (List ℕ)) → head_at heads f ≡ Some h → AgreesOff (in_blocks h.ai.start h.ai.blocks) a b → EachWhole b → SameBut f heads a b × AgreesOn h a b × SameRing h.bi a b × AgreesOn (save_head h) a b
  in_after f h a b there agrees whole =
      let stays = own_stands a b agrees.size whole f 1 h.ai.start h.ai.blocks h there (omega arith) (after_is f h there) agrees.others in (
        others_stand a b agrees.size whole f 1 h.ai.start h.ai.blocks h there (omega arith) (after_is f h there) agrees.others,
        λ n in_it. sym (stays 0 h.start (h.alloc * h.bucket) (omega arith) (λ e. omega arith) (own_is f h there) n in_it),
        ring_stands a b agrees.size whole h.bi (stays 2 h.bi.start h.bi.blocks (omega arith) (λ e. omega arith) (before_is f h there)),
        λ n in_it. sym (stays 3 h.save.start (h.save.alloc * h.bucket) (omega arith) (λ e. omega arith) (save_is f h there) n in_it),
      )

  in_before : (f : ℕ) (h : FileHead) (a b : List (List ℕ)) → head_at heads f ≡ Some h → AgreesOff (in_blocks h.bi.start h.bi.blocks) a b → EachWhole b → SameBut f heads a b × AgreesOn h a b × SameRing h.ai a b × AgreesOn (save_head h) a b
  in_before f h a b there agrees whole =
      let stays = own_stands a b agrees.size whole f 2 h.bi.start h.bi.blocks h there (omega arith) (before_is f h there) agrees.others in (
        others_stand a b agrees.size whole f 2 h.bi.start h.bi.blocks h there (omega arith) (before_is f h there) agrees.others,
        λ n in_it. sym (stays 0 h.start (h.alloc * h.bucket) (omega arith) (λ e. omega arith) (own_is f h there) n in_it),
        ring_stands a b agrees.size whole h.ai (stays 1 h.ai.start h.ai.blocks (omega arith) (λ e. omega arith) (after_is f h there)),
        λ n in_it. sym (stays 3 h.save.start (h.save.alloc * h.bucket) (omega arith) (λ e. omega arith) (save_is f h there) n in_it),
      )

  in_save : (f : ℕ) (h : FileHead) (a b : List (List ℕ)) → head_at heads f ≡ Some h → AgreesOff (in_extent (save_head h)) a b → EachWhole b → SameBut f heads a b × AgreesOn h a b × SameRing h.ai a b × SameRing h.bi a b
  in_save f h a b there agrees whole =
      let stays = own_stands a b agrees.size whole f 3 h.save.start (h.save.alloc * h.bucket) h there (omega arith) (save_is f h there) agrees.others in (
        others_stand a b agrees.size whole f 3 h.save.start (h.save.alloc * h.bucket) h there (omega arith) (save_is f h there) agrees.others,
        λ n in_it. sym (stays 0 h.start (h.alloc * h.bucket) (omega arith) (λ e. omega arith) (own_is f h there) n in_it),
        ring_stands a b agrees.size whole h.ai (stays 1 h.ai.start h.ai.blocks (omega arith) (λ e. omega arith) (after_is f h there)),
        ring_stands a b agrees.size whole h.bi (stays 2 h.bi.start h.bi.blocks (omega arith) (λ e. omega arith) (before_is f h there)),
      )

  -- Files and their buckets.

  within : (f n : ℕ) (h : FileHead) → head_at heads f ≡ Some h → in_extent h n ≡ true → (area.start ≤ n + 518) × (n + 518 < area.end)
  within f n h there in_it = let number = number_low f h there in in_area (4 * f + 0) h.start (h.alloc * h.bucket) n (omega arith) (own_is f h there) in_it

  apart : (f g n : ℕ) (h other : FileHead) → g ≢ f → head_at heads f ≡ Some h → head_at heads g ≡ Some other → in_extent h n ≡ true → in_extent other n ≡ false
  apart f g n h other differs there there_too in_it =
      let first = number_low f h there in
      let second = number_low g other there_too in
      apart_at (4 * g + 0) (4 * f + 0) other.start (other.alloc * other.bucket) h.start (h.alloc * h.bucket) n (λ e. differs (omega arith)) (omega arith) (omega arith) (own_is g other there_too) (own_is f h there) in_it

  -- nor a block of a free run
  in_run : (n : ℕ) (h : FileHead) → IsFreeRun area (all_extents heads) h.start (h.alloc * h.bucket) → in_extent h n ≡ true → is_used (all_extents heads) (n + 518) ≡ false
  in_run n h run in_it =
      let lies = extent_holds (h.start - 518) (h.alloc * h.bucket) n in_it in
      let first = covered area h.start (free_is area (all_extents heads) h.start run.first).0 in
      let far = fit.behind in
      (free_is area (all_extents heads) (n + 518) (run.all (n + 518) (omega (arith, lies, first)) (omega (arith, lies, first)))).1

  free : (g n : ℕ) (h other : FileHead) → IsFreeRun area (all_extents heads) h.start (h.alloc * h.bucket) → head_at heads g ≡ Some other → in_extent h n ≡ true → in_extent other n ≡ false
  free g n h other run there in_it = go (in_extent other n) refl
    where
      never : in_extent other n ≡ true → ⊥
      never in_too =
          let number = number_low g other there in
          let count = long in
          not_both (is_used (all_extents heads) (n + 518))
          (used_at (all_extents heads) (4 * g + 0) (n + 518) nowhere (omega arith) (on_disk (4 * g + 0) other.start (other.alloc * other.bucket) n (omega arith) (own_is g other there) in_too))
          (in_run n h run in_it)

      go : (b : Bool) → in_extent other n ≡ b → in_extent other n ≡ false
      go true is = absurd (never is)
      go false is = is

  own_within : (f : ℕ) (h : FileHead) → head_at heads f ≡ Some h → (n : ℕ) → covers (own h) n ≡ true → covers area n ≡ true
  own_within f h there =
      let number = number_low f h there in
      let fits = fit.each (4 * f) (omega arith) in
      subst (λ e. (n : ℕ) → covers e n ≡ true → covers area n ≡ true) (own_at heads f h there) fits.inside

  lies : (f : ℕ) (h : FileHead) → head_at heads f ≡ Some h → 1 ≤ h.alloc * h.bucket → (area.start ≤ h.start) × (h.start + h.alloc * h.bucket ≤ area.end)
  lies f h there some = whole (h.alloc * h.bucket) refl some
    where
      whole : (size : ℕ) → h.alloc * h.bucket ≡ size → 1 ≤ size → (area.start ≤ h.start) × (h.start + size ≤ area.end)
      whole zero is one = absurd (omega arith)
      whole (suc last) is one =
          let first = covered area h.start (own_within f h there h.start (covering (own h) h.start (omega arith) (omega arith))) in
          let end = covered area (h.start + last) (own_within f h there (h.start + last) (covering (own h) (h.start + last) (omega arith) (omega arith))) in
          (first.0, (let e = end.1 in omega arith))

-- a free run lies in the area
run_lies : (area : Area) (heads : List (Option FileHead)) (start blocks : ℕ) → IsFreeRun area (all_extents heads) start blocks → 1 ≤ blocks → (area.start ≤ start) × (start + blocks ≤ area.end)
run_lies area heads start zero run one = absurd (omega arith)
run_lies area heads start (suc last) run one =
    let first = covered area start (free_is area (all_extents heads) start run.first).0 in
    let end = covered area (start + last) (free_is area (all_extents heads) (start + last) (run.all (start + last) (omega arith) (omega arith))).0 in
    (first.0, (let e = end.1 in omega arith))

pub lie_apart : LieApart
lie_apart = record {
  lies = λ area heads f h fit. lies area heads fit f h;
  run_lies = run_lies;
  within = λ area heads f n h fit. within area heads fit f n h;
  apart = λ area heads f g n h other fit. apart area heads fit f g n h other;
  free = λ area heads g n h other fit. free area heads fit g n h other;
}

pub writes_apart : WritesApart
writes_apart = record {
  in_file = λ area heads f h a b fit. in_file area heads fit f h a b;
  in_after = λ area heads f h a b fit. in_after area heads fit f h a b;
  in_before = λ area heads f h a b fit. in_before area heads fit f h a b;
  in_save = λ area heads f h a b fit. in_save area heads fit f h a b;
  in_free = λ area heads start blocks a b fit run agrees whole. free_stands area heads fit a b agrees.size whole start blocks run agrees.others;
  before = λ area heads a b fit size whole. before_stands area heads fit a b size whole;
}
