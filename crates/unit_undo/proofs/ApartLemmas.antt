-- Files of a sound volume lie apart from each other and from its journal.
use Rattle.std.proofs.Common.{◌≡◌, ◌≢◌, ℕ, ◌+◌, ◌-◌, ◌<◌, ◌≤◌, List, [], length, Bool, true, false, Some, slice_set, refl, sym, ap, subst, ◌∙◌, arith, inl, inr}
use Rattle.std.specs.Prelude.{◌||◌, ◌==◌}
use Rattle.std.proofs.lemmas.Bool.Decides.{nat_tests}
use Rattle.std.proofs.lemmas.Bool.{cases_eq, cases_lt}
use Rattle.std.proofs.lemmas.List.{get_or-set_other, get_or-set_same, get_or_past, length-set}
use Rattle.block_disk.specs.Blocks.{block_at}
use Rattle.careful_write.specs.State.{EachWhole}
use Rattle.careful_write.specs.Steps.{AgreesOff}
use Rattle.file_base.specs.declared.head.Span.{Span}
use Rattle.directory_model.specs.file_images.Files.{SameRing}
use Rattle.file_base.specs.declared.head.FileHead.{FileHead}
use Rattle.unit_entries.specs.change_set.Files.{AgreesOn, in_extent}
use Rattle.volume.specs.extents.declared.extent.Extent.{Extent as Area}
use Rattle.volume.specs.declared.catalog.Catalog.{Catalog}
use Rattle.volume.specs.Catalogs.{IsSound, head_at}
use Rattle.volume.specs.Limits.{data_area}
use Rattle.volume.specs.volume_format.Home.{sizes_of}
use Rattle.directory_model.specs.Files.{AgreesOnCarried, AgreesOnFile, Fit}
use Rattle.directory_model.proofs.Apart.{lie_apart, writes_apart}
use Rattle.volume_files.specs.Staging.{is_of_file}
use Rattle.volume_files.proofs.Places.{fit_of, head_below}

-- a content whose directory block of a file is that of another
abbrev with_block : ℕ → List (List ℕ) → List (List ℕ) → List (List ℕ)
with_block f a b = slice_set a (1 + f) (block_at b (1 + f))

module _ (node : List ℕ) (size : ℕ) (v : Catalog) (long : length v.heads ≡ 64) (sound : IsSound node size v) where
  abbrev area : Area
  area = data_area (sizes_of v.home)

  fit : Fit area v.heads
  fit = let is = fit_of node size v long sound in record { heads_long = is.heads_long; behind = is.behind; each = is.each }

  pub in_area : (f n : ℕ) (h : FileHead) → head_at v.heads f ≡ Some h → in_extent h n ≡ true → area.start ≤ n + 518
  in_area f n h there is = (lie_apart.within area v.heads f n h fit there is).0

  -- the blocks of a file and its directory block: the other files keep theirs
  pub others_keep : (f : ℕ) (h : FileHead) (a b : List (List ℕ)) → head_at v.heads f ≡ Some h → AgreesOff (is_of_file f h) a b → (g : ℕ) (other : FileHead) → g ≢ f → head_at v.heads g ≡ Some other → AgreesOn other a b
  others_keep f h a b there off g other unlike at n within_it =
      let away = lie_apart.apart area v.heads g f n other h fit (λ e. unlike (sym e)) at there within_it in
      let behind : (n == 1 + f) ≡ false = (let inside = in_area g n other at within_it in let below = head_below v.heads f h long there in grind (arith, nat_tests)) in
      sym (off.others n (ap (λ (t : Bool). t || (n == 1 + f)) away ∙ behind))

  -- and each file keeps what it carries for its recovery
  pub carried_keep : (f : ℕ) (h : FileHead) (a b : List (List ℕ)) → head_at v.heads f ≡ Some h → AgreesOff (is_of_file f h) a b → EachWhole a → EachWhole b → (g : ℕ) (k : FileHead) → head_at v.heads g ≡ Some k → AgreesOnCarried k a b
  carried_keep f h a b there off whole_a whole_b g k at = carried_after (first.carried) second
    where
      m_other : (n : ℕ) → (n ≡ 1 + f → ⊥) → block_at (with_block f a b) n ≡ block_at a n
      m_other n other = get_or-set_other a (1 + f) n (block_at b (1 + f)) [] other

      m_same : block_at (with_block f a b) (1 + f) ≡ block_at b (1 + f)
      m_same = elim (cases_lt (1 + f) (length a)) [
        | inl within ↦ get_or-set_same a (1 + f) (block_at b (1 + f)) [] within
        | inr past ↦ get_or_past (with_block f a b) (1 + f) [] (let size = length-set a (1 + f) (block_at b (1 + f)) in omega (arith, size, past)) ∙ sym (get_or_past b (1 + f) [] (let size = off.size in omega (arith, size, past)))
      ]

      whole_m : EachWhole (with_block f a b)
      whole_m n below = elim (cases_eq n (1 + f)) [
        | inl here ↦ ap (λ (j : ℕ). length (block_at (with_block f a b) j)) here ∙ ap length m_same ∙ whole_b (1 + f) (let size = length-set a (1 + f) (block_at b (1 + f)) in let same = off.size in omega (arith, below, here, size, same))
        | inr other ↦ ap length (m_other n other) ∙ whole_a n (let size = length-set a (1 + f) (block_at b (1 + f)) in omega (arith, below, size))
      ]

      first : AgreesOnFile k a (with_block f a b)
      first = writes_apart.before area v.heads a (with_block f a b) fit (length-set a (1 + f) (block_at b (1 + f))) whole_m (λ n from. sym (m_other n (λ is. let below = head_below v.heads f h long there in absurd (omega (arith, from, is, below))))) g k at

      rest : AgreesOff (in_extent h) (with_block f a b) b
      rest = record {
        size = off.size ∙ sym (length-set a (1 + f) (block_at b (1 + f)));
        others = λ n out. elim (cases_eq n (1 + f)) [
          | inl here ↦ ap (block_at b) here ∙ sym m_same ∙ sym (ap (block_at (with_block f a b)) here)
          | inr other ↦ off.others n (let behind : (n == 1 + f) ≡ false = grind (arith, nat_tests) in ap (λ (t : Bool). t || (n == 1 + f)) out ∙ behind) ∙ sym (m_other n other)
        ];
      }

      second : AgreesOnCarried k (with_block f a b) b
      second = let apart = writes_apart.in_file area v.heads f h (with_block f a b) b fit there rest whole_b in elim (cases_eq g f) [
        | inl here ↦ let same : h ≡ k = one h k (sym there ∙ ap (head_at v.heads) (sym here) ∙ at) in subst (λ (x : FileHead). AgreesOnCarried x (with_block f a b) b) same apart.1
        | inr other ↦ (apart.0 g k other at).carried
      ]
        where
          one : (x y : FileHead) → Some x ≡ Some y → x ≡ y
          one x y e = cc

      rings : {s : Span} {x y z : List (List ℕ)} → SameRing s x y → SameRing s y z → SameRing s x z
      rings one two = record { size = two.size ∙ one.size; whole = two.whole; blocks = λ n from to. two.blocks n from to ∙ one.blocks n from to }

      carried_after : AgreesOnCarried k a (with_block f a b) → AgreesOnCarried k (with_block f a b) b → AgreesOnCarried k a b
      carried_after one two = record { after = λ c. rings (one.after c) (two.after c); before = λ c. rings (one.before c) (two.before c); save = λ c n in_it. one.save c n in_it ∙ two.save c n in_it }

  -- a block of the journal is none of a file's
  pub journal_off : (f : ℕ) (h : FileHead) → head_at v.heads f ≡ Some h → (n : ℕ) → 65 ≤ n → n < v.ru.start - 518 + v.ru.blocks → is_of_file f h n ≡ false
  journal_off f h there n low high =
      let below = head_below v.heads f h long there in
      let behind : (n == 1 + f) ≡ false = grind (arith, nat_tests) in
      go (in_extent h n) refl behind
    where
      go : (b : Bool) → in_extent h n ≡ b → (n == 1 + f) ≡ false → (b || (n == 1 + f)) ≡ false
      go true is off =
          let inside = in_area f n h there is in
          let start = sound.ru_start in
          let blocks = sound.ru_blocks in
          absurd (omega (arith, inside, start, blocks, high))
      go false out off = off
