-- The content of an image, by what stands in its parts.
use Rattle.std.proofs.Common.{◌≡◌, ℕ, zero, suc, ◌<◌, ◌≤◌, ◌+◌, ◌/◌, ◌%◌, ◌==◌, ◌&&◌, ◌||◌, not, Bool, true, false, List, [], ◌∷◌, length, get_or, set, drop, Option, Some, None, option_map, IfSome, unwrap_or, if◌then◌else◌, refl, sym, ◌∙◌, ap, subst, arith, length-drop, length-set, get_or-set_same, get_or-set_other}
use Rattle.std.proofs.lemmas.List.{get_or-drop, ext_get_or, drop-set-lt}
use Rattle.std.proofs.lemmas.Bool.Decides.{nat_tests}
use Rattle.block_disk.specs.Blocks.{block_at, found, laid_from, numbers_of, has_number, ascends, length-laid_from}
use Rattle.block_disk.proofs.Laid.{block_at-laid_from, laid_absent, none_has_not}
use Rattle.block_disk.proofs.Torn.{no_number}
use Rattle.block_disk.specs.Disk.{DiskState}
use Rattle.careful_write.specs.Content.{home, index_word, word_of, intents_from, intents, fits, all_below, gate_open, content_of}
use Rattle.careful_write.specs.Load.{fitting}
use Rattle.careful_write.specs.State.{IsIdle, IsReady, StoreState}
use Rattle.careful_write.specs.Steps.{AgreesOff}

abbrev Entry : Type 0
Entry = ℕ × List ℕ

pub closed_content : (image : List (List ℕ)) → gate_open image ≡ false → content_of image ≡ home image
closed_content image closed = ap (λ (g : Bool). if g && fits (length image) (intents image) then laid_from 518 (intents image) (home image) else home image) closed

pub open_content : (image : List (List ℕ)) (es : List Entry) → gate_open image ≡ true → intents image ≡ es → fits (length image) es ≡ true → content_of image ≡ laid_from 518 es (home image)
open_content image es opened is fit =
    ap (λ (g : Bool). if g && fits (length image) (intents image) then laid_from 518 (intents image) (home image) else home image) opened
    ∙ ap (λ (f : Bool). if f then laid_from 518 (intents image) (home image) else home image) (ap (fits (length image)) is ∙ fit)
    ∙ ap (λ (l : List Entry). laid_from 518 l (home image)) is

-- a closed gate is in order
pub closed_fits : (image : List (List ℕ)) → gate_open image ≡ false → fitting image ≡ true
closed_fits image closed = ap (λ (g : Bool). not g || fits (length image) (intents image)) closed

-- so is an open one before a group that fits
pub open_fits : (image : List (List ℕ)) (es : List Entry) → intents image ≡ es → fits (length image) es ≡ true → fitting image ≡ true
open_fits image es is fit = ap (λ (f : Bool). not (gate_open image) || f) (ap (fits (length image)) is ∙ fit) ∙ either (gate_open image)
  where
    either : (g : Bool) → (not g || true) ≡ true
    either true = refl
    either false = refl

module _ (p : ℕ → Bool) (b image : List (List ℕ)) (agrees : AgreesOff p b image) where
  pub gate_agrees : p 0 ≡ false → gate_open image ≡ gate_open b
  gate_agrees off = ap (λ (bytes : List ℕ). get_or bytes 0 0 == 1) (agrees.others 0 off)

  pub home_agrees : ((n : ℕ) → 518 ≤ n → p n ≡ false) → home image ≡ home b
  home_agrees off = ext_get_or [] (home image) (home b) (omega (arith, length-drop 518 image, length-drop 518 b, agrees.size))
      (λ i within. get_or-drop 518 image i [] ∙ agrees.others (518 + i) (off (518 + i) (omega arith)) ∙ sym (get_or-drop 518 b i []))

  word_agrees : ((n : ℕ) → 1 ≤ n → n ≤ 517 → p n ≡ false) → (k : ℕ) → k ≤ 512 → index_word image k ≡ index_word b k
  word_agrees off k few = ap (λ (bytes : List ℕ). word_of bytes (k % 128)) (agrees.others (1 + k / 128) (off (1 + k / 128) (omega arith) (omega arith)))

  intents_from_agree : ((n : ℕ) → 1 ≤ n → n ≤ 517 → p n ≡ false) → (i n : ℕ) → i + n ≤ 512 → intents_from image i n ≡ intents_from b i n
  intents_from_agree off i zero few = refl
  intents_from_agree off i (suc n) few =
      let number = word_agrees off (i + 1) (omega arith) in
      let bytes = agrees.others (6 + i) (off (6 + i) (omega arith) (omega arith)) in
      let rest = intents_from_agree off (i + 1) n (omega arith) in
      λ j. (number j, bytes j) ∷ rest j

  pub intents_agree : ((n : ℕ) → 1 ≤ n → n ≤ 517 → p n ≡ false) → index_word b 0 ≤ 512 → intents image ≡ intents b
  intents_agree off few = ap (intents_from image 0) (word_agrees off 0 (omega arith)) ∙ intents_from_agree off 0 (index_word b 0) (omega arith)

pub length-intents_from : (image : List (List ℕ)) (i n : ℕ) → length (intents_from image i n) ≡ n
length-intents_from image i zero = refl
length-intents_from image i (suc n) = ap suc (length-intents_from image (i + 1) n)

-- blocks that differ where others are laid over
pub laid_agrees : (es : List Entry) (b image : List (List ℕ)) → AgreesOff (λ n. has_number n (numbers_of es)) b image → laid_from 518 es (home image) ≡ laid_from 518 es (home b)
laid_agrees es b image agrees =
    let long : length (home image) ≡ length (home b) = omega (arith, length-drop 518 image, length-drop 518 b, agrees.size) in
    ext_get_or [] _ _ (length-laid_from 518 es (home image) ∙ long ∙ sym (length-laid_from 518 es (home b)))
    (λ i within.
    let in_image : i < length (home image) = omega (arith, length-laid_from 518 es (home image), within) in
    block_at-laid_from 518 i (518 + i) es (home image) refl in_image ∙ cases i (found (518 + i) es) refl ∙ sym (block_at-laid_from 518 i (518 + i) es (home b) refl (omega arith)))
  where
    cases : (i : ℕ) (o : Option (List ℕ)) → found (518 + i) es ≡ o → unwrap_or (found (518 + i) es) (block_at (home image) i) ≡ unwrap_or (found (518 + i) es) (block_at (home b) i)
    cases i (Some c) is = ap (λ f. unwrap_or f (block_at (home image) i)) is ∙ sym (ap (λ f. unwrap_or f (block_at (home b) i)) is)
    cases i None is = ap (unwrap_or (found (518 + i) es)) (get_or-drop 518 image i [] ∙ agrees.others (518 + i) (none_has_not (518 + i) es is) ∙ sym (get_or-drop 518 b i []))

unwrap_twice : (o : Option (List ℕ)) (d : List ℕ) → unwrap_or o (unwrap_or o d) ≡ unwrap_or o d
unwrap_twice None d = refl
unwrap_twice (Some c) d = refl

pub laid_twice : (k : ℕ) (es : List Entry) (bs : List (List ℕ)) → laid_from k es (laid_from k es bs) ≡ laid_from k es bs
laid_twice k es [] = refl
laid_twice k es (b ∷ bs) = let head = unwrap_twice (found k es) b in let rest = laid_twice (k + 1) es bs in λ i. head i ∷ rest i

drop-laid_from : (m k j : ℕ) (es : List Entry) (bs : List (List ℕ)) → j ≡ k + m → drop m (laid_from k es bs) ≡ laid_from j es (drop m bs)
drop-laid_from zero k j es bs is = let same : k ≡ j = omega arith in ap (λ i. laid_from i es bs) same
drop-laid_from (suc m) k j es [] is = refl
drop-laid_from (suc m) k j es (b ∷ bs) is = drop-laid_from m (k + 1) j es bs (omega arith)

pub home-laid : (es : List Entry) (bs : List (List ℕ)) → home (laid_from 0 es bs) ≡ laid_from 518 es (home bs)
home-laid es bs = drop-laid_from 518 0 518 es bs refl

pub laid_is_off : (es : List Entry) (bs : List (List ℕ)) → AgreesOff (λ n. has_number n (numbers_of es)) bs (laid_from 0 es bs)
laid_is_off es bs = record { size = length-laid_from 0 es bs; others = λ n off. laid_absent 0 n n es bs (omega arith) (no_number n es off) }

pub set_is_off : (bs : List (List ℕ)) (b : List ℕ) → AgreesOff (λ n. n == 0) bs (set bs 0 b)
set_is_off bs b = record { size = length-set bs 0 b; others = λ n off. get_or-set_other bs 0 n b [] (λ is. not_zero n off is) }
  where
    not_zero : (n : ℕ) → (n == 0) ≡ false → n ≡ 0 → ⊥
    not_zero n off is = grind (arith, nat_tests)

pub home-set : (bs : List (List ℕ)) (b : List ℕ) → home (set bs 0 b) ≡ home bs
home-set bs b = drop-set-lt 518 bs 0 b (omega arith)

pub gate-set : (bs : List (List ℕ)) (b : List ℕ) → 0 < length bs → gate_open (set bs 0 b) ≡ (get_or b 0 0 == 1)
gate-set bs b within = ap (λ (bytes : List ℕ). get_or bytes 0 0 == 1) (get_or-set_same bs 0 b [] within)

-- what a group fits

ascends_higher : (lo low : ℕ) (es : List Entry) → ascends lo es ≡ true → ((n : ℕ) → has_number n (numbers_of es) ≡ true → low ≤ n) → ascends low es ≡ true
ascends_higher lo low [] up above = refl
ascends_higher lo low (e ∷ es) up above = higher_step lo low e es up (above e.0 (has_first e es))
  where
    has_first : (d : Entry) (ds : List Entry) → has_number d.0 (numbers_of (d ∷ ds)) ≡ true
    has_first d ds = grind (arith, nat_tests)

    higher_step : (a c : ℕ) (d : Entry) (ds : List Entry) → ascends a (d ∷ ds) ≡ true → c ≤ d.0 → ascends c (d ∷ ds) ≡ true
    higher_step a c d ds u low = grind (arith, nat_tests)

below_all : (size : ℕ) (es : List Entry) → ((n : ℕ) → has_number n (numbers_of es) ≡ true → n < size) → all_below size es ≡ true
below_all size [] below = refl
below_all size (e ∷ es) below = step size e es (below e.0 (first e es)) (below_all size es (λ n has. below n (behind n e es has)))
  where
    first : (d : Entry) (ds : List Entry) → has_number d.0 (numbers_of (d ∷ ds)) ≡ true
    first d ds = grind (arith, nat_tests)

    behind : (n : ℕ) (d : Entry) (ds : List Entry) → has_number n (numbers_of ds) ≡ true → has_number n (numbers_of (d ∷ ds)) ≡ true
    behind n d ds has = grind (arith, nat_tests)

    step : (s : ℕ) (d : Entry) (ds : List Entry) → d.0 < s → all_below s ds ≡ true → all_below s (d ∷ ds) ≡ true
    step s d ds lt rest = grind (arith, nat_tests)

pub group_fits : (size : ℕ) (es : List Entry) → length es ≤ 512 → ascends 0 es ≡ true → ((n : ℕ) → has_number n (numbers_of es) ≡ true → (518 ≤ n) × (n < size)) → fits size es ≡ true
group_fits size es few up inside = step (ascends_higher 0 518 es up (λ n has. (inside n has).0)) (below_all size es (λ n has. (inside n has).1))
  where
    step : ascends 518 es ≡ true → all_below size es ≡ true → fits size es ≡ true
    step a b = grind (arith, nat_tests)

-- behind a closed gate, or where the group does not fit, the content is what stands
pub closed_told : (told : Option (List (List ℕ))) → IfSome told (λ b. gate_open b ≡ false) → option_map home told ≡ option_map content_of told
closed_told None closed = refl
closed_told (Some b) closed = ap Some (sym (closed_content b closed))

misfit_content : (image : List (List ℕ)) → fits (length image) (intents image) ≡ false → gate_open image ≡ true → content_of image ≡ home image
misfit_content image not opened =
    ap (λ (g : Bool). if g && fits (length image) (intents image) then laid_from 518 (intents image) (home image) else home image) opened
    ∙ ap (λ (f : Bool). if f then laid_from 518 (intents image) (home image) else home image) not

pub misfit_told : (told : Option (List (List ℕ))) → IfSome told (λ b. (gate_open b ≡ true) × (fits (length b) (intents b) ≡ false)) → option_map home told ≡ option_map content_of told
misfit_told None says = refl
misfit_told (Some b) says = ap Some (sym (misfit_content b says.1 says.0))

-- what was staged is dropped, and behind the closed gate reads give the content
pub idle_unstaged : (s new : StoreState) → new ≡ record s { current = option_map home s.disk.seen; touched = [] } → IsReady s → IsIdle new
idle_unstaged s new is ready = subst IsIdle (sym is) (record {
  ready = record { fitting = ready.fitting; settled = ready.settled; closed = ready.closed };
  unstaged = refl;
  current = closed_told s.disk.seen ready.closed;
})

-- what a group needs does not depend on what is staged
pub ready_kept : (s new : StoreState) → new.disk ≡ s.disk → new.fits ≡ s.fits → IsReady s → IsReady new
ready_kept s new disk fits ready = record {
  fitting = fits ∙ ready.fitting;
  settled = ap (λ (d : DiskState). d.pending) disk ∙ ready.settled;
  closed = subst (λ (d : DiskState). IfSome d.seen (λ blocks. gate_open blocks ≡ false)) (sym disk) ready.closed;
}
