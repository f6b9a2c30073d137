-- The content of a disk's blocks has as many bytes in each block as these.
use Rattle.std.proofs.Common.{◌≡◌, ℕ, ◌<◌, ◌≤◌, ◌+◌, List, [], ◌∷◌, length, Bool, true, false, Option, Some, None, refl, ap, sym, subst, ◌∙◌, zero, suc, arith, length-drop}
use Rattle.std.specs.Prelude.{◌==◌, ◌&&◌, if◌then◌else◌, nat_le, unwrap_or}
use Rattle.std.specs.List.{All}
use Rattle.std.proofs.lemmas.Bool.{and_parts, cond_both, leb-true}
use Rattle.std.proofs.lemmas.List.{get_or-drop}
use Rattle.block_disk.specs.Blocks.{IsWhole, ascends, block_at, found, laid_from, length-laid_from}
use Rattle.careful_write.specs.Content.{all_below, content_of, fits, gate_open, home, index_word, intents, intents_from}
use Rattle.volume.specs.Contents.{IsContent}

abbrev Blocks : Type 0
Blocks = List (List ℕ)

-- a block of 512 bytes
record IsBlock (block : List ℕ) : Type 0 where
  long : length block ≡ 512
  bytes : All (λ b. b < 256) block

-- what is found among numbered blocks
picked : (b : Bool) (x bytes : List ℕ) (o : Option (List ℕ)) → (if b then Some x else o) ≡ Some bytes → IsBlock x → (o ≡ Some bytes → IsBlock bytes) → IsBlock bytes
picked true x bytes o is here rest = let same : x ≡ bytes = cc in subst IsBlock same here
picked false x bytes o is here rest = rest is

each_intent : (image : Blocks) (i n : ℕ) → ((j : ℕ) → j < i + n → IsBlock (block_at image (6 + j))) → (m : ℕ) (bytes : List ℕ) → found m (intents_from image i n) ≡ Some bytes → IsBlock bytes
each_intent image i zero all m bytes is = absurd (let clash : ◌≡◌ {A = Option (List ℕ)} None (Some bytes) = is in cc)
each_intent image i (suc n) all m bytes is =
    picked (index_word image (i + 1) == m) (block_at image (6 + i)) bytes (found m (intents_from image (i + 1) n)) is (all i (omega arith))
    (each_intent image (i + 1) n (λ j less. all j (omega arith)) m bytes)

length-intents : (image : Blocks) (i n : ℕ) → length (intents_from image i n) ≡ n
length-intents image i zero = refl
length-intents image i (suc n) = ap suc (length-intents image (i + 1) n)

-- one of two blocks that is found or stands below
over : (o : Option (List ℕ)) (b : List ℕ) → ((bytes : List ℕ) → o ≡ Some bytes → IsBlock bytes) → IsBlock b → IsBlock (unwrap_or o b)
over None b laid under = under
over (Some bytes) b laid under = laid bytes refl

each_laid : (k n : ℕ) (es : List (ℕ × List ℕ)) (bs : Blocks) → ((m : ℕ) (bytes : List ℕ) → found m es ≡ Some bytes → IsBlock bytes) → IsBlock (block_at bs n) → IsBlock (block_at (laid_from k es bs) n)
each_laid k n es [] laid under = under
each_laid k zero es (b ∷ bs) laid under = over (found k es) b (laid k) under
each_laid k (suc n) es (b ∷ bs) laid under = each_laid (k + 1) n es bs laid under

-- the blocks from 518 on of a disk of so many, each of 512 bytes
record Kept (size : ℕ) (content : Blocks) : Type 0 where
  count : length content + 518 ≡ size
  each : (n : ℕ) → n < length content → IsBlock (block_at content n)

module _ (size : ℕ) (image : Blocks) (least : 4096 ≤ size) (whole : IsWhole size image) (bytes : (n : ℕ) → n < size → All (λ b. b < 256) (block_at image n)) where
  is_block : (n : ℕ) → n < size → IsBlock (block_at image n)
  is_block n within = record { long = whole.each n within; bytes = bytes n within }

  home_count : length (home image) + 518 ≡ size
  home_count = omega (arith, length-drop 518 image, whole.count)

  home_block : (n : ℕ) → n < length (home image) → IsBlock (block_at (home image) n)
  home_block n within = let count = home_count in subst IsBlock (sym (get_or-drop 518 image n [])) (is_block (518 + n) (omega arith))

  laid_kept : (gate_open image && fits (length image) (intents image)) ≡ true → Kept size (laid_from 518 (intents image) (home image))
  laid_kept laid =
      let fit = (and_parts (gate_open image) (fits (length image) (intents image)) laid).1 in
      let few : length (intents image) ≤ 512 = leb-true (length (intents image)) 512 (and_parts (nat_le (length (intents image)) 512) (ascends 518 (intents image) && all_below (length image) (intents image)) fit).0 in
      let many : length (intents image) ≡ index_word image 0 = length-intents image 0 (index_word image 0) in
      let same = length-laid_from 518 (intents image) (home image) in
      record {
        count = ap (λ n. n + 518) same ∙ home_count;
        each = λ n within. each_laid 518 n (intents image) (home image) (each_intent image 0 (index_word image 0) (λ j less. is_block (6 + j) (omega arith))) (home_block n (omega arith));
      }

  kept : Kept size (content_of image)
  kept = cond_both (gate_open image && fits (length image) (intents image)) (laid_from 518 (intents image) (home image)) (home image) (Kept size) laid_kept (λ shut. record { count = home_count; each = home_block })

  pub content_count : length (content_of image) + 518 ≡ size
  content_count = kept.count

  pub content_is : IsContent (content_of image)
  content_is = let count = content_count in record { front = omega arith; whole = λ n within. (kept.each n within).long; bytes = λ n within. (kept.each n within).bytes }
