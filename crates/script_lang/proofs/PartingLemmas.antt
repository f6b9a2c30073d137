-- The first word of bytes, one byte longer.
use Rattle.std.proofs.Common.{◌≡◌, ℕ, ◌+◌, ◌<◌, List, [], ◌∷◌, ◌++◌, Bool, true, false, refl, ap, sym, ◌∙◌, length, take, drop, get_or, arith, add-one, drop-cons, append_assoc, Some, None, suc, ◌≤◌}
use Rattle.std.proofs.lemmas.List.{take_more, drop_all}
use Rattle.std.proofs.lemmas.Grind.{common_steps}
use Rattle.std.specs.Prelude.{not, ◌==◌, if◌then◌else◌}
use Rattle.script_model.specs.LineWords.{Word, Place, Between, Inside, Quoted, words_from, word_rest, place_after}
use Rattle.script_lang.specs.Parting.{WordStands, IsAtWord, quoted_next, place_of}

quoted_place : (v : Bool) → (if v then Inside else Quoted) ≡ place_of (not v)
quoted_place true = refl
quoted_place false = refl

rest_inside : (v : Bool) (b : ℕ) (more : Bool) (bytes : List ℕ) → (if v then None else Some false) ≡ Some more → (if v then [] else b ∷ word_rest Inside bytes) ≡ b ∷ word_rest (place_of more) bytes
rest_inside true b more bytes h = cc
rest_inside false b more bytes h = let e : false ≡ more = cc in ap (λ m. b ∷ word_rest (place_of m) bytes) e

-- what is left of a word at a byte that belongs to it
rest_at : (q : Bool) (b : ℕ) (more : Bool) (bytes : List ℕ) → quoted_next q b ≡ Some more → word_rest (place_of q) (b ∷ bytes) ≡ b ∷ word_rest (place_of more) bytes
rest_at true b more bytes h = let e : not (b == 34) ≡ more = cc in ap (λ p. b ∷ word_rest p bytes) (quoted_place (b == 34) ∙ ap place_of e)
rest_at false b more bytes h = rest_inside (b == 32) b more bytes h

words_inside : (v : Bool) (more : Bool) (column : ℕ) (bytes : List ℕ) → (if v then None else Some false) ≡ Some more → words_from (if v then Between else Inside) column bytes ≡ words_from (place_of more) column bytes
words_inside true more column bytes h = cc
words_inside false more column bytes h = let e : false ≡ more = cc in ap (λ m. words_from (place_of m) column bytes) e

words_at : (q : Bool) (b : ℕ) (more : Bool) (column : ℕ) (bytes : List ℕ) → quoted_next q b ≡ Some more → words_from (place_of q) column (b ∷ bytes) ≡ words_from (place_of more) (column + 1) bytes
words_at true b more column bytes h = let e : not (b == 34) ≡ more = cc in ap (λ p. words_from p (column + 1) bytes) (quoted_place (b == 34) ∙ ap place_of e)
words_at false b more column bytes h = words_inside (b == 32) more (column + 1) bytes h

pub head_is : (bytes : List ℕ) (n b : ℕ) → n < length bytes → get_or bytes n 0 ≡ b → drop n bytes ≡ b ∷ drop (n + 1) bytes
head_is bytes n b h e = rw (add-one, drop-cons bytes n 0) (ap (λ x. x ∷ drop (suc n) bytes) e)

front_is : (bytes : List ℕ) (n b : ℕ) (rest : List ℕ) → n < length bytes → get_or bytes n 0 ≡ b → take n bytes ++ b ∷ rest ≡ take (n + 1) bytes ++ rest
front_is bytes n b rest h e = rw (take_more bytes n 0 h, e) (sym (append_assoc (take n bytes) (b ∷ []) rest))

cons_word : (column : ℕ) (s t : List ℕ) (ws vs : List Word) → s ≡ t → ws ≡ vs → record { column = column; text = s } ∷ ws ≡ record { column = column; text = t } ∷ vs
cons_word column s t ws vs e f = rw (e, f) refl

pub stands_more : (column : ℕ) (bytes : List ℕ) (n : ℕ) (q more : Bool) (b : ℕ) → n < length bytes → get_or bytes n 0 ≡ b → quoted_next q b ≡ Some more → WordStands column bytes n (place_of q) → WordStands column bytes (n + 1) (place_of more)
stands_more column bytes n q more b h e s w =
    w ∙ cons_word column _ _ _ _
    (ap (λ d. take n bytes ++ word_rest (place_of q) d) (head_is bytes n b h e) ∙ ap (λ r. take n bytes ++ r) (rest_at q b more (drop (n + 1) bytes) s) ∙ front_is bytes n b _ h e)
    (ap (words_from (place_of q) (column + n)) (head_is bytes n b h e) ∙ words_at q b more (column + n) (drop (n + 1) bytes) s ∙ ap (λ c. words_from (place_of more) c (drop (n + 1) bytes)) (let k : (column + n) + 1 ≡ column + (n + 1) = omega arith in k))

ends_rest : (q : Bool) (b : ℕ) (bytes : List ℕ) → quoted_next q b ≡ None → word_rest (place_of q) (b ∷ bytes) ≡ []
ends_rest true b bytes h = cc
ends_rest false b bytes h = elim (b == 32) as (λ v. (if v then None else Some false) ≡ None → (if v then [] else b ∷ word_rest Inside bytes) ≡ []) [ true ↦ λ _. refl | false ↦ λ k. cc ] h

ends_words : (q : Bool) (b : ℕ) (column : ℕ) (bytes : List ℕ) → quoted_next q b ≡ None → words_from (place_of q) column (b ∷ bytes) ≡ words_from Between column (b ∷ bytes)
ends_words true b column bytes h = cc
ends_words false b column bytes h = elim (b == 32) as (λ v. (if v then None else Some false) ≡ None → words_from (if v then Between else Inside) (column + 1) bytes ≡ (if v then words_from Between (column + 1) bytes else record { column = column; text = b ∷ word_rest (place_after Between b) bytes } ∷ words_from (place_after Between b) (column + 1) bytes)) [ true ↦ λ _. refl | false ↦ λ k. cc ] h

pub stands_ends : (column : ℕ) (bytes : List ℕ) (n : ℕ) (q : Bool) (b : ℕ) → n < length bytes → get_or bytes n 0 ≡ b → quoted_next q b ≡ None → WordStands column bytes n (place_of q) → WordStands column bytes n Between
stands_ends column bytes n q b h e s w =
    w ∙ cons_word column _ _ _ _
    (ap (λ d. take n bytes ++ word_rest (place_of q) d) (head_is bytes n b h e) ∙ ap (λ r. take n bytes ++ r) (ends_rest q b (drop (n + 1) bytes) s))
    (ap (words_from (place_of q) (column + n)) (head_is bytes n b h e) ∙ ends_words q b (column + n) (drop (n + 1) bytes) s ∙ ap (words_from Between (column + n)) (sym (head_is bytes n b h e)))

rest_nil : (q : Bool) → word_rest (place_of q) [] ≡ []
rest_nil true = refl
rest_nil false = refl

words_nil : (p : Place) (column : ℕ) → words_from p column [] ≡ []
words_nil Between column = refl
words_nil Inside column = refl
words_nil Quoted column = refl

pub stands_at_end : (column : ℕ) (bytes : List ℕ) (n : ℕ) (q : Bool) → length bytes ≤ n → WordStands column bytes n (place_of q) → WordStands column bytes n Between
stands_at_end column bytes n q h w =
    w ∙ cons_word column _ _ _ _
    (ap (λ d. take n bytes ++ word_rest (place_of q) d) (drop_all n bytes h) ∙ ap (λ r. take n bytes ++ r) (rest_nil q))
    (ap (words_from (place_of q) (column + n)) (drop_all n bytes h) ∙ words_nil (place_of q) (column + n) ∙ sym (ap (words_from Between (column + n)) (drop_all n bytes h)))

pub stands_first : (column : ℕ) (bytes : List ℕ) (b : ℕ) → 0 < length bytes → get_or bytes 0 0 ≡ b → IsAtWord bytes → WordStands column bytes 1 (place_of (b == 34))
stands_first column [] b h e w = absurd (omega arith)
stands_first column (x ∷ bytes) b h e w = grind (arith, common_steps)
