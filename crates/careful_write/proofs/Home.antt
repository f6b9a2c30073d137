-- Staged blocks over the content.
use Rattle.std.proofs.Common.{◌≡◌, ℕ, ◌<◌, ◌≤◌, ◌+◌, ◌-◌, true, List, [], ◌∷◌, length, set, ⊎_elim, IsSome, subst, Option, Some, None, option_map, unwrap_or, IfSome, refl, sym, ◌∙◌, ap, arith, length-drop}
use Rattle.std.proofs.lemmas.List.{get_or-drop}
use Rattle.block_disk.specs.Blocks.{AllWhole, IsWhole, length-laid_from, whole_laid, block_at, ascends, found, upsert, laid_from, numbers_of, has_number}
use Rattle.block_disk.proofs.Laid.{has_number-with_number, numbers_of-upsert, length-upsert_there, block_at-laid_from, laid_absent, laid_from-upsert}
use Rattle.careful_write.specs.Content.{home, laid_home}
use Rattle.careful_write.specs.State.{EachWhole}

abbrev Entry : Type 0
Entry = ℕ × List ℕ

-- how many blocks a disk has
pub whole_count : (told : Option (List (List ℕ))) {a b : ℕ} → a ≡ b → IfSome told (IsWhole a) → IfSome told (λ bs. length bs ≡ b)
whole_count None same whole = tt
whole_count (Some bs) same whole = whole.count ∙ same

pub read_staged : (n size : ℕ) (b : List ℕ) (es : List Entry) (told : Option (List (List ℕ))) → Some b ≡ found n es → 518 ≤ n → n < size → IfSome told (IsWhole size) → IfSome (laid_home es told) (λ bs. b ≡ block_at bs (n - 518))
read_staged n size b es None some low within whole = whole
read_staged n size b es (Some bs) some low within whole =
    let inside : n - 518 < length (home bs) = omega (arith, length-drop 518 bs, whole.count) in
    sym (block_at-laid_from 518 (n - 518) n es (home bs) (omega arith) inside ∙ ap (λ o. unwrap_or o (block_at (home bs) (n - 518))) (sym some))

at_home : (n : ℕ) (bs : List (List ℕ)) → 518 ≤ n → block_at (home bs) (n - 518) ≡ block_at bs n
at_home n bs low = get_or-drop 518 bs (n - 518) [] ∙ (let same : 518 + (n - 518) ≡ n = omega arith in ap (λ k. block_at bs k) same)

pub read_home : (n : ℕ) (b : List ℕ) (es : List Entry) (told : Option (List (List ℕ))) → found n es ≡ None → 518 ≤ n → IfSome told (λ bs. b ≡ block_at bs n) → IfSome (laid_home es told) (λ bs. b ≡ block_at bs (n - 518))
read_home n b es None none low is = is
read_home n b es (Some bs) none low is = is ∙ sym (laid_absent 518 (n - 518) n es (home bs) (omega arith) none ∙ at_home n bs low)

pub laid_home-upsert : (n : ℕ) (b : List ℕ) (es : List Entry) (told : Option (List (List ℕ))) → 518 ≤ n → laid_home (upsert n b es) told ≡ option_map (λ bs. set bs (n - 518) b) (laid_home es told)
laid_home-upsert n b es None low = refl
laid_home-upsert n b es (Some bs) low = ap Some (laid_from-upsert 518 (n - 518) n b es (home bs) (omega arith))

laid_nothing : (k : ℕ) (bs : List (List ℕ)) → laid_from k [] bs ≡ bs
laid_nothing k [] = refl
laid_nothing k (b ∷ bs) = ap (λ (l : List (List ℕ)). b ∷ l) (laid_nothing (k + 1) bs)

pub laid_home-none : (told : Option (List (List ℕ))) → laid_home [] told ≡ option_map home told
laid_home-none None = refl
laid_home-none (Some bs) = ap Some (laid_nothing 518 (home bs))

-- an entry that is there is put in its place
pub length_staged : (n : ℕ) (b : List ℕ) (es : List Entry) → ascends 0 es ≡ true → IsSome (found n es) → length (upsert n b es) ≡ length es
length_staged n b es up there = cases (found n es) refl there
  where
    cases : (o : Option (List ℕ)) → found n es ≡ o → IsSome o → length (upsert n b es) ≡ length es
    cases None is none = absurd (cc)
    cases (Some c) is some = length-upsert_there 0 n b c es up is

-- what holds of each number holds of one more
pub each-upsert : (P : ℕ → Type 0) (n : ℕ) (b : List ℕ) (es : List Entry) → P n → ((m : ℕ) → has_number m (numbers_of es) ≡ true → P m) → (m : ℕ) → has_number m (numbers_of (upsert n b es)) ≡ true → P m
each-upsert P n b es new old m has =
    ⊎_elim (λ is. subst P is new) (old m) (has_number-with_number m n (numbers_of es) (sym (ap (has_number m) (numbers_of-upsert n b es)) ∙ has))

-- the content has the disk's blocks but 518, each of 512 bytes
pub content_size : (es : List Entry) (told : Option (List (List ℕ))) (size : ℕ) → IfSome told (IsWhole size) → 4096 ≤ size → IfSome (laid_home es told) (λ c. length c + 518 ≡ size)
content_size es None size whole big = tt
content_size es (Some bs) size whole big = omega (arith, whole.count, length-laid_from 518 es (home bs), length-drop 518 bs)

pub content_whole : (es : List Entry) (told : Option (List (List ℕ))) (size : ℕ) → IfSome told (IsWhole size) → AllWhole es → IfSome (laid_home es told) EachWhole
content_whole es None size whole all = tt
content_whole es (Some bs) size whole all = λ n within.
    let inside : 518 + n < size = omega (arith, within, whole.count, length-laid_from 518 es (home bs), length-drop 518 bs) in
    whole_laid 518 n es (home bs) all (ap length (get_or-drop 518 bs n []) ∙ whole.each (518 + n) inside)

-- where no number is staged, no block is
pub none_staged : (es : List Entry) → numbers_of es ≡ [] → es ≡ []
none_staged [] none = refl
none_staged (e ∷ es) none = absurd (cc)
