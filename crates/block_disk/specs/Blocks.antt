-- Lists of blocks, and numbered blocks laid over them. A block is the list of its bytes.
use Rattle.std.specs.Prelude.{◌≡◌, ℕ, ◌<◌, ◌+◌, ◌==◌, ◌||◌, ◌&&◌, Bool, true, false, List, [], ◌∷◌, length, Option, Some, None, if◌then◌else◌, unwrap_or, option_map, IfSome, refl, slice_index_or, nat_lt, nat_le}
use Rattle.std.proofs.Common.{ap, zero, suc, ◌∙◌}

-- the block at a number
abbrev pub block_at : List (List ℕ) → ℕ → List ℕ
block_at blocks n = slice_index_or blocks n []

-- what numbered blocks have at a number
abbrev pub found : ℕ → List (ℕ × List ℕ) → Option (List ℕ)
found n [] = None
found n (e ∷ es) = if e.0 == n then Some e.1 else found n es

-- the numbered blocks with one more or another one, by ascending number
abbrev pub upsert : ℕ → List ℕ → List (ℕ × List ℕ) → List (ℕ × List ℕ)
upsert n bytes [] = (n, bytes) ∷ []
upsert n bytes (e ∷ es) = if nat_lt n e.0 then (n, bytes) ∷ e ∷ es else (if e.0 == n then (n, bytes) ∷ es else e ∷ upsert n bytes es)

-- the blocks from number k on, with the numbered ones laid over them
abbrev pub laid_from : ℕ → List (ℕ × List ℕ) → List (List ℕ) → List (List ℕ)
laid_from k es [] = []
laid_from k es (b ∷ bs) = unwrap_or (found k es) b ∷ laid_from (k + 1) es bs

-- the same where the blocks are told
abbrev pub laid_over : List (ℕ × List ℕ) → Option (List (List ℕ)) → Option (List (List ℕ))
laid_over es told = option_map (laid_from 0 es) told

-- the numbers ascend strictly, from lo on
abbrev pub ascends : ℕ → List (ℕ × List ℕ) → Bool
ascends lo [] = true
ascends lo (e ∷ es) = nat_le lo e.0 && ascends (e.0 + 1) es

-- their numbers
abbrev pub numbers_of : List (ℕ × List ℕ) → List ℕ
numbers_of [] = []
numbers_of (e ∷ es) = e.0 ∷ numbers_of es

-- whether a number is among these
abbrev pub has_number : ℕ → List ℕ → Bool
has_number n [] = false
has_number n (m ∷ ms) = (m == n) || has_number n ms

-- ascending numbers with one more, where it is not there
abbrev pub with_number : ℕ → List ℕ → List ℕ
with_number n [] = n ∷ []
with_number n (m ∷ ms) = if nat_lt n m then n ∷ m ∷ ms else (if m == n then m ∷ ms else m ∷ with_number n ms)

-- the same blocks but at these numbers
pub record SameBut (ns : List ℕ) (old new : List (List ℕ)) : Type 0 where
  pub size : length new ≡ length old
  pub others : (n : ℕ) → has_number n ns ≡ false → block_at new n ≡ block_at old n

-- numbered blocks in a table, and how many it may hold
pub record Table : Type 0 where
  pub entries : List (ℕ × List ℕ)
  pub room : ℕ

-- so many blocks, each of 512 bytes
pub record IsWhole (size : ℕ) (blocks : List (List ℕ)) : Type 0 where
  pub count : length blocks ≡ size
  pub each : (n : ℕ) → n < size → length (block_at blocks n) ≡ 512

-- each of these numbered blocks has 512 bytes
abbrev pub AllWhole : List (ℕ × List ℕ) → Type 0
AllWhole es = (n : ℕ) (bytes : List ℕ) → found n es ≡ Some bytes → length bytes ≡ 512

-- proofs that a trait's law cites

-- blocks laid over others leave their number
pub length-laid_from : (k : ℕ) (es : List (ℕ × List ℕ)) (bs : List (List ℕ)) → length (laid_from k es bs) ≡ length bs
length-laid_from k es [] = refl
length-laid_from k es (b ∷ bs) = ap suc (length-laid_from (k + 1) es bs)

-- one of two things that both hold of what is found
whole_either : (o : Option (List ℕ)) (b : List ℕ) → ((bytes : List ℕ) → o ≡ Some bytes → length bytes ≡ 512) → length b ≡ 512 → length (unwrap_or o b) ≡ 512
whole_either None b over under = under
whole_either (Some bytes) b over under = over bytes refl

-- whole blocks laid over whole blocks are whole
pub whole_laid : (k n : ℕ) (es : List (ℕ × List ℕ)) (bs : List (List ℕ)) → AllWhole es → length (block_at bs n) ≡ 512 → length (block_at (laid_from k es bs) n) ≡ 512
whole_laid k n es [] over under = under
whole_laid k zero es (b ∷ bs) over under = whole_either (found k es) b (over k) under
whole_laid k (suc n) es (b ∷ bs) over under = whole_laid (k + 1) n es bs over under

pub whole_over : (es : List (ℕ × List ℕ)) (told : Option (List (List ℕ))) (size : ℕ) → AllWhole es → IfSome told (IsWhole size) → IfSome (laid_over es told) (IsWhole size)
whole_over es None size over under = under
whole_over es (Some bs) size over under = record {
  count = length-laid_from 0 es bs ∙ under.count;
  each = λ n within. whole_laid 0 n es bs over (under.each n within);
}
