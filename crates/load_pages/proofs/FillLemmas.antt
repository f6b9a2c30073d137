-- Buckets that are filled with records.
use Rattle.std.proofs.Common.{◌≡◌, ◌<◌, ◌≤◌, ◌+◌, ◌-◌, ℕ, zero, suc, Bool, true, false, List, [], ◌∷◌, ◌++◌, length, map, take, drop, get_or, refl, sym, ap, ◌∙◌, ⊎_elim, arith, rules, append-nil, length-append, length-drop}
use Rattle.std.proofs.lemmas.List.{same_lists, places, take_more, drop_more, drop_all, take_all, length-take-le}
use Rattle.std.proofs.lemmas.Bool.{cases_lt}
use Rattle.file_base.specs.Bytes.{spliced}
use Rattle.bucket_page.specs.declared.kind.PageKind.{PageKind}
use Rattle.bucket_page.specs.Pages.{joined, inserted}
use Rattle.bucket_page.proofs.PageLaws.{joined-append}
use Rattle.load_laws.specs.Chains.{packed, parts_of}
use Rattle.load_laws.proofs.ChainLemmas.{packed_fits, packed_ends}
use Rattle.load_pages.specs.declared.records.KeyedRecord.{KeyedRecord}
use Rattle.load_pages.specs.Given.{IsRaw, AllRaw, raw_of}

-- a slot behind all others
pub inserted_last : (slots : List (List ℕ)) (count : ℕ) (s : List ℕ) → count ≡ length slots → inserted slots count s ≡ slots ++ s ∷ []
inserted_last slots count s is = λ i. take_all count slots (omega (arith, is)) i ++ s ∷ drop_all count slots (omega (arith, is)) i

pub two_pieces : (z a b : List ℕ) → length a + length b ≤ length z → take (length a + length b) (spliced (spliced z 0 a) (length a) b) ≡ a ++ b
two_pieces z a b fits = same_lists _ _ (search (rules, places)) (λ k d h. grind (arith, places))

pub three_pieces : (z a b c : List ℕ) → length a + length b + length c ≤ length z
    → take (length a + length b + length c) (spliced (spliced (spliced z 0 a) (length a) b) (length a + length b) c) ≡ a ++ (b ++ c)
three_pieces z a b c fits = same_lists _ _ (search (rules, places)) (λ k d h. grind (arith, places))

pub raw_at : (kind : PageKind) (size : ℕ) (rs : List KeyedRecord) (i : ℕ) (d : KeyedRecord) → i < length rs → AllRaw kind size rs → IsRaw kind size (get_or rs i d)
raw_at kind size [] i d below all = absurd (omega (arith, below))
raw_at kind size (r ∷ rs) zero d below all = all.0
raw_at kind size (r ∷ rs) (suc i) d below all = raw_at kind size rs i d (omega (arith, below)) all.1

pub map_at : (kind : PageKind) (rs : List KeyedRecord) (i : ℕ) (d : KeyedRecord) → i < length rs → get_or (map (raw_of kind) rs) i [] ≡ raw_of kind (get_or rs i d)
map_at kind [] i d below = absurd (omega (arith, below))
map_at kind (r ∷ rs) zero d below = refl
map_at kind (r ∷ rs) (suc i) d below = map_at kind rs i d (omega (arith, below))

get_drop : (xs : List (List ℕ)) (n i : ℕ) → get_or (drop n xs) i [] ≡ get_or xs (n + i) []
get_drop xs zero i = ap (λ m. get_or xs m []) (let same : i ≡ 0 + i = omega arith in same)
get_drop [] (suc n) i = refl
get_drop (x ∷ xs) (suc n) i = get_drop xs n i ∙ ap (λ m. get_or (x ∷ xs) m []) (let same : suc (n + i) ≡ suc n + i = omega arith in same)

-- the slots from one place up to another, and the one behind them
pub piece_more : (raws : List (List ℕ)) (from at : ℕ) → from ≤ at → at < length raws → take (at + 1 - from) (drop from raws) ≡ take (at - from) (drop from raws) ++ get_or raws at [] ∷ []
piece_more raws from at ordered below =
    let rest = length-drop from raws in
    ap (λ n. take n (drop from raws)) (let same : at + 1 - from ≡ at - from + 1 = omega (arith, ordered) in same)
    ∙ take_more (drop from raws) (at - from) [] (omega (arith, rest, below, ordered))
    ∙ ap (λ s. take (at - from) (drop from raws) ++ s ∷ []) (get_drop raws from (at - from) ∙ ap (λ m. get_or raws m []) (let same : from + (at - from) ≡ at = omega (arith, ordered) in same))

pub piece_length : (raws : List (List ℕ)) (from at : ℕ) → from ≤ at → at ≤ length raws → length (take (at - from) (drop from raws)) ≡ at - from
piece_length raws from at ordered below = let rest = length-drop from raws in length-take-le (at - from) (drop from raws) (omega (arith, rest, below))

joined_one : (now : List (List ℕ)) (s : List ℕ) → length (joined (now ++ s ∷ [])) ≡ length (joined now) + length s
joined_one now s =
    let both = ap (λ (x : List ℕ). length x) (joined-append now (s ∷ [])) in
    let long = length-append (joined now) (joined (s ∷ [])) in
    let last = ap (λ (x : List ℕ). length x) (append-nil s) in omega (arith, both, long, last)

-- one slot more was put in
pub filled_on : (cap : ℕ) (raws : List (List ℕ)) (from at : ℕ) → from ≤ at → at < length raws → length (joined (take (at - from) (drop from raws))) + length (get_or raws at []) ≤ cap
    → packed cap [] (drop from raws) ≡ packed cap (take (at - from) (drop from raws)) (drop at raws) → packed cap [] (drop from raws) ≡ packed cap (take (at + 1 - from) (drop from raws)) (drop (at + 1) raws)
filled_on cap raws from at ordered below fits before =
    let bytes = joined_one (take (at - from) (drop from raws)) (get_or raws at []) in
    before ∙ ap (packed cap (take (at - from) (drop from raws))) (drop_more raws at [] below)
    ∙ packed_fits cap (take (at - from) (drop from raws)) (get_or raws at []) (drop (at + 1) raws) (omega (arith, bytes, fits))
    ∙ ap (λ x. packed cap x (drop (at + 1) raws)) (sym (piece_more raws from at ordered below))

-- the next one did not fit
pub filled_up : (cap : ℕ) (raws : List (List ℕ)) (from at : ℕ) → at < length raws → length (get_or raws at []) ≤ cap → cap < length (joined (take (at - from) (drop from raws))) + length (get_or raws at [])
    → packed cap [] (drop from raws) ≡ packed cap (take (at - from) (drop from raws)) (drop at raws) → packed cap [] (drop from raws) ≡ take (at - from) (drop from raws) ∷ parts_of cap (drop at raws)
filled_up cap raws from at below alone over before =
    let bytes = joined_one (take (at - from) (drop from raws)) (get_or raws at []) in
    let rest = drop_more raws at [] below in
    before ∙ ap (packed cap (take (at - from) (drop from raws))) rest
    ∙ packed_ends cap (take (at - from) (drop from raws)) (get_or raws at []) (drop (at + 1) raws) alone (omega (arith, bytes, over))
    ∙ ap (λ x. take (at - from) (drop from raws) ∷ parts_of cap x) (sym rest)

-- none is left
pub filled_all : (cap : ℕ) (raws : List (List ℕ)) (from at : ℕ) → length raws ≤ at → packed cap [] (drop from raws) ≡ packed cap (take (at - from) (drop from raws)) (drop at raws)
    → packed cap [] (drop from raws) ≡ take (at - from) (drop from raws) ∷ parts_of cap (drop at raws)
filled_all cap raws from at most before =
    let none = drop_all at raws most in
    before ∙ ap (packed cap (take (at - from) (drop from raws))) none ∙ ap (λ x. take (at - from) (drop from raws) ∷ parts_of cap x) (sym none)

-- a slot that went in fits
pub fits_so : (size used long piece here : ℕ) (t : Bool) → t ≡ true → (size < 16 + used + long → t ≡ false) → used ≡ piece → long ≡ here → 16 ≤ size → piece + here ≤ size - 16
fits_so size used long piece here t is over same raw least = ⊎_elim (λ more. absurd (clash t is (over more))) (λ fits. omega (arith, fits, same, raw, least)) (cases_lt size (16 + used + long))
  where
    clash : (u : Bool) → u ≡ true → u ≡ false → ⊥
    clash true is_true isnt = cc
    clash false is_true isnt = cc
