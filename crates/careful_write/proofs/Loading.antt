-- Entries that are read one by one.
use Rattle.std.proofs.Common.{◌≡◌, ◌⊎◌, ⊎_elim, ℕ, suc, ◌<◌, ◌≤◌, ◌+◌, ◌-◌, ◌==◌, Bool, true, false, List, [], ◌∷◌, ◌++◌, length, get_or, Option, Some, None, IfSome, refl, sym, ◌∙◌, ap, subst, arith, append_assoc}
use Rattle.std.proofs.lemmas.List.{append-nil}
use Rattle.std.proofs.lemmas.Bool.Decides.{nat_tests}
use Rattle.block_disk.specs.Blocks.{upsert, ascends, has_number, numbers_of, block_at}
use Rattle.careful_write.specs.Content.{gate_open, intents, intents_from, index_word, word_of, fits, all_below}
use Rattle.careful_write.specs.Load.{next_after, LoadsOnly}
use Rattle.careful_write.proofs.Images.{length-intents_from, group_fits}

abbrev Entry : Type 0
Entry = ℕ × List ℕ

abbrev Told : Type 0
Told = Option (List (List ℕ))

upsert_last_step : (n : ℕ) (b : List ℕ) (e : Entry) (es : List Entry) → e.0 < n → upsert n b es ≡ es ++ (n, b) ∷ [] → upsert n b (e ∷ es) ≡ e ∷ (es ++ (n, b) ∷ [])
upsert_last_step n b e es above later = grind (arith, nat_tests)

pub next_above : (lo : ℕ) (es : List Entry) → ascends lo es ≡ true → lo ≤ next_after lo es
next_above lo [] up = omega arith
next_above lo (e ∷ es) up = let parts = rest_of lo e es up in let above = next_above (e.0 + 1) es parts.1 in omega (arith, above, parts.0)
  where
    rest_of : (a : ℕ) (d : Entry) (ds : List Entry) → ascends a (d ∷ ds) ≡ true → (a ≤ d.0) × (ascends (d.0 + 1) ds ≡ true)
    rest_of a d ds u = grind (arith, nat_tests)

rest : (lo : ℕ) (e : Entry) (es : List Entry) → ascends lo (e ∷ es) ≡ true → (lo ≤ e.0) × (ascends (e.0 + 1) es ≡ true)
rest lo e es up = grind (arith, nat_tests)

-- an entry above all is put at the end
pub upsert_last : (lo n : ℕ) (b : List ℕ) (es : List Entry) → ascends lo es ≡ true → next_after lo es ≤ n → upsert n b es ≡ es ++ (n, b) ∷ []
upsert_last lo n b [] up above = refl
upsert_last lo n b (e ∷ es) up above =
    let parts = rest lo e es up in
    let high = next_above (e.0 + 1) es parts.1 in
    upsert_last_step n b e es (omega (arith, high, above)) (upsert_last (e.0 + 1) n b es parts.1 above)

pub next_after-last : (lo n : ℕ) (b : List ℕ) (es : List Entry) → next_after lo (es ++ (n, b) ∷ []) ≡ n + 1
next_after-last lo n b [] = refl
next_after-last lo n b (e ∷ es) = next_after-last (e.0 + 1) n b es

ascends_cons : (lo : ℕ) (e : Entry) (es : List Entry) → lo ≤ e.0 → ascends (e.0 + 1) es ≡ true → ascends lo (e ∷ es) ≡ true
ascends_cons lo e es from up = grind (arith, nat_tests)

pub ascends-last : (lo n : ℕ) (b : List ℕ) (es : List Entry) → ascends lo es ≡ true → next_after lo es ≤ n → ascends lo (es ++ (n, b) ∷ []) ≡ true
ascends-last lo n b [] up above = ascends_cons lo (n, b) [] above refl
ascends-last lo n b (e ∷ es) up above = let parts = rest lo e es up in ascends_cons lo e (es ++ (n, b) ∷ []) parts.0 (ascends-last (e.0 + 1) n b es parts.1 above)

-- what ascends is above what came before
up_above : (lo n : ℕ) (b : List ℕ) (es more : List Entry) → ascends lo (es ++ (n, b) ∷ more) ≡ true → next_after lo es ≤ n
up_above lo n b [] more up = (rest lo (n, b) more up).0
up_above lo n b (e ∷ es) more up = up_above (e.0 + 1) n b es more (rest lo e (es ++ (n, b) ∷ more) up).1

below_rest : (size : ℕ) (e : Entry) (es : List Entry) → all_below size (e ∷ es) ≡ true → (e.0 < size) × (all_below size es ≡ true)
below_rest size e es below = grind (arith, nat_tests)

all_below_at : (size n : ℕ) (b : List ℕ) (es more : List Entry) → all_below size (es ++ (n, b) ∷ more) ≡ true → n < size
all_below_at size n b [] more below = (below_rest size (n, b) more below).0
all_below_at size n b (e ∷ es) more below = all_below_at size n b es more (below_rest size e (es ++ (n, b) ∷ more) below).1

fit_parts : (size : ℕ) (es : List Entry) → fits size es ≡ true → (length es ≤ 512) × (ascends 518 es ≡ true) × (all_below size es ≡ true)
fit_parts size es fit = grind (arith, nat_tests)

false_if : (b : Bool) → (b ≡ true → ⊥) → b ≡ false
false_if true deny = absurd (deny refl)
false_if false deny = refl

-- an entry that is out of order or past the end
pub misfit : (size n : ℕ) (b : List ℕ) (es more all : List Entry) → all ≡ es ++ (n, b) ∷ more → (n < next_after 518 es) ⊎ (size ≤ n) → fits size all ≡ false
misfit size n b es more all is bad = ap (fits size) is ∙ false_if _ (λ fit.
    let parts = fit_parts size (es ++ (n, b) ∷ more) fit in
    let up = up_above 518 n b es more parts.1 in
    let below = all_below_at size n b es more parts.2 in
    ⊎_elim (λ low. absurd (omega (arith, up, low))) (λ high. absurd (omega (arith, below, high))) bad)

-- too many
pub misfit_count : (size count : ℕ) (b : List (List ℕ)) → count ≡ index_word b 0 → 512 < count → fits size (intents b) ≡ false
misfit_count size count b is many = false_if _ (λ fit.
    let parts = fit_parts size (intents b) fit in
    absurd (omega (arith, parts.0, length-intents_from b 0 (index_word b 0), is, many)))

-- the intents, one more of them read
intents_more : (b : List (List ℕ)) (i left : ℕ) (es : List Entry) → intents b ≡ es ++ intents_from b i (suc left) → intents b ≡ (es ++ (index_word b (i + 1), block_at b (6 + i)) ∷ []) ++ intents_from b (i + 1) left
intents_more b i left es is = is ∙ sym (append_assoc es ((index_word b (i + 1), block_at b (6 + i)) ∷ []) (intents_from b (i + 1) left))

split : (count i : ℕ) → i < count → count - i ≡ suc (count - (i + 1))
split count i lt = omega arith

pub told_more : (count i n : ℕ) (bytes : List ℕ) (es : List Entry) (told : Told) → i < count → IfSome told (λ b. n ≡ index_word b (i + 1)) → IfSome told (λ b. bytes ≡ block_at b (6 + i)) → IfSome told (λ b. intents b ≡ es ++ intents_from b i (count - i)) → IfSome told (λ b. intents b ≡ (es ++ (n, bytes) ∷ []) ++ intents_from b (i + 1) (count - (i + 1)))
told_more count i n bytes es None lt number is so_far = tt
told_more count i n bytes es (Some b) lt number is so_far =
    intents_more b i (count - (i + 1)) es (so_far ∙ ap (λ (k : ℕ). es ++ intents_from b i k) (split count i lt))
    ∙ (λ j. (es ++ (sym number j, sym is j) ∷ []) ++ intents_from b (i + 1) (count - (i + 1)))

pub told_misfit : (size count i n : ℕ) (es : List Entry) (told : Told) → i < count → IfSome told (λ b. length b ≡ size) → IfSome told (λ b. n ≡ index_word b (i + 1)) → IfSome told (λ b. intents b ≡ es ++ intents_from b i (count - i)) → (n < next_after 518 es) ⊎ (size ≤ n) → (any : List Entry) → IfSome told (LoadsOnly false any)
told_misfit size count i n es None lt long number so_far bad any = tt
told_misfit size count i n es (Some b) lt long number so_far bad any =
    misfit (length b) n (block_at b (6 + i)) es (intents_from b (i + 1) (count - (i + 1))) (intents b)
    (so_far ∙ ap (λ (k : ℕ). es ++ intents_from b i k) (split count i lt) ∙ ap (λ (m : ℕ). es ++ (m, block_at b (6 + i)) ∷ intents_from b (i + 1) (count - (i + 1))) (sym number))
    (subst (λ (k : ℕ). (n < next_after 518 es) ⊎ (k ≤ n)) (sym long) bad)

ascends_lower : (es : List Entry) → ascends 518 es ≡ true → ascends 0 es ≡ true
ascends_lower [] up = refl
ascends_lower (e ∷ es) up = ascends_cons 0 e es (omega arith) (rest 518 e es up).1

pub told_fit : (size count i : ℕ) (es : List Entry) (told : Told) → count ≤ i → length es ≡ i → i ≤ 512 → IfSome told (λ b. length b ≡ size) → ascends 518 es ≡ true → ((n : ℕ) → has_number n (numbers_of es) ≡ true → (518 ≤ n) × (n < size)) → IfSome told (λ b. intents b ≡ es ++ intents_from b i (count - i)) → IfSome told (LoadsOnly true es)
told_fit size count i es None all long_is few long up inside so_far = tt
told_fit size count i es (Some b) all long_is few long up inside so_far = (
  so_far ∙ ap (λ (k : ℕ). es ++ intents_from b i k) (none count i all) ∙ append-nil es,
  ap (λ k. fits k es) long ∙ group_fits size es (omega (arith, long_is, few)) (ascends_lower es up) inside,
)
  where
    none : (count i : ℕ) → count ≤ i → count - i ≡ 0
    none count i le = omega arith

pub told_many : (count : ℕ) (bytes : List ℕ) (told : Told) → IfSome told (λ b. bytes ≡ block_at b 0) → get_or bytes 0 0 ≡ 1 → IfSome told (λ b. count ≡ index_word b 0) → 512 < count → IfSome told (λ b. (gate_open b ≡ true) × (fits (length b) (intents b) ≡ false))
told_many count bytes None read opened is many = tt
told_many count bytes (Some b) read opened is many = (gate b bytes read opened, misfit_count (length b) count b is many)
  where
    gate : (b : List (List ℕ)) (bytes : List ℕ) → bytes ≡ block_at b 0 → get_or bytes 0 0 ≡ 1 → gate_open b ≡ true
    gate b bytes read opened = ap (λ (l : List ℕ). get_or l 0 0 == 1) (sym read) ∙ ap (λ (k : ℕ). k == 1) opened

-- the count is the first word of the index
pub told_count : (count : ℕ) (index : List ℕ) (told : Told) → count ≡ word_of index 0 → IfSome told (λ b. index ≡ block_at b 1) → IfSome told (λ b. count ≡ index_word b 0)
told_count count index None is read = tt
told_count count index (Some b) is read = is ∙ ap (λ (bytes : List ℕ). word_of bytes 0) read
