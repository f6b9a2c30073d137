-- Numbered blocks laid over others.
use Rattle.std.proofs.Common.{◌≡◌, ◌≢◌, ◌⊎◌, inl, inr, ⊎_elim, ℕ, zero, suc, ◌<◌, ◌≤◌, ◌+◌, true, false, List, [], ◌∷◌, length, get_or, set, drop, Option, Some, None, option_map, unwrap_or, IfSome, refl, sym, ◌∙◌, ap, add-one, arith}
use Rattle.std.proofs.lemmas.Bool.{cases_eq}
use Rattle.std.proofs.lemmas.Bool.Decides.{nat_tests}
use Rattle.std.proofs.lemmas.List.{drop_more, drop_all}
use Rattle.std.specs.List.Sorted.{IsNonDecreasingBy}
use Rattle.block_disk.specs.Blocks.{block_at, found, upsert, laid_from, laid_over, ascends, numbers_of, has_number, with_number, IsWhole, AllWhole}

abbrev Entry : Type 0
Entry = ℕ × List ℕ

-- the same parts make the same list
same_cons : {X : Type 0} (x y : X) (xs ys : List X) → x ≡ y → xs ≡ ys → x ∷ xs ≡ y ∷ ys
same_cons x y xs ys h t = cc

pub block_at-laid_from : (k n j : ℕ) (es : List Entry) (bs : List (List ℕ)) → j ≡ k + n → n < length bs → block_at (laid_from k es bs) n ≡ unwrap_or (found j es) (block_at bs n)
block_at-laid_from k n j es [] is within = absurd (omega arith)
block_at-laid_from k zero j es (b ∷ bs) is within = let same : k ≡ j = omega arith in ap (λ i. unwrap_or (found i es) b) same
block_at-laid_from k (suc n) j es (b ∷ bs) is within = block_at-laid_from (k + 1) n j es bs (omega arith) (omega arith)

-- where nothing is laid over a block
pub laid_absent : (k n j : ℕ) (es : List Entry) (bs : List (List ℕ)) → j ≡ k + n → found j es ≡ None → block_at (laid_from k es bs) n ≡ block_at bs n
laid_absent k n j es [] is none = refl
laid_absent k zero j es (b ∷ bs) is none = let same : k ≡ j = omega arith in ap (λ i. unwrap_or (found i es) b) same ∙ ap (λ o. unwrap_or o b) none
laid_absent k (suc n) j es (b ∷ bs) is none = laid_absent (k + 1) n j es bs (omega arith) none

found_here : (m n : ℕ) (b : List ℕ) (es : List Entry) → n ≡ m → found m ((n, b) ∷ es) ≡ Some b
found_here m n b es is = grind (arith, nat_tests)

found_past : (m : ℕ) (e : Entry) (es : List Entry) → e.0 ≢ m → found m (e ∷ es) ≡ found m es
found_past m e es not = grind (arith, nat_tests)

found-upsert_same_step : (m n : ℕ) (b : List ℕ) (e : Entry) (es : List Entry) → n ≡ m → found m (upsert n b es) ≡ Some b → found m (upsert n b (e ∷ es)) ≡ Some b
found-upsert_same_step m n b e es is later = grind (arith, nat_tests)

found-upsert_other_step : (m n : ℕ) (b : List ℕ) (e : Entry) (es : List Entry) → n ≢ m → found m (upsert n b es) ≡ found m es → found m (upsert n b (e ∷ es)) ≡ found m (e ∷ es)
found-upsert_other_step m n b e es not later = grind (arith, nat_tests)

numbers_of-upsert_step : (n : ℕ) (b : List ℕ) (e : Entry) (es : List Entry) → numbers_of (upsert n b es) ≡ with_number n (numbers_of es) → numbers_of (upsert n b (e ∷ es)) ≡ with_number n (numbers_of (e ∷ es))
numbers_of-upsert_step n b e es later = grind (arith, nat_tests)

pub found-upsert_same : (m n : ℕ) (b : List ℕ) (es : List Entry) → n ≡ m → found m (upsert n b es) ≡ Some b
found-upsert_same m n b [] is = found_here m n b [] is
found-upsert_same m n b (e ∷ es) is = found-upsert_same_step m n b e es is (found-upsert_same m n b es is)

pub found-upsert_other : (m n : ℕ) (b : List ℕ) (es : List Entry) → n ≢ m → found m (upsert n b es) ≡ found m es
found-upsert_other m n b [] not = found_past m (n, b) [] not
found-upsert_other m n b (e ∷ es) not = found-upsert_other_step m n b e es not (found-upsert_other m n b es not)

laid_from_below : (k m : ℕ) (b : List ℕ) (es : List Entry) (bs : List (List ℕ)) → m < k → laid_from k (upsert m b es) bs ≡ laid_from k es bs
laid_from_below k m b es [] below = refl
laid_from_below k m b es (c ∷ bs) below =
    same_cons _ _ _ _ (ap (λ o. unwrap_or o c) (found-upsert_other k m b es (omega arith))) (laid_from_below (k + 1) m b es bs (omega arith))

-- one more block laid over is a block set
pub laid_from-upsert : (k n j : ℕ) (b : List ℕ) (es : List Entry) (bs : List (List ℕ)) → j ≡ k + n → laid_from k (upsert j b es) bs ≡ set (laid_from k es bs) n b
laid_from-upsert k n j b es [] is = refl
laid_from-upsert k zero j b es (c ∷ bs) is =
    same_cons _ _ _ _ (ap (λ o. unwrap_or o c) (found-upsert_same k j b es (omega arith))) (laid_from_below (k + 1) j b es bs (omega arith))
laid_from-upsert k (suc n) j b es (c ∷ bs) is =
    same_cons _ _ _ _ (ap (λ o. unwrap_or o c) (found-upsert_other k j b es (omega arith))) (laid_from-upsert (k + 1) n j b es bs (omega arith))

pub laid_over-upsert : (n : ℕ) (b : List ℕ) (es : List Entry) (told : Option (List (List ℕ))) → laid_over (upsert n b es) told ≡ option_map (λ bs. set bs n b) (laid_over es told)
laid_over-upsert n b es None = refl
laid_over-upsert n b es (Some bs) = ap Some (laid_from-upsert 0 n n b es bs (omega arith))

pub numbers_of-upsert : (n : ℕ) (b : List ℕ) (es : List Entry) → numbers_of (upsert n b es) ≡ with_number n (numbers_of es)
numbers_of-upsert n b [] = refl
numbers_of-upsert n b (e ∷ es) = numbers_of-upsert_step n b e es (numbers_of-upsert n b es)

pub length-numbers_of : (es : List Entry) → length (numbers_of es) ≡ length es
length-numbers_of [] = refl
length-numbers_of (e ∷ es) = ap suc (length-numbers_of es)

-- the order of a table

length-upsert_step : (n : ℕ) (b : List ℕ) (e : Entry) (es : List Entry) → length (upsert n b es) ≤ length es + 1 → length (upsert n b (e ∷ es)) ≤ length (e ∷ es) + 1
length-upsert_step n b e es later = grind (arith, nat_tests)

found_is : (n : ℕ) (e : Entry) (es : List Entry) → e.0 ≡ n → found n (e ∷ es) ≡ Some e.1
found_is n e es is = grind (arith, nat_tests)

has_here : (n : ℕ) (ms : List ℕ) → has_number n (n ∷ ms) ≡ true
has_here n ms = grind (arith, nat_tests)

has_behind : (m n : ℕ) (ms : List ℕ) → has_number n ms ≡ true → has_number n (m ∷ ms) ≡ true
has_behind m n ms has = grind (arith, nat_tests)

has_rest : (n m : ℕ) (ms : List ℕ) → m ≢ n → has_number n (m ∷ ms) ≡ true → has_number n ms ≡ true
has_rest n m ms not has = grind (arith, nat_tests)

with_step : (m n k : ℕ) (ms : List ℕ) → has_number m (with_number n (k ∷ ms)) ≡ true → (has_number m (with_number n ms) ≡ true → (n ≡ m) ⊎ (has_number m ms ≡ true)) → (n ≡ m) ⊎ (has_number m (k ∷ ms) ≡ true)
with_step m n k ms has later = grind (arith, nat_tests)

ascends-upsert_step : (lo n : ℕ) (b : List ℕ) (e : Entry) (es : List Entry) → lo ≤ n → ascends lo (e ∷ es) ≡ true → (e.0 + 1 ≤ n → ascends (e.0 + 1) (upsert n b es) ≡ true) → ascends lo (upsert n b (e ∷ es)) ≡ true
ascends-upsert_step lo n b e es from up later = grind (arith, nat_tests)

ascends_rest : (lo : ℕ) (e : Entry) (es : List Entry) → ascends lo (e ∷ es) ≡ true → (lo ≤ e.0) × (ascends (e.0 + 1) es ≡ true)
ascends_rest lo e es up = grind (arith, nat_tests)

pub ascends-upsert : (lo n : ℕ) (b : List ℕ) (es : List Entry) → lo ≤ n → ascends lo es ≡ true → ascends lo (upsert n b es) ≡ true
ascends-upsert lo n b [] from up = grind (arith, nat_tests)
ascends-upsert lo n b (e ∷ es) from up =
    ascends-upsert_step lo n b e es from up (λ le. ascends-upsert (e.0 + 1) n b es le (ascends_rest lo e es up).1)

pub length-upsert : (n : ℕ) (b : List ℕ) (es : List Entry) → length (upsert n b es) ≤ length es + 1
length-upsert n b [] = omega arith
length-upsert n b (e ∷ es) = length-upsert_step n b e es (length-upsert n b es)

pub ascends_absent : (lo m : ℕ) (es : List Entry) → ascends lo es ≡ true → m < lo → found m es ≡ None
ascends_absent lo m [] up below = refl
ascends_absent lo m (e ∷ es) up below =
    let rest = ascends_rest lo e es up in
    found_past m e es (omega (arith, rest.0)) ∙ ascends_absent (e.0 + 1) m es rest.1 (omega (arith, rest.0))

-- no later entry has the number of one
pub absent_behind : (lo i : ℕ) (es : List Entry) → ascends lo es ≡ true → i < length es → found (get_or es i (0, [])).0 (drop (suc i) es) ≡ None
absent_behind lo i [] up within = absurd (omega arith)
absent_behind lo zero (e ∷ es) up within = ascends_absent (e.0 + 1) e.0 es (ascends_rest lo e es up).1 (omega arith)
absent_behind lo (suc i) (e ∷ es) up within = absent_behind (e.0 + 1) i es (ascends_rest lo e es up).1 (omega arith)

-- the numbers

pub has_number_at : (i : ℕ) (es : List Entry) → i < length es → has_number (get_or es i (0, [])).0 (numbers_of es) ≡ true
has_number_at i [] within = absurd (omega arith)
has_number_at zero (e ∷ es) within = has_here e.0 (numbers_of es)
has_number_at (suc i) (e ∷ es) within = has_behind e.0 _ (numbers_of es) (has_number_at i es (omega arith))

pub has_found : (n : ℕ) (es : List Entry) → has_number n (numbers_of es) ≡ true → (b : List ℕ) × (found n es ≡ Some b)
has_found n [] has = absurd (cc)
has_found n (e ∷ es) has = elim (cases_eq e.0 n) [
  | inl is ↦ (e.1, found_is n e es is)
  | inr not ↦ let there = has_found n es (has_rest n e.0 (numbers_of es) not has) in (there.0, found_past n e es not ∙ there.1)
]

pub has_number-with_number : (m n : ℕ) (ms : List ℕ) → has_number m (with_number n ms) ≡ true → (n ≡ m) ⊎ (has_number m ms ≡ true)
has_number-with_number m n [] has = elim (cases_eq n m) [ inl is ↦ inl is | inr not ↦ inr (has_rest m n [] not has) ]
has_number-with_number m n (k ∷ ms) has = with_step m n k ms has (λ h. has_number-with_number m n ms h)

-- blocks that are written to their places

laid_low : (k j : ℕ) (b : List ℕ) (es : List Entry) (bs : List (List ℕ)) → j < k → laid_from k ((j, b) ∷ es) bs ≡ laid_from k es bs
laid_low k j b es [] below = refl
laid_low k j b es (c ∷ bs) below = same_cons _ _ _ _ (ap (λ o. unwrap_or o c) (found_past k (j, b) es (omega arith))) (laid_low (k + 1) j b es bs (omega arith))

laid_written : (k n j : ℕ) (b : List ℕ) (es : List Entry) (bs : List (List ℕ)) → j ≡ k + n → found j es ≡ None → laid_from k ((j, b) ∷ es) bs ≡ laid_from k es (set bs n b)
laid_written k n j b es [] is none = refl
laid_written k zero j b es (c ∷ bs) is none =
    let same : j ≡ k = omega arith in
    same_cons _ _ _ _ (ap (λ o. unwrap_or o c) (found_here k j b es same) ∙ ap (λ o. unwrap_or o b) (sym none ∙ ap (λ i. found i es) same)) (laid_low (k + 1) j b es bs (omega arith))
laid_written k (suc n) j b es (c ∷ bs) is none =
    same_cons _ _ _ _ (ap (λ o. unwrap_or o c) (found_past k (j, b) es (omega arith))) (laid_written (k + 1) n j b es bs (omega arith) none)

laid_kept : (k n j : ℕ) (b any : List ℕ) (es : List Entry) (bs : List (List ℕ)) → j ≡ k + n → found j es ≡ Some b → laid_from k es (set bs n any) ≡ laid_from k es bs
laid_kept k n j b any es [] is some = refl
laid_kept k zero j b any es (c ∷ bs) is some =
    let there : found k es ≡ Some b = let same : k ≡ j = omega arith in ap (λ i. found i es) same ∙ some in
    same_cons _ _ _ _ (ap (λ o. unwrap_or o any) there ∙ ap (λ o. unwrap_or o c) (sym there)) refl
laid_kept k (suc n) j b any es (c ∷ bs) is some = ap (λ (l : List (List ℕ)). unwrap_or (found k es) c ∷ l) (laid_kept (k + 1) n j b any es bs (omega arith) some)

-- an entry that is written need not be laid over any more
pub over_written : (n : ℕ) (b : List ℕ) (es : List Entry) (told : Option (List (List ℕ))) → found n es ≡ None → laid_over es (option_map (λ bs. set bs n b) told) ≡ laid_over ((n, b) ∷ es) told
over_written n b es None none = refl
over_written n b es (Some bs) none = ap Some (sym (laid_written 0 n n b es bs (omega arith) none))

-- what is written under an entry does not show
pub over_kept : (n : ℕ) (any : List ℕ) (es : List Entry) (told : Option (List (List ℕ))) → has_number n (numbers_of es) ≡ true → laid_over es (option_map (λ bs. set bs n any) told) ≡ laid_over es told
over_kept n any es None has = refl
over_kept n any es (Some bs) has = let there = has_found n es has in ap Some (laid_kept 0 n n there.0 any es bs (omega arith) there.1)

laid_none : (k : ℕ) (bs : List (List ℕ)) → laid_from k [] bs ≡ bs
laid_none k [] = refl
laid_none k (b ∷ bs) = ap (λ (l : List (List ℕ)). b ∷ l) (laid_none (k + 1) bs)

pub over_none : (told : Option (List (List ℕ))) → laid_over [] told ≡ told
over_none None = refl
over_none (Some bs) = ap Some (laid_none 0 bs)

pub read_pending : (n size : ℕ) (b : List ℕ) (es : List Entry) (told : Option (List (List ℕ))) → Some b ≡ found n es → n < size → IfSome told (IsWhole size) → IfSome (laid_over es told) (λ bs. b ≡ block_at bs n)
read_pending n size b es None some within whole = whole
read_pending n size b es (Some bs) some within whole =
    let count = whole.count in
    ap (λ o. unwrap_or o (block_at bs n)) some ∙ sym (block_at-laid_from 0 n n es bs (omega arith) (omega arith))

pub read_under : (n : ℕ) (b : List ℕ) (es : List Entry) (told : Option (List (List ℕ))) → found n es ≡ None → IfSome told (λ bs. b ≡ block_at bs n) → IfSome (laid_over es told) (λ bs. b ≡ block_at bs n)
read_under n b es None none is = is
read_under n b es (Some bs) none is = is ∙ sym (laid_absent 0 n n es bs (omega arith) none)

module _ (es : List Entry) (i : ℕ) (up : ascends 0 es ≡ true) (within : i < length es) (n : ℕ) (number : n ≡ (get_or es i (0, [])).0) where
  pub has_its_number : has_number n (numbers_of es) ≡ true
  has_its_number = ap (λ k. has_number k (numbers_of es)) number ∙ has_number_at i es within

  pub step_rest : (b : List ℕ) (told told' : Option (List (List ℕ))) → b ≡ (get_or es i (0, [])).1 → told' ≡ option_map (λ bs. set bs n b) told → laid_over (drop (i + 1) es) told' ≡ laid_over (drop i es) told
  step_rest b told told' bytes is =
      let none : found n (drop (i + 1) es) ≡ None = rw add-one (ap (λ k. found k (drop (suc i) es)) number ∙ absent_behind 0 i es up within) in
      let entry : ◌≡◌ {A = Entry} (n, b) (get_or es i (0, [])) = λ k. (number k, bytes k) in
      ap (laid_over (drop (i + 1) es)) is ∙ over_written n b (drop (i + 1) es) told none
      ∙ ap (λ (e : Entry). laid_over (e ∷ drop (i + 1) es) told) entry
      ∙ ap (λ (l : List Entry). laid_over l told) (sym (drop_more es i (0, []) within))

  pub step_kept : (any : List ℕ) (told told' : Option (List (List ℕ))) → told' ≡ option_map (λ bs. set bs n any) told → laid_over es told' ≡ laid_over es told
  step_kept any told told' is = ap (laid_over es) is ∙ over_kept n any es told has_its_number

pub over_done : (es : List Entry) (i : ℕ) (told : Option (List (List ℕ))) → length es ≤ i → told ≡ laid_over (drop i es) told
over_done es i told past = sym (over_none told) ∙ ap (λ (l : List Entry). laid_over l told) (sym (drop_all i es past))

-- all numbers stay below a bound
pub below-upsert : (size n : ℕ) (b : List ℕ) (es : List Entry) → n < size → ((m : ℕ) → has_number m (numbers_of es) ≡ true → m < size) → (m : ℕ) → has_number m (numbers_of (upsert n b es)) ≡ true → m < size
below-upsert size n b es within below m has =
    ⊎_elim (λ is. omega (arith, is, within)) (below m) (has_number-with_number m n (numbers_of es) (sym (ap (has_number m) (numbers_of-upsert n b es)) ∙ has))

-- an entry that is there is put in its place
length-upsert_there_step : (lo n : ℕ) (b c : List ℕ) (e : Entry) (es : List Entry) → ascends lo (e ∷ es) ≡ true → found n (e ∷ es) ≡ Some c → (n < e.0 → found n (e ∷ es) ≡ None) → (e.0 < n → length (upsert n b es) ≡ length es) → length (upsert n b (e ∷ es)) ≡ length (e ∷ es)
length-upsert_there_step lo n b c e es up some low later = grind (arith, nat_tests)

found_low : (lo n : ℕ) (e : Entry) (es : List Entry) → ascends lo (e ∷ es) ≡ true → n < e.0 → found n (e ∷ es) ≡ None
found_low lo n e es up low = found_past n e es (omega arith) ∙ ascends_absent (e.0 + 1) n es (ascends_rest lo e es up).1 (omega arith)

pub length-upsert_there : (lo n : ℕ) (b c : List ℕ) (es : List Entry) → ascends lo es ≡ true → found n es ≡ Some c → length (upsert n b es) ≡ length es
length-upsert_there lo n b c [] up some = absurd (cc)
length-upsert_there lo n b c (e ∷ es) up some =
    length-upsert_there_step lo n b c e es up some (found_low lo n e es up)
    (λ above. length-upsert_there (e.0 + 1) n b c es (ascends_rest lo e es up).1 (sym (found_past n e es (omega arith)) ∙ some))

none_step : (n : ℕ) (e : Entry) (es : List Entry) → found n (e ∷ es) ≡ None → (found n es ≡ None → has_number n (numbers_of es) ≡ false) → has_number n (numbers_of (e ∷ es)) ≡ false
none_step n e es none later = grind (arith, nat_tests)

pub none_has_not : (n : ℕ) (es : List Entry) → found n es ≡ None → has_number n (numbers_of es) ≡ false
none_has_not n [] none = refl
none_has_not n (e ∷ es) none = none_step n e es none (none_has_not n es)

-- whole blocks stay whole where one more is put among them
pub whole-upsert : (n : ℕ) (b : List ℕ) (es : List Entry) → length b ≡ 512 → AllWhole es → AllWhole (upsert n b es)
whole-upsert n b es whole all m bytes is = elim (cases_eq n m) [
  | inl same ↦ ap length (some_same bytes b (sym is ∙ found-upsert_same m n b es same)) ∙ whole
  | inr other ↦ all m bytes (sym (found-upsert_other m n b es other) ∙ is)
]
  where
    some_same : (x y : List ℕ) → Some x ≡ Some y → x ≡ y
    some_same x y same = cc

-- a place of a table whose number is not below n

ascends_least : (lo j : ℕ) (d : Entry) (es : List Entry) → ascends lo es ≡ true → j < length es → lo ≤ (get_or es j d).0
ascends_least lo j d [] up within = absurd (omega arith)
ascends_least lo zero d (e ∷ es) up within = (ascends_rest lo e es up).0
ascends_least lo (suc j) d (e ∷ es) up within =
    let later = ascends_least (e.0 + 1) j d es (ascends_rest lo e es up).1 (omega arith) in
    omega (arith, later, (ascends_rest lo e es up).0)

pub numbers_rise : (lo : ℕ) (es : List Entry) → ascends lo es ≡ true → IsNonDecreasingBy (λ (e : Entry). e.0) es
numbers_rise lo [] up i j d le within = absurd (omega arith)
numbers_rise lo (e ∷ es) up zero zero d le within = omega arith
numbers_rise lo (e ∷ es) up zero (suc j) d le within =
    let later = ascends_least (e.0 + 1) j d es (ascends_rest lo e es up).1 (omega arith) in
    omega (arith, later)
numbers_rise lo (e ∷ es) up (suc i) zero d le within = absurd (omega arith)
numbers_rise lo (e ∷ es) up (suc i) (suc j) d le within = numbers_rise (e.0 + 1) es (ascends_rest lo e es up).1 i j d (omega arith) (omega arith)

pub found_at : (n : ℕ) (es : List Entry) (i : ℕ) → ((k : ℕ) → k < i → (get_or es k (0, [])).0 < n) → i < length es → (get_or es i (0, [])).0 ≡ n → found n es ≡ Some (get_or es i (0, [])).1
found_at n [] i below within is = absurd (omega arith)
found_at n (e ∷ es) zero below within is = found_is n e es is
found_at n (e ∷ es) (suc i) below within is =
    let low : e.0 < n = below zero (omega arith) in
    found_past n e es (omega (arith, low)) ∙ found_at n es i (λ k lt. below (suc k) (omega arith)) (omega arith) is

pub found_between : (lo n : ℕ) (es : List Entry) (i : ℕ) → ascends lo es ≡ true → ((k : ℕ) → k < i → (get_or es k (0, [])).0 < n) → (i < length es → n < (get_or es i (0, [])).0) → found n es ≡ None
found_between lo n [] i up below above = refl
found_between lo n (e ∷ es) zero up below above = found_low lo n e es up (above (omega arith))
found_between lo n (e ∷ es) (suc i) up below above =
    let low : e.0 < n = below zero (omega arith) in
    found_past n e es (omega (arith, low)) ∙ found_between (e.0 + 1) n es i (ascends_rest lo e es up).1 (λ k lt. below (suc k) (omega arith)) (λ lt. above (omega arith))
