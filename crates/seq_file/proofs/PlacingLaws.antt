-- The placing of slots.
use Rattle.std.proofs.Common.{◌≡◌, ◌≢◌, ◌⊎◌, ⊎_elim, ◌≤◌, ◌<◌, ℕ, zero, suc, ◌+◌, ◌-◌, ◌++◌, List, [], ◌∷◌, length, map, take, set, get_or, Bool, true, false, if◌then◌else◌, nat_le, refl, sym, ap, subst, ◌∙◌, arith, length-append}
use Rattle.std.proofs.lemmas.List.{map-append, set-append_left, set-append_right, take-append-le, get_or_append_left, get_or-append-add}
use Rattle.std.proofs.lemmas.Bool.Decides.{nat_tests}
use Rattle.std.proofs.lemmas.Bool.{cases_lt, cases_eq}
use Rattle.bucket_page.specs.Pages.{joined}
use Rattle.bucket_page.proofs.PageLaws.{joined-append}
use Rattle.change_set.specs.records_model.Placing.{Filled, filled_more, filled_by, first_bucket}
use Rattle.seq_file.specs.Placing.{slots_along, BeginsAnew, IsFilled, FilledIsPlaced, PrefixPlaces, buckets_for}

abbrev Slots : Type 0
Slots = List (List ℕ)

abbrev fill : ℕ → ℕ → Filled
fill n m = record { buckets = n; bytes = m }

more_fits : (cap n m size : ℕ) → m + size ≤ cap → filled_more cap (fill n m) size ≡ fill n (m + size)
more_fits cap n m size fits = λ i. record { buckets = picks i; bytes = sums i }
  where
    picks : (if nat_le (m + size) cap then n else n + 1) ≡ n
    picks = grind (arith, nat_tests)

    sums : (if nat_le (m + size) cap then m + size else size) ≡ m + size
    sums = grind (arith, nat_tests)

more_next : (cap n m size : ℕ) → cap < m + size → filled_more cap (fill n m) size ≡ fill (n + 1) size
more_next cap n m size over = λ i. record { buckets = picks i; bytes = sums i }
  where
    picks : (if nat_le (m + size) cap then n else n + 1) ≡ n + 1
    picks = grind (arith, nat_tests)

    sums : (if nat_le (m + size) cap then m + size else size) ≡ size
    sums = grind (arith, nat_tests)

-- slots that all fit into what is left
fits_all : (cap n m : ℕ) (ss : Slots) → m + length (joined ss) ≤ cap → filled_by cap (fill n m) (map length ss) ≡ fill n (m + length (joined ss))
fits_all cap n m [] fits = let e : m ≡ m + 0 = omega arith in ap (fill n) e
fits_all cap n m (s ∷ ss) fits =
    let size = length-append s (joined ss) in
    let e : m + length s + length (joined ss) ≡ m + length (s ++ joined ss) = omega (arith, size) in
    ap (λ f. filled_by cap f (map length ss)) (more_fits cap n m (length s) (omega (arith, size))) ∙ fits_all cap n (m + length s) ss (omega (arith, size)) ∙ ap (fill n) e

filled_by-append : (cap : ℕ) (f : Filled) (a b : List ℕ) → filled_by cap f (a ++ b) ≡ filled_by cap (filled_by cap f a) b
filled_by-append cap f [] b = refl
filled_by-append cap f (x ∷ a) b = filled_by-append cap (filled_more cap f x) a b

-- a bucket's slots, where the first did not fit into the one before
fills_next : (cap n m : ℕ) (before ss : Slots) → m ≡ length (joined before) → BeginsAnew cap before ss → length (joined ss) ≤ cap → filled_by cap (fill n m) (map length ss) ≡ fill (n + 1) (length (joined ss))
fills_next cap n m before [] is anew fits = absurd anew
fills_next cap n m before (s ∷ ss) is anew fits =
    let size = length-append s (joined ss) in
    ap (λ f. filled_by cap f (map length ss)) (more_next cap n m (length s) (omega (arith, anew, is))) ∙ fits_all cap (n + 1) (length s) ss (omega (arith, size)) ∙ ap (fill (n + 1)) (sym size)

filled_is : (cap : ℕ) (S : ℕ → Slots) (n : ℕ) → IsFilled cap S (suc n) → filled_by cap first_bucket (map length (slots_along S (suc n))) ≡ fill (suc n) (length (joined (S n)))
filled_is cap S zero filled = fits_all cap 1 0 (S 0) (omega (arith, filled.fits 0 (omega arith))) ∙ ap (fill 1) (plus_none (length (joined (S 0))))
  where
    plus_none : (m : ℕ) → 0 + m ≡ m
    plus_none m = omega arith
filled_is cap S (suc n) filled =
    let before : IsFilled cap S (suc n) = record { fits = λ i below. filled.fits i (omega arith); next = λ i below. filled.next i (omega arith) } in
    let count : suc n + 1 ≡ suc (suc n) = omega arith in
    ap (filled_by cap first_bucket) (map-append length (slots_along S (suc n)) (S (suc n)))
    ∙ filled_by-append cap first_bucket (map length (slots_along S (suc n))) (map length (S (suc n)))
    ∙ ap (λ f. filled_by cap f (map length (S (suc n)))) (filled_is cap S n before)
    ∙ fills_next cap (suc n) (length (joined (S n))) (S n) (S (suc n)) refl (filled.next n (omega arith)) (filled.fits (suc n) (omega arith))
    ∙ ap (λ m. fill m (length (joined (S (suc n))))) count

pub filled_is_placed : FilledIsPlaced
filled_is_placed cap S zero one filled = absurd (omega arith)
filled_is_placed cap S (suc n) one filled = ap (λ (f : Filled). f.buckets) (filled_is cap S n filled)

-- what the last of them has
pub filled_last : (cap : ℕ) (S : ℕ → Slots) (used : ℕ) → 1 ≤ used → IsFilled cap S used → filled_by cap first_bucket (map length (slots_along S used)) ≡ fill used (length (joined (S (used - 1))))
filled_last cap S zero one filled = absurd (omega arith)
filled_last cap S (suc n) one filled = let e : n ≡ suc n - 1 = omega arith in filled_is cap S n filled ∙ ap (λ m. fill (suc n) (length (joined (S m)))) e

-- one slot more
pub filled_one_more : (cap : ℕ) (sizes : List ℕ) (size n m : ℕ) → filled_by cap first_bucket sizes ≡ fill n m → n + (if nat_le (m + size) cap then 0 else 1) ≡ buckets_for cap (sizes ++ size ∷ [])
filled_one_more cap sizes size n m filled =
    added (nat_le (m + size) cap) ∙ ap (λ (f : Filled). (filled_more cap f size).buckets) (sym filled) ∙ ap (λ (f : Filled). f.buckets) (sym (filled_by-append cap first_bucket sizes (size ∷ [])))
  where
    added : (t : Bool) → n + (if t then 0 else 1) ≡ (if t then n else n + 1)
    added true = omega arith
    added false = refl

-- the first slots
more_grows : (cap : ℕ) (f : Filled) (size : ℕ) → f.buckets ≤ (filled_more cap f size).buckets
more_grows cap f size = grows (nat_le (f.bytes + size) cap)
  where
    grows : (t : Bool) → f.buckets ≤ (if t then f.buckets else f.buckets + 1)
    grows true = omega arith
    grows false = omega arith

by_grows : (cap : ℕ) (f : Filled) (sizes : List ℕ) → f.buckets ≤ (filled_by cap f sizes).buckets
by_grows cap f [] = omega arith
by_grows cap f (size ∷ sizes) = omega (arith, more_grows cap f size, by_grows cap (filled_more cap f size) sizes)

prefix_by : (cap : ℕ) (f : Filled) (sizes : List ℕ) (n : ℕ) → (filled_by cap f (take n sizes)).buckets ≤ (filled_by cap f sizes).buckets
prefix_by cap f sizes zero = by_grows cap f sizes
prefix_by cap f [] (suc n) = omega arith
prefix_by cap f (size ∷ sizes) (suc n) = prefix_by cap (filled_more cap f size) sizes n

pub prefix_places : PrefixPlaces
prefix_places cap sizes n = prefix_by cap first_bucket sizes n

-- buckets that are the same have the same slots along them
pub slots_along_same : (S T : ℕ → Slots) (n : ℕ) → ((i : ℕ) → i < n → T i ≡ S i) → slots_along T n ≡ slots_along S n
slots_along_same S T zero same = refl
slots_along_same S T (suc n) same = λ i. slots_along_same S T n (λ k below. same k (omega arith)) i ++ same n (omega arith) i

-- one bucket behind others that are the same
pub slots_along_last : (S T : ℕ → Slots) (k : ℕ) (X : Slots) → T k ≡ X → ((i : ℕ) → i < k → T i ≡ S i) → slots_along T (suc k) ≡ slots_along S k ++ X
slots_along_last S T k X is same = λ i. slots_along_same S T k same i ++ is i

-- the slots of one bucket are among those along more
pub along_long : (S : ℕ → Slots) (n k : ℕ) → k < n → length (slots_along S k) + length (S k) ≤ length (slots_along S n)
along_long S zero k below = absurd (omega arith)
along_long S (suc n) k below = ⊎_elim
    (λ less. omega (arith, along_long S n k less, length-append (slots_along S n) (S n)))
    (λ not. let e : k ≡ n = omega arith in omega (arith, length-append (slots_along S n) (S n), ap (λ i. length (slots_along S i)) e, ap (λ i. length (S i)) e))
    (cases_lt k n)

-- a slot of one bucket among those along more
pub along_get : (S : ℕ → Slots) (n k j : ℕ) (d : List ℕ) → k < n → j < length (S k) → get_or (slots_along S n) (length (slots_along S k) + j) d ≡ get_or (S k) j d
along_get S zero k j d below there = absurd (omega arith)
along_get S (suc n) k j d below there = ⊎_elim
    (λ less. get_or_append_left (slots_along S n) (S n) d (length (slots_along S k) + j) (omega (arith, along_long S n k less)) ∙ along_get S n k j d less there)
    (λ not. let e : k ≡ n = omega arith in
    ap (λ m. get_or (slots_along S n ++ S n) (length (slots_along S m) + j) d) e ∙ get_or-append-add (slots_along S n) (S n) j d ∙ ap (λ m. get_or (S m) j d) (sym e))
    (cases_lt k n)

-- the first slots along more buckets
pub along_take : (S : ℕ → Slots) (n k m : ℕ) → k < n → m ≤ length (slots_along S (suc k)) → take m (slots_along S n) ≡ take m (slots_along S (suc k))
along_take S zero k m below few = absurd (omega arith)
along_take S (suc n) k m below few = ⊎_elim
    (λ less. take-append-le m (slots_along S n) (S n) (omega (arith, along_long S n k less, length-append (slots_along S k) (S k))) ∙ along_take S n k m less few)
    (λ not. let e : suc n ≡ suc k = omega arith in ap (λ i. take m (slots_along S i)) e)
    (cases_lt k n)

-- one slot of one bucket is another
pub slots_along_set : (S T : ℕ → Slots) (n k j : ℕ) (slot : List ℕ) → k < n → j < length (S k) → T k ≡ set (S k) j slot → ((i : ℕ) → i ≢ k → T i ≡ S i)
    → slots_along T n ≡ set (slots_along S n) (length (slots_along S k) + j) slot
slots_along_set S T zero k j slot below there is others = absurd (omega arith)
slots_along_set S T (suc n) k j slot below there is others = ⊎_elim
    (λ less. (λ i. slots_along_set S T n k j slot less there is others i ++ others n (λ e. omega arith) i)
    ∙ sym (set-append_left (slots_along S n) (S n) (length (slots_along S k) + j) slot (omega (arith, along_long S n k less))))
    (λ not. let e : k ≡ n = omega arith in
    let here : T n ≡ set (S n) j slot = subst (λ (m : ℕ). T m ≡ set (S m) j slot) e is in
    let back : length (slots_along S n) + j - length (slots_along S n) ≡ j = omega arith in
    slots_along_last S T n (set (S n) j slot) here (λ i less. others i (λ same. omega arith))
    ∙ ap (λ m. slots_along S n ++ set (S n) m slot) (sym back)
    ∙ sym (set-append_right (slots_along S n) (S n) (length (slots_along S n)) (length (slots_along S n) + j) slot refl (omega arith))
    ∙ ap (λ m. set (slots_along S n ++ S n) (length (slots_along S m) + j) slot) (sym e))
    (cases_lt k n)

-- slots that begin anew behind others
begins_append : (cap : ℕ) (p q r : Slots) → BeginsAnew cap p q → BeginsAnew cap p (q ++ r)
begins_append cap p [] r anew = absurd anew
begins_append cap p (s ∷ q) r anew = anew

begins_take : (cap j : ℕ) (p q : Slots) → 1 ≤ j → BeginsAnew cap p q → BeginsAnew cap p (take j q)
begins_take cap zero p q one anew = absurd (omega arith)
begins_take cap (suc j) p [] one anew = absurd anew
begins_take cap (suc j) p (s ∷ q) one anew = anew

begins_sized : (cap : ℕ) (p p' q q' : Slots) → length (joined p') ≡ length (joined p) → map length q' ≡ map length q → BeginsAnew cap p q → BeginsAnew cap p' q'
begins_sized cap p p' [] q' same sizes anew = absurd anew
begins_sized cap p p' (s ∷ q) [] same sizes anew = cc
begins_sized cap p p' (s ∷ q) (t ∷ q') same sizes anew = let e : length t ≡ length s = cc in omega (arith, anew)

pub joined_sized : (p p' : Slots) → map length p' ≡ map length p → length (joined p') ≡ length (joined p)
joined_sized [] [] same = refl
joined_sized [] (t ∷ p') same = cc
joined_sized (s ∷ p) [] same = cc
joined_sized (s ∷ p) (t ∷ p') same =
    let e : length t ≡ length s = cc in
    let rest : map length p' ≡ map length p = cc in
    omega (arith, length-append s (joined p), length-append t (joined p'), joined_sized p p' rest)

pub joined_push : (a : Slots) (s : List ℕ) → length (joined (a ++ s ∷ [])) ≡ length (joined a) + length s
joined_push a s = omega (arith, ap length (joined-append a (s ∷ [])), length-append (joined a) (s ++ []), length-append s [])

-- a slot more in the last bucket
pub filled_push : (cap : ℕ) (S T : ℕ → Slots) (k used : ℕ) (slot : List ℕ) → used ≡ suc k → IsFilled cap S used → T k ≡ S k ++ slot ∷ [] → ((i : ℕ) → i ≢ k → T i ≡ S i)
    → length (joined (S k)) + length slot ≤ cap → IsFilled cap T used
filled_push cap S T k used slot last filled is others fits = record {
  fits = λ i below. ⊎_elim
      (λ e. let at = ap (λ m. length (joined (T m))) e in let now = ap (λ ss. length (joined ss)) is in omega (arith, at, now, joined_push (S k) slot))
      (λ not. let now = ap (λ ss. length (joined ss)) (others i not) in let was = filled.fits i below in omega (arith, now, was))
      (cases_eq i k);
  next = λ i below. ⊎_elim
      (λ e. subst (λ (ss : Slots). BeginsAnew cap (T i) ss) (sym (ap T e ∙ is))
      (begins_append cap (T i) (S k) (slot ∷ []) (subst (λ (ss : Slots). BeginsAnew cap ss (S k)) (sym (others i (λ same. omega arith)))
      (subst (λ (m : ℕ). BeginsAnew cap (S i) (S m)) e (filled.next i below)))))
      (λ not. let P : Slots → Slots → Type 0 = λ a b. BeginsAnew cap a b in
      subst (λ (ss : Slots). BeginsAnew cap ss (T (suc i))) (sym (others i (λ same. omega arith)))
      (subst (λ (ss : Slots). BeginsAnew cap (S i) ss) (sym (others (suc i) not)) (filled.next i below)))
      (cases_eq (suc i) k);
}

-- a slot in the next bucket, where it did not fit into the last one
pub filled_next : (cap : ℕ) (S T : ℕ → Slots) (k used : ℕ) (slot : List ℕ) → used ≡ suc k → IsFilled cap S used → T used ≡ slot ∷ [] → ((i : ℕ) → i ≢ used → T i ≡ S i)
    → cap < length (joined (S k)) + length slot → length slot ≤ cap → IsFilled cap T (used + 1)
filled_next cap S T k used slot last filled is others over alone = record {
  fits = λ i below. ⊎_elim
      (λ e. let at = ap (λ m. length (joined (T m))) e in let now = ap (λ ss. length (joined ss)) is in omega (arith, at, now, length-append slot []))
      (λ not. let now = ap (λ ss. length (joined ss)) (others i not) in let was = filled.fits i (omega arith) in omega (arith, now, was))
      (cases_eq i used);
  next = λ i below. ⊎_elim
      (λ e. subst (λ (ss : Slots). BeginsAnew cap (T i) ss) (sym (ap T e ∙ is))
      (let same : i ≡ k = omega arith in let now = ap (λ ss. length (joined ss)) (others i (λ eq. omega arith)) in let at = ap (λ m. length (joined (S m))) same in omega (arith, over, now, at)))
      (λ not. subst (λ (ss : Slots). BeginsAnew cap ss (T (suc i))) (sym (others i (λ same. omega arith)))
      (subst (λ (ss : Slots). BeginsAnew cap (S i) ss) (sym (others (suc i) not)) (filled.next i (omega arith))))
      (cases_eq (suc i) used);
}

length-joined-take : (j : ℕ) (ss : Slots) → length (joined (take j ss)) ≤ length (joined ss)
length-joined-take zero ss = omega arith
length-joined-take (suc j) [] = omega arith
length-joined-take (suc j) (s ∷ ss) = omega (arith, length-joined-take j ss, length-append s (joined ss), length-append s (joined (take j ss)))

-- the first buckets
pub filled_fewer : (cap : ℕ) (S : ℕ → Slots) (used n : ℕ) → IsFilled cap S used → n ≤ used → IsFilled cap S n
filled_fewer cap S used n filled few = record { fits = λ i below. filled.fits i (omega arith); next = λ i below. filled.next i (omega arith) }

-- the first buckets, the last of them with its first slots alone
pub filled_take : (cap : ℕ) (S T : ℕ → Slots) (k j used : ℕ) → k < used → IsFilled cap S used → T k ≡ take j (S k) → ((i : ℕ) → i ≢ k → T i ≡ S i) → ((k ≡ 0) ⊎ (1 ≤ j)) → IsFilled cap T (suc k)
filled_take cap S T k j used below filled is others some = record {
  fits = λ i less. ⊎_elim
      (λ e. let at = ap (λ m. length (joined (T m))) e in let now = ap (λ ss. length (joined ss)) is in let was = filled.fits k below in omega (arith, at, now, was, length-joined-take j (S k)))
      (λ not. let now = ap (λ ss. length (joined ss)) (others i not) in let was = filled.fits i (omega arith) in omega (arith, now, was))
      (cases_eq i k);
  next = λ i less. ⊎_elim
      (λ e. subst (λ (ss : Slots). BeginsAnew cap (T i) ss) (sym (ap T e ∙ is))
      (begins_take cap j (T i) (S k) (⊎_elim (λ none. omega arith) (λ one. one) some) (subst (λ (ss : Slots). BeginsAnew cap ss (S k)) (sym (others i (λ same. omega arith)))
      (subst (λ (m : ℕ). BeginsAnew cap (S i) (S m)) e (filled.next i (omega arith))))))
      (λ not. subst (λ (ss : Slots). BeginsAnew cap ss (T (suc i))) (sym (others i (λ same. omega arith)))
      (subst (λ (ss : Slots). BeginsAnew cap (S i) ss) (sym (others (suc i) not)) (filled.next i (omega arith))))
      (cases_eq (suc i) k);
}

-- slots of the same sizes
pub filled_sized : (cap : ℕ) (S T : ℕ → Slots) (used : ℕ) → IsFilled cap S used → ((i : ℕ) → map length (T i) ≡ map length (S i)) → IsFilled cap T used
filled_sized cap S T used filled sizes = record {
  fits = λ i below. let now = joined_sized (S i) (T i) (sizes i) in let was = filled.fits i below in omega (arith, now, was);
  next = λ i below. begins_sized cap (S i) (T i) (S (suc i)) (T (suc i)) (joined_sized (S i) (T i) (sizes i)) (sizes (suc i)) (filled.next i below);
}

-- buckets that are the same
pub filled_alike : (cap : ℕ) (S T : ℕ → Slots) (n : ℕ) → ((i : ℕ) → i < n → T i ≡ S i) → IsFilled cap S n → IsFilled cap T n
filled_alike cap S T n alike filled = record {
  fits = λ i below. let now = ap (λ ss. length (joined ss)) (alike i below) in let was = filled.fits i below in omega (arith, now, was);
  next = λ i below. subst (λ (ss : Slots). BeginsAnew cap (T i) ss) (sym (alike (suc i) below))
      (subst (λ (ss : Slots). BeginsAnew cap ss (S (suc i))) (sym (alike i (omega arith))) (filled.next i below));
}
