-- Decimal digits, in words and between quotes.
use Rattle.std.proofs.Common.{◌≡◌, ℕ, ◌+◌, ◌*◌, ◌-◌, ◌/◌, ◌%◌, ◌^◌, ◌<◌, ◌≤◌, ◌==◌, ◌||◌, List, [], ◌∷◌, ◌++◌, Bool, true, false, Option, Some, None, length, decimal, refl, ◌∙◌, ap, arith}
use Rattle.std.specs.Option.{option_and_then}
use Rattle.std.specs.List.{AllByRecursion, list_all}
use Rattle.std.specs.Char.{is_ascii_alphabetic, is_ascii_digit}
use Rattle.std.proofs.lemmas.Bool.{ne_eqb, le-leb}
use Rattle.std.proofs.lemmas.Fmt.{decimal_by_steps, decimal_nonempty, length-decimal-le}
use Rattle.vms_model.specs.Names.{in_name, label_named, upper}
use Rattle.vms_model.specs.Words.{number_from, number_next, number_up_to}
use Rattle.run_model.specs.script_model.LineWords.{Between, Inside, Quoted, word_rest}
use Rattle.run_model.specs.script_model.Operands.{to_quote}
use Rattle.day_model.proofs.Hearing.{texts_from}

-- a decimal digit; and a byte that may stand in a word and between quotes
abbrev pub IsDigit : ℕ → Type 0
IsDigit b = (48 ≤ b) × (b ≤ 57)

abbrev pub IsClear : ℕ → Type 0
IsClear b = (48 ≤ b) × (b ≤ 122)

abbrev pub Digits : List ℕ → Type 0
Digits ds = AllByRecursion IsDigit ds

abbrev pub AreClear : List ℕ → Type 0
AreClear ds = AllByRecursion IsClear ds

digits_on : (xs ys : List ℕ) → Digits xs → Digits ys → Digits (xs ++ ys)
digits_on [] ys h k = k
digits_on (x ∷ xs) ys h k = (h.0, digits_on xs ys h.1 k)

pub decimal_digits : (n : ℕ) → n < 2 ^ 64 → Digits (decimal n)
decimal_digits = decimal_by_steps (λ m ds. Digits ds) (λ m l. ((omega arith, omega arith), tt)) (λ m ds l h. digits_on ds ((48 + m % 10) ∷ []) h ((omega arith, omega arith), tt))

pub digits_clear : (ds : List ℕ) → Digits ds → AreClear ds
digits_clear [] h = tt
digits_clear (d ∷ ds) h = ((omega (arith, h.0.0), omega (arith, h.0.1)), digits_clear ds h.1)

pub clear_on : (xs ys : List ℕ) → AreClear xs → AreClear ys → AreClear (xs ++ ys)
clear_on [] ys h k = k
clear_on (x ∷ xs) ys h k = (h.0, clear_on xs ys h.1 k)

no_space : (b : ℕ) → IsClear b → (b == 32) ≡ false
no_space b h = ne_eqb b 32 (λ e. omega (arith, e, h.0))

no_quote : (b : ℕ) → IsClear b → (b == 34) ≡ false
no_quote b h = ne_eqb b 34 (λ e. omega (arith, e, h.0))

-- In a word.

pub rest_end : (ds : List ℕ) → AreClear ds → word_rest Inside ds ≡ ds
rest_end [] h = refl
rest_end (d ∷ ds) h = rw (no_space d h.0) (ap (λ t. d ∷ t) (rest_end ds h.1))

pub inside_end : (ds : List ℕ) → AreClear ds → texts_from Inside ds ≡ []
inside_end [] h = refl
inside_end (d ∷ ds) h = rw (texts_from, no_space d h.0) (inside_end ds h.1)

pub rest_then : (ds more : List ℕ) → AreClear ds → word_rest Inside (ds ++ (32 ∷ more)) ≡ ds
rest_then [] more h = refl
rest_then (d ∷ ds) more h = rw (no_space d h.0) (ap (λ t. d ∷ t) (rest_then ds more h.1))

pub inside_then : (ds more : List ℕ) → AreClear ds → texts_from Inside (ds ++ (32 ∷ more)) ≡ texts_from Between more
inside_then [] more h = refl
inside_then (d ∷ ds) more h = rw (texts_from, no_space d h.0) (inside_then ds more h.1)

-- a word of its own

pub word_end : (ds : List ℕ) → AreClear ds → 0 < length ds → texts_from Between ds ≡ ds ∷ []
word_end [] h some = absurd (omega (arith, some))
word_end (d ∷ ds) h some = rw (no_space d h.0, no_quote d h.0) (λ i. (d ∷ rest_end ds h.1 i) ∷ inside_end ds h.1 i)

pub word_then : (ds more : List ℕ) → AreClear ds → 0 < length ds → texts_from Between (ds ++ (32 ∷ more)) ≡ ds ∷ texts_from Between more
word_then [] more h some = absurd (omega (arith, some))
word_then (d ∷ ds) more h some = rw (no_space d h.0, no_quote d h.0) (λ i. (d ∷ rest_then ds more h.1 i) ∷ inside_then ds more h.1 i)

-- Between quotes, up to the end.

pub rest_quoted : (ds : List ℕ) → AreClear ds → word_rest Quoted (ds ++ (34 ∷ [])) ≡ ds ++ (34 ∷ [])
rest_quoted [] h = refl
rest_quoted (d ∷ ds) h = rw (no_quote d h.0) (ap (λ t. d ∷ t) (rest_quoted ds h.1))

pub inside_quoted : (ds : List ℕ) → AreClear ds → texts_from Quoted (ds ++ (34 ∷ [])) ≡ []
inside_quoted [] h = refl
inside_quoted (d ∷ ds) h = rw (texts_from, no_quote d h.0) (inside_quoted ds h.1)

pub quoted_said : (ds : List ℕ) → AreClear ds → to_quote (ds ++ (34 ∷ [])) ≡ Some ds
quoted_said [] h = refl
quoted_said (d ∷ ds) h = rw (no_quote d h.0, le-leb 32 d (omega (arith, h.0)), le-leb d 126 (omega (arith, h.0)), quoted_said ds h.1) refl

-- A label.

digit : (b : ℕ) → IsDigit b → is_ascii_digit b ≡ true
digit b h = rw (le-leb 48 b h.0, le-leb b 57 h.1) refl

or_true : (a b : Bool) → b ≡ true → (a || b) ≡ true
or_true true b e = refl
or_true false b e = e

or_left : (a b : Bool) → a ≡ true → (a || b) ≡ true
or_left a b e = rw e refl

in_label : (b : ℕ) → IsDigit b → in_name (95 ∷ []) b ≡ true
in_label b h = or_left (is_ascii_alphabetic b || is_ascii_digit b) _ (or_true (is_ascii_alphabetic b) (is_ascii_digit b) (digit b h))

all_in_label : (ds : List ℕ) → Digits ds → list_all (in_name (95 ∷ [])) ds ≡ true
all_in_label [] h = refl
all_in_label (d ∷ ds) h = rw (in_label d h.0) (all_in_label ds h.1)

-- a letter and at most 14 digits behind it
pub label_said : (letter : ℕ) (ds : List ℕ) → ((65 ≤ letter) × (letter ≤ 90)) → Digits ds → length ds ≤ 14 → label_named (letter ∷ ds) ≡ Some (upper (letter ∷ ds))
label_said letter ds l h few =
    let alpha : in_name (95 ∷ []) letter ≡ true = rw (le-leb 65 letter l.0, le-leb letter 90 l.1) refl in
    rw (le-leb 65 letter l.0, le-leb letter 90 l.1, all_in_label ds h, le-leb (length (letter ∷ ds)) 15 (omega (arith, few))) refl

-- A number.

number_on : (limit n : ℕ) (xs : List ℕ) (d : ℕ) → number_from limit n (xs ++ (d ∷ [])) ≡ option_and_then (λ m. number_next limit m d) (number_from limit n xs)
number_on limit n [] d = last (number_next limit n d)
  where
    last : (o : Option ℕ) → option_and_then (λ m. Some m) o ≡ o
    last None = refl
    last (Some m) = refl
number_on limit n (x ∷ xs) d = by (number_next limit n x) (λ m. number_on limit m xs d)
  where
    by : (o : Option ℕ) → ((m : ℕ) → number_from limit m (xs ++ (d ∷ [])) ≡ option_and_then (λ k. number_next limit k d) (number_from limit m xs)) → option_and_then (λ m. number_from limit m (xs ++ (d ∷ []))) o ≡ option_and_then (λ m. number_next limit m d) (option_and_then (λ m. number_from limit m xs) o)
    by None more = refl
    by (Some m) more = more m

next_digit : (limit n d : ℕ) → d < 10 → n * 10 + d ≤ limit → number_next limit n (48 + d) ≡ Some (n * 10 + d)
next_digit limit n d small le =
    let same : 48 + d - 48 ≡ d = omega arith in
    rw (digit (48 + d) (omega (arith, small), omega (arith, small)), same, le-leb (n * 10 + d) limit le) refl

decimal_number : (n : ℕ) → n < 2 ^ 64 → (limit : ℕ) → n ≤ limit → number_from limit 0 (decimal n) ≡ Some n
decimal_number = decimal_by_steps (λ m ds. (limit : ℕ) → m ≤ limit → number_from limit 0 ds ≡ Some m) one more
  where
    one : (m : ℕ) → m < 10 → (limit : ℕ) → m ≤ limit → number_from limit 0 ((48 + m) ∷ []) ≡ Some m
    one m small limit le =
        let zero_on : 0 * 10 + m ≡ m = omega arith in
        number_on limit 0 [] (48 + m) ∙ next_digit limit 0 m small (omega (arith, le)) ∙ ap Some zero_on

    more : (m : ℕ) (ds : List ℕ) → 10 ≤ m → ((limit : ℕ) → m / 10 ≤ limit → number_from limit 0 ds ≡ Some (m / 10)) → (limit : ℕ) → m ≤ limit → number_from limit 0 (ds ++ ((48 + m % 10) ∷ [])) ≡ Some m
    more m ds l h limit le =
        let parts : m / 10 * 10 + m % 10 ≡ m = omega arith in
        number_on limit 0 ds (48 + m % 10) ∙ ap (option_and_then (λ k. number_next limit k (48 + m % 10))) (h limit (omega (arith, le)))
        ∙ next_digit limit (m / 10) (m % 10) (omega arith) (omega (arith, parts, le)) ∙ ap Some parts

pub number_said : (limit n : ℕ) → n < 2 ^ 64 → n ≤ limit → number_up_to limit (decimal n) ≡ Some n
number_said limit n small le =
    rw (le-leb 1 (length (decimal n)) (omega (arith, decimal_nonempty n small)), le-leb (length (decimal n)) 20 (length-decimal-le 20 n (omega arith) (omega (arith, small)) small)) (decimal_number n small limit le)
