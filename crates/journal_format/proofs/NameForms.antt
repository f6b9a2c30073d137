-- The name in an id: its bytes up to the first zero, and zeros behind it.
use Rattle.std.proofs.Common.{◌≡◌, ℕ, zero, suc, ◌<◌, ◌≤◌, ◌-◌, ◌++◌, ◌&&◌, ◌||◌, Bool, true, false, List, [], ◌∷◌, length, get_or, replicate, Some, None, cond, eqb, not, refl, ap, arith}
use Rattle.std.specs.Prelude.{nat_le}
use Rattle.std.specs.List.{list_all}
use Rattle.std.specs.Char.{to_ascii_uppercase, is_ascii_alphabetic}
use Rattle.std.proofs.lemmas.Bool.{false≢true}
use Rattle.std.proofs.lemmas.Bool.Decides.{nat_tests}
use Rattle.vms_base.specs.vms_model.Names.{in_name, is_name, node_named, upper}
use Rattle.vms_base.specs.Ids.{until_zero}
use Rattle.vms_base.proofs.NameLemmas.{both, chosen}
use Rattle.journal_format.specs.IdForms.{is_letter, is_letter_or_digit}

-- a byte that may stand in a name behind another
abbrev pub follows : ℕ → ℕ → Bool
follows before b = eqb b 0 || (not (eqb before 0) && is_letter_or_digit b)

abbrev pub Chain : ℕ → List ℕ → Type 0
Chain before [] = Unit {0}
Chain before (b ∷ bs) = (follows before b ≡ true) × Chain b bs

behind_zero : (b : ℕ) → follows 0 b ≡ true → b ≡ 0
behind_zero b h = grind (arith, nat_tests)

pub all_zeros : (bs : List ℕ) → Chain 0 bs → bs ≡ replicate (length bs) 0
all_zeros [] h = refl
all_zeros (zero ∷ bs) h = ap (λ (t : List ℕ). 0 ∷ t) (all_zeros bs h.1)
all_zeros (suc b ∷ bs) h = let z : suc b ≡ 0 = behind_zero (suc b) h.0 in absurd (omega arith)

-- what stands in a list up to its first zero
pub record Named (bs : List ℕ) : Type 0 where
  pub words : list_all is_letter_or_digit (until_zero bs) ≡ true
  pub few : length (until_zero bs) ≤ length bs
  pub zeros : bs ≡ until_zero bs ++ replicate (length bs - length (until_zero bs)) 0

not_nothing : (b : ℕ) → eqb (suc b) 0 ≡ false
not_nothing b = grind (arith, nat_tests)

pub joined : (a b : Bool) → a ≡ true → b ≡ true → (a && b) ≡ true
joined true b h k = k
joined false b h k = absurd (false≢true h)

word_of : (before b : ℕ) → follows before (suc b) ≡ true → is_letter_or_digit (suc b) ≡ true
word_of before b h = grind (arith, nat_tests)

pub named_front : (before : ℕ) (bs : List ℕ) → Chain before bs → Named bs
named_front before [] h = record { words = refl; few = omega arith; zeros = refl }
named_front before (zero ∷ bs) h =
    let all : suc (length bs) - 0 ≡ suc (length bs) = omega arith in
    record { words = refl; few = omega arith; zeros = rw all (all_zeros (0 ∷ bs) (refl, h.1)) }
named_front before (suc b ∷ bs) h =
    let rest = named_front (suc b) bs h.1 in
    record {
      words = rw (not_nothing b) (joined _ _ (word_of before b h.0) rest.words);
      few = rw (not_nothing b) (let f = rest.few in omega arith);
      zeros = rw (not_nothing b) (let same : suc (length bs) - suc (length (until_zero bs)) ≡ length bs - length (until_zero bs) = omega arith in rw same (ap (λ (t : List ℕ). suc b ∷ t) rest.zeros));
    }

-- what stands behind a zero does not count
pub until_seam : (bs rest : List ℕ) → until_zero (bs ++ 0 ∷ rest) ≡ until_zero bs
until_seam [] rest = refl
until_seam (zero ∷ bs) rest = refl
until_seam (suc b ∷ bs) rest = rw (not_nothing b) (ap (λ (t : List ℕ). suc b ∷ t) (until_seam bs rest))

pub two_more : (m : ℕ) → replicate {A = ℕ} m 0 ++ 0 ∷ 0 ∷ [] ≡ replicate {A = ℕ} (suc (suc m)) 0
two_more zero = refl
two_more (suc m) = ap (λ (t : List ℕ). 0 ∷ t) (two_more m)

word_kept : (b : ℕ) → is_letter_or_digit b ≡ true → to_ascii_uppercase b ≡ b
word_kept b h = grind (arith, nat_tests)

word_in_name : (b : ℕ) → is_letter_or_digit b ≡ true → in_name [] b ≡ true
word_in_name b h = grind (arith, nat_tests)

pub words_kept : (bs : List ℕ) → list_all is_letter_or_digit bs ≡ true → upper bs ≡ bs
words_kept [] h = refl
words_kept (b ∷ bs) h = let p = both (is_letter_or_digit b) (list_all is_letter_or_digit bs) h in rw (word_kept b p.0, words_kept bs p.1) refl

pub words_in_name : (bs : List ℕ) → list_all is_letter_or_digit bs ≡ true → list_all (in_name []) bs ≡ true
words_in_name [] h = refl
words_in_name (b ∷ bs) h = let p = both (is_letter_or_digit b) (list_all is_letter_or_digit bs) h in joined _ _ (word_in_name b p.0) (words_in_name bs p.1)

letter_is : (b : ℕ) → is_letter b ≡ true → is_letter_or_digit b ≡ true
letter_is b h = grind (arith, nat_tests)

letter_begins : (b : ℕ) → is_letter b ≡ true → is_ascii_alphabetic b ≡ true
letter_begins b h = grind (arith, nat_tests)

few_enough : (n : ℕ) → n ≤ 6 → nat_le n 6 ≡ true
few_enough n h = grind (arith, nat_tests)

taken : (t : Bool) (xs ys : List ℕ) → t ≡ true → xs ≡ ys → cond t (Some xs) None ≡ Some ys
taken true xs ys h is = ap Some is
taken false xs ys h is = absurd (false≢true h)

-- capital letters and digits are a node's name where the first is a letter and they are few
pub name_of_words : (b : ℕ) (bs : List ℕ) → is_letter b ≡ true → list_all is_letter_or_digit bs ≡ true → suc (length bs) ≤ 6 → node_named (b ∷ bs) ≡ Some (b ∷ bs)
name_of_words b bs letter words few =
    let all : list_all is_letter_or_digit (b ∷ bs) ≡ true = joined _ _ (letter_is b letter) words in
    taken (is_name 6 [] (b ∷ bs)) (upper (b ∷ bs)) (b ∷ bs)
    (joined _ _ (joined _ _ (letter_begins b letter) (words_in_name (b ∷ bs) all)) (few_enough (suc (length bs)) few)) (words_kept (b ∷ bs) all)

kept_word : (b : ℕ) → in_name [] b ≡ true → to_ascii_uppercase b ≡ b → is_letter_or_digit b ≡ true
kept_word b h k = grind (arith, nat_tests)

kept_letter : (b : ℕ) → is_ascii_alphabetic b ≡ true → to_ascii_uppercase b ≡ b → is_letter b ≡ true
kept_letter b h k = grind (arith, nat_tests)

heads : (a b : ℕ) (xs ys : List ℕ) → a ∷ xs ≡ b ∷ ys → (a ≡ b) × (xs ≡ ys)
heads a b xs ys h = (cc, cc)

kept_words : (bs : List ℕ) → list_all (in_name []) bs ≡ true → upper bs ≡ bs → list_all is_letter_or_digit bs ≡ true
kept_words [] h k = refl
kept_words (b ∷ bs) h k =
    let p = both (in_name [] b) (list_all (in_name []) bs) h in
    let q = heads (to_ascii_uppercase b) b (upper bs) bs k in
    joined _ _ (kept_word b p.0 q.0) (kept_words bs p.1 q.1)

few_of : (n : ℕ) → nat_le n 6 ≡ true → n ≤ 6
few_of n h = grind (arith, nat_tests)

-- a node's name: a capital letter, then capital letters and digits
pub record IsNodeName (node : List ℕ) : Type 0 where
  pub some : 1 ≤ length node
  pub few : length node ≤ 6
  pub first : is_letter (get_or node 0 0) ≡ true
  pub words : list_all is_letter_or_digit node ≡ true

nameless : node_named [] ≡ Some [] → ⊥
nameless h = cc

pub node_name : (node : List ℕ) → node_named node ≡ Some node → IsNodeName node
node_name [] h = absurd (nameless h)
node_name (b ∷ bs) h =
    let c = chosen (is_name 6 [] (b ∷ bs)) (upper (b ∷ bs)) (b ∷ bs) h in
    let p = both (is_ascii_alphabetic b && list_all (in_name []) (b ∷ bs)) (nat_le (suc (length bs)) 6) c.0 in
    let q = both (is_ascii_alphabetic b) (list_all (in_name []) (b ∷ bs)) p.0 in
    let k = heads (to_ascii_uppercase b) b (upper bs) bs c.1 in
    record { some = omega arith; few = few_of (suc (length bs)) p.1; first = kept_letter b q.0 k.0; words = kept_words (b ∷ bs) q.1 c.1 }

pub word_at : (bs : List ℕ) (j : ℕ) → list_all is_letter_or_digit bs ≡ true → j < length bs → is_letter_or_digit (get_or bs j 0) ≡ true
word_at [] j h lt = absurd (omega arith)
word_at (b ∷ bs) zero h lt = (both (is_letter_or_digit b) (list_all is_letter_or_digit bs) h).0
word_at (b ∷ bs) (suc j) h lt = word_at bs j (both (is_letter_or_digit b) (list_all is_letter_or_digit bs) h).1 (omega arith)
