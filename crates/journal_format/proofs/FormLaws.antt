-- The bytes of ids, where they stand in an entry.
use Rattle.std.proofs.Common.{◌≡◌, ℕ, zero, suc, ◌<◌, ◌≤◌, ◌+◌, ◌-◌, true, List, length, get_or, take, drop, refl, sym, ◌∙◌, ap, subst, arith}
use Rattle.std.proofs.lemmas.Bool.{lt-ltb, le-ltb}
use Rattle.std.proofs.lemmas.List.{get_or-take, get_or-drop, length-take-le, length-drop}
use Rattle.journal_format.specs.IdForms.{id_byte, IsIdForm}
use Rattle.journal_model.specs.Entries.{is_moment}
use Rattle.journal_format.specs.Fronts.{next_ok, Begun}

-- from place o on the bytes are those of an id
abbrev pub IdFrom : ℕ → Type 0
IdFrom o = (past : List ℕ) (b j : ℕ) → length past ≡ o + j → j < 16 → next_ok past b ≡ id_byte j (get_or past (length past - 1) 0) b

pub id_from_8 : IdFrom 8
id_from_8 past b j size lt =
    let far : 8 ≤ length past = omega arith in
    let near : length past < 24 = omega arith in
    let place : length past - 8 ≡ j = omega arith in
    rw (le-ltb (length past) 8 far, lt-ltb (length past) 24 near) (ap (λ (k : ℕ). id_byte k (get_or past (length past - 1) 0) b) place)

pub id_from_24 : IdFrom 24
id_from_24 past b j size lt =
    let far : 8 ≤ length past = omega arith in
    let farther : 24 ≤ length past = omega arith in
    let near : length past < 40 = omega arith in
    let place : length past - 24 ≡ j = omega arith in
    rw (le-ltb (length past) 8 far, le-ltb (length past) 24 farther, lt-ltb (length past) 40 near) (ap (λ (k : ℕ). id_byte k (get_or past (length past - 1) 0) b) place)

pub moment_from : (past : List ℕ) (b : ℕ) → 40 ≤ length past → next_ok past b ≡ is_moment (get_or past 0 0) b
moment_from past b far =
    let f8 : 8 ≤ length past = omega arith in
    let f24 : 24 ≤ length past = omega arith in
    rw (le-ltb (length past) 8 f8, le-ltb (length past) 24 f24, le-ltb (length past) 40 far) refl

-- the byte before does not count at the first place
before_at : (o j : ℕ) (h : List ℕ) (b : ℕ) → j < 16 → o + 16 ≤ length h → id_byte j (get_or (take (o + j) h) (o + j - 1) 0) b ≡ id_byte j (get_or (take 16 (drop o h)) (j - 1) 0) b
before_at o zero h b lt fits = refl
before_at o (suc j) h b lt fits =
    let is : o + suc j - 1 ≡ o + j = omega arith in
    let less : o + j < o + suc j = omega arith in
    let j-is : suc j - 1 ≡ j = omega arith in
    let j-less : j < 16 = omega arith in
    let left : get_or (take (o + suc j) h) (o + suc j - 1) 0 ≡ get_or h (o + j) 0 = rw is (get_or-take (o + suc j) h (o + j) 0 less) in
    let right : get_or (take 16 (drop o h)) (suc j - 1) 0 ≡ get_or h (o + j) 0 = rw j-is (get_or-take 16 (drop o h) j 0 j-less ∙ get_or-drop o h j 0) in
    ap (λ (p : ℕ). id_byte (suc j) p b) (left ∙ sym right)

-- the test at a place of an id is the id's
same_test : (o : ℕ) → IdFrom o → (h : List ℕ) (j : ℕ) → j < 16 → o + 16 ≤ length h → next_ok (take (o + j) h) (get_or h (o + j) 0) ≡ id_byte j (get_or (take 16 (drop o h)) (j - 1) 0) (get_or (take 16 (drop o h)) j 0)
same_test o from h j lt fits =
    let size : length (take (o + j) h) ≡ o + j = length-take-le (o + j) h (omega arith) in
    let here : get_or (take 16 (drop o h)) j 0 ≡ get_or h (o + j) 0 = get_or-take 16 (drop o h) j 0 lt ∙ get_or-drop o h j 0 in
    from (take (o + j) h) (get_or h (o + j) 0) j size lt ∙ ap (λ (n : ℕ). id_byte j (get_or (take (o + j) h) (n - 1) 0) (get_or h (o + j) 0)) size ∙ before_at o j h (get_or h (o + j) 0) lt fits ∙ ap (λ (b : ℕ). id_byte j (get_or (take 16 (drop o h)) (j - 1) 0) b) (sym here)

pub id_of : (o n : ℕ) → IdFrom o → (h : List ℕ) → o + 16 ≤ n → o + 16 ≤ length h → Begun n h → IsIdForm (take 16 (drop o h))
id_of o n from h within fits begun = record {
  size = length-take-le 16 (drop o h) (omega (arith, length-drop o h));
  bytes = λ j lt. sym (same_test o from h j lt fits) ∙ begun (o + j) (omega arith);
}

pub id_begun : (o : ℕ) → IdFrom o → (h : List ℕ) → o + 16 ≤ length h → IsIdForm (take 16 (drop o h)) → (i : ℕ) → o ≤ i → i < o + 16 → next_ok (take i h) (get_or h i 0) ≡ true
id_begun o from h fits is i above below =
    let j : ℕ = i - o in
    let i-is : o + j ≡ i = omega arith in
    let lt : j < 16 = omega arith in
    subst (λ (k : ℕ). next_ok (take k h) (get_or h k 0) ≡ true) i-is (same_test o from h j lt fits ∙ is.bytes j lt)
