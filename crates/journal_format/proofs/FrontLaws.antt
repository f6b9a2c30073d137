-- A front that may go on is the front of an entry, and one that may not is of none.
use Rattle.std.proofs.Common.{◌≡◌, ℕ, zero, suc, ◌<◌, ◌≤◌, ◌+◌, ◌-◌, ◌*◌, Bool, true, false, cond, List, [], ◌∷◌, ◌++◌, length, get_or, take, refl, sym, ◌∙◌, ap, subst, arith, append_assoc, eqb, leb, inl, inr, replicate, below_more, ◌&&◌}
use Rattle.std.specs.Int.{byte_at}
use Rattle.std.proofs.lemmas.Bool.{lt-ltb, le-ltb, eq-eqb, cases_lt, cases_eq}
use Rattle.std.proofs.lemmas.Bool.Decides.{nat_tests}
use Rattle.std.proofs.lemmas.List.{get_or_append_left, get_or_past, get_or-append_right, get_or-replicate, length-append, length-replicate, take_at, take_all, take-append-le, append-nil, get_or_push}
use Rattle.journal_format.specs.IdForms.{id_byte}
use Rattle.journal_model.specs.Entries.{has_image, is_image, total}
use Rattle.journal_format.specs.Fronts.{next_ok, field_ok, Begun, size_of, read_entry, Unfinished, NoEntry, Fails, Stops}
use Rattle.journal_format.specs.declared.check.EntryErr.{EntryErr}
use Rattle.journal_format.specs.declared.check.EntryErr.TheVariants.{Short, Form}
use Rattle.journal_format.proofs.IdSpellings.{Bytes}
use Rattle.journal_format.proofs.EntryLaws.{taken, begun_again}

-- a byte that may stand behind these
abbrev Follows : List ℕ → Type 0
Follows past = (b : ℕ) × (b < 256) × (next_ok past b ≡ true)

flag_next : (x y : Bool) → (b : ℕ) × (b < 256) × (cond x (leb b 1) (cond y (eqb b 0) (leb 1 b && leb b 2)) ≡ true)
flag_next true y = (0, omega arith, refl)
flag_next false true = (0, omega arith, refl)
flag_next false false = (1, omega arith, refl)

file_next : (x : Bool) → cond x true (eqb 0 0) ≡ true
file_next true = refl
file_next false = refl

key_next : (x : Bool) → (b : ℕ) × (b < 256) × (cond x (leb 1 b && leb b 64) (eqb b 0) ≡ true)
key_next true = (1, omega arith, refl)
key_next false = (0, omega arith, refl)

image_small : (a b : ℕ) → 1 ≤ a + 256 * b → a + 256 * b ≤ 8160 → is_image true (a + 256 * b) ≡ true
image_small a b p q = grind (arith, nat_tests)

image_next : (x : Bool) (a : ℕ) → a < 256 → (b : ℕ) × (b < 256) × (cond x (is_image true (a + 256 * b)) (eqb b 0) ≡ true)
image_next false a lt = (0, omega arith, refl)
image_next true zero lt = (1, omega arith, image_small 0 1 (omega arith) (omega arith))
image_next true (suc a) lt = (0, omega arith, image_small (suc a) 0 (omega arith) (omega arith))

-- the whole length by what the bytes before it tell
abbrev told_total : List ℕ → ℕ
told_total past = total (get_or past 3 0) (get_or past 4 0 + 256 * get_or past 5 0)

field_next : (n : ℕ) (past : List ℕ) → n < 8 → get_or past 4 0 < 256 → (b : ℕ) × (b < 256) × (field_ok n past b ≡ true)
field_next zero past lt small = (1, omega arith, refl)
field_next (suc zero) past lt small = flag_next (eqb (get_or past 0 0) 1) (eqb (get_or past 0 0) 2)
field_next (suc (suc zero)) past lt small = (0, omega arith, file_next (eqb (get_or past 0 0) 1))
field_next (suc (suc (suc zero))) past lt small = key_next (eqb (get_or past 0 0) 1)
field_next (suc (suc (suc (suc zero)))) past lt small = (0, omega arith, file_next (has_image (get_or past 0 0) (get_or past 1 0)))
field_next (suc (suc (suc (suc (suc zero))))) past lt small = image_next (has_image (get_or past 0 0) (get_or past 1 0)) (get_or past 4 0) small
field_next (suc (suc (suc (suc (suc (suc zero)))))) past lt small = (byte_at 0 (told_total past), omega arith, eq-eqb _ _ refl)
field_next (suc (suc (suc (suc (suc (suc (suc zero))))))) past lt small = (byte_at 1 (told_total past), omega arith, eq-eqb _ _ refl)
field_next (suc (suc (suc (suc (suc (suc (suc (suc n)))))))) past lt small = absurd (omega arith)

zero_follows : (j before : ℕ) → id_byte (suc j) before 0 ≡ true
zero_follows j before = grind (arith, nat_tests)

id_next : (j before : ℕ) → (b : ℕ) × (b < 256) × (id_byte j before b ≡ true)
id_next zero before = (65, omega arith, refl)
id_next (suc j) before = (0, omega arith, zero_follows j before)

next : (past : List ℕ) → get_or past 4 0 < 256 → Follows past
next past small = elim (cases_lt (length past) 8) [
  | inl lt ↦ let f = field_next (length past) past lt small in (f.0, f.1, rw (lt-ltb (length past) 8 lt) f.2)
  | inr le ↦ elim (cases_lt (length past) 24) [
    | inl lt ↦ let f = id_next (length past - 8) (get_or past (length past - 1) 0) in (f.0, f.1, rw (le-ltb (length past) 8 le, lt-ltb (length past) 24 lt) f.2)
    | inr far ↦ elim (cases_lt (length past) 40) [
      | inl lt ↦ let f = id_next (length past - 24) (get_or past (length past - 1) 0) in (f.0, f.1, rw (le-ltb (length past) 8 le, le-ltb (length past) 24 far, lt-ltb (length past) 40 lt) f.2)
      | inr farther ↦ (0, omega arith, rw (le-ltb (length past) 8 le, le-ltb (length past) 24 far, le-ltb (length past) 40 farther) (file_next (eqb (get_or past 0 0) 3)))
    ]
  ]
]

push_begun : (n : ℕ) (h : List ℕ) (b : ℕ) → length h ≡ n → Begun n h → next_ok h b ≡ true → Begun (n + 1) (h ++ b ∷ [])
push_begun n h b is begun ok = below_more _ _
    (λ i lt. let le : i ≤ length h = omega arith in let less : i < length h = omega arith in rw (take-append-le i h (b ∷ []) le, get_or_append_left h (b ∷ []) 0 i less) (begun i lt))
    (rw (take_at h (b ∷ []) n is, get_or_push h b 0 n is) ok)

push_small : (n : ℕ) (h : List ℕ) (b : ℕ) → length h ≡ n → Bytes h → b < 256 → Bytes (h ++ b ∷ [])
push_small n h b is small ok i = elim (cases_lt i n) [
  | inl lt ↦ rw (get_or_append_left h (b ∷ []) 0 i (omega arith)) (small i)
  | inr le ↦ elim (cases_eq i n) [
    | inl same ↦ rw (get_or_push h b 0 i (omega arith)) ok
    | inr other ↦ rw (get_or_past (h ++ b ∷ []) i 0 (omega (arith, length-append h (b ∷ [])))) (omega arith)
  ]
]

-- what makes a front whole
pub record Completed (m : ℕ) (h : List ℕ) : Type 0 where
  pub more : List ℕ
  pub size : length more ≡ m
  pub begun : Begun 48 (h ++ more)
  pub small : Bytes (h ++ more)

completed : (m : ℕ) (h : List ℕ) → length h + m ≡ 48 → Begun (length h) h → Bytes h → Completed m h
completed zero h is begun small = record {
  more = [];
  size = refl;
  begun = rw append-nil (subst (λ (n : ℕ). Begun n h) (let e : length h ≡ 48 = omega arith in e) begun);
  small = rw append-nil small;
}
completed (suc m) h is begun small =
    let f = next h (small 4) in
    let long : length h + 1 ≡ length (h ++ f.0 ∷ []) = omega (arith, length-append h (f.0 ∷ [])) in
    let c = completed m (h ++ f.0 ∷ []) (omega arith) (subst (λ (n : ℕ). Begun n (h ++ f.0 ∷ [])) long (push_begun (length h) h f.0 refl begun f.2)) (push_small (length h) h f.0 refl small f.1) in
    record {
      more = f.0 ∷ c.more;
      size = ap suc c.size;
      begun = subst (Begun 48) (append_assoc h (f.0 ∷ []) c.more) c.begun;
      small = subst Bytes (append_assoc h (f.0 ∷ []) c.more) c.small;
    }

-- a whole head, padded with zeros
padded_begun : (g z : List ℕ) → 48 ≤ length g → Begun 48 g → Begun 48 (g ++ z)
padded_begun g z long begun i lt = let le : i ≤ length g = omega arith in let less : i < length g = omega arith in rw (take-append-le i g z le, get_or_append_left g z 0 i less) (begun i lt)

padded_small : (g : List ℕ) (m : ℕ) → Bytes g → Bytes (g ++ replicate m 0)
padded_small g m small i = elim (cases_lt i (length g)) [
  | inl lt ↦ rw (get_or_append_left g (replicate m 0) 0 i lt) (small i)
  | inr le ↦ rw (get_or-append_right g (replicate m 0) (length g) i 0 refl le) (zeros m (i - length g))
]
  where
    zeros : (m j : ℕ) → get_or (replicate m 0) j 0 < 256
    zeros m j = elim (cases_lt j m) [
      | inl lt ↦ rw (get_or-replicate {A = ℕ} m j 0 0 lt) (omega arith)
      | inr le ↦ rw (get_or_past {X = ℕ} (replicate m 0) j 0 (omega (arith, length-replicate {A = ℕ} m 0))) (omega arith)
    ]

padded_size : (g z : List ℕ) → 48 ≤ length g → size_of (g ++ z) ≡ size_of g
padded_size g z long = rw (get_or_append_left g z 0 3 (omega arith), get_or_append_left g z 0 4 (omega arith), get_or_append_left g z 0 5 (omega arith)) refl

-- a head that tells of more bytes than are there is the front of an entry
filled : (h x : List ℕ) → 48 ≤ length (h ++ x) → Begun 48 (h ++ x) → Bytes (h ++ x) → length (h ++ x) ≤ size_of (h ++ x) → length h < size_of (h ++ x) → Unfinished h
filled h x long begun small room left =
    let g : List ℕ = h ++ x in
    let m : ℕ = size_of g - length g in
    let whole : List ℕ = g ++ replicate m 0 in
    let size = padded_size g (replicate m 0) long in
    let length-is : length whole ≡ size_of whole = omega (arith, size, length-append g (replicate m 0), length-replicate {A = ℕ} m 0) in
    let t = taken whole (padded_begun g (replicate m 0) long begun) (omega (arith, length-append g (replicate m 0))) (omega arith) (padded_small g m small) in
    record {
      entry = read_entry whole;
      is = t.is;
      more = x ++ replicate m 0;
      left = omega (arith, length-append x (replicate m 0), length-append h x, length-replicate {A = ℕ} m 0);
      joined = sym (append_assoc h x (replicate m 0)) ∙ sym (take_all (size_of whole) whole (omega arith)) ∙ t.spelled;
    }

pub short_head : (h : List ℕ) → length h < 48 → Begun (length h) h → Bytes h → Unfinished h
short_head h short begun small =
    let c = completed (48 - length h) h (omega arith) begun small in
    let long : length (h ++ c.more) ≡ 48 = omega (arith, length-append h c.more, c.size) in
    filled h c.more (omega arith) c.begun c.small (omega arith) (omega arith)

pub short_body : (h : List ℕ) → 48 ≤ length h → Begun 48 h → Bytes h → length h < size_of h → Unfinished h
short_body h long begun small short =
    let same : h ++ [] ≡ h = append-nil h in
    subst (λ (g : List ℕ). 48 ≤ length g → Begun 48 g → Bytes g → length g ≤ size_of g → length h < size_of g → Unfinished h) same (filled h []) long begun small (omega arith) short

pub no_entry : (h : List ℕ) (i : ℕ) → i < 48 → i < length h → next_ok (take i h) (get_or h i 0) ≡ false → NoEntry h
no_entry h i lt here bad e x y is joined =
    let le : i ≤ length h = omega arith in
    let ok : next_ok (take i (h ++ x)) (get_or (h ++ x) i 0) ≡ true = subst (λ (s : List ℕ). next_ok (take i s) (get_or s i 0) ≡ true) (sym joined) (begun_again e is y i lt) in
    let ok2 : next_ok (take i h) (get_or h i 0) ≡ true = rw (take-append-le i h x le, get_or_append_left h x 0 i here) at ok in
    cc

pub stops_fails : (e : EntryErr) (h : List ℕ) → Stops e h → Bytes h → Fails e h
stops_fails Short h s small = short_head h s.0 s.1 small
stops_fails Form h s small = no_entry h s.0 s.1 s.2 s.3
