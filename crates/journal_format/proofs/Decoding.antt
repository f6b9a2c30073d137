-- What the code reads of an entry.
use Rattle.std.proofs.Common.{◌≡◌, ℕ, zero, suc, ◌<◌, ◌≤◌, ◌+◌, ◌-◌, ◌*◌, Bool, true, false, cond, List, [], ◌∷◌, ◌++◌, length, get_or, take, drop, refl, sym, ◌∙◌, ap, subst, arith, eqb, leb, ◌&&◌}
use Rattle.std.proofs.lemmas.Bool.{eqb-true, false≢true}
use Rattle.std.proofs.lemmas.Bool.Decides.{nat_tests}
use Rattle.std.proofs.lemmas.List.{length-drop, length-take-le, length-append, length-take, drop-drop}
use Rattle.journal_model.specs.Entries.{Entry, IsEntry, is_kind, is_flag, has_image, is_image, total, spelling, tail_of}
use Rattle.journal_format.specs.Fronts.{Begun, key_size, image_size, size_of, read_entry, Stops}
use Rattle.journal_format.specs.declared.check.EntryErr.{EntryErr}
use Rattle.journal_format.specs.declared.check.EntryErr.TheVariants.{Short, Form}
use Rattle.journal_format.specs.Heads.{kind_code, flag_of, outcome_code, outcome_said}
use Rattle.journal_format.specs.declared.head.EntryKind.{EntryKind}
use Rattle.journal_format.specs.declared.head.EntryKind.TheVariants.{Change, Prepared, Settled}
use Rattle.journal_format.proofs.FrontLaws.{no_entry}
use Rattle.std.proofs.lemmas.List.{append-nil}
use Rattle.journal_format.proofs.IdSpellings.{Bytes}
use Rattle.journal_format.proofs.EntryLaws.{Taken, eight, read_again, size_again, tail_long}

key_limit : (change : Bool) (n : ℕ) → cond change (leb 1 n && leb n 64) (eqb n 0) ≡ true → n ≤ 64
key_limit true n ok = grind (arith, nat_tests)
key_limit false n ok = grind (arith, nat_tests)

pub image_limit : (has : Bool) (n : ℕ) → is_image has n ≡ true → n ≤ 8160
image_limit true n ok = grind (arith, nat_tests)
image_limit false n ok = grind (arith, nat_tests)

image_limit_of : (has : Bool) (lo hi : ℕ) → lo < 256 → cond has (is_image true (lo + 256 * hi)) (eqb hi 0) ≡ true → lo + 256 * hi ≤ 8160
image_limit_of true lo hi lt ok = image_limit true (lo + 256 * hi) ok
image_limit_of false lo hi lt ok = let z : hi ≡ 0 = eqb-true hi 0 ok in omega arith

pub record Limits (h : List ℕ) : Type 0 where
  pub kind : is_kind (get_or h 0 0) ≡ true
  pub flag : is_flag (get_or h 0 0) (get_or h 1 0) ≡ true
  pub key : key_size h ≤ 64
  pub image : image_size h ≤ 8160

limits_cons : (a b c d e f g i : ℕ) (t : List ℕ) → let h = a ∷ b ∷ c ∷ d ∷ e ∷ f ∷ g ∷ i ∷ t in Begun 48 h → Bytes h → Limits h
limits_cons a b c d e f g i t begun small = record {
  kind = begun 0 (omega arith);
  flag = begun 1 (omega arith);
  key = key_limit (eqb a 1) d (begun 3 (omega arith));
  image = image_limit_of (has_image a b) e f (small 4) (begun 5 (omega arith));
}

pub limits : (h : List ℕ) → Begun 48 h → 48 ≤ length h → Bytes h → Limits h
limits h begun long small =
    let is = eight h (omega arith) in
    subst Limits (sym is) (limits_cons _ _ _ _ _ _ _ _ (drop 8 h) (subst (Begun 48) is begun) (subst Bytes is small))

pub kind_low : (a : ℕ) → is_kind a ≡ true → 1 ≤ a
kind_low a ok = grind (arith, nat_tests)

pub kind_high : (a : ℕ) → is_kind a ≡ true → a ≤ 3
kind_high a ok = grind (arith, nat_tests)

flag_change : (b : ℕ) → is_flag 1 b ≡ true → cond (eqb b 1) 1 0 ≡ b
flag_change b ok = grind (arith, nat_tests)

flag_prepared : (b : ℕ) → is_flag 2 b ≡ true → 0 ≡ b
flag_prepared b ok = grind (arith, nat_tests)

flag_two : (b : ℕ) → is_flag 3 b ≡ true → b ≤ 2
flag_two b ok = grind (arith, nat_tests)

flag_settled : (b : ℕ) → is_flag 3 b ≡ true → outcome_code (outcome_said 3 b) ≡ b
flag_settled (suc zero) ok = refl
flag_settled (suc (suc zero)) ok = refl
flag_settled zero ok = absurd (false≢true ok)
flag_settled (suc (suc (suc b))) ok = absurd (omega (arith, flag_two (suc (suc (suc b))) ok))

flag_of_code : (kind : EntryKind) (b : ℕ) → is_flag (kind_code kind) b ≡ true → flag_of kind (has_image (kind_code kind) b) (outcome_said (kind_code kind) b) ≡ b
flag_of_code Change b ok = flag_change b ok
flag_of_code Prepared b ok = flag_prepared b ok
flag_of_code Settled b ok = flag_settled b ok

pub flag_is : (kind : EntryKind) (a b : ℕ) → kind_code kind ≡ a → is_flag a b ≡ true → flag_of kind (has_image a b) (outcome_said a b) ≡ b
flag_is kind a b is ok = subst (λ (k : ℕ). flag_of kind (has_image k b) (outcome_said k b) ≡ b) is (flag_of_code kind b (subst (λ (k : ℕ). is_flag k b ≡ true) (sym is) ok))

-- what was read is an entry of the front
pub found : (h : List ℕ) (e : Entry) (n : ℕ) → Taken h → e ≡ read_entry h → n ≡ size_of h → size_of h ≤ length h → IsEntry e × (n ≡ length (spelling e)) × (take n h ≡ spelling e)
found h e n t is size whole =
    let spelled : take n h ≡ spelling e = rw (size, is) t.spelled in
    (subst IsEntry (sym is) t.is, (let len : length (take n h) ≡ n = length-take-le n h (omega arith) in sym len ∙ ap length spelled), spelled)

pub only : (h : List ℕ) (e x : Entry) (n : ℕ) (rest : List ℕ) → IsEntry x → h ≡ spelling x ++ rest → e ≡ read_entry h → n ≡ size_of h → (e ≡ x) × (n ≡ length (spelling x))
only h e x n rest is joined read size = (read ∙ ap read_entry joined ∙ read_again x is rest, size ∙ ap size_of joined ∙ size_again x is rest)

-- nothing whole stands there where the bytes are too few
pub too_few : (h : List ℕ) (e : Entry) (rest : List ℕ) → IsEntry e → h ≡ spelling e ++ rest → length h < size_of h → ⊥
too_few h e rest is joined few =
    let size : size_of h ≡ length (spelling e) = ap size_of joined ∙ size_again e is rest in
    let len : length h ≡ length (spelling e) + length rest = ap length joined ∙ length-append (spelling e) rest in
    omega arith

pub too_short : (h : List ℕ) (e : Entry) (rest : List ℕ) → IsEntry e → h ≡ spelling e ++ rest → length h < 48 → ⊥
too_short h e rest is joined few =
    omega (arith, tail_long e is rest, ap length joined)

pub image_slice : (h : List ℕ) (k n : ℕ) → take (48 + k + n - (48 + k)) (drop (48 + k) h) ≡ take n (drop k (drop 48 h))
image_slice h k n =
    let e : 48 + k + n - (48 + k) ≡ n = omega arith in
    rw (e, drop-drop k 48 h) refl

pub slice_short : (x : List ℕ) (k n : ℕ) → n ≤ 8160 → length (take (48 + k + n - (48 + k)) x) ≤ 8160
slice_short x k n le = omega (arith, length-take (48 + k + n - (48 + k)) x)

-- no whole entry stands where the front stops
pub stops_whole : (s : EntryErr) (h : List ℕ) (e : Entry) (rest : List ℕ) → Stops s h → IsEntry e → h ≡ spelling e ++ rest → ⊥
stops_whole Short h e rest stops is joined = too_short h e rest is joined stops.0
stops_whole Form h e rest stops is joined = no_entry h stops.0 stops.1 stops.2 stops.3 e [] rest is (append-nil h ∙ joined)

-- the length that an entry tells is its own
pub total_is : (e : Entry) → IsEntry e → length (spelling e) ≡ total (length e.key) (length e.image)
total_is e is = omega (arith, tail_long e is [], length-append (tail_of e) [])

-- no entry is longer
pub entry_size : (e : Entry) → IsEntry e → (48 ≤ length (spelling e)) × (length (spelling e) ≤ 8272)
entry_size e is =
    let key = key_limit (eqb e.kind 1) (length e.key) is.key in
    let image = image_limit (has_image e.kind e.flag) (length e.image) is.image in
    (omega (arith, tail_long e is [], length-append (tail_of e) []), omega (arith, tail_long e is [], length-append (tail_of e) []))

-- a whole entry has the image's bytes
pub image_length : (h : List ℕ) → size_of h ≤ length h → length (read_entry h).image ≡ image_size h
image_length h whole = length-take-le (image_size h) (drop (key_size h) (drop 48 h)) (omega (arith, length-drop (key_size h) (drop 48 h), length-drop 48 h))
