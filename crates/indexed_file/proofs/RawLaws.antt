-- Slots as bytes: what is written is read back, and tidied bytes are tidied slots.
use Rattle.std.proofs.Common.{◌≡◌, ⊎_elim, ℕ, zero, suc, ◌≤◌, ◌+◌, ◌-◌, ◌*◌, ◌/◌, ◌%◌, ◌==◌, ◌&&◌, ◌||◌, Bool, true, false, List, [], ◌∷◌, ◌++◌, length, take, drop, map, replicate, Option, Some, None, if◌then◌else◌, nat_le, refl, sym, ap, subst, ◌∙◌, arith, rules, length-append, append_assoc}
use Rattle.std.proofs.lemmas.Bool.Decides.{nat_tests}
use Rattle.std.proofs.lemmas.Bool.{cases_lt}
use Rattle.std.proofs.lemmas.List.{same_lists, places, take_at, drop-drop, length-replicate, length-take-le, length-take, length-drop, map-append}
use Rattle.file_base.specs.declared.head.FileHead.{FileHead}
use Rattle.file_base.specs.Bytes.{piece_at, spliced}
use Rattle.file_base.proofs.Splices.{take-spliced, length-spliced}
use Rattle.bucket_page.specs.Pages.{u16_at, key_in, suits, all_suit, joined}
use Rattle.bucket_page.proofs.PageLaws.{both_true, all_suit-append}
use Rattle.change_set.specs.records_model.Slots.{size_of, tidied_slot, tidied}
use Rattle.indexed_file.specs.Chain.{kind_of, slot_of, value_of, keeps_record, all_keep, SuitsText}
use Rattle.indexed_file.specs.Raws.{slot_bytes, Means, shortened, tidied_raw, tidied_raws, one_of}
use Rattle.change_set.proofs.records_model.SlotLaws.{if_true, if_false}
use Rattle.change_set.specs.records_model.Parts.{bytes_of}

-- bytes of a slot

low_high : (n : ℕ) → n % 256 + 256 * (n / 256) ≡ n
low_high n = omega arith

pub length-slot_bytes : (room size at : ℕ) (piece : List ℕ) → at + length piece ≤ room → length (slot_bytes room size at piece) ≡ 4 + room
length-slot_bytes room size at piece holds =
    omega (
      arith,
      length-append (replicate at 0) (piece ++ replicate (room - at - length piece) 0),
      length-append piece (replicate (room - at - length piece) 0),
      length-replicate {A = ℕ} at 0,
      length-replicate {A = ℕ} (room - at - length piece) 0,
    )

blank_front : (out : List ℕ) (n : ℕ) → n ≤ length out → take n (spliced out 0 (replicate n 0)) ≡ replicate n 0
blank_front out n within = same_lists _ _ (search (rules, places)) (λ k d h. grind (arith, places))

front_over : (n : ℕ) (head : List ℕ) → length head ≡ 4 → 4 ≤ n → spliced (replicate n 0) 0 head ≡ head ++ replicate (n - 4) 0
front_over n head is least = same_lists _ _ (search (rules, places)) (λ k d h. grind (arith, places))

piece_over : (m at : ℕ) (head piece : List ℕ) → length head ≡ 4 → at + length piece ≤ m → spliced (head ++ replicate m 0) (4 + at) piece ≡ head ++ (replicate at 0 ++ (piece ++ replicate (m - at - length piece) 0))
piece_over m at head piece is within = same_lists _ _ (search (rules, places)) (λ k d h. grind (arith, places))

-- a slot that is written over some bytes
pub slot_written : (out b1 b2 b3 piece head : List ℕ) (room at : ℕ) → 4 + room ≤ length out → at + length piece ≤ room → length head ≡ 4
    → b1 ≡ spliced out 0 (replicate (4 + room) 0) → b2 ≡ spliced b1 0 head → b3 ≡ spliced b2 (4 + at) piece
    → take (4 + room) b3 ≡ head ++ (replicate at 0 ++ (piece ++ replicate (room - at - length piece) 0))
slot_written out b1 b2 b3 piece head room at within holds four first second third =
    let n = 4 + room in
    let blank : List ℕ = replicate n 0 in
    let zeros : length blank ≡ n = length-replicate n 0 in
    let long1 : length b1 ≡ length out = ap length first ∙ length-spliced out 0 blank (omega (arith, zeros)) in
    let long2 : length b2 ≡ length out = ap length second ∙ length-spliced b1 0 head (omega (arith, long1)) ∙ long1 in
    let back : n - 4 ≡ room = omega arith in
    ap (take n) third ∙ take-spliced b2 n (4 + at) piece (omega arith) (omega (arith, long2))
    ∙ ap (λ b. spliced b (4 + at) piece)
    (ap (take n) second ∙ take-spliced b1 n 0 head (omega arith) (omega (arith, long1))
    ∙ ap (λ b. spliced b 0 head) (ap (take n) first ∙ blank_front out n within)
    ∙ front_over n head four (omega arith) ∙ ap (λ m. head ++ replicate m 0) back)
    ∙ piece_over room at head piece four holds

suits_of : (m r l p : ℕ) → m ≡ 4 + r → l ≤ r → p ≤ r → ((m == 4 + r) && (nat_le l r && nat_le p r)) ≡ true
suits_of m r l p a b c = grind (arith, nat_tests)

kept_full : (l p mrs : ℕ) → p ≤ l → l ≤ mrs → ((l == 0) || (nat_le p l && nat_le l mrs)) ≡ true
kept_full l p mrs a b = grind (arith, nat_tests)

kept_none : (l p mrs : ℕ) → l ≡ 0 → ((l == 0) || (nat_le p l && nat_le l mrs)) ≡ true
kept_none l p mrs a = grind (arith, nat_tests)

in_range : (l mrs : ℕ) → 1 ≤ l → l ≤ mrs → (nat_le 1 l && nat_le l mrs) ≡ true
in_range l mrs a b = grind (arith, nat_tests)

out_of_range : (l mrs : ℕ) → l ≡ 0 → (nat_le 1 l && nat_le l mrs) ≡ false
out_of_range l mrs a = grind (arith, nat_tests)

key_in_front : (r z : List ℕ) (pos size : ℕ) → pos + size ≤ length r → take size (drop pos (r ++ z)) ≡ take size (drop pos r)
key_in_front r z pos size within = same_lists _ _ (search (rules, places)) (λ k d h. grind (arith, places))

key_behind : (k z : List ℕ) (pos : ℕ) → take (length k) (drop pos (replicate pos 0 ++ (k ++ z))) ≡ k
key_behind k z pos = same_lists _ _ (search (rules, places)) (λ j d h. grind (arith, places))

-- a slot with a record
pub means_record : (h : FileHead) (k r : List ℕ) (room : ℕ) → 1 ≤ h.key_size → h.key_pos + h.key_size ≤ length r → length r ≤ h.mrs → length r ≤ room → piece_at r h.key_pos h.key_size ≡ k
    → Means h k room (Some r) (slot_bytes room (length r) 0 r)
means_record h k r room one key most holds has =
    let raw = slot_bytes room (length r) 0 r in
    let z = replicate (room - 0 - length r) 0 in
    let long : length raw ≡ 4 + room = length-slot_bytes room (length r) 0 r (omega arith) in
    let room_is : u16_at raw 0 ≡ room = low_high room in
    let size_is : u16_at raw 2 ≡ length r = low_high (length r) in
    let key_is : key_in (kind_of h) raw ≡ k = ap (take h.key_size) (sym (drop-drop h.key_pos 4 raw)) ∙ key_in_front r z h.key_pos h.key_size key ∙ has in
    let value_is : value_of h.mrs raw ≡ Some r =
    if_true (nat_le 1 (u16_at raw 2) && nat_le (u16_at raw 2) h.mrs) (Some (piece_at raw 4 (u16_at raw 2))) None (in_range (u16_at raw 2) h.mrs (omega (arith, size_is)) (omega (arith, size_is)))
    ∙ ap (λ n. Some (take n (r ++ z))) size_is ∙ ap Some (take_at r z (length r) refl) in
    record {
      suit = suits_of (length raw) (u16_at raw 0) (u16_at raw 2) (h.key_pos + h.key_size) (omega (arith, long, room_is)) (omega (arith, room_is, size_is)) (omega (arith, room_is));
      kept = kept_full (u16_at raw 2) (h.key_pos + h.key_size) h.mrs (omega (arith, size_is)) (omega (arith, size_is));
      is = λ i. record { key = key_is i; room = room_is i; value = value_is i };
      size = long;
      bytes = refl;
    }

-- and one without
pub means_absent : (h : FileHead) (k : List ℕ) (room : ℕ) → length k ≡ h.key_size → h.key_pos + h.key_size ≤ room → Means h k room None (slot_bytes room 0 h.key_pos k)
means_absent h k room size holds =
    let raw = slot_bytes room 0 h.key_pos k in
    let z = replicate (room - h.key_pos - length k) 0 in
    let long : length raw ≡ 4 + room = length-slot_bytes room 0 h.key_pos k (omega (arith, size)) in
    let room_is : u16_at raw 0 ≡ room = low_high room in
    let size_is : u16_at raw 2 ≡ 0 = refl in
    let key_is : key_in (kind_of h) raw ≡ k = (λ i. take (sym size i) (sym (drop-drop h.key_pos 4 raw) i)) ∙ key_behind k z h.key_pos in
    let value_is : value_of h.mrs raw ≡ None = if_false (nat_le 1 (u16_at raw 2) && nat_le (u16_at raw 2) h.mrs) (Some (piece_at raw 4 (u16_at raw 2))) None (out_of_range (u16_at raw 2) h.mrs size_is) in
    record {
      suit = suits_of (length raw) (u16_at raw 0) (u16_at raw 2) (h.key_pos + h.key_size) (omega (arith, long, room_is)) (omega (arith, room_is, size_is)) (omega (arith, room_is));
      kept = kept_none (u16_at raw 2) (h.key_pos + h.key_size) h.mrs size_is;
      is = λ i. record { key = key_is i; room = room_is i; value = value_is i };
      size = long;
      bytes = refl;
    }

-- tidied bytes

key_of_piece : (body : List ℕ) (pos size n : ℕ) → pos + size ≤ n → take size (drop pos (take n body)) ≡ take size (drop pos body)
key_of_piece body pos size n within = same_lists _ _ (search (rules, places)) (λ k d h. grind (arith, places))

-- what the first bytes of a slot that keeps a record tell
record Kept (l p mrs : ℕ) : Type 0 where
  pub key : p ≤ l
  pub most : l ≤ mrs

kept_tells : (l p mrs : ℕ) → ((l == 0) || (nat_le p l && nat_le l mrs)) ≡ true → 1 ≤ l → Kept l p mrs
kept_tells l p mrs h one = record { key = grind (arith, nat_tests); most = grind (arith, nat_tests) }

record Suits (m r l p : ℕ) : Type 0 where
  pub size : m ≡ 4 + r
  pub room : l ≤ r
  pub key : p ≤ r

suits_tells : (m r l p : ℕ) → ((m == 4 + r) && (nat_le l r && nat_le p r)) ≡ true → Suits m r l p
suits_tells m r l p h = record { size = grind (arith, nat_tests); room = grind (arith, nat_tests); key = grind (arith, nat_tests) }

-- what tidying leaves of one slot
pub record Tidies (h : FileHead) (b : Bool) (raw : List ℕ) : Type 0 where
  pub is : map (slot_of h) (tidied_raw h b raw) ≡ tidied_slot b (slot_of h raw)
  pub suit : all_suit (kind_of h) (tidied_raw h b raw) ≡ true
  pub kept : all_keep h (tidied_raw h b raw) ≡ true
  pub most : length (joined (tidied_raw h b raw)) ≤ length raw

tidies_as : (h : FileHead) (raw : List ℕ) (raws : List (List ℕ)) → tidied_raw h false raw ≡ raws → map (slot_of h) raws ≡ tidied_slot false (slot_of h raw) → all_suit (kind_of h) raws ≡ true → all_keep h raws ≡ true
    → length (joined raws) ≤ length raw → Tidies h false raw
tidies_as h raw raws same is suit kept most = record {
  is = ap (map (slot_of h)) same ∙ is;
  suit = ap (all_suit (kind_of h)) same ∙ suit;
  kept = ap (all_keep h) same ∙ kept;
  most = omega (arith, most, ap (λ (rs : List (List ℕ)). length (joined rs)) same);
}

one_true : (a b : Bool) → a ≡ true → b ≡ true → (a && b) ≡ true
one_true a b x y = λ i. sym (sym x) i && y i

pub tidies : (h : FileHead) (b : Bool) (raw : List ℕ) → 1 ≤ h.key_size → suits (kind_of h) raw ≡ true → keeps_record h raw ≡ true → Tidies h b raw
tidies h true raw one suit kept = record {
  is = refl;
  suit = one_true (suits (kind_of h) raw) true suit refl;
  kept = one_true (keeps_record h raw) true kept refl;
  most = omega (arith, length-append raw []);
}
tidies h false raw one suit kept =
    let len = u16_at raw 2 in
    let tells = suits_tells (length raw) (u16_at raw 0) len (h.key_pos + h.key_size) suit in
    ⊎_elim
    (λ under. let none : len ≡ 0 = omega arith in
    let value : value_of h.mrs raw ≡ None = if_false (nat_le 1 len && nat_le len h.mrs) (Some (piece_at raw 4 len)) None (out_of_range len h.mrs none) in
    tidies_as h raw [] (if_true (len == 0) [] (shortened h raw ∷ []) (grind (arith, nat_tests))) (sym (ap (λ v. tidied_slot false (record { key = key_in (kind_of h) raw; room = u16_at raw 0; value = v })) value)) refl refl (omega arith))
    (λ some. let keeps = kept_tells len (h.key_pos + h.key_size) h.mrs kept some in
    let r = piece_at raw 4 len in
    let long : length r ≡ len = length-take-le len (drop 4 raw) (omega (arith, length-drop 4 raw, tells.size, tells.room)) in
    let k = key_in (kind_of h) raw in
    let has : piece_at r h.key_pos h.key_size ≡ k = key_of_piece (drop 4 raw) h.key_pos h.key_size len keeps.key ∙ ap (take h.key_size) (drop-drop h.key_pos 4 raw) in
    let means : Means h k (length r) (Some r) (slot_bytes (length r) (length r) 0 r) = means_record h k r (length r) one (omega (arith, keeps.key, long)) (omega (arith, keeps.most, long)) (omega arith) has in
    let value : value_of h.mrs raw ≡ Some r = if_true (nat_le 1 len && nat_le len h.mrs) (Some r) None (in_range len h.mrs some keeps.most) in
    let same : tidied_raw h false raw ≡ slot_bytes (length r) (length r) 0 r ∷ [] =
    if_false (len == 0) [] (shortened h raw ∷ []) (grind (arith, nat_tests)) ∙ ap (λ x. x ∷ []) (if_true (nat_le (h.key_pos + h.key_size) len) _ _ (grind (arith, nat_tests)) ∙ ap (λ n. slot_bytes n n 0 r) (sym long)) in
    tidies_as h raw (slot_bytes (length r) (length r) 0 r ∷ []) same
    (ap (λ s. s ∷ []) means.is ∙ sym (ap (λ v. tidied_slot false (record { key = k; room = u16_at raw 0; value = v })) value))
    (one_true _ true means.suit refl) (one_true _ true means.kept refl)
    (omega (arith, means.size, long, tells.size, tells.room, length-append (slot_bytes (length r) (length r) 0 r) [])))
    (cases_lt len 1)

-- what tidying leaves of a slot fits in its place
pub record Fits (h : FileHead) (b : Bool) (raw : List ℕ) : Type 0 where
  pub suit : all_suit (kind_of h) (tidied_raw h b raw) ≡ true
  pub most : length (joined (tidied_raw h b raw)) ≤ length raw
  pub few : length (tidied_raw h b raw) ≤ 1

fits_as : (h : FileHead) (raw : List ℕ) (raws : List (List ℕ)) → tidied_raw h false raw ≡ raws → all_suit (kind_of h) raws ≡ true → length (joined raws) ≤ length raw → length raws ≤ 1 → Fits h false raw
fits_as h raw raws same suit most few = record {
  suit = ap (all_suit (kind_of h)) same ∙ suit;
  most = omega (arith, most, ap (λ (rs : List (List ℕ)). length (joined rs)) same);
  few = omega (arith, few, ap (λ (rs : List (List ℕ)). length rs) same);
}

pub tidied_fits : (h : FileHead) (b : Bool) (raw : List ℕ) → suits (kind_of h) raw ≡ true → Fits h b raw
tidied_fits h true raw suit = record {
  suit = one_true (suits (kind_of h) raw) true suit refl;
  most = omega (arith, length-append raw []);
  few = omega arith;
}
tidied_fits h false raw suit =
    let len = u16_at raw 2 in
    let tells = suits_tells (length raw) (u16_at raw 0) len (h.key_pos + h.key_size) suit in
    ⊎_elim
    (λ under. fits_as h raw [] (if_true (len == 0) [] (shortened h raw ∷ []) (grind (arith, nat_tests))) refl (omega arith) (omega arith))
    (λ some. ⊎_elim
    (λ short. fits_as h raw (raw ∷ []) (if_false (len == 0) [] (shortened h raw ∷ []) (grind (arith, nat_tests)) ∙ ap (λ x. x ∷ []) (if_false (nat_le (h.key_pos + h.key_size) len) _ _ (grind (arith, nat_tests))))
    (one_true (suits (kind_of h) raw) true suit refl) (omega (arith, length-append raw [])) (omega arith))
    (λ long. let r = piece_at raw 4 len in
    let count : length r ≡ len = length-take-le len (drop 4 raw) (omega (arith, length-drop 4 raw, tells.size, tells.room)) in
    let new = slot_bytes len len 0 r in
    let size : length new ≡ 4 + len = length-slot_bytes len len 0 r (omega (arith, count)) in
    let is = low_high len in
    fits_as h raw (new ∷ []) (if_false (len == 0) [] (shortened h raw ∷ []) (grind (arith, nat_tests)) ∙ ap (λ x. x ∷ []) (if_true (nat_le (h.key_pos + h.key_size) len) _ _ (grind (arith, nat_tests))))
    (one_true (suits (kind_of h) new) true (suits_of (length new) (u16_at new 0) (u16_at new 2) (h.key_pos + h.key_size) (omega (arith, size, is)) (omega (arith, is)) (omega (arith, is))) refl)
    (omega (arith, size, tells.size, tells.room, length-append new [])) (omega arith))
    (cases_lt len (h.key_pos + h.key_size)))
    (cases_lt len 1)

pub all_keep-append : (h : FileHead) (a b : List (List ℕ)) → all_keep h a ≡ true → all_keep h b ≡ true → all_keep h (a ++ b) ≡ true
all_keep-append h [] b ha hb = hb
all_keep-append h (s ∷ ss) b ha hb = let both = both_true (keeps_record h s) (all_keep h ss) ha in λ i. both.0 i && all_keep-append h ss b both.1 hb i

pub all_keep-take : (h : FileHead) (i : ℕ) (slots : List (List ℕ)) → all_keep h slots ≡ true → all_keep h (take i slots) ≡ true
all_keep-take h zero slots k = refl
all_keep-take h (suc i) [] k = refl
all_keep-take h (suc i) (s ∷ ss) k = let both = both_true (keeps_record h s) (all_keep h ss) k in λ j. both.0 j && all_keep-take h i ss both.1 j

pub all_keep-drop : (h : FileHead) (i : ℕ) (slots : List (List ℕ)) → all_keep h slots ≡ true → all_keep h (drop i slots) ≡ true
all_keep-drop h zero slots k = k
all_keep-drop h (suc i) [] k = refl
all_keep-drop h (suc i) (s ∷ ss) k = all_keep-drop h i ss (both_true (keeps_record h s) (all_keep h ss) k).1

-- what tidying leaves of slots
pub record TidiesAll (h : FileHead) (held : List ℕ → Bool) (raws : List (List ℕ)) : Type 0 where
  pub is : map (slot_of h) (tidied_raws h held raws) ≡ tidied held (map (slot_of h) raws)
  pub suit : all_suit (kind_of h) (tidied_raws h held raws) ≡ true
  pub kept : all_keep h (tidied_raws h held raws) ≡ true

pub tidies_all : (h : FileHead) (held : List ℕ → Bool) (raws : List (List ℕ)) → 1 ≤ h.key_size → all_suit (kind_of h) raws ≡ true → all_keep h raws ≡ true → TidiesAll h held raws
tidies_all h held [] one suit kept = record { is = refl; suit = refl; kept = refl }
tidies_all h held (raw ∷ raws) one suit kept =
    let suit' = both_true (suits (kind_of h) raw) (all_suit (kind_of h) raws) suit in
    let kept' = both_true (keeps_record h raw) (all_keep h raws) kept in
    let first = tidies h (held (key_in (kind_of h) raw)) raw one suit'.0 kept'.0 in
    let rest = tidies_all h held raws one suit'.1 kept'.1 in
    let front = tidied_raw h (held (key_in (kind_of h) raw)) raw in
    record {
      is = map-append (slot_of h) front (tidied_raws h held raws) ∙ (λ i. first.is i ++ rest.is i);
      suit = all_suit-append (kind_of h) front (tidied_raws h held raws) first.suit rest.suit;
      kept = all_keep-append h front (tidied_raws h held raws) first.kept rest.kept;
    }

pub tidied_raws-append : (h : FileHead) (held : List ℕ → Bool) (a b : List (List ℕ)) → tidied_raws h held (a ++ b) ≡ tidied_raws h held a ++ tidied_raws h held b
tidied_raws-append h held [] b = refl
tidied_raws-append h held (raw ∷ raws) b =
    ap (λ t. tidied_raw h (held (key_in (kind_of h) raw)) raw ++ t) (tidied_raws-append h held raws b) ∙ sym (append_assoc (tidied_raw h (held (key_in (kind_of h) raw)) raw) (tidied_raws h held raws) (tidied_raws h held b))

one_cons : (x : List ℕ) → 1 ≤ length x → one_of x ≡ x ∷ []
one_cons [] some = absurd (omega arith)
one_cons (y ∷ ys) some = refl

if_bytes : (P : List ℕ → Type 0) (t : Bool) (x y : List ℕ) → P x → P y → P (if t then x else y)
if_bytes P true x y a b = a
if_bytes P false x y a b = b

pub written_short : (h : FileHead) (b : Bool) (raw x : List ℕ) → 1 ≤ length raw → b ≡ false → (u16_at raw 2 ≡ 0 → ⊥) → x ≡ shortened h raw → one_of x ≡ tidied_raw h b raw
written_short h b raw x some free full same =
    let one : one_of (shortened h raw) ≡ shortened h raw ∷ [] =
    if_bytes (λ y. one_of y ≡ y ∷ []) (nat_le (h.key_pos + h.key_size) (u16_at raw 2)) (slot_bytes (u16_at raw 2) (u16_at raw 2) 0 (piece_at raw 4 (u16_at raw 2))) raw refl (one_cons raw some) in
    ap one_of same ∙ one ∙ sym (ap (λ t. tidied_raw h t raw) free ∙ if_false (u16_at raw 2 == 0) [] (shortened h raw ∷ []) (grind (arith, nat_tests)))

pub shortened_long : (h : FileHead) (raw : List ℕ) → h.key_pos + h.key_size ≤ u16_at raw 2 → shortened h raw ≡ slot_bytes (u16_at raw 2) (u16_at raw 2) 0 (piece_at raw 4 (u16_at raw 2))
shortened_long h raw le = if_true (nat_le (h.key_pos + h.key_size) (u16_at raw 2)) _ _ (grind (arith, nat_tests))

pub short_written : (h : FileHead) (raw out : List ℕ) (n : ℕ) → n ≡ u16_at raw 2 → h.key_pos + h.key_size ≤ n → take (4 + n) out ≡ slot_bytes n n 0 (take (4 + n - 4) (drop 4 raw)) → take (4 + n) out ≡ shortened h raw
short_written h raw out n is le written =
    let back : 4 + n - 4 ≡ n = omega arith in
    written ∙ ap (λ m. slot_bytes n n 0 (take m (drop 4 raw))) back ∙ ap (λ m. slot_bytes m m 0 (take m (drop 4 raw))) is ∙ sym (shortened_long h raw (omega (arith, is)))

-- slots that are made

pub record_suits : (h : FileHead) (r : List ℕ) → h.key_pos + h.key_size ≤ length r → suits (kind_of h) (slot_bytes (length r) (length r) 0 r) ≡ true
record_suits h r key =
    let raw = slot_bytes (length r) (length r) 0 r in
    let long : length raw ≡ 4 + length r = length-slot_bytes (length r) (length r) 0 r (omega arith) in
    let is = low_high (length r) in
    suits_of (length raw) (u16_at raw 0) (u16_at raw 2) (h.key_pos + h.key_size) (omega (arith, long, is)) (omega (arith, is)) (omega (arith, is, key))

pub means_some : (h : FileHead) (k r : List ℕ) (room : ℕ) (v : Option (List ℕ)) (raw : List ℕ) → v ≡ Some r → 1 ≤ h.key_size → h.key_pos + h.key_size ≤ h.mrs → SuitsText h k v → size_of v ≤ room → raw ≡ slot_bytes room (length r) 0 r → Means h k room v raw
means_some h k r room v raw is one holds suits fits written =
    let suits' = subst (λ (o : Option (List ℕ)). SuitsText h k o) is suits in
    let fits' : length r ≤ room = subst (λ (o : Option (List ℕ)). size_of o ≤ room) is fits in
    let piece = suits'.has in
    let key : h.key_pos + h.key_size ≤ length r = omega (arith, ap length piece, suits'.size, length-take h.key_size (drop h.key_pos r), length-drop h.key_pos r, one) in
    let means = means_record h k r room one key suits'.most fits' piece in
    subst (λ (o : Option (List ℕ)). Means h k room o raw) (sym is) (subst (λ (x : List ℕ). Means h k room (Some r) x) (sym written) means)

pub means_none : (h : FileHead) (k : List ℕ) (room : ℕ) (v : Option (List ℕ)) (raw : List ℕ) → v ≡ None → SuitsText h k v → h.key_pos + h.key_size ≤ room → raw ≡ slot_bytes room 0 h.key_pos k → Means h k room v raw
means_none h k room v raw is suits fits written =
    let means = means_absent h k room suits.size fits in
    subst (λ (o : Option (List ℕ)). Means h k room o raw) (sym is) (subst (λ (x : List ℕ). Means h k room None x) (sym written) means)

pub record_key : (h : FileHead) (k r : List ℕ) → 1 ≤ h.key_size → SuitsText h k (Some r) → h.key_pos + h.key_size ≤ length r
record_key h k r one suits = omega (arith, ap length suits.has, suits.size, length-take h.key_size (drop h.key_pos r), length-drop h.key_pos r, one)

slot_long : (m r l p : ℕ) → ((m == 4 + r) && (nat_le l r && nat_le p r)) ≡ true → m ≡ 4 + r
slot_long m r l p h = grind (arith, nat_tests)

-- the bytes of slots
pub bytes_of_raws : (h : FileHead) (raws : List (List ℕ)) → all_suit (kind_of h) raws ≡ true → bytes_of (map (slot_of h) raws) ≡ length (joined raws)
bytes_of_raws h [] suit = refl
bytes_of_raws h (s ∷ ss) suit =
    let both = both_true (suits (kind_of h) s) (all_suit (kind_of h) ss) suit in
    omega (arith, slot_long (length s) (u16_at s 0) (u16_at s 2) (h.key_pos + h.key_size) both.0, bytes_of_raws h ss both.1, length-append s (joined ss))

-- a record is in its slot's room
pub value_size : (mrs : ℕ) (raw : List ℕ) → size_of (value_of mrs raw) ≤ u16_at raw 2
value_size mrs raw = choice (nat_le 1 (u16_at raw 2) && nat_le (u16_at raw 2) mrs)
  where
    choice : (t : Bool) → size_of (if t then Some (take (u16_at raw 2) (drop 4 raw)) else None) ≤ u16_at raw 2
    choice true = omega (arith, length-take (u16_at raw 2) (drop 4 raw))
    choice false = omega arith
