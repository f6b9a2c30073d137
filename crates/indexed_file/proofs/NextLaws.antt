-- The first slot behind a key.
use Rattle.std.proofs.Common.{◌≡◌, ⊎_elim, ℕ, zero, suc, ◌<◌, ◌≤◌, ◌+◌, ◌&&◌, Bool, true, false, List, [], ◌∷◌, ◌++◌, length, drop, map, Option, Some, None, IfSome, IfNone, is_some, if◌then◌else◌, refl, sym, ap, ◌∙◌, arith, Ordering}
use Rattle.std.specs.Ordering.{nat_cmp, is_lt, ordering_reverse}
use Rattle.std.specs.Cmp.Lexicographic.{slice_cmp}
use Rattle.std.proofs.lemmas.Cmp.{nat_list_cmp_total, tied_itself}
use Rattle.std.proofs.lemmas.Bool.{cases_lt}
use Rattle.std.proofs.lemmas.List.{drop_more}
use Rattle.file_base.specs.declared.head.FileHead.{FileHead}
use Rattle.bucket_page.specs.Pages.{slot_at, key_in, ascend}
use Rattle.bucket_page.proofs.Orders.{ascend_at}
use Rattle.change_set.specs.records_model.Slots.{Slot, bytes_before}
use Rattle.indexed_file.specs.Chain.{kind_of, slot_of, value_of}
use Rattle.indexed_file.specs.Places.{key_at, IsPlace}
use Rattle.indexed_file.specs.Behind.{is_behind, first_behind, IsFound, StartsBehind}
use Rattle.change_set.proofs.records_model.SlotLaws.{or_slot, if_true, if_false}
use Rattle.std.specs.declared.cmp.Ordering.TheVariants.{Less, Equal, Greater}

less_is : (o : Ordering) → is_lt o ≡ true → o ≡ Less
less_is Less h = refl
less_is Equal h = cc
less_is Greater h = cc

or_if : (t : Bool) (s : Slot) (x y : Option Slot) → (if t then Some s else or_slot x y) ≡ or_slot (if t then Some s else x) y
or_if true s x y = refl
or_if false s x y = refl

if_same : {X : Type 0} (t : Bool) (a x y : X) → x ≡ y → (if t then a else x) ≡ (if t then a else y)
if_same true a x y e = refl
if_same false a x y e = e

pub not_before : (a b : List ℕ) → bytes_before a b ≡ true → bytes_before b a ≡ false
not_before a b h = ap is_lt (nat_list_cmp_total.antisymm b a ∙ ap ordering_reverse (less_is (slice_cmp nat_cmp a b) h))

pub not_before_itself : (k : List ℕ) → bytes_before k k ≡ false
not_before_itself k = ap is_lt (tied_itself nat_list_cmp_total k)

pub starts_missing : (h : FileHead) (after : Option (List ℕ)) (k : List ℕ) (raws : List (List ℕ)) (i : ℕ) (found : Bool) → after ≡ Some k → found ≡ false → IsPlace h k raws i found → StartsBehind h after raws i
starts_missing h after k raws i found is not_found place = record {
  within = place.within;
  passed = λ j below. ap (λ a. is_behind a (key_at h raws j)) is ∙ not_before (key_at h raws j) k (place.lower j below);
  behind = λ j from below. ap (λ a. is_behind a (key_at h raws j)) is ∙ place.higher not_found j from below;
}

pub starts_found : (h : FileHead) (after : Option (List ℕ)) (k : List ℕ) (raws : List (List ℕ)) (i : ℕ) (found : Bool) → after ≡ Some k → found ≡ true → ascend (kind_of h) raws ≡ true → IsPlace h k raws i found
    → StartsBehind h after raws (i + 1)
starts_found h after k raws i found is was_found order place =
    let here = place.here was_found in
    let there = place.there was_found in
    record {
      within = omega arith;
      passed = λ j below. ap (λ a. is_behind a (key_at h raws j)) is ∙ ⊎_elim
          (λ under. not_before (key_at h raws j) k (place.lower j under))
          (λ at. let same : j ≡ i = omega arith in ap (λ m. bytes_before k (key_at h raws m)) same ∙ ap (bytes_before k) here ∙ not_before_itself k)
          (cases_lt j i);
      behind = λ j from below. ap (λ a. is_behind a (key_at h raws j)) is ∙ ap (λ x. bytes_before x (key_at h raws j)) (sym here) ∙ ascend_at (kind_of h) raws i j order (omega arith) below;
    }

both_false : (a b : Bool) → a ≡ false → (a && b) ≡ false
both_false true b h = cc
both_false false b h = refl

-- slots that are passed
pub first_behind_skip : (h : FileHead) (after : Option (List ℕ)) (raws : List (List ℕ)) (i : ℕ) → i ≤ length raws → ((j : ℕ) → j < i → is_behind after (key_at h raws j) ≡ false)
    → first_behind after (map (slot_of h) raws) ≡ first_behind after (map (slot_of h) (drop i raws))
first_behind_skip h after raws zero within passed = refl
first_behind_skip h after [] (suc i) within passed = absurd (omega arith)
first_behind_skip h after (s ∷ ss) (suc i) within passed =
    if_false (is_behind after (key_at h (s ∷ ss) 0) && is_some (value_of h.mrs s)) _ _ (both_false _ _ (passed 0 (omega arith)))
    ∙ first_behind_skip h after ss i (omega arith) (λ j below. passed (suc j) (omega arith))

-- a slot with a record behind the key is found
pub first_behind_here : (h : FileHead) (after : Option (List ℕ)) (raws : List (List ℕ)) (i : ℕ) (raw bytes : List ℕ) → i < length raws → raw ≡ slot_at raws i → is_behind after (key_at h raws i) ≡ true
    → value_of h.mrs raw ≡ Some bytes → IsFound (first_behind after (map (slot_of h) (drop i raws))) (key_at h raws i) bytes
first_behind_here h after raws i raw bytes below is behind has =
    let value : value_of h.mrs (slot_at raws i) ≡ Some bytes = ap (value_of h.mrs) (sym is) ∙ has in
    record {
      slot = slot_of h (slot_at raws i);
      is = ap (λ (rs : List (List ℕ)). first_behind after (map (slot_of h) rs)) (drop_more raws i [] below)
          ∙ if_true (is_behind after (key_at h raws i) && is_some (value_of h.mrs (slot_at raws i))) _ _ (λ k. behind k && is_some (value k));
      key = refl;
      value = value;
    }

-- a slot that was found in a bucket
pub found_in_leaf : (h : FileHead) (after : Option (List ℕ)) (raws : List (List ℕ)) (i : ℕ) (raw bytes : List ℕ) → i < length raws → raw ≡ slot_at raws i → is_behind after (key_at h raws i) ≡ true
    → value_of h.mrs raw ≡ Some bytes → first_behind after (map (slot_of h) raws) ≡ first_behind after (map (slot_of h) (drop i raws)) → IsFound (first_behind after (map (slot_of h) raws)) (key_in (kind_of h) raw) bytes
found_in_leaf h after raws i raw bytes below is behind has passed =
    let found = first_behind_here h after raws i raw bytes below is behind has in
    record { slot = found.slot; is = passed ∙ found.is; key = found.key ∙ ap (key_in (kind_of h)) (sym is); value = found.value }

pub if_some_then : {A : Type 0} (o : Option A) (P Q : A → Type 0) → ((x : A) → P x → Q x) → IfSome o P → IfSome o Q
if_some_then None P Q f p = tt
if_some_then (Some x) P Q f p = f x p

pub if_none_then : {A : Type 0} (o : Option A) (P Q : Type 0) → (P → Q) → IfNone o P → IfNone o Q
if_none_then None P Q f p = f p
if_none_then (Some x) P Q f p = tt

pub none_if_some : {A : Type 0} (o : Option A) (P : Type 0) → is_some o ≡ true → IfNone o P
none_if_some None P some = cc
none_if_some (Some x) P some = tt

pub none_gives : {A : Type 0} (o : Option A) (P : Type 0) → is_some o ≡ false → IfNone o P → P
none_gives None P none p = p
none_gives (Some x) P none p = cc

pub first_behind-append : (after : Option (List ℕ)) (a b : List Slot) → first_behind after (a ++ b) ≡ or_slot (first_behind after a) (first_behind after b)
first_behind-append after [] b = refl
first_behind-append after (s ∷ ss) b =
    if_same (is_behind after s.key && is_some s.value) (Some s) _ _ (first_behind-append after ss b)
    ∙ or_if (is_behind after s.key && is_some s.value) s (first_behind after ss) (first_behind after b)

pub none_here : (after : Option (List ℕ)) (a b : List Slot) → first_behind after a ≡ None → first_behind after (a ++ b) ≡ first_behind after b
none_here after a b none = first_behind-append after a b ∙ ap (λ o. or_slot o (first_behind after b)) none

pub found_here : (after : Option (List ℕ)) (a b : List Slot) (k bytes : List ℕ) → IsFound (first_behind after a) k bytes → IsFound (first_behind after (a ++ b)) k bytes
found_here after a b k bytes found = record {
  slot = found.slot;
  is = first_behind-append after a b ∙ ap (λ o. or_slot o (first_behind after b)) found.is;
  key = found.key;
  value = found.value;
}
