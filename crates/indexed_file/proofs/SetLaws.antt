-- What a set does to the slots of the bucket for a key, among those of the whole file.
use Rattle.std.proofs.Common.{◌≡◌, ℕ, ◌<◌, ◌≤◌, Bool, true, false, List, [], ◌∷◌, ◌++◌, length, Option, Some, None, if◌then◌else◌, nat_le, max, refl, sym, ap, ◌∙◌, arith, append_assoc, suc, ◌+◌}
use Rattle.std.proofs.lemmas.Bool.Decides.{nat_tests}
use Rattle.change_set.specs.records_model.Slots.{Slot, same_bytes, bytes_before, slot_at, value_in, room_in, lookup, room_of, size_of, with_value, put, tidied_slot, tidied, AllBehind, AllBefore, IsFor}
use Rattle.change_set.specs.records_model.Parts.{bytes_of, added_buckets, added_by, has_place}
use Rattle.indexed_file.specs.Chain.{slots_set, added_by_set}
use Rattle.change_set.proofs.records_model.SlotLaws.{same_self, before_not_same, behind_not_same, if_true, if_false, put_keeps_order, tidy_keeps_order}
use Rattle.indexed_file.proofs.NextLaws.{not_before, not_before_itself}
use Rattle.change_set.specs.records_model.Chain.{place_of}

pub put_between : (k r : List ℕ) (a b : List Slot) → AllBefore k a → AllBehind k b → put k (Some r) (a ++ b) ≡ a ++ (record { key = k; room = length r; value = Some r } ∷ b)
put_between k r [] [] lower higher = refl
put_between k r [] (s ∷ ss) lower higher =
    if_false (same_bytes k s.key) _ _ (before_not_same k s.key higher.0) ∙ if_true (bytes_before k s.key) _ _ higher.0
put_between k r (s ∷ ss) b lower higher =
    if_false (same_bytes k s.key) _ _ (behind_not_same k s.key lower.0) ∙ if_false (bytes_before k s.key) _ _ (not_before s.key k lower.0) ∙ ap (λ t. s ∷ t) (put_between k r ss b lower.1 higher)

pub put_none_between : (k : List ℕ) (a b : List Slot) → AllBefore k a → AllBehind k b → put k None (a ++ b) ≡ a ++ b
put_none_between k [] [] lower higher = refl
put_none_between k [] (s ∷ ss) lower higher =
    if_false (same_bytes k s.key) _ _ (before_not_same k s.key higher.0) ∙ if_true (bytes_before k s.key) _ _ higher.0
put_none_between k (s ∷ ss) b lower higher =
    if_false (same_bytes k s.key) _ _ (behind_not_same k s.key lower.0) ∙ if_false (bytes_before k s.key) _ _ (not_before s.key k lower.0) ∙ ap (λ t. s ∷ t) (put_none_between k ss b lower.1 higher)

pub put_at : (k : List ℕ) (v : Option (List ℕ)) (a b : List Slot) (s : Slot) → AllBefore k a → s.key ≡ k → put k v (a ++ s ∷ b) ≡ a ++ (with_value v s ∷ b)
put_at k v [] b s lower here = if_true (same_bytes k s.key) _ _ (ap (same_bytes k) here ∙ same_self k)
put_at k v (t ∷ ts) b s lower here =
    if_false (same_bytes k t.key) _ _ (behind_not_same k t.key lower.0) ∙ if_false (bytes_before k t.key) _ _ (not_before t.key k lower.0) ∙ ap (λ x. t ∷ x) (put_at k v ts b s lower.1 here)

-- how many slots come before a key
pub place_past : (k : List ℕ) (a c : List Slot) → AllBefore k a → place_of k (a ++ c) ≡ length a + place_of k c
place_past k [] c lower = omega arith
place_past k (s ∷ ss) c lower =
    let here = if_true (bytes_before s.key k) (suc (place_of k (ss ++ c))) 0 lower.0 in
    let later = place_past k ss c lower.1 in
    omega (arith, here, later)

pub place_at : (k : List ℕ) (a c : List Slot) (s : Slot) → AllBefore k a → s.key ≡ k → place_of k (a ++ s ∷ c) ≡ length a
place_at k a c s lower here =
    let past = place_past k a (s ∷ c) lower in
    let none = if_false (bytes_before s.key k) (suc (place_of k c)) 0 (ap (λ x. bytes_before x k) here ∙ not_before_itself k) in
    omega (arith, past, none)

pub place_between : (k : List ℕ) (a c : List Slot) → AllBefore k a → AllBehind k c → place_of k (a ++ c) ≡ length a
place_between k a c lower higher = let past = place_past k a c lower in let none = first_behind_k c higher in omega (arith, past, none)
  where
    first_behind_k : (c : List Slot) → AllBehind k c → place_of k c ≡ 0
    first_behind_k [] higher = refl
    first_behind_k (s ∷ ss) higher = if_false (bytes_before s.key k) (suc (place_of k ss)) 0 (not_before k s.key higher.0)

pub tidied-append : (held : List ℕ → Bool) (a b : List Slot) → tidied held (a ++ b) ≡ tidied held a ++ tidied held b
tidied-append held [] b = refl
tidied-append held (s ∷ ss) b = ap (λ t. tidied_slot (held s.key) s ++ t) (tidied-append held ss b) ∙ sym (append_assoc (tidied_slot (held s.key) s) (tidied held ss) (tidied held b))

pub max_right : (m n : ℕ) → m ≤ n → max m n ≡ n
max_right m n h = omega arith

pub max_left : (m n : ℕ) → n ≤ m → max m n ≡ m
max_left m n h = omega arith

-- a slot that is tidied and then set to a record that is longer than its room
tidied_one : (b : Bool) (k r : List ℕ) (room : ℕ) (value : Option (List ℕ)) (a c : List Slot) → AllBefore k a → AllBehind k c → room ≤ length r → size_of value ≤ room
    → put k (Some r) (a ++ (tidied_slot b (record { key = k; room = room; value = value }) ++ c)) ≡ a ++ (record { key = k; room = length r; value = Some r } ∷ c)
tidied_one true k r room value a c lower higher short holds =
    put_at k (Some r) a c (record { key = k; room = room; value = value }) lower refl ∙ ap (λ n. a ++ (record { key = k; room = n; value = Some r } ∷ c)) (max_right room (length r) short)
tidied_one false k r room None a c lower higher short holds = put_between k r a c lower higher
tidied_one false k r room (Some bytes) a c lower higher short holds =
    put_at k (Some r) a c (record { key = k; room = length bytes; value = Some bytes }) lower refl
    ∙ ap (λ n. a ++ (record { key = k; room = n; value = Some r } ∷ c)) (max_right (length bytes) (length r) (omega arith))

pub put_tidied : (held : List ℕ → Bool) (k r : List ℕ) (room : ℕ) (value : Option (List ℕ)) (a c : List Slot) → AllBefore k (tidied held a) → AllBehind k (tidied held c) → room ≤ length r → size_of value ≤ room
    → put k (Some r) (tidied held (a ++ record { key = k; room = room; value = value } ∷ c)) ≡ tidied held a ++ (record { key = k; room = length r; value = Some r } ∷ tidied held c)
put_tidied held k r room value a c lower higher short holds =
    ap (put k (Some r)) (tidied-append held a (record { key = k; room = room; value = value } ∷ c))
    ∙ tidied_one (held k) k r room value (tidied held a) (tidied held c) lower higher short holds

if_cases : (P : List Slot → Type 0) (t : Bool) (x y : List Slot) → P x → P y → P (if t then x else y)
if_cases P true x y a b = a
if_cases P false x y a b = b

pub sets_for : (cap : ℕ) (held : List ℕ → Bool) (k : List ℕ) (v : Option (List ℕ)) (a target c : List Slot) → IsFor k a target c → IsFor k a (slots_set cap held k v target) c
sets_for cap held k v a target c is = if_cases (λ l. IsFor k a l c) (nat_le (bytes_of (put k v target)) cap) _ _
    (put_keeps_order k v a target c is)
    (put_keeps_order k v a (tidied held target) c (tidy_keeps_order held k a target c is))

-- each record is in its slot's room
abbrev pub AllHold : List Slot → Type 0
AllHold [] = Unit {0}
AllHold (s ∷ ss) = (size_of s.value ≤ s.room) × AllHold ss

pub held_here : (k : List ℕ) (slots : List Slot) → AllHold slots → size_of (lookup slots k) ≤ room_of slots k
held_here k [] all = omega arith
held_here k (s ∷ ss) all = go (same_bytes k s.key) (held_here k ss all.1)
  where
    go : (t : Bool) → size_of (lookup ss k) ≤ room_of ss k → size_of (value_in (if t then Some s else slot_at k ss)) ≤ room_in (if t then Some s else slot_at k ss)
    go true later = all.0
    go false later = later

added_step : (t : Bool) (x y : List Slot) (cap : ℕ) → nat_le (bytes_of x) cap ≡ t → (if t then 0 else added_buckets cap y) ≡ added_buckets cap (if t then x else y)
added_step true x y cap fits = ap (λ u. added_by u (has_place cap x (length x))) (sym fits)
added_step false x y cap fits = refl

-- the buckets that are added are those of the parts
pub sets_added : (cap : ℕ) (held : List ℕ → Bool) (k : List ℕ) (v : Option (List ℕ)) (slots : List Slot) → added_by_set cap held k v slots ≡ added_buckets cap (slots_set cap held k v slots)
sets_added cap held k v slots = added_step (nat_le (bytes_of (put k v slots)) cap) (put k v slots) (put k v (tidied held slots)) cap refl

fits_test : (n cap : ℕ) → n ≤ cap → nat_le n cap ≡ true
fits_test n cap h = grind (arith, nat_tests)

over_test : (n cap : ℕ) → cap < n → nat_le n cap ≡ false
over_test n cap h = grind (arith, nat_tests)

pub set_fits : (cap : ℕ) (held : List ℕ → Bool) (k : List ℕ) (v : Option (List ℕ)) (slots : List Slot) → bytes_of (put k v slots) ≤ cap → slots_set cap held k v slots ≡ put k v slots
set_fits cap held k v slots fits = if_true (nat_le (bytes_of (put k v slots)) cap) _ _ (fits_test (bytes_of (put k v slots)) cap fits)

pub set_over : (cap : ℕ) (held : List ℕ → Bool) (k : List ℕ) (v : Option (List ℕ)) (slots : List Slot) → cap < bytes_of (put k v slots) → slots_set cap held k v slots ≡ put k v (tidied held slots)
set_over cap held k v slots over = if_false (nat_le (bytes_of (put k v slots)) cap) _ _ (over_test (bytes_of (put k v slots)) cap over)
