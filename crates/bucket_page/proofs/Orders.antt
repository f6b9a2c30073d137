-- Slots that ascend.
use Rattle.std.proofs.Common.{◌≡◌, ⊎_elim, ℕ, zero, suc, ◌<◌, ◌≤◌, ◌+◌, ◌-◌, ◌&&◌, ◌++◌, true, false, List, [], ◌∷◌, length, take, drop, replicate, get_or, refl, sym, ap, ◌∙◌, arith, rules, append_assoc, ◌==◌, nat_le}
use Rattle.std.proofs.lemmas.Bool.Decides.{nat_tests}
use Rattle.file_base.specs.Bytes.{piece_at}
use Rattle.std.specs.declared.cmp.Ordering.{Ordering}
use Rattle.std.specs.declared.cmp.Ordering.TheVariants.{Less, Equal, Greater}
use Rattle.std.specs.Ordering.{nat_cmp, is_lt}
use Rattle.std.specs.Cmp.Lexicographic.{slice_cmp}
use Rattle.std.proofs.lemmas.Bool.{cases_Bool}
use Rattle.std.proofs.lemmas.Cmp.{nat_list_cmp_total}
use Rattle.std.proofs.lemmas.List.{same_lists, places, take_at, take_more, take-append-drop, drop_more}
use Rattle.bucket_page.specs.declared.kind.PageKind.{PageKind}
use Rattle.bucket_page.specs.declared.kind.PageKind.TheVariants.{Seq, Rel, Data, Index}
use Rattle.bucket_page.specs.Pages.{u16_at, key_in, front_size, front_slot, slots_of, joined, suits, all_suit, may_precede, precedes_all, ascend, IsPacked, reach, removed, slot_at}
use Rattle.bucket_page.proofs.PageLaws.{both_true, suit_size, slot_stands, rest_at, all_suit-drop}

less_is : (o : Ordering) → is_lt o ≡ true → o ≡ Less
less_is Less h = refl
less_is Equal h = cc
less_is Greater h = cc

key_trans : (a b c : List ℕ) → is_lt (slice_cmp nat_cmp a b) ≡ true → is_lt (slice_cmp nat_cmp b c) ≡ true → is_lt (slice_cmp nat_cmp a c) ≡ true
key_trans a b c h k = ap is_lt (nat_list_cmp_total.trans a b c (less_is (slice_cmp nat_cmp a b) h) (less_is (slice_cmp nat_cmp b c) k))

pub may_trans : (kind : PageKind) (a b c : List ℕ) → may_precede kind a b ≡ true → may_precede kind b c ≡ true → may_precede kind a c ≡ true
may_trans Seq a b c h k = refl
may_trans (Rel mrs) a b c h k = refl
may_trans (Data pos size) a b c h k = key_trans (key_in (Data pos size) a) (key_in (Data pos size) b) (key_in (Data pos size) c) h k
may_trans (Index size) a b c h k = key_trans (key_in (Index size) a) (key_in (Index size) b) (key_in (Index size) c) h k

precedes_last : (kind : PageKind) (s : List ℕ) (ts : List (List ℕ)) (a b : List ℕ) → precedes_all kind s (ts ++ a ∷ []) ≡ true → may_precede kind a b ≡ true
    → precedes_all kind s ((ts ++ a ∷ []) ++ b ∷ []) ≡ true
precedes_last kind s [] a b all less =
    let both = both_true (may_precede kind s a) true all in
    λ i. both.0 i && (may_trans kind s a b both.0 less i && true)
precedes_last kind s (t ∷ ts) a b all less =
    let both = both_true (may_precede kind s t) (precedes_all kind s (ts ++ a ∷ [])) all in
    λ i. both.0 i && precedes_last kind s ts a b both.1 less i

ascend_last : (kind : PageKind) (ts : List (List ℕ)) (a b : List ℕ) → ascend kind (ts ++ a ∷ []) ≡ true → may_precede kind a b ≡ true → ascend kind ((ts ++ a ∷ []) ++ b ∷ []) ≡ true
ascend_last kind [] a b order less = λ i. (less i && true) && true
ascend_last kind (t ∷ ts) a b order less =
    let both = both_true (precedes_all kind t (ts ++ a ∷ [])) (ascend kind (ts ++ a ∷ [])) order in
    λ i. precedes_last kind t ts a b both.0 less i && ascend_last kind ts a b both.1 less i

ascend_one : (kind : PageKind) (slots : List (List ℕ)) → 0 < length slots → ascend kind (take 1 slots) ≡ true
ascend_one kind [] less = absurd (omega arith)
ascend_one kind (s ∷ ss) less = refl

-- one slot more, which may stand behind the last
pub ascend_more : (kind : PageKind) (slots : List (List ℕ)) (k : ℕ) → k < length slots → ascend kind (take k slots) ≡ true
    → (0 < k → may_precede kind (slot_at slots (k - 1)) (slot_at slots k) ≡ true) → ascend kind (take (k + 1) slots) ≡ true
ascend_more kind slots zero below order next = ascend_one kind slots below
ascend_more kind slots (suc j) below order next =
    let before : suc j ≡ j + 1 = omega arith in
    let last : j ≡ suc j - 1 = omega arith in
    let front : take (suc j) slots ≡ take j slots ++ slot_at slots j ∷ [] = ap (λ n. take n slots) before ∙ take_more slots j [] (omega arith) in
    let less : may_precede kind (slot_at slots j) (slot_at slots (suc j)) ≡ true = ap (λ n. may_precede kind (slot_at slots n) (slot_at slots (suc j))) last ∙ next (omega arith) in
    ap (ascend kind) (take_more slots (suc j) [] below ∙ ap (λ t. t ++ slot_at slots (suc j) ∷ []) front)
    ∙ ascend_last kind (take j slots) (slot_at slots j) (slot_at slots (suc j)) (ap (ascend kind) (sym front) ∙ order) less

precedes_at : (kind : PageKind) (s : List ℕ) (ts : List (List ℕ)) (k : ℕ) → precedes_all kind s ts ≡ true → k < length ts → may_precede kind s (slot_at ts k) ≡ true
precedes_at kind s [] k all below = absurd (omega arith)
precedes_at kind s (t ∷ ts) zero all below = (both_true (may_precede kind s t) (precedes_all kind s ts) all).0
precedes_at kind s (t ∷ ts) (suc k) all below = precedes_at kind s ts k (both_true (may_precede kind s t) (precedes_all kind s ts) all).1 (omega arith)

-- of slots that ascend each may stand before the next
pub ascend_at : (kind : PageKind) (slots : List (List ℕ)) (j k : ℕ) → ascend kind slots ≡ true → j < k → k < length slots → may_precede kind (slot_at slots j) (slot_at slots k) ≡ true
ascend_at kind [] j k order less below = absurd (omega arith)
ascend_at kind (s ∷ ss) j zero order less below = absurd (omega arith)
ascend_at kind (s ∷ ss) zero (suc k) order less below = precedes_at kind s ss k (both_true (precedes_all kind s ss) (ascend kind ss) order).0 (omega arith)
ascend_at kind (s ∷ ss) (suc j) (suc k) order less below = ascend_at kind ss j k (both_true (precedes_all kind s ss) (ascend kind ss) order).1 (omega arith) (omega arith)

pub not_ascend : (kind : PageKind) (slots : List (List ℕ)) (j k : ℕ) → j < k → k < length slots → may_precede kind (slot_at slots j) (slot_at slots k) ≡ false → ascend kind slots ≡ false
not_ascend kind slots j k less below wrong = ⊎_elim (λ right. let may = ascend_at kind slots j k right less below in absurd (cc)) (λ f. f) (cases_Bool (ascend kind slots))

precedes-append : (kind : PageKind) (s : List ℕ) (a b : List (List ℕ)) → precedes_all kind s (a ++ b) ≡ true → (precedes_all kind s a ≡ true) × (precedes_all kind s b ≡ true)
precedes-append kind s [] b all = (refl, all)
precedes-append kind s (t ∷ ts) b all =
    let both = both_true (may_precede kind s t) (precedes_all kind s (ts ++ b)) all in
    let later = precedes-append kind s ts b both.1 in
    (λ i. both.0 i && later.0 i, later.1)

precedes_both : (kind : PageKind) (s : List ℕ) (a b : List (List ℕ)) → precedes_all kind s a ≡ true → precedes_all kind s b ≡ true → precedes_all kind s (a ++ b) ≡ true
precedes_both kind s [] b first second = second
precedes_both kind s (t ∷ ts) b first second =
    let both = both_true (may_precede kind s t) (precedes_all kind s ts) first in
    λ i. both.0 i && precedes_both kind s ts b both.1 second i

pub ascend_parts : (kind : PageKind) (a b : List (List ℕ)) → ascend kind (a ++ b) ≡ true → (ascend kind a ≡ true) × (ascend kind b ≡ true)
ascend_parts kind [] b order = (refl, order)
ascend_parts kind (s ∷ ss) b order =
    let both = both_true (precedes_all kind s (ss ++ b)) (ascend kind (ss ++ b)) order in
    let later = ascend_parts kind ss b both.1 in
    let first = precedes-append kind s ss b both.0 in
    (λ i. first.0 i && later.0 i, later.1)

pub ascend-take : (kind : PageKind) (i : ℕ) (slots : List (List ℕ)) → ascend kind slots ≡ true → ascend kind (take i slots) ≡ true
ascend-take kind i slots order = (ascend_parts kind (take i slots) (drop i slots) (ap (ascend kind) (take-append-drop i slots) ∙ order)).0

pub ascend-drop : (kind : PageKind) (i : ℕ) (slots : List (List ℕ)) → ascend kind slots ≡ true → ascend kind (drop i slots) ≡ true
ascend-drop kind i slots order = (ascend_parts kind (take i slots) (drop i slots) (ap (ascend kind) (take-append-drop i slots) ∙ order)).1

without : (kind : PageKind) (a : List (List ℕ)) (s : List ℕ) (b : List (List ℕ)) → ascend kind (a ++ s ∷ b) ≡ true → ascend kind (a ++ b) ≡ true
without kind [] s b order = (both_true (precedes_all kind s b) (ascend kind b) order).1
without kind (t ∷ ts) s b order =
    let both = both_true (precedes_all kind t (ts ++ s ∷ b)) (ascend kind (ts ++ s ∷ b)) order in
    let parts = precedes-append kind t ts (s ∷ b) both.0 in
    let behind = both_true (may_precede kind t s) (precedes_all kind t b) parts.1 in
    λ i. precedes_both kind t ts b parts.0 behind.1 i && without kind ts s b both.1 i

pub ascend-removed : (kind : PageKind) (i : ℕ) (slots : List (List ℕ)) → i < length slots → ascend kind slots ≡ true → ascend kind (removed slots i) ≡ true
ascend-removed kind i slots below order =
    without kind (take i slots) (slot_at slots i) (drop (i + 1) slots)
    (ap (λ d. ascend kind (take i slots ++ d)) (sym (drop_more slots i [] below)) ∙ ap (ascend kind) (take-append-drop i slots) ∙ order)

-- slot k, where it stands
pub record Here (kind : PageKind) (slots : List (List ℕ)) (k : ℕ) (rest : List ℕ) : Type 0 where
  pub is : front_slot kind rest ≡ slot_at slots k
  pub suit : suits kind (front_slot kind rest) ≡ true

pub slot_here : (kind : PageKind) (size k : ℕ) (bytes : List ℕ) → IsPacked kind size bytes → k < length (slots_of kind bytes)
    → Here kind (slots_of kind bytes) k (drop (reach (slots_of kind bytes) k) bytes)
slot_here kind size k bytes packed below =
    let slots = slots_of kind bytes in
    let stands = slot_stands kind size k bytes packed below in
    let front = drop_more slots k [] below in
    let suit = both_true (suits kind (get_or slots k [])) (all_suit kind (drop (k + 1) slots)) (sym (ap (all_suit kind) front) ∙ all_suit-drop kind k slots packed.suit) in
    let zeros : List ℕ = replicate (size - 16 - length (joined slots)) 0 in
    let there = rest_at kind size k bytes packed ∙ ap (λ d. joined d ++ zeros) front ∙ append_assoc (get_or slots k []) (joined (drop (k + 1) slots)) zeros in
    let is : front_slot kind (drop (reach slots k) bytes) ≡ slot_at slots k =
    (λ i. take (stands.size i) (there i)) ∙ take_at (get_or slots k []) (joined (drop (k + 1) slots) ++ zeros) (length (get_or slots k [])) refl in
    record { is = is; suit = ap (suits kind) is ∙ suit.0 }

-- a piece of the slot at the front
pub key_there : (bytes : List ℕ) (a n from size : ℕ) → from + size ≤ n → piece_at (take n (drop a bytes)) from size ≡ piece_at bytes (a + from) size
key_there bytes a n from size within = same_lists _ _ (search (rules, places)) (λ k d h. grind (arith, places))

data_room : (m r l k : ℕ) → ((m == 4 + r) && (nat_le l r && nat_le k r)) ≡ true → 4 + k ≤ m
data_room m r l k h = grind (arith, nat_tests)

-- the key lies in its slot
pub data_within : (pos size : ℕ) (slot : List ℕ) → suits (Data pos size) slot ≡ true → 4 + (pos + size) ≤ front_size (Data pos size) slot
data_within pos size slot suit = let s = data_room (length slot) (u16_at slot 0) (u16_at slot 2) (pos + size) suit in omega (arith, s, suit_size (Data pos size) slot suit)

-- slots of which each may stand before each other ascend
precedes_each : (kind : PageKind) → ((a b : List ℕ) → may_precede kind a b ≡ true) → (s : List ℕ) (ss : List (List ℕ)) → precedes_all kind s ss ≡ true
precedes_each kind any s [] = refl
precedes_each kind any s (t ∷ ts) = λ i. any s t i && precedes_each kind any s ts i

pub ascend_each : (kind : PageKind) → ((a b : List ℕ) → may_precede kind a b ≡ true) → (ss : List (List ℕ)) → ascend kind ss ≡ true
ascend_each kind any [] = refl
ascend_each kind any (s ∷ ss) = λ i. precedes_each kind any s ss i && ascend_each kind any ss i
