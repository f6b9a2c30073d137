-- Slots of a bucket of an indexed file.
use Rattle.std.proofs.Common.{◌≡◌, ⊎_elim, ℕ, zero, suc, ◌<◌, ◌≤◌, ◌+◌, ◌==◌, ◌&&◌, true, List, [], ◌∷◌, length, sym, ap, ◌∙◌, arith, nat_le}
use Rattle.std.specs.declared.cmp.Ordering.TheVariants.{Less, Equal, Greater}
use Rattle.std.specs.Ordering.{nat_cmp, is_lt, ordering_reverse}
use Rattle.std.specs.Cmp.Lexicographic.{slice_cmp}
use Rattle.std.proofs.lemmas.Bool.Decides.{nat_tests}
use Rattle.std.proofs.lemmas.Cmp.{nat_list_cmp_total}
use Rattle.std.proofs.lemmas.Map.Lookups.{exact_bytes}
use Rattle.std.proofs.lemmas.Bool.{cases_lt}
use Rattle.file_base.specs.declared.head.FileHead.{FileHead}
use Rattle.bucket_page.specs.declared.kind.PageKind.{PageKind}
use Rattle.bucket_page.specs.Pages.{u16_at, suits, all_suit, ascend, slot_at}
use Rattle.bucket_page.proofs.PageLaws.{both_true}
use Rattle.bucket_page.proofs.Orders.{ascend_at}
use Rattle.change_set.specs.records_model.Slots.{bytes_before}
use Rattle.indexed_file.specs.Chain.{kind_of}
use Rattle.indexed_file.specs.Places.{key_at, IsPlace}
use Rattle.change_set.proofs.records_model.SlotLaws.{before_trans}

pub slot_suits : (kind : PageKind) (slots : List (List ℕ)) (i : ℕ) → all_suit kind slots ≡ true → i < length slots → suits kind (slot_at slots i) ≡ true
slot_suits kind [] i suit below = absurd (omega arith)
slot_suits kind (s ∷ ss) zero suit below = (both_true (suits kind s) (all_suit kind ss) suit).0
slot_suits kind (s ∷ ss) (suc i) suit below = slot_suits kind ss i (both_true (suits kind s) (all_suit kind ss) suit).1 (omega arith)

-- what a slot's first bytes tell
pub record Tells (m r l k : ℕ) : Type 0 where
  pub size : m ≡ 4 + r
  pub room : l ≤ r
  pub key : 4 + k ≤ m

pub data_tells : (m r l k : ℕ) → ((m == 4 + r) && (nat_le l r && nat_le k r)) ≡ true → Tells m r l k
data_tells m r l k h = record { size = grind (arith, nat_tests); room = grind (arith, nat_tests); key = grind (arith, nat_tests) }

pub slot_tells : (h : FileHead) (slots : List (List ℕ)) (i : ℕ) → all_suit (kind_of h) slots ≡ true → i < length slots
    → Tells (length (slot_at slots i)) (u16_at (slot_at slots i) 0) (u16_at (slot_at slots i) 2) (h.key_pos + h.key_size)
slot_tells h slots i suit below = data_tells _ _ _ _ (slot_suits (kind_of h) slots i suit below)

-- slots up to one whose key comes before another
pub all_lower : (h : FileHead) (k : List ℕ) (slots : List (List ℕ)) (m : ℕ) → ascend (kind_of h) slots ≡ true → m < length slots → slice_cmp nat_cmp (key_at h slots m) k ≡ Less
    → (j : ℕ) → j < m + 1 → bytes_before (key_at h slots j) k ≡ true
all_lower h k slots m order below less j under = ⊎_elim
    (λ before. before_trans (key_at h slots j) (key_at h slots m) k (ascend_at (kind_of h) slots j m order before below) (ap is_lt less))
    (λ here. let same : j ≡ m = omega arith in ap (λ n. bytes_before (key_at h slots n) k) same ∙ ap is_lt less)
    (cases_lt j m)

-- and from one whose key comes behind it
pub all_higher : (h : FileHead) (k : List ℕ) (slots : List (List ℕ)) (m : ℕ) → ascend (kind_of h) slots ≡ true → slice_cmp nat_cmp (key_at h slots m) k ≡ Greater
    → (j : ℕ) → m ≤ j → j < length slots → bytes_before k (key_at h slots j) ≡ true
all_higher h k slots m order more j from below =
    let first : bytes_before k (key_at h slots m) ≡ true = ap is_lt (nat_list_cmp_total.antisymm k (key_at h slots m) ∙ ap ordering_reverse more) in
    ⊎_elim
    (λ after. before_trans k (key_at h slots m) (key_at h slots j) first (ascend_at (kind_of h) slots m j order after below))
    (λ here. let same : j ≡ m = omega arith in ap (λ n. bytes_before k (key_at h slots n)) same ∙ first)
    (cases_lt m j)

pub lower_at : (h : FileHead) (k : List ℕ) (slots : List (List ℕ)) (m : ℕ) → ascend (kind_of h) slots ≡ true → m < length slots → slice_cmp nat_cmp (key_at h slots m) k ≡ Equal
    → (j : ℕ) → j < m → bytes_before (key_at h slots j) k ≡ true
lower_at h k slots m order below same j before =
    ap (λ x. bytes_before (key_at h slots j) x) (sym (exact_bytes (key_at h slots m) k same)) ∙ ascend_at (kind_of h) slots j m order before below

pub place_of_equal : (h : FileHead) (k : List ℕ) (slots : List (List ℕ)) (m : ℕ) → ascend (kind_of h) slots ≡ true → m < length slots → slice_cmp nat_cmp (key_at h slots m) k ≡ Equal → IsPlace h k slots m true
place_of_equal h k slots m order below same = record {
  within = omega arith;
  lower = lower_at h k slots m order below same;
  there = λ _. below;
  here = λ _. exact_bytes (key_at h slots m) k same;
  higher = λ wrong. cc;
}
