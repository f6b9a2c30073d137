-- Slots of one kind, and what stands before and behind a place once a slot was put in.
use Rattle.std.proofs.Common.{◌≡◌, ◌≤◌, ◌<◌, ◌+◌, ◌-◌, ℕ, zero, suc, true, List, [], ◌∷◌, length, take, drop, arith, rules}
use Rattle.std.proofs.lemmas.List.{same_lists, places}
use Rattle.bucket_page.specs.declared.kind.PageKind.{PageKind}
use Rattle.bucket_page.specs.Pages.{suits, all_suit, inserted, slot_at}
use Rattle.bucket_page.proofs.PageLaws.{both_true}

abbrev Raws : Type 0
Raws = List (List ℕ)

pub slot_suits : (kind : PageKind) (slots : Raws) (i : ℕ) → all_suit kind slots ≡ true → i < length slots → suits kind (slot_at slots i) ≡ true
slot_suits kind [] i suit below = absurd (omega arith)
slot_suits kind (s ∷ ss) zero suit below = (both_true (suits kind s) (all_suit kind ss) suit).0
slot_suits kind (s ∷ ss) (suc i) suit below = slot_suits kind ss i (both_true (suits kind s) (all_suit kind ss) suit).1 (omega arith)

pub take_below : (s : Raws) (i j : ℕ) (x : List ℕ) → j ≤ i → i ≤ length s → take j (inserted s i x) ≡ take j s
take_below s i j x le within = same_lists _ _ (search (rules, places)) (λ k d h. grind (arith, places))

pub drop_below : (s : Raws) (i j : ℕ) (x : List ℕ) → j ≤ i → i ≤ length s → drop j (inserted s i x) ≡ inserted (drop j s) (i - j) x
drop_below s i j x le within = same_lists _ _ (search (rules, places)) (λ k d h. grind (arith, places))

pub take_above : (s : Raws) (i j : ℕ) (x : List ℕ) → i < j → j ≤ length s + 1 → take j (inserted s i x) ≡ inserted (take (j - 1) s) i x
take_above s i j x less within = same_lists _ _ (search (rules, places)) (λ k d h. grind (arith, places))

pub drop_above : (s : Raws) (i j : ℕ) (x : List ℕ) → i < j → j ≤ length s + 1 → drop j (inserted s i x) ≡ drop (j - 1) s
drop_above s i j x less within = same_lists _ _ (search (rules, places)) (λ k d h. grind (arith, places))
