-- Where a key is found in a tree.
use Rattle.std.proofs.Common.{◌≡◌, ℕ, Bool, true, false, List, [], ◌∷◌, ◌++◌, if◌then◌else◌, refl, ap, ◌∙◌}
use Rattle.std.specs.List.{list_any}
use Rattle.records_model.specs.Slots.{slot_at, IsOrdered}
use Rattle.records_model.proofs.SlotLaws.{or_slot, slot_at-append, before_absent, ordered_parts}
use Rattle.tree_model.specs.Layouts.{Leaf, slots_along}
use Rattle.tree_model.specs.Setting.{starts_by, slots_for}
use Rattle.tree_model.specs.Trees.{AreBounded}
use Rattle.tree_model.specs.Laws.{TreeFinds}
use Rattle.tree_model.proofs.BoundLemmas.{lower_slots, higher_slots}
use Rattle.tree_model.proofs.RoomLemmas.{alone_at}

found : (k : List ℕ) (bs : List Leaf) → IsOrdered (slots_along bs) → AreBounded bs → slot_at k (slots_along bs) ≡ slot_at k (slots_for k bs)
found k [] ordered bounded = refl
found k (b ∷ bs) ordered bounded = go (list_any (starts_by k) bs) refl (found k bs (ordered_parts b.slots (slots_along bs) ordered).1 bounded.2)
  where
    go : (t : Bool) → list_any (starts_by k) bs ≡ t → slot_at k (slots_along bs) ≡ slot_at k (slots_for k bs) → slot_at k (b.slots ++ slots_along bs) ≡ slot_at k (if t then slots_for k bs else b.slots)
    go true any later = slot_at-append k b.slots (slots_along bs) ∙ ap (λ o. or_slot o (slot_at k (slots_along bs))) (before_absent k b.slots (lower_slots k b bs bounded any)) ∙ later
    go false none later = alone_at k b.slots (slots_along bs) (higher_slots k bs bounded.2 none)

pub tree_finds : TreeFinds
tree_finds sizes k l tree = found k l.leaves tree.ordered tree.bounded
