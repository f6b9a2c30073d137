-- Trees in which a key is set back.
use Rattle.std.proofs.Common.{◌≡◌, ◌≤◌, ℕ, suc, ◌+◌, Bool, true, false, List, [], ◌∷◌, ◌++◌, length, map, Option, Some, if◌then◌else◌, refl, sym, ap, ◌∙◌, subst, arith}
use Rattle.records_model.specs.Slots.{Slot, same_bytes, bytes_before, slot_at, room_in, room_of, size_of, with_value, lookup, AllBehind, AllBefore, IsOrdered}
use Rattle.records_model.specs.Parts.{bytes_of}
use Rattle.records_model.specs.Chain.{slot_back}
use Rattle.records_model.proofs.SlotLaws.{same_bytes_are, before_not_same}
use Rattle.records_model.proofs.ChainLemmas.{key_stays, order_back, sets_back}
use Rattle.tree_model.specs.Layouts.{Leaf, slots_along}
use Rattle.tree_model.specs.Setting.{leaf_back}
use Rattle.tree_model.specs.Trees.{AllFrom, EndsBefore, AreBounded, AllHold, AllFit, IsIndex}
use Rattle.tree_model.specs.Laws.{TreeSetsBack}

map_append : (f : Slot → Slot) (xs ys : List Slot) → map f (xs ++ ys) ≡ map f xs ++ map f ys
map_append f [] ys = refl
map_append f (x ∷ xs) ys = ap (λ zs. f x ∷ zs) (map_append f xs ys)

module _ (k : List ℕ) (v : Option (List ℕ)) where
  along_back : (bs : List Leaf) → slots_along (map (leaf_back k v) bs) ≡ map (slot_back k v) (slots_along bs)
  along_back [] = refl
  along_back (b ∷ bs) = ap (λ l. map (slot_back k v) b.slots ++ l) (along_back bs) ∙ sym (map_append (slot_back k v) b.slots (slots_along bs))

  from_back : (low : List ℕ) (slots : List Slot) → AllFrom low slots → AllFrom low (map (slot_back k v) slots)
  from_back low [] all = tt
  from_back low (s ∷ ss) all = (ap (λ key. bytes_before key low) (key_stays k v s) ∙ all.0, from_back low ss all.1)

  before_back : (high : List ℕ) (slots : List Slot) → AllBefore high slots → AllBefore high (map (slot_back k v) slots)
  before_back high [] all = tt
  before_back high (s ∷ ss) all = (ap (λ key. bytes_before key high) (key_stays k v s) ∙ all.0, before_back high ss all.1)

  ends_back : (b : Leaf) (bs : List Leaf) → EndsBefore b bs → EndsBefore (leaf_back k v b) (map (leaf_back k v) bs)
  ends_back b [] ends = tt
  ends_back b (c ∷ cs) ends = (before_back c.lowest b.slots ends.0, ends.1)

  bounded_back : (bs : List Leaf) → AreBounded bs → AreBounded (map (leaf_back k v) bs)
  bounded_back [] bounded = tt
  bounded_back (b ∷ bs) bounded = (from_back b.lowest b.slots bounded.0, ends_back b bs bounded.1, bounded_back bs bounded.2)

  -- each slot of the key has room for the value
  abbrev HasRooms : List Slot → Type 0
  HasRooms [] = Unit {0}
  HasRooms (s ∷ ss) = (same_bytes k s.key ≡ true → size_of v ≤ s.room) × HasRooms ss

  bytes_back : (slots : List Slot) → HasRooms slots → bytes_of (map (slot_back k v) slots) ≡ bytes_of slots
  bytes_back [] rooms = refl
  bytes_back (s ∷ ss) rooms = go (same_bytes k s.key) rooms.0 (bytes_back ss rooms.1)
    where
      go : (t : Bool) → (t ≡ true → size_of v ≤ s.room) → bytes_of (map (slot_back k v) ss) ≡ bytes_of ss → 4 + (if t then with_value v s else s).room + bytes_of (map (slot_back k v) ss) ≡ 4 + s.room + bytes_of ss
      go true room later = let r = room refl in omega (arith, r, later)
      go false room later = omega (arith, later)

  hold_back : (slots : List Slot) → AllHold slots → AllHold (map (slot_back k v) slots)
  hold_back [] all = tt
  hold_back (s ∷ ss) all = (go (same_bytes k s.key), hold_back ss all.1)
    where
      go : (t : Bool) → size_of (if t then with_value v s else s).value ≤ (if t then with_value v s else s).room
      go true = omega arith
      go false = all.0

  rooms_parts : (a b : List Slot) → HasRooms (a ++ b) → HasRooms a × HasRooms b
  rooms_parts [] b rooms = (tt, rooms)
  rooms_parts (s ∷ ss) b rooms = let rest = rooms_parts ss b rooms.1 in ((rooms.0, rest.0), rest.1)

  fit_back : (room : ℕ) (bs : List Leaf) → HasRooms (slots_along bs) → AllFit room bs → AllFit room (map (leaf_back k v) bs)
  fit_back room [] rooms fit = tt
  fit_back room (b ∷ bs) rooms fit =
      let parts = rooms_parts b.slots (slots_along bs) rooms in
      let same = bytes_back b.slots parts.0 in
      let small = fit.0.0 in ((omega (arith, same, small), hold_back b.slots fit.0.1), fit_back room bs parts.1 fit.1)

  none_behind : (slots : List Slot) → AllBehind k slots → HasRooms slots
  none_behind [] all = tt
  none_behind (s ∷ ss) all = ((λ same. let other = before_not_same k s.key all.0 in let none : ⊥ = cc in absurd none), none_behind ss all.1)

  -- the one slot of the key has room
  rooms_of : (slots : List Slot) → IsOrdered slots → size_of v ≤ room_of slots k → HasRooms slots
  rooms_of [] ordered room = tt
  rooms_of (s ∷ ss) ordered room = go (same_bytes k s.key) refl room (λ r. rooms_of ss ordered.1 r)
    where
      go : (t : Bool) → same_bytes k s.key ≡ t → size_of v ≤ room_in (if t then Some s else slot_at k ss) → (size_of v ≤ room_of ss k → HasRooms ss) → (same_bytes k s.key ≡ true → size_of v ≤ s.room) × HasRooms ss
      go true same r later = ((λ h. r), none_behind ss (subst (λ key. AllBehind key ss) (sym (same_bytes_are k s.key same)) ordered.0))
      go false other r later = ((λ h. let none : ⊥ = cc in absurd none), later r)

length_map : {X Y : Type 0} (f : X → Y) (xs : List X) → length (map f xs) ≡ length xs
length_map f [] = refl
length_map f (x ∷ xs) = ap suc (length_map f xs)

lowest_stay : (k : List ℕ) (v : Option (List ℕ)) (bs : List Leaf) → map (λ (b : Leaf). b.lowest) (map (leaf_back k v) bs) ≡ map (λ (b : Leaf). b.lowest) bs
lowest_stay k v [] = refl
lowest_stay k v (b ∷ bs) = ap (λ ls. b.lowest ∷ ls) (lowest_stay k v bs)

pub tree_has_set_back : TreeSetsBack
tree_has_set_back sizes k v l s tree at room = record {
  sets = λ q. ap (λ x. lookup x q) (along_back k v l.leaves) ∙ sets_back k v (slots_along l.leaves) s at q;
  tree = record {
    ordered = subst IsOrdered (sym (along_back k v l.leaves)) (order_back k v (slots_along l.leaves) tree.ordered);
    bounded = bounded_back k v l.leaves tree.bounded;
    fit = fit_back k v sizes.capacity l.leaves (rooms_of k v (slots_along l.leaves) tree.ordered room) tree.fit;
    index = subst (λ n. IsIndex sizes.fan_out n l.index) (sym (length_map (leaf_back k v) l.leaves)) tree.index;
  };
  lowest = lowest_stay k v l.leaves;
  index = refl;
}
