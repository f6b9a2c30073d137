-- Rooms of a tree in which a key is set.
use Rattle.std.proofs.Common.{◌≡◌, ◌≤◌, ⊎_elim, ℕ, Bool, true, false, List, [], ◌∷◌, ◌++◌, Option, Some, None, if◌then◌else◌, refl, sym, ap, ◌∙◌, subst, arith}
use Rattle.std.specs.List.{list_any}
use Rattle.std.proofs.lemmas.Bool.{cases_Bool}
use Rattle.records_model.specs.Slots.{Slot, same_bytes, slot_at, value_in, room_in, lookup, room_of, size_of, put, tidied_slot, tidied, AllBehind, AllBefore, IsOrdered}
use Rattle.records_model.specs.Chain.{bucket_with}
use Rattle.records_model.proofs.SlotLaws.{if_true, if_false, same_bytes_are, or_slot, slot_at-append, behind_absent, before_absent, ordered_parts, put_other, put_keeps_rooms, tidy_keeps, tidy_keeps_rooms, tidy_order}
use Rattle.tree_model.specs.Layouts.{Leaf, slots_along}
use Rattle.tree_model.specs.Setting.{starts_by, leaves_from, leaves_with, layout_with}
use Rattle.tree_model.specs.Trees.{AreBounded, AllHold, AllFit, IsTree}
use Rattle.tree_model.specs.Laws.{TreeRooms, TreeKeepsRooms}
use Rattle.tree_model.proofs.PartsLemmas.{tidied_holds}
use Rattle.tree_model.proofs.BoundLemmas.{lower_slots, higher_slots, slots_along-parts, bucket_cases}

-- a slot whose key is held stays as it is
held_stays : (held : List ℕ → Bool) (q : List ℕ) (slots : List Slot) → held q ≡ true → IsOrdered slots → slot_at q (tidied held slots) ≡ slot_at q slots
held_stays held q [] is ordered = refl
held_stays held q (s ∷ ss) is ordered = go (same_bytes q s.key) refl (held_stays held q ss is ordered.1)
  where
    other_step : (b : Bool) (s : Slot) (v : Option (List ℕ)) → same_bytes q s.key ≡ false → slot_at q (tidied held ss) ≡ slot_at q ss → slot_at q (tidied_slot b (record s { value = v }) ++ tidied held ss) ≡ slot_at q ss
    other_step true s v other later = if_false (same_bytes q s.key) _ _ other ∙ later
    other_step false s None other later = later
    other_step false s (Some bytes) other later = if_false (same_bytes q s.key) _ _ other ∙ later

    here_step : (b : Bool) → held s.key ≡ b → same_bytes q s.key ≡ true → slot_at q (tidied_slot b s ++ tidied held ss) ≡ Some s
    here_step true h same = if_true (same_bytes q s.key) _ _ same
    here_step false h same = let key = ap held (same_bytes_are q s.key same) in let none : ⊥ = cc in absurd none

    go : (t : Bool) → same_bytes q s.key ≡ t → slot_at q (tidied held ss) ≡ slot_at q ss → slot_at q (tidied_slot (held s.key) s ++ tidied held ss) ≡ (if t then Some s else slot_at q ss)
    go true same later = here_step (held s.key) refl same
    go false other later = other_step (held s.key) s s.value other later

room_front : (before x y : List Slot) (q : List ℕ) → room_of x q ≤ room_of y q → room_of (before ++ x) q ≤ room_of (before ++ y) q
room_front before x y q less =
    let a = ap room_in (slot_at-append q before x) in
    let b = ap room_in (slot_at-append q before y) in
    let c = go (slot_at q before) in omega (arith, a, b, c)
  where
    go : (o : Option Slot) → room_in (or_slot o (slot_at q x)) ≤ room_in (or_slot o (slot_at q y))
    go None = less
    go (Some s) = omega arith

or_none_of : (x : Option Slot) → or_slot x None ≡ x
or_none_of None = refl
or_none_of (Some s) = refl

pub alone_at : (k : List ℕ) (x rest : List Slot) → AllBehind k rest → slot_at k (x ++ rest) ≡ slot_at k x
alone_at k x rest behind = slot_at-append k x rest ∙ ap (or_slot (slot_at k x)) (behind_absent k rest behind) ∙ or_none_of (slot_at k x)

-- a record's room holds it
value_fits : (k : List ℕ) (slots : List Slot) → AllHold slots → size_of (lookup slots k) ≤ room_of slots k
value_fits k [] holds = omega arith
value_fits k (s ∷ ss) holds = go (same_bytes k s.key) (value_fits k ss holds.1)
  where
    go : (t : Bool) → size_of (lookup ss k) ≤ room_of ss k → size_of (value_in (if t then Some s else slot_at k ss)) ≤ room_in (if t then Some s else slot_at k ss)
    go true later = holds.0
    go false later = later

module _ (held : List ℕ → Bool) (k : List ℕ) (v : Option (List ℕ)) (b rest : List Slot) (ordered : IsOrdered b) (holds : AllHold b) (behind : AllBehind k rest) where
  apart : (q : List ℕ) (x : List Slot) → same_bytes q k ≡ false → slot_at q x ≡ slot_at q b → room_of (b ++ rest) q ≤ room_of (put k v x ++ rest) q
  apart q x other same =
      let a = ap room_in (slot_at-append q b rest) in
      let c = ap room_in (slot_at-append q (put k v x) rest ∙ ap (λ o. or_slot o (slot_at q rest)) (put_other q k v x other ∙ same)) in omega (arith, a, c)

  here : (x : List Slot) → IsOrdered x → room_of b k ≤ room_of x k → room_of (b ++ rest) k ≤ room_of (put k v x ++ rest) k
  here x order less =
      let a = ap room_in (alone_at k b rest behind) in
      let c = ap room_in (alone_at k (put k v x) rest behind) in
      let grows = (put_keeps_rooms k v x order).keeps in omega (arith, a, c, grows, less)

  plain : (q : List ℕ) → room_of (b ++ rest) q ≤ room_of (put k v b ++ rest) q
  plain q = ⊎_elim (λ same. subst (λ j. room_of (b ++ rest) j ≤ room_of (put k v b ++ rest) j) (sym (same_bytes_are q k same)) (here b ordered (omega arith))) (λ other. apart q b other refl) (cases_Bool (same_bytes q k))

  tidy : (q : List ℕ) → held q ≡ true → room_of (b ++ rest) q ≤ room_of (put k v (tidied held b) ++ rest) q
  tidy q is = ⊎_elim
      (λ same. let key = same_bytes_are q k same in
      let room = tidy_keeps_rooms held b ordered k (ap held (sym key) ∙ is) in
      subst (λ j. room_of (b ++ rest) j ≤ room_of (put k v (tidied held b) ++ rest) j) (sym key) (here (tidied held b) (tidy_order held b ordered) (omega (arith, room))))
      (λ other. apart q (tidied held b) other (held_stays held q b is ordered))
      (cases_Bool (same_bytes q k))

  back_of : (x : List Slot) → IsOrdered x → AllHold x → lookup x k ≡ lookup b k → size_of (lookup (b ++ rest) k) ≤ room_of (put k v x ++ rest) k
  back_of x order each same =
      let old : size_of (lookup (b ++ rest) k) ≡ size_of (lookup x k) = ap (λ o. size_of (value_in o)) (alone_at k b rest behind) ∙ ap size_of (sym same) in
      let new = ap room_in (alone_at k (put k v x) rest behind) in
      let grows = (put_keeps_rooms k v x order).keeps in
      let fits = value_fits k x each in omega (arith, old, new, grows, fits)

module _ (capacity : ℕ) (held : List ℕ → Bool) (k : List ℕ) (v : Option (List ℕ)) where
  in_leaf : (b : Leaf) (bs : List Leaf) (q : List ℕ) → IsOrdered (b.slots ++ slots_along bs) → AreBounded bs → AllHold b.slots → list_any (starts_by k) bs ≡ false → held q ≡ true
      → room_of (b.slots ++ slots_along bs) q ≤ room_of (slots_along (leaves_from b.lowest (bucket_with capacity held k v b.slots) ++ bs)) q
  in_leaf b bs q ordered bounded holds none is =
      let order = (ordered_parts b.slots (slots_along bs) ordered).0 in
      let behind = higher_slots k bs bounded none in
      subst (λ x. room_of (b.slots ++ slots_along bs) q ≤ room_of x q) (sym (slots_along-parts b.lowest (bucket_with capacity held k v b.slots) bs))
      (bucket_cases (λ x. room_of (b.slots ++ slots_along bs) q ≤ room_of (x ++ slots_along bs) q) capacity held k v b.slots (plain held k v b.slots (slots_along bs) order holds behind q) (tidy held k v b.slots (slots_along bs) order holds behind q is))

  rooms_kept : (b : Leaf) (bs : List Leaf) (q : List ℕ) → IsOrdered (slots_along (b ∷ bs)) → AreBounded (b ∷ bs) → AllFit capacity (b ∷ bs) → held q ≡ true → room_of (slots_along (b ∷ bs)) q ≤ room_of (slots_along (leaves_with capacity held k v (b ∷ bs))) q
  rooms_kept b [] q ordered bounded fit is = in_leaf b [] q ordered tt fit.0.1 refl is
  rooms_kept b (c ∷ cs) q ordered bounded fit is = go (list_any (starts_by k) (c ∷ cs)) refl (rooms_kept c cs q (ordered_parts b.slots (slots_along (c ∷ cs)) ordered).1 bounded.2 fit.1 is)
    where
      go : (t : Bool) → list_any (starts_by k) (c ∷ cs) ≡ t → room_of (slots_along (c ∷ cs)) q ≤ room_of (slots_along (leaves_with capacity held k v (c ∷ cs))) q
          → room_of (b.slots ++ slots_along (c ∷ cs)) q ≤ room_of (slots_along (if t then b ∷ leaves_with capacity held k v (c ∷ cs) else leaves_from b.lowest (bucket_with capacity held k v b.slots) ++ c ∷ cs)) q
      go true any later = room_front b.slots (slots_along (c ∷ cs)) (slots_along (leaves_with capacity held k v (c ∷ cs))) q later
      go false none later = in_leaf b (c ∷ cs) q ordered bounded.2 fit.0.1 none is

  back_in_leaf : (b : Leaf) (bs : List Leaf) → IsOrdered (b.slots ++ slots_along bs) → AreBounded bs → AllHold b.slots → list_any (starts_by k) bs ≡ false
      → size_of (lookup (b.slots ++ slots_along bs) k) ≤ room_of (slots_along (leaves_from b.lowest (bucket_with capacity held k v b.slots) ++ bs)) k
  back_in_leaf b bs ordered bounded holds none =
      let order = (ordered_parts b.slots (slots_along bs) ordered).0 in
      let behind = higher_slots k bs bounded none in
      subst (λ x. size_of (lookup (b.slots ++ slots_along bs) k) ≤ room_of x k) (sym (slots_along-parts b.lowest (bucket_with capacity held k v b.slots) bs))
      (bucket_cases (λ x. size_of (lookup (b.slots ++ slots_along bs) k) ≤ room_of (x ++ slots_along bs) k) capacity held k v b.slots (back_of held k v b.slots (slots_along bs) order holds behind b.slots order holds refl)
      (back_of held k v b.slots (slots_along bs) order holds behind (tidied held b.slots) (tidy_order held b.slots order) (tidied_holds held b.slots holds) (tidy_keeps held b.slots order k)))

  before_skip : (a x : List Slot) → AllBefore k a → slot_at k (a ++ x) ≡ slot_at k x
  before_skip a x before = slot_at-append k a x ∙ ap (λ o. or_slot o (slot_at k x)) (before_absent k a before)

  back_kept : (b : Leaf) (bs : List Leaf) → IsOrdered (slots_along (b ∷ bs)) → AreBounded (b ∷ bs) → AllFit capacity (b ∷ bs) → size_of (lookup (slots_along (b ∷ bs)) k) ≤ room_of (slots_along (leaves_with capacity held k v (b ∷ bs))) k
  back_kept b [] ordered bounded fit = back_in_leaf b [] ordered tt fit.0.1 refl
  back_kept b (c ∷ cs) ordered bounded fit = go (list_any (starts_by k) (c ∷ cs)) refl (back_kept c cs (ordered_parts b.slots (slots_along (c ∷ cs)) ordered).1 bounded.2 fit.1)
    where
      go : (t : Bool) → list_any (starts_by k) (c ∷ cs) ≡ t → size_of (lookup (slots_along (c ∷ cs)) k) ≤ room_of (slots_along (leaves_with capacity held k v (c ∷ cs))) k
          → size_of (lookup (b.slots ++ slots_along (c ∷ cs)) k) ≤ room_of (slots_along (if t then b ∷ leaves_with capacity held k v (c ∷ cs) else leaves_from b.lowest (bucket_with capacity held k v b.slots) ++ c ∷ cs)) k
      go true any later =
          let before = lower_slots k b (c ∷ cs) bounded any in
          let old = ap (λ o. size_of (value_in o)) (before_skip b.slots (slots_along (c ∷ cs)) before) in
          let new = ap room_in (before_skip b.slots (slots_along (leaves_with capacity held k v (c ∷ cs))) before) in omega (arith, old, new, later)
      go false none later = back_in_leaf b (c ∷ cs) ordered bounded.2 fit.0.1 none

pub tree_keeps_rooms : TreeKeepsRooms
tree_keeps_rooms sizes held k v l tree = in_leaves l.leaves l.index tree
  where
    in_leaves : (leaves : List Leaf) (index : List (List ℕ)) → IsTree sizes (record { leaves = leaves; index = index }) → TreeRooms held k (record { leaves = leaves; index = index }) (layout_with sizes held k v (record { leaves = leaves; index = index }))
    in_leaves [] index is = record { rooms = λ q h. omega arith; back = omega arith }
    in_leaves (b ∷ bs) index is = record {
      rooms = λ q h. rooms_kept sizes.capacity held k v b bs q is.ordered is.bounded is.fit h;
      back = back_kept sizes.capacity held k v b bs is.ordered is.bounded is.fit;
    }
