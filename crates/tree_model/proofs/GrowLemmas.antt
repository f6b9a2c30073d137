-- Where a key that is set takes buckets.
use Rattle.std.proofs.Common.{◌≡◌, ◌≤◌, ◌<◌, ◌+◌, ◌-◌, ℕ, suc, Bool, true, false, List, [], ◌∷◌, ◌++◌, Option, Some, None, length, if◌then◌else◌, nat_le, refl, ap, length-append, arith}
use Rattle.std.specs.List.{list_any}
use Rattle.records_model.specs.Slots.{Slot, same_bytes, bytes_before, size_of, with_value, with_new, put, tidied_slot, tidied}
use Rattle.records_model.specs.Parts.{bytes_of, has_place, added_by, added_buckets, parted}
use Rattle.records_model.specs.Chain.{place_of, bucket_with}
use Rattle.records_model.proofs.PartLaws.{parts_keep, parted_by_rule}
use Rattle.tree_model.specs.Layouts.{Leaf, index_size}
use Rattle.tree_model.specs.Setting.{starts_by, slots_for, leaves_from, leaves_with, leaf_place, index_with, layout_with}
use Rattle.tree_model.specs.Trees.{AllHold, AllFit, IsTree}
use Rattle.tree_model.specs.Laws.{GrowsWhereFull, TreeGrowsWhereFull}
use Rattle.tree_model.proofs.Tests.{fits_test, tests_fit, tests_over}
use Rattle.tree_model.proofs.IndexLemmas.{index_is_grown, index_some}
use Rattle.tree_model.proofs.PartsLemmas.{tidied_bytes}
use Rattle.tree_model.proofs.BoundLemmas.{length_from, place_below}

-- the bytes of a new slot
abbrev new_bytes : Option (List ℕ) → ℕ
new_bytes None = 0
new_bytes (Some bytes) = 4 + length bytes

new_within : (w : Option (List ℕ)) → (size_of w ≤ new_bytes w) × (new_bytes w ≤ 4 + size_of w)
new_within None = (omega arith, omega arith)
new_within (Some bytes) = (omega arith, omega arith)

module _ (k : List ℕ) (v : Option (List ℕ)) where
  with_new_bytes : (w : Option (List ℕ)) (slots : List Slot) → bytes_of (with_new k w slots) ≡ new_bytes w + bytes_of slots
  with_new_bytes None slots = omega arith
  with_new_bytes (Some bytes) slots = omega arith

  -- to put a key takes no more bytes than a new slot
  put_most : (slots : List Slot) → bytes_of (put k v slots) ≤ new_bytes v + bytes_of slots
  put_most [] = let same = with_new_bytes v [] in omega (arith, same)
  put_most (s ∷ ss) = go (same_bytes k s.key) (bytes_before k s.key) (put_most ss)
    where
      go : (a b : Bool) → bytes_of (put k v ss) ≤ new_bytes v + bytes_of ss
          → bytes_of (if a then with_value v s ∷ ss else (if b then with_new k v (s ∷ ss) else s ∷ put k v ss)) ≤ new_bytes v + (4 + s.room + bytes_of ss)
      go true b later = let within = (new_within v).0 in omega (arith, within)
      go false true later = let same = with_new_bytes v (s ∷ ss) in omega (arith, same)
      go false false later = omega (arith, later)

  -- a slot of the same key without more room, before slots that take no more bytes
  put_step : (s : Slot) (r : ℕ) (w : Option (List ℕ)) (xs ss : List Slot) → r ≤ s.room → bytes_of xs ≤ bytes_of ss → bytes_of (put k v xs) ≤ bytes_of (put k v ss)
      → bytes_of (put k v (record { key = s.key; room = r; value = w } ∷ xs)) ≤ bytes_of (put k v (s ∷ ss))
  put_step s r w xs ss room less later = go (same_bytes k s.key) (bytes_before k s.key)
    where
      t : Slot
      t = record { key = s.key; room = r; value = w }

      go : (a b : Bool) → bytes_of (if a then with_value v t ∷ xs else (if b then with_new k v (t ∷ xs) else t ∷ put k v xs)) ≤ bytes_of (if a then with_value v s ∷ ss else (if b then with_new k v (s ∷ ss) else s ∷ put k v ss))
      go true b = omega (arith, room, less)
      go false true = let x = with_new_bytes v (t ∷ xs) in let y = with_new_bytes v (s ∷ ss) in omega (arith, x, y, room, less)
      go false false = omega (arith, room, later)

  -- and one slot less
  put_gone : (s : Slot) (xs ss : List Slot) → bytes_of xs ≤ bytes_of ss → bytes_of (put k v xs) ≤ bytes_of (put k v ss) → bytes_of (put k v xs) ≤ bytes_of (put k v (s ∷ ss))
  put_gone s xs ss less later = let most = put_most xs in let within = (new_within v).1 in go most within (same_bytes k s.key) (bytes_before k s.key)
    where
      go : bytes_of (put k v xs) ≤ new_bytes v + bytes_of xs → new_bytes v ≤ 4 + size_of v → (a b : Bool) → bytes_of (put k v xs) ≤ bytes_of (if a then with_value v s ∷ ss else (if b then with_new k v (s ∷ ss) else s ∷ put k v ss))
      go most within true b = omega (arith, most, within, less)
      go most within false true = let y = with_new_bytes v (s ∷ ss) in omega (arith, most, y, less)
      go most within false false = omega (arith, later)

  -- a key that is put into tidied slots takes no more bytes than one that is put into the slots
  put_tidied : (held : List ℕ → Bool) (slots : List Slot) → AllHold slots → bytes_of (put k v (tidied held slots)) ≤ bytes_of (put k v slots)
  put_tidied held [] holds = omega arith
  put_tidied held (s ∷ ss) holds = go (put_tidied held ss holds.1) (held s.key) s.value holds.0
    where
      less : bytes_of (tidied held ss) ≤ bytes_of ss
      less = tidied_bytes held ss holds.1

      go : bytes_of (put k v (tidied held ss)) ≤ bytes_of (put k v ss) → (b : Bool) (w : Option (List ℕ)) → size_of w ≤ s.room → bytes_of (put k v (tidied_slot b (record s { value = w }) ++ tidied held ss)) ≤ bytes_of (put k v (record s { value = w } ∷ ss))
      go later true w room = put_step (record s { value = w }) s.room w (tidied held ss) ss (omega arith) less later
      go later false None room = put_gone (record s { value = None }) (tidied held ss) ss less later
      go later false (Some bytes) room = put_step (record s { value = Some bytes }) (length bytes) (Some bytes) (tidied held ss) ss room less later

module _ (cap : ℕ) (held : List ℕ → Bool) (k : List ℕ) (v : Option (List ℕ)) where
  none_added : (more : List Slot) → bytes_of more ≤ cap → added_buckets cap more ≡ 0
  none_added more fits = ap (λ t. added_by t (has_place cap more (length more))) (tests_fit (bytes_of more) cap fits)

  some_added : (more : List Slot) → cap < bytes_of more → 1 ≤ added_buckets cap more
  some_added more over = let is = ap (λ t. added_by t (has_place cap more (length more))) (tests_over (bytes_of more) cap over) in let some = go (has_place cap more (length more)) in omega (arith, is, some)
    where
      go : (t : Bool) → 1 ≤ added_by false t
      go true = omega arith
      go false = omega arith

  most_added : (more : List Slot) → added_buckets cap more ≤ 2
  most_added more = go (nat_le (bytes_of more) cap) (has_place cap more (length more))
    where
      go : (s t : Bool) → added_by s t ≤ 2
      go true t = omega arith
      go false true = omega arith
      go false false = omega arith

  -- a leaf becomes as many more as its tidied slots with the key are parted into
  parts_count : (slots : List Slot) → AllHold slots → length (bucket_with cap held k v slots) ≡ 1 + added_buckets cap (put k v (tidied held slots))
  parts_count slots holds = go (nat_le (bytes_of (put k v slots)) cap) refl
    where
      more : List Slot
      more = put k v (tidied held slots)

      go : (t : Bool) → nat_le (bytes_of (put k v slots)) cap ≡ t → length (if t then put k v slots ∷ [] else parted cap (place_of k more) more) ≡ 1 + added_buckets cap more
      go true is =
          let fits = fits_test (bytes_of (put k v slots)) cap is in
          let less = put_tidied k v held slots holds in
          let none = none_added more (omega (arith, fits, less)) in omega (arith, none)
      go false is = (parts_keep cap more (place_of k more) (parted cap (place_of k more) more) (parted_by_rule cap (place_of k more) more)).count

  leaf_grows : (b : Leaf) (bs : List Leaf) → AllHold b.slots → length (leaves_from b.lowest (bucket_with cap held k v b.slots) ++ bs) ≡ suc (length bs) + added_buckets cap (put k v (tidied held b.slots))
  leaf_grows b bs holds =
      let both = length-append (leaves_from b.lowest (bucket_with cap held k v b.slots)) bs in
      let long = length_from b.lowest (bucket_with cap held k v b.slots) in
      let count = parts_count b.slots holds in omega (arith, both, long, count)

  leaves_grow : (b : Leaf) (bs : List Leaf) → AllFit cap (b ∷ bs) → length (leaves_with cap held k v (b ∷ bs)) ≡ length (b ∷ bs) + added_buckets cap (put k v (tidied held (slots_for k (b ∷ bs))))
  leaves_grow b [] fit = leaf_grows b [] fit.0.1
  leaves_grow b (c ∷ cs) fit = go (list_any (starts_by k) (c ∷ cs)) (leaves_grow c cs fit.1)
    where
      go : (t : Bool) → length (leaves_with cap held k v (c ∷ cs)) ≡ length (c ∷ cs) + added_buckets cap (put k v (tidied held (slots_for k (c ∷ cs))))
          → length (if t then b ∷ leaves_with cap held k v (c ∷ cs) else leaves_from b.lowest (bucket_with cap held k v b.slots) ++ c ∷ cs)
          ≡ suc (length (c ∷ cs)) + added_buckets cap (put k v (tidied held (if t then slots_for k (c ∷ cs) else b.slots)))
      go true later = omega (arith, later)
      go false later = leaf_grows b (c ∷ cs) fit.0.1

pub tree_grows_where_full : TreeGrowsWhereFull
tree_grows_where_full sizes held k v l wide fits tree = in_leaves l.leaves l.index tree
  where
    in_leaves : (leaves : List Leaf) (index : List (List ℕ)) → IsTree sizes (record { leaves = leaves; index = index })
        → GrowsWhereFull sizes.capacity (put k v (tidied held (slots_for k leaves))) (record { leaves = leaves; index = index }) (layout_with sizes held k v (record { leaves = leaves; index = index }))
    in_leaves [] index is = absurd (let some = index_some sizes.fan_out 0 index is.index in omega (arith, some))
    in_leaves (b ∷ bs) index is =
        let more : List Slot = put k v (tidied held (slots_for k (b ∷ bs))) in
        let new : List Leaf = leaves_with sizes.capacity held k v (b ∷ bs) in
        let grow : length new ≡ length (b ∷ bs) + added_buckets sizes.capacity more = leaves_grow sizes.capacity held k v b bs is.fit in
        let most = most_added sizes.capacity held k v more in
        let no_less = (index_is_grown sizes.fan_out (length (b ∷ bs)) (leaf_place k (b ∷ bs)) (length new - length (b ∷ bs)) index wide (omega (arith, grow, most)) (place_below k b bs) is.index).no_less in
        record {
          leaves = grow;
          stays = λ small. let none = none_added sizes.capacity held k v more small in
              let nothing : length new - length (b ∷ bs) ≡ 0 = omega (arith, grow, none) in
              let same = ap (λ n. index_size (index_with sizes.fan_out (leaf_place k (b ∷ bs)) n index)) nothing in omega (arith, grow, none, same);
          rises = λ over. let some = some_added sizes.capacity held k v more over in omega (arith, grow, some, no_less);
        }
