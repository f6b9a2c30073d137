-- A key that is set back in the leaf for it.
use Rattle.std.proofs.Common.{◌≡◌, ◌≤◌, ◌<◌, ⊎_elim, inl, inr, ◌-◌, ◌*◌, ℕ, Bool, true, false, List, [], ◌∷◌, ◌++◌, length, map, take, Option, Some, None, IfSome, is_some, if◌then◌else◌, nat_le, refl, sym, ap, ◌∙◌, subst, arith}
use Rattle.std.specs.List.{list_any}
use Rattle.std.proofs.lemmas.Bool.{cases_Bool}
use Rattle.file_base.specs.declared.head.FileHead.{FileHead}
use Rattle.vms_base.specs.vms_model.Keys.{Text}
use Rattle.bucket_page.specs.Pages.{slots_of}
use Rattle.indexed_file.specs.records_model.Slots.{Slot, same_bytes, bytes_before, slot_at, value_in, room_in, lookup, size_of, with_value, put, IsOrdered}
use Rattle.indexed_file.specs.records_model.Parts.{bytes_of}
use Rattle.indexed_file.specs.records_model.Chain.{bucket_with, slot_back}
use Rattle.indexed_file.proofs.records_model.SlotLaws.{same_bytes_are, or_slot, if_true, if_false, slot_at-append, behind_absent, before_absent, behind_trans}
use Rattle.indexed_file.specs.tree_model.Layouts.{Leaf, slots_along}
use Rattle.indexed_file.specs.tree_model.Setting.{starts_by, leaves_from, leaves_with, slots_for, leaf_place, leaf_back, index_with, layout_with, layout_back}
use Rattle.indexed_file.specs.tree_model.Trees.{AreBounded}
use Rattle.indexed_file.proofs.tree_model.BoundLemmas.{lower_slots, higher_slots}
use Rattle.index_blocks.proofs.index_model.TreeLemmas.{slots_same}
use Rattle.index_blocks.specs.index_bucket.Entries.{sizes_of}
use Rattle.index_blocks.specs.Buckets.{bucket_at}
use Rattle.index_blocks.specs.Levels.{leaf_entries, leaf_for}
use Rattle.indexed_file.specs.Backs.{HasRoom, TriesLeaf, changed, lacking}
use Rattle.indexed_file.specs.Chain.{kind_of, slots_in}
use Rattle.indexed_file.specs.Sets.{with_parts}
use Rattle.indexed_file.proofs.ImplLaws.{put_small}
use Rattle.indexed_file.proofs.PartedLaws.{fits_test}
use Rattle.indexed_file.proofs.RawLaws.{bytes_of_raws}
use Rattle.indexed_tree.specs.Rooted.{layout_in, IsRooted}
use Rattle.indexed_tree.specs.Sets.{HasSet}
use Rattle.indexed_tree.specs.Maps.{all_slots, KeyIsSet}
use Rattle.indexed_tree.specs.Backs.{HasSetBack, BackStages, BackLeaves}
use Rattle.indexed_tree.proofs.MapLaws.{key_is_set}
use Rattle.indexed_tree.proofs.RootLaws.{length_map, entries_some, rooted_finds, leaf_order}
use Rattle.indexed_tree.proofs.SetLaws.{whole_set}

clash : (b : Bool) → b ≡ true → b ≡ false → ⊥
clash true h k = cc
clash false h k = cc

-- where the key has no slot, nothing is other
back_absent : (k : List ℕ) (v : Option (List ℕ)) (slots : List Slot) → slot_at k slots ≡ None → map (slot_back k v) slots ≡ slots
back_absent k v [] none = refl
back_absent k v (s ∷ ss) none = go (same_bytes k s.key) refl none (back_absent k v ss)
  where
    go : (b : Bool) → same_bytes k s.key ≡ b → ◌≡◌ {A = Option Slot} (if b then Some s else slot_at k ss) None → (slot_at k ss ≡ None → map (slot_back k v) ss ≡ ss) → map (slot_back k v) (s ∷ ss) ≡ s ∷ ss
    go true same h later = let wrong : ⊥ = cc in absurd wrong
    go false other h later = λ i. if_false (same_bytes k s.key) (with_value v s) s other i ∷ later h i

-- where it has one, it is put there
put_back : (k : List ℕ) (v : Option (List ℕ)) (slots : List Slot) → IsOrdered slots → is_some (slot_at k slots) ≡ true → put k v slots ≡ map (slot_back k v) slots
put_back k v [] ordered some = let wrong : ⊥ = cc in absurd wrong
put_back k v (s ∷ ss) ordered some = ⊎_elim
    (λ same. let absent : slot_at k ss ≡ None = ap (λ x. slot_at x ss) (same_bytes_are k s.key same) ∙ behind_absent s.key ss ordered.0 in
    if_true (same_bytes k s.key) _ _ same ∙ (λ i. sym (if_true (same_bytes k s.key) (with_value v s) s same) i ∷ sym (back_absent k v ss absent) i))
    (λ other. let later = ap is_some (sym (if_false (same_bytes k s.key) (Some s) (slot_at k ss) other)) ∙ some in
    if_false (same_bytes k s.key) _ _ other
    ∙ ⊎_elim
    (λ less. absurd (clash (is_some (slot_at k ss)) later (ap is_some (behind_absent k ss (behind_trans k s.key ss less ordered.0)))))
    (λ more. if_false (bytes_before k s.key) _ _ more ∙ (λ i. sym (if_false (same_bytes k s.key) (with_value v s) s other) i ∷ put_back k v ss ordered.1 later i))
    (cases_Bool (bytes_before k s.key)))
    (cases_Bool (same_bytes k s.key))

none_parts : (x y : Option Slot) → or_slot x y ≡ None → (x ≡ None) × (y ≡ None)
none_parts None y none = (refl, none)
none_parts (Some s) y none = let wrong : ⊥ = cc in absurd wrong

absent_parts : (k : List ℕ) (a c : List Slot) → slot_at k (a ++ c) ≡ None → (slot_at k a ≡ None) × (slot_at k c ≡ None)
absent_parts k a c none = none_parts (slot_at k a) (slot_at k c) (sym (slot_at-append k a c) ∙ none)

-- leaves without the key
none_back : (k : List ℕ) (v : Option (List ℕ)) (bs : List Leaf) → slot_at k (slots_along bs) ≡ None → map (leaf_back k v) bs ≡ bs
none_back k v [] none = refl
none_back k v (b ∷ bs) none =
    let parts = absent_parts k b.slots (slots_along bs) none in
    λ i. record { lowest = b.lowest; slots = back_absent k v b.slots parts.0 i } ∷ none_back k v bs parts.1 i

-- leaves with the key set in the leaf for it, where only its slot becomes other
leaves_back : (cap : ℕ) (held : List ℕ → Bool) (k : List ℕ) (v : Option (List ℕ)) (bs : List Leaf) → AreBounded bs → bucket_with cap held k v (slots_for k bs) ≡ map (slot_back k v) (slots_for k bs) ∷ []
    → leaves_with cap held k v bs ≡ map (leaf_back k v) bs
leaves_back cap held k v [] bounded one = refl
leaves_back cap held k v (b ∷ bs) bounded one = go (list_any (starts_by k) bs) refl one (leaves_back cap held k v bs bounded.2)
  where
    go : (t : Bool) → list_any (starts_by k) bs ≡ t → bucket_with cap held k v (if t then slots_for k bs else b.slots) ≡ map (slot_back k v) (if t then slots_for k bs else b.slots) ∷ []
        → (bucket_with cap held k v (slots_for k bs) ≡ map (slot_back k v) (slots_for k bs) ∷ [] → leaves_with cap held k v bs ≡ map (leaf_back k v) bs)
        → (if t then b ∷ leaves_with cap held k v bs else leaves_from b.lowest (bucket_with cap held k v b.slots) ++ bs) ≡ map (leaf_back k v) (b ∷ bs)
    go true is one' later = λ i. record { lowest = b.lowest; slots = sym (back_absent k v b.slots (before_absent k b.slots (lower_slots k b bs bounded is))) i } ∷ later one' i
    go false is one' later = ap (λ ps. leaves_from b.lowest ps ++ bs) one' ∙ ap (λ l. leaf_back k v b ∷ l) (sym (none_back k v bs (behind_absent k (slots_along bs) (higher_slots k bs bounded.2 is))))

module _ (h : FileHead) (b : List (List ℕ)) (k : List ℕ) (v : Option (List ℕ)) (some : IfSome v (λ r. 1 ≤ length r)) (is : IsRooted h b) where
  abbrev n : ℕ
  n = leaf_for h b k

  slots_are : slots_for k (layout_in h b).leaves ≡ slots_in h b n
  slots_are = sym (slots_same (slots_in h b) k (leaf_entries h b) (entries_some h b is))

  bucket_back : 1 ≤ h.bucket → h.root < h.used → HasRoom (slots_in h b n) k v → bucket_with (sizes_of h).capacity (λ t. true) k v (slots_in h b n) ≡ map (slot_back k v) (slots_in h b n) ∷ []
  bucket_back one root has =
      let slots = slots_in h b n in
      let ordered = leaf_order h b k is root in
      let leaf = (rooted_finds h b k root is).leaf.bucket in
      let bytes = put_small k v slots some ordered has.holds in
      let count = bytes_of_raws h (slots_of (kind_of h) (bucket_at h b n)) leaf.packed.suit in
      if_true (nat_le (bytes_of (put k v slots)) (sizes_of h).capacity) _ _ (fits_test (bytes_of (put k v slots)) (sizes_of h).capacity (omega (arith, bytes, count, leaf.packed.fits)))
      ∙ ap (λ x. x ∷ []) (put_back k v slots ordered has.slot)

  layout_is : 1 ≤ h.bucket → h.root < h.used → HasRoom (slots_in h b n) k v → layout_with (sizes_of h) (λ t. true) k v (layout_in h b) ≡ layout_back (Text k) v (layout_in h b)
  layout_is one root has =
      let l = layout_in h b in
      let cap = (sizes_of h).capacity in
      let leaves : leaves_with cap (λ t. true) k v l.leaves ≡ map (leaf_back k v) l.leaves =
      leaves_back cap (λ t. true) k v l.leaves is.tree.bounded (subst (λ (ss : List Slot). bucket_with cap (λ t. true) k v ss ≡ map (slot_back k v) ss ∷ []) (sym slots_are) (bucket_back one root has)) in
      let none : length (leaves_with cap (λ t. true) k v l.leaves) - length l.leaves ≡ 0 = (let long = ap length leaves in let same = length_map (leaf_back k v) l.leaves in omega (arith, long, same)) in
      λ i. record { leaves = leaves i; index = index_with (sizes_of h).fan_out (leaf_place k l.leaves) (none i) l.index }

pub back_stages : BackStages
back_stages h b k v n bytes may some is at tries =
    subst (λ m. HasSetBack h k v b (with_parts h m 0 bytes bytes bytes b)) (sym at) (by_leaf (subst (λ m. TriesLeaf h k v (512 * h.bucket) true (bucket_at h b m) (take (512 * h.bucket) bytes)) at tries))
  where
    by_leaf : TriesLeaf h k v (512 * h.bucket) true (bucket_at h b (leaf_for h b k)) (take (512 * h.bucket) bytes) → HasSetBack h k v b (with_parts h (leaf_for h b k) 0 bytes bytes bytes b)
    by_leaf (changed done has sets) =
        let set : HasSet h h (λ t. true) k v b (with_parts h (leaf_for h b k) 0 bytes bytes bytes b) = whole_set h b (λ t. true) k v 0 may is bytes bytes bytes sets refl in
        let key : KeyIsSet h h (λ t. true) k v b (with_parts h (leaf_for h b k) 0 bytes bytes bytes b) = key_is_set h h (λ t. true) k v b (with_parts h (leaf_for h b k) 0 bytes bytes bytes b) may.form may.one may.key may.fits is set in
        record { rooted = set.rooted; layout = set.layout ∙ layout_is h b k v some is may.one may.form.root has; sets = key.sets; rooms = λ q. key.rooms q refl }
    by_leaf (lacking done lacks) = let wrong : ⊥ = cc in absurd wrong

-- the key has no slot, nor a value to be set back to
no_value : (v : Option (List ℕ)) → IfSome v (λ r. 1 ≤ length r) → size_of v ≤ 0 → v ≡ None
no_value None some small = refl
no_value (Some r) some small = absurd (omega (arith, some, small))

pub back_leaves : BackLeaves
back_leaves h b k v n bytes root some is at room tries = by_leaf (subst (λ m. TriesLeaf h k v (512 * h.bucket) false (bucket_at h b m) (take (512 * h.bucket) bytes)) at tries)
  where
    here : slot_at k (slots_along (layout_in h b).leaves) ≡ slot_at k (slots_in h b (leaf_for h b k))
    here = (rooted_finds h b k root is).finds

    none_or : (q : List ℕ) → slot_at k (all_slots h b) ≡ None → v ≡ None → (t : Bool) → same_bytes q k ≡ t → lookup (all_slots h b) q ≡ (if t then v else lookup (all_slots h b) q)
    none_or q absent nothing true same = ap (lookup (all_slots h b)) (same_bytes_are q k same) ∙ ap value_in absent ∙ sym nothing
    none_or q absent nothing false other = refl

    by_leaf : TriesLeaf h k v (512 * h.bucket) false (bucket_at h b (leaf_for h b k)) (take (512 * h.bucket) bytes) → HasSetBack h k v b b
    by_leaf (changed done has sets) = let wrong : ⊥ = cc in absurd wrong
    by_leaf (lacking done (inl none)) =
        let nothing : v ≡ None = no_value v some (let small = ap room_in (here ∙ none) in omega (arith, room, small)) in
        record {
          rooted = is;
          layout = λ i. record { leaves = sym (none_back k v (layout_in h b).leaves (here ∙ none)) i; index = (layout_in h b).index };
          sets = λ q. none_or q (here ∙ none) nothing (same_bytes q k) refl;
          rooms = λ q. omega arith;
        }
    by_leaf (lacking done (inr less)) = absurd (omega (arith, room, less, ap room_in here))
