-- Trees in which a key is set.
use Rattle.std.proofs.Common.{◌≡◌, ◌≤◌, ◌+◌, ◌-◌, ◌==◌, ℕ, suc, Bool, true, false, not, List, [], ◌∷◌, length, replicate, Option, if◌then◌else◌, refl, ap, ◌∙◌, subst, arith}
use Rattle.std.proofs.lemmas.Bool.Decides.{nat_tests}
use Rattle.records_model.specs.vms_model.Keys.{Key, Number, Text, End}
use Rattle.records_model.specs.Slots.{bytes_before, size_of}
use Rattle.tree_model.specs.Layouts.{Leaf, Sizes, Layout, level_limit, no_disk_has, used_of, levels_of, most_taken}
use Rattle.tree_model.specs.Setting.{leaves_with, leaf_place, index_with, layout_with, layout_set, layout_changed}
use Rattle.tree_model.specs.Trees.{IsIndex, IsTree}
use Rattle.tree_model.specs.Laws.{MayHold, TreeHasSet, TreeSets, NeedSuffices, IsTreeOf, ChangesKeepTree}
use Rattle.tree_model.proofs.IndexLemmas.{index_is_grown, index_some}
use Rattle.tree_model.proofs.ZeroLemmas.{zeros_least}
use Rattle.tree_model.proofs.BoundLemmas.{leaves_bounded, leaves_fit, leaves_count, first_kept, set_in_leaves, place_below}

pub tree_has_set : TreeSets
tree_has_set sizes held k v l wide fits here tree = in_leaves l.leaves l.index here tree
  where
    in_leaves : (leaves : List Leaf) (index : List (List ℕ)) → MayHold k leaves → IsTree sizes (record { leaves = leaves; index = index })
        → TreeHasSet sizes k v (record { leaves = leaves; index = index }) (layout_with sizes held k v (record { leaves = leaves; index = index }))
    in_leaves [] index starts is = absurd (let some = index_some sizes.fan_out 0 index is.index in omega (arith, some))
    in_leaves (b ∷ bs) index starts is =
        let new : List Leaf = leaves_with sizes.capacity held k v (b ∷ bs) in
        let set = set_in_leaves sizes.capacity held k v fits [] b bs tt is.ordered is.bounded in
        let count = leaves_count sizes.capacity held k v fits b bs is.fit in
        let least : length (b ∷ bs) ≤ length new = count.0 in
        let most : length new ≤ length (b ∷ bs) + 2 = count.1 in
        let grown = index_is_grown sizes.fan_out (length (b ∷ bs)) (leaf_place k (b ∷ bs)) (length new - length (b ∷ bs)) index wide (omega (arith, most)) (place_below k b bs) is.index in
        let buckets = grown.buckets in
        let no_less = grown.no_less in
        let levels = grown.levels in
        let no_lower = grown.no_lower in
        record {
          sets = set.1;
          tree = record {
            ordered = set.0;
            bounded = leaves_bounded sizes.capacity held k v fits b bs is.ordered is.bounded is.fit (ap not starts);
            fit = leaves_fit sizes.capacity held k v fits (b ∷ bs) is.fit;
            index = subst (λ n. IsIndex sizes.fan_out n (index_with sizes.fan_out (leaf_place k (b ∷ bs)) (length new - length (b ∷ bs)) index)) (omega (arith, least)) grown.is;
          };
          first = first_kept sizes.capacity held k v fits b bs is.fit;
          most = omega (arith, most, buckets);
          no_less = omega (arith, least, no_less);
          levels = omega (arith, levels);
          no_lower = omega (arith, no_lower);
        }

pub need_suffices : NeedSuffices
need_suffices sizes held k v l all wide fits here tree small few free = go (levels_of l == level_limit) refl free
  where
    new : Layout
    new = layout_with sizes held k v l

    set : TreeHasSet sizes k v l new
    set = tree_has_set sizes held k v l wide fits here tree

    other_levels : (n : ℕ) → (n == level_limit) ≡ false → n ≤ level_limit → suc n ≤ level_limit
    other_levels n h less = grind (arith, nat_tests)

    go : (t : Bool) → (levels_of l == level_limit) ≡ t → used_of l + (if t then no_disk_has else most_taken l) ≤ all → (levels_of new ≤ level_limit) × (used_of new ≤ all)
    go true is wanted = absurd (omega (arith, wanted, small))
    go false is wanted =
        let more = other_levels (levels_of l) is few in
        let levels = set.levels in
        let most = set.most in (omega (arith, more, levels), omega (arith, most, wanted))

-- Changes, one after the other.

set_keeps : (sizes : Sizes) (key_size : ℕ) (held : Key → Bool) (key : Key) (v : Option (List ℕ)) (l : Layout) → 3 ≤ sizes.fan_out → ((k : List ℕ) → key ≡ Text k → length k ≡ key_size) → 4 + size_of v ≤ sizes.capacity
    → IsTreeOf sizes key_size l → IsTreeOf sizes key_size (layout_set sizes held key v l)
set_keeps sizes key_size held (Text k) v l wide size fits is =
    let least : bytes_before k (replicate key_size 0) ≡ false = subst (λ n. bytes_before k (replicate n 0) ≡ false) (size k refl) (zeros_least k) in
    let set = tree_has_set sizes (λ t. held (Text t)) k v l wide fits (ap (bytes_before k) is.first ∙ least) is.tree in record { tree = set.tree; first = set.first ∙ is.first }
set_keeps sizes key_size held (Number n) v l wide size fits is = is
set_keeps sizes key_size held End v l wide size fits is = is

pub changes_keep_tree : ChangesKeepTree
changes_keep_tree sizes key_size held [] l wide suit is = is
changes_keep_tree sizes key_size held (c ∷ cs) l wide suit is = set_keeps sizes key_size held c.key c.after (layout_changed sizes held cs l) wide suit.0.0 suit.0.1 (changes_keep_tree sizes key_size held cs l wide suit.1 is)
