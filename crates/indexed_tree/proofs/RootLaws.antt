-- An indexed file under an index is a tree, and its leaves are found.
use Rattle.std.proofs.Common.{◌≡◌, ◌≤◌, ◌<◌, ℕ, zero, suc, Bool, true, false, List, [], ◌∷◌, ◌++◌, length, map, refl, sym, ap, ◌∙◌, subst, arith, length-append, append_assoc}
use Rattle.std.specs.List.{list_any}
use Rattle.file_base.specs.declared.head.FileHead.{FileHead}
use Rattle.indexed_file.specs.records_model.Slots.{Slot, slot_at, AllBefore, AllBehind, IsOrdered, IsFor}
use Rattle.indexed_file.proofs.records_model.SlotLaws.{if_true, if_false, ordered_parts}
use Rattle.indexed_file.specs.tree_model.Layouts.{slots_along, index_size}
use Rattle.indexed_file.specs.tree_model.Laws.{first_lowest}
use Rattle.indexed_file.specs.tree_model.Trees.{AreBounded}
use Rattle.indexed_file.proofs.tree_model.BoundLemmas.{lower_slots, higher_slots}
use Rattle.indexed_file.proofs.tree_model.IndexLemmas.{one_level_one_bucket}
use Rattle.indexed_file.proofs.tree_model.FindLemmas.{tree_finds}
use Rattle.index_blocks.specs.index_model.Indexes.{Entry, first_separator, entries_along, parent_entry, AreLevels, leads_by, child_for, Ascends, with_added, numbers_of, counts_of, AllBelow}
use Rattle.index_blocks.specs.index_model.Trees.{child_of, leaf_at}
use Rattle.index_blocks.proofs.index_model.DescentLemmas.{some_below}
use Rattle.index_blocks.proofs.index_model.HandLemmas.{below_both, differ_parts}
use Rattle.index_blocks.proofs.index_model.TreeLemmas.{bounded_ascend, any_same, slots_same}
use Rattle.index_blocks.specs.index_bucket.Entries.{sizes_of, IsIndexBucket}
use Rattle.index_blocks.specs.Buckets.{bucket_at}
use Rattle.index_blocks.specs.Levels.{entries_in, least_key, below_at, levels_above, height, leaf_entries, levels_of, AllAre, LeadsDown, leaf_for}
use Rattle.index_blocks.specs.Laws as index
use Rattle.index_blocks.proofs.LevelLaws.{are_parts, child_is, length_levels, levels_lead}
use Rattle.index_blocks.proofs.MayLaws.{map_append}
use Rattle.indexed_file.specs.Chain.{slots_in, IsLeaf}
use Rattle.indexed_tree.specs.Rooted.{leaf_numbers, layout_in, IsRooted}
use Rattle.indexed_tree.specs.Laws.{RootedIsTree, LayoutTells, RootedFinds, RootedSplits, slots_below}

pub length_map : {X Y : Type 0} (f : X → Y) (xs : List X) → length (map f xs) ≡ length xs
length_map f [] = refl
length_map f (x ∷ xs) = ap suc (length_map f xs)

-- The first separator below an index is the least key.

first_front : (es rest : List Entry) → 1 ≤ length es → first_separator (es ++ rest) ≡ first_separator es
first_front [] rest some = absurd (omega (arith, some))
first_front (e ∷ es) rest some = refl

first_is : (least : List ℕ) (f : ℕ → List Entry) (below : List Entry) (levels : List (List ℕ)) (root : ℕ) → AreLevels least f below levels root → first_separator below ≡ least
first_is least f below [] root is = ap first_separator is
first_is least f below ([] ∷ above) root is = absurd (let some = some_below least f [] above root is.2 in omega (arith, some))
first_is least f below ((n ∷ ns) ∷ above) root is = ap first_separator (sym is.0) ∙ first_front (f n) (entries_along f ns) is.1.0 ∙ first_is least f (map (parent_entry f) (n ∷ ns)) above root is.2

pub lowest_is : (S : ℕ → List Slot) (es : List Entry) → first_lowest (map (leaf_at S) es) ≡ first_separator es
lowest_is S [] = refl
lowest_is S (e ∷ es) = refl

-- What an index leads to is used.
module _ (h : FileHead) (b : List (List ℕ)) (root : h.root < h.used) where
  abbrev AreUsed : List ℕ → Type 0
  AreUsed ns = AllAre (λ n. AllBelow h.used (map child_of (entries_in h b n))) ns

  along_used : (ns : List ℕ) → AreUsed ns → AllBelow h.used (map child_of (entries_along (entries_in h b) ns))
  along_used [] all = tt
  along_used (n ∷ ns) all = subst (AllBelow h.used) (sym (map_append (entries_in h b n) (entries_along (entries_in h b) ns))) (below_both h.used (map child_of (entries_in h b n)) (map child_of (entries_along (entries_in h b) ns)) all.0 (along_used ns all.1))

  used_at : (d : ℕ) → AreUsed (numbers_of (levels_above h b d)) → AllBelow h.used (map child_of (below_at h b d)) × AllBelow h.used (numbers_of (levels_above h b d))
  used_at zero all = ((root, tt), tt)
  used_at (suc d) all =
      let parts = are_parts (λ n. AllBelow h.used (map child_of (entries_in h b n))) (map child_of (below_at h b d)) (numbers_of (levels_above h b d)) all in
      let rest = used_at d parts.1 in
      (along_used (map child_of (below_at h b d)) parts.0, below_both h.used (map child_of (below_at h b d)) (numbers_of (levels_above h b d)) rest.0 rest.1)

  buckets_used : (ns : List ℕ) → AllAre (λ n. IsIndexBucket h (bucket_at h b n)) ns → AreUsed ns
  buckets_used [] all = tt
  buckets_used (n ∷ ns) all = (all.0.used, buckets_used ns all.1)

  pub numbers_used : LeadsDown h b → AllBelow h.used (leaf_numbers h b) × AllBelow h.used (numbers_of (levels_of h b))
  numbers_used is = used_at (height h) (buckets_used (numbers_of (levels_of h b)) is.buckets)

pub leaves_ascend : (h : FileHead) (b : List (List ℕ)) → IsRooted h b → Ascends (leaf_entries h b)
leaves_ascend h b is = bounded_ascend (slots_in h b) (leaf_entries h b) is.tree.bounded

pub index_leads : (h : FileHead) (b : List (List ℕ)) → IsRooted h b → index.Leads h b
index_leads h b is = levels_lead h b is.index (leaves_ascend h b is)

pub rooted_is_tree : RootedIsTree
rooted_is_tree h b root is =
    let used = numbers_used h b root is.index in
    record {
      index = record { leads = (index_leads h b is).levels; differ = (differ_parts (leaf_numbers h b) (numbers_of (levels_of h b)) is.once).1; used = used.1 };
      differ = is.once;
      leaves = used.0;
      all = (let reached = is.reached in let count = length_map child_of (leaf_entries h b) in omega (arith, reached, count));
      tree = is.tree;
    }

-- The layout tells the head's numbers.

size_of_levels : (f : ℕ → List Entry) (levels : List (List ℕ)) → index_size (counts_of f levels) ≡ length (numbers_of levels)
size_of_levels f [] = refl
size_of_levels f (ns ∷ above) = let later = size_of_levels f above in let here = length_map (λ n. length (f n)) ns in let all = length-append ns (numbers_of above) in omega (arith, later, here, all)

pub layout_tells : LayoutTells
layout_tells h b some is =
    let levels = levels_of h b in
    let size = size_of_levels (entries_in h b) levels in
    let reached = is.reached in
    let leaves = length_map (leaf_at (slots_in h b)) (leaf_entries h b) in
    let numbers = length_map child_of (leaf_entries h b) in
    let long = length_map (map (λ n. length (entries_in h b n))) levels in
    let high = length_levels h b (height h) in
    let both = one_level_one_bucket (sizes_of h) (layout_in h b) is.tree in
    let leads = (index_leads h b is).levels in
    record {
      used = omega (arith, size, reached, leaves, numbers);
      levels = omega (arith, long, high, some);
      first = lowest_is (slots_in h b) (leaf_entries h b) ∙ first_is (least_key h) (entries_in h b) (leaf_entries h b) levels h.root leads;
      one_level = λ one. let told = both.0 (omega (arith, long, high, some, one)) in omega (arith, told, size, reached, leaves, numbers);
      one_bucket = λ one. let told = both.1 (omega (arith, size, reached, leaves, numbers, one)) in omega (arith, told, long, high, some);
    }

-- Entries about the one that a key leads to.

-- and what becomes of them with others behind it
pub record Found (S : ℕ → List Slot) (k : List ℕ) (es : List Entry) : Type 0 where
  pub before : List Entry
  pub at : Entry
  pub behind : List Entry
  pub is : es ≡ before ++ (at ∷ behind)
  pub child : child_for k es ≡ at.child
  pub added : (xs : List Entry) → with_added k xs es ≡ before ++ (at ∷ (xs ++ behind))
  pub lower : AllBefore k (slots_along (map (leaf_at S) before))
  pub higher : AllBehind k (slots_along (map (leaf_at S) behind))

before_both : (k : List ℕ) (a c : List Slot) → AllBefore k a → AllBefore k c → AllBefore k (a ++ c)
before_both k [] c first second = second
before_both k (s ∷ ss) c first second = (first.0, before_both k ss c first.1 second)

pub found_at : (S : ℕ → List Slot) (k : List ℕ) (es : List Entry) → 1 ≤ length es → AreBounded (map (leaf_at S) es) → Found S k es
found_at S k [] some bounded = absurd (omega (arith, some))
found_at S k (e ∷ []) some bounded = record { before = []; at = e; behind = []; is = refl; child = refl; added = λ xs. refl; lower = tt; higher = tt }
found_at S k (e ∷ f ∷ fs) some bounded = go (list_any (leads_by k) (f ∷ fs)) refl (found_at S k (f ∷ fs) (omega arith) bounded.2)
  where
    go : (t : Bool) → list_any (leads_by k) (f ∷ fs) ≡ t → Found S k (f ∷ fs) → Found S k (e ∷ f ∷ fs)
    go true is rest =
        record {
          before = e ∷ rest.before;
          at = rest.at;
          behind = rest.behind;
          is = ap (λ l. e ∷ l) rest.is;
          child = if_true (list_any (leads_by k) (f ∷ fs)) (child_for k (f ∷ fs)) e.child is ∙ rest.child;
          added = λ xs. if_true (list_any (leads_by k) (f ∷ fs)) (e ∷ with_added k xs (f ∷ fs)) (e ∷ (xs ++ f ∷ fs)) is ∙ ap (λ l. e ∷ l) (rest.added xs);
          lower = before_both k (S e.child) (slots_along (map (leaf_at S) rest.before)) (lower_slots k (leaf_at S e) (map (leaf_at S) (f ∷ fs)) bounded (any_same S k (f ∷ fs) ∙ is)) rest.lower;
          higher = rest.higher;
        }
    go false is rest = record {
      before = [];
      at = e;
      behind = f ∷ fs;
      is = refl;
      child = if_false (list_any (leads_by k) (f ∷ fs)) (child_for k (f ∷ fs)) e.child is;
      added = λ xs. if_false (list_any (leads_by k) (f ∷ fs)) (e ∷ with_added k xs (f ∷ fs)) (e ∷ (xs ++ f ∷ fs)) is;
      lower = tt;
      higher = higher_slots k (map (leaf_at S) (f ∷ fs)) bounded.2 (any_same S k (f ∷ fs) ∙ is);
    }

pub along-append : (S : ℕ → List Slot) (a c : List Entry) → slots_along (map (leaf_at S) (a ++ c)) ≡ slots_along (map (leaf_at S) a) ++ slots_along (map (leaf_at S) c)
along-append S [] c = refl
along-append S (e ∷ es) c = ap (λ l. S e.child ++ l) (along-append S es c) ∙ sym (append_assoc (S e.child) (slots_along (map (leaf_at S) es)) (slots_along (map (leaf_at S) c)))

pub entries_some : (h : FileHead) (b : List (List ℕ)) → IsRooted h b → 1 ≤ length (leaf_entries h b)
entries_some h b is = some_below (least_key h) (entries_in h b) (leaf_entries h b) (levels_of h b) h.root (index_leads h b is).levels

pub leaf_found : (h : FileHead) (b : List (List ℕ)) (k : List ℕ) → IsRooted h b → Found (slots_in h b) k (leaf_entries h b)
leaf_found h b k is = found_at (slots_in h b) k (leaf_entries h b) (entries_some h b is) is.tree.bounded

pub found_for : (h : FileHead) (b : List (List ℕ)) (k : List ℕ) (is : IsRooted h b) (f : Found (slots_in h b) k (leaf_entries h b)) → IsFor k (slots_below h b f.before) (slots_in h b f.at.child) (slots_below h b f.behind)
found_for h b k is f = record {
  lower = f.lower;
  higher = f.higher;
  ordered = subst IsOrdered (ap (λ (es : List Entry). slots_along (map (leaf_at (slots_in h b)) es)) f.is ∙ along-append (slots_in h b) f.before (f.at ∷ f.behind)) is.tree.ordered;
}

pub rooted_splits : RootedSplits
rooted_splits h b k root is =
    let f = leaf_found h b k is in
    record { before = f.before; at = f.at; behind = f.behind; entries = f.is; child = f.child; for = found_for h b k is f }

each_below : (bound : ℕ) (ns : List ℕ) → AllBelow bound ns → AllAre (λ n. n < bound) ns
each_below bound [] all = tt
each_below bound (n ∷ ns) all = (all.0, each_below bound ns all.1)

pub rooted_finds : RootedFinds
rooted_finds h b k root is =
    let leads = index_leads h b is in
    let some = entries_some h b is in
    record {
      ways = leads.ways k;
      ends = leads.ends k;
      used = child_is (λ n. n < h.used) k (leaf_entries h b) some (each_below h.used (leaf_numbers h b) (numbers_used h b root is.index).0);
      leaf = child_is (λ n. IsLeaf h (bucket_at h b n)) k (leaf_entries h b) some is.leaves;
      finds = tree_finds (sizes_of h) k (layout_in h b) is.tree ∙ ap (slot_at k) (sym (slots_same (slots_in h b) k (leaf_entries h b) some));
    }

-- the slots of the leaf for a key are in order
pub leaf_order : (h : FileHead) (b : List (List ℕ)) (k : List ℕ) → IsRooted h b → h.root < h.used → IsOrdered (slots_in h b (leaf_for h b k))
leaf_order h b k is root =
    let split = rooted_splits h b k root is in
    subst (λ m. IsOrdered (slots_in h b m)) (sym split.child) (ordered_parts (slots_in h b split.at.child) _ (ordered_parts _ (slots_in h b split.at.child ++ _) split.for.ordered).1).0

-- the separator of the first leaf's entry is the least key
pub first_of_leaves : (h : FileHead) (b : List (List ℕ)) → IsRooted h b → (e : Entry) (es : List Entry) → leaf_entries h b ≡ e ∷ es → e.separator ≡ least_key h
first_of_leaves h b is e es entries = ap first_separator (sym entries) ∙ first_is (least_key h) (entries_in h b) (leaf_entries h b) (levels_of h b) h.root (index_leads h b is).levels
