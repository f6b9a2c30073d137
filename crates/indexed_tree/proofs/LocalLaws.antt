-- An indexed file under an index rests on its buckets alone; and a new one.
use Rattle.std.proofs.Common.{◌≡◌, ◌≤◌, inr, ◌+◌, ℕ, List, [], ◌∷◌, ◌++◌, length, map, sym, ap, ◌∙◌, subst, arith}
use Rattle.file_base.specs.declared.head.FileHead.{FileHead}
use Rattle.bucket_page.specs.Pages.{no_next, next_of}
use Rattle.indexed_file.specs.change_set.Files.{AgreesOn}
use Rattle.indexed_file.proofs.change_set.Extents.{extent_bucket}
use Rattle.indexed_file.specs.tree_model.Layouts.{Layout, first_layout}
use Rattle.indexed_file.specs.tree_model.Trees.{IsTree}
use Rattle.indexed_file.proofs.tree_model.ZeroLemmas.{first_is_tree}
use Rattle.index_blocks.specs.index_model.Indexes.{numbers_of, counts_of, AllDiffer, AllBelow}
use Rattle.index_blocks.specs.index_model.Trees.{child_of, leaf_at}
use Rattle.index_blocks.proofs.index_model.HandLemmas.{counts_agree}
use Rattle.index_blocks.proofs.index_model.TreeLemmas.{SameSlots, leaves_same}
use Rattle.index_blocks.specs.index_bucket.Entries.{sizes_of, IsIndexBucket}
use Rattle.index_blocks.specs.Buckets.{bucket_at}
use Rattle.index_blocks.specs.Levels.{entries_in, least_key, below_at, levels_above, height, leaf_entries, levels_of, AllAre}
use Rattle.indexed_file.specs.Chain.{slot_of, slots_in, all_keep, IsLeaf, Leads}
use Rattle.indexed_file.specs.Raws.{slots_at}
use Rattle.indexed_tree.specs.Rooted.{leaf_numbers, layout_in, IsRooted}
use Rattle.indexed_tree.specs.Laws.{StaysRooted, RootedStays, IsBlank, BlankIsRooted}
use Rattle.indexed_tree.proofs.RootLaws.{numbers_used}
use Rattle.indexed_tree.proofs.StayLaws.{both_are, Same, entries_agree, leaves_stay, levels_stay, leads_stays}

abbrev Blocks : Type 0
Blocks = List (List ℕ)

leads_same : (h : FileHead) (b b' : Blocks) (ms : List ℕ) (end : ℕ) → Same h b b' ms → Leads h b ms end → Leads h b' ms end
leads_same h b b' [] end same leads = tt
leads_same h b b' (m ∷ ms) end same leads = (ap next_of same.0 ∙ leads.0, leads_same h b b' ms end same.1 leads.1)

slots_stay : (h : FileHead) (b b' : Blocks) (ns : List ℕ) → Same h b b' ns → SameSlots (slots_in h b') (slots_in h b) ns
slots_stay h b b' [] same = tt
slots_stay h b b' (n ∷ ns) same = (ap (slots_at h) same.0, slots_stay h b b' ns same.1)

-- a file whose buckets are the same
pub stays_rooted : (h : FileHead) (b b' : Blocks) → IsRooted h b → Same h b b' (leaf_numbers h b) → Same h b b' (numbers_of (levels_of h b)) → StaysRooted h b b'
stays_rooted h b b' is leaves index =
    let leaves_read = leaves_stay h b b' index in
    let levels_read = levels_stay h b b' index in
    let numbers : leaf_numbers h b' ≡ leaf_numbers h b = ap (map child_of) leaves_read in
    let layout : layout_in h b' ≡ layout_in h b =
    λ i. record {
      leaves = (ap (map (leaf_at (slots_in h b'))) leaves_read ∙ leaves_same (slots_in h b') (slots_in h b) (leaf_entries h b) (slots_stay h b b' (leaf_numbers h b) leaves)) i;
      index = (ap (counts_of (entries_in h b')) levels_read ∙ counts_agree (entries_in h b') (entries_in h b) (levels_of h b) (entries_agree h b b' (numbers_of (levels_of h b)) index)) i;
    } in
    record {
      rooted = record {
        index = leads_stays h b b' index is.index;
        leaves = subst (AllAre (λ n. IsLeaf h (bucket_at h b' n))) (sym numbers)
            (both_are (λ n. bucket_at h b' n ≡ bucket_at h b n) (λ n. IsLeaf h (bucket_at h b n)) (λ n. IsLeaf h (bucket_at h b' n)) (leaf_numbers h b) (λ n same leaf. subst (λ (x : List ℕ). IsLeaf h x) (sym same) leaf) leaves is.leaves);
        chain = subst (λ (ns : List ℕ). Leads h b' ns no_next) (sym numbers) (leads_same h b b' (leaf_numbers h b) no_next leaves is.chain);
        reached = (let reached = is.reached in let long = ap length numbers in let high = ap (λ (ls : List (List ℕ)). length (numbers_of ls)) levels_read in omega (arith, reached, long, high));
        once = subst (λ (ns : List ℕ). AllDiffer (ns ++ numbers_of (levels_of h b'))) (sym numbers) (subst (λ (ls : List (List ℕ)). AllDiffer (leaf_numbers h b ++ numbers_of ls)) (sym levels_read) is.once);
        tree = subst (IsTree (sizes_of h)) (sym layout) is.tree;
      };
      layout = layout;
    }

same_used : (h : FileHead) (a b : Blocks) → h.used ≤ h.alloc → AgreesOn h a b → (ns : List ℕ) → AllBelow h.used ns → Same h a b ns
same_used h a b within agrees [] below = tt
same_used h a b within agrees (n ∷ ns) below = (let less = below.0 in sym (extent_bucket h a b n (omega (arith, less, within)) agrees), same_used h a b within agrees ns below.1)

pub rooted_stays : RootedStays
rooted_stays h a b root within agrees is =
    let used = numbers_used h a root is.index in
    stays_rooted h a b is (same_used h a b within agrees (leaf_numbers h a) used.0) (same_used h a b within agrees (numbers_of (levels_of h a)) used.1)

-- One bucket.

-- a file that is read at this height
record ReadsAt (h : FileHead) (b : Blocks) (d : ℕ) : Type 0 where
  index : AllAre (λ n. IsIndexBucket h (bucket_at h b n)) (numbers_of (levels_above h b d))
  leaves : AllAre (λ n. IsLeaf h (bucket_at h b n)) (map child_of (below_at h b d))
  chain : Leads h b (map child_of (below_at h b d)) no_next
  reached : length (map child_of (below_at h b d)) + length (numbers_of (levels_above h b d)) ≡ h.used
  once : AllDiffer (map child_of (below_at h b d) ++ numbers_of (levels_above h b d))
  layout : ◌≡◌ {A = Layout} (record { leaves = map (leaf_at (slots_in h b)) (below_at h b d); index = counts_of (entries_in h b) (levels_above h b d) }) (first_layout h.key_size)

blank_read : (h : FileHead) (b : Blocks) → IsBlank h b → ReadsAt h b 0
blank_read h b blank =
    let at : bucket_at h b h.root ≡ bucket_at h b 0 = ap (bucket_at h b) blank.root in
    let next : next_of (bucket_at h b h.root) ≡ no_next = ap next_of at ∙ blank.holds.next_is in
    let none : slots_in h b h.root ≡ [] = ap (slots_at h) at ∙ ap (map (slot_of h)) blank.holds.slots_are in
    record {
      index = tt;
      leaves = (subst (λ (x : List ℕ). IsLeaf h x) (sym at) (record { bucket = blank.holds.bucket; kept = ap (all_keep h) blank.holds.slots_are; leads = inr blank.holds.next_is }), tt);
      chain = (next, tt);
      reached = sym blank.used;
      once = (tt, tt);
      layout = λ i. record { leaves = record { lowest = least_key h; slots = none i } ∷ []; index = [] };
    }

pub blank_is_rooted : BlankIsRooted
blank_is_rooted h b blank =
    let flat : 0 ≡ height h = omega (arith, blank.levels) in
    let read : ReadsAt h b (height h) = subst (λ d. ReadsAt h b d) flat (blank_read h b blank) in
    record {
      rooted = record {
        index = record { buckets = read.index; joins = λ steps less. absurd (omega (arith, less, flat)) };
        leaves = read.leaves;
        chain = read.chain;
        reached = read.reached;
        once = read.once;
        tree = subst (IsTree (sizes_of h)) (sym read.layout) (first_is_tree (sizes_of h) h.key_size).tree;
      };
      layout = read.layout;
    }
