-- An indexed file of records in order: its leaves, and the index over them.
use Rattle.std.proofs.Common.{◌≡◌, ◌<◌, ◌≤◌, ◌⊎◌, inl, inr, ◌+◌, ◌-◌, ◌*◌, ◌&&◌, ℕ, zero, suc, Bool, true, false, List, [], ◌∷◌, ◌++◌, length, map, replicate, nat_lt, refl, sym, ap, subst, ◌∙◌, arith, length-append}
use Rattle.std.proofs.lemmas.List.{length-map}
use Rattle.std.proofs.lemmas.Bool.Decides.{nat_tests}
use Rattle.std.specs.FinMap.Entries.{is_sorted}
use Rattle.record_files.specs.file_base.declared.head.FileHead.{FileHead}
use Rattle.records_model.specs.Records.{key_cmp}
use Rattle.bucket_page.specs.Pages.{slots_of, next_of, no_next, key_in, may_follow, ascend, IsBucket, Packs}
use Rattle.records_model.specs.Slots.{Slot, IsOrdered}
use Rattle.records_model.proofs.SlotLaws.{ordered_parts}
use Rattle.record_files.specs.tree_model.Layouts.{Layout, Leaf, slots_along, used_of, levels_of, index_size}
use Rattle.record_files.specs.tree_model.Setting.{first_key, new_leaves, leaves_from}
use Rattle.record_files.specs.tree_model.Trees.{IsTree, AreBounded}
use Rattle.record_files.specs.tree_model.Loads.{slot_for, filled, loaded, index_over}
use Rattle.record_files.specs.tree_model.Laws.{HasLoaded}
use Rattle.load_model.proofs.tree_model.LoadLemmas.{tree_loads}
use Rattle.load_model.proofs.tree_model.BoundLemmas.{length_from}
use Rattle.index_bucket.specs.index_model.Indexes.{Entry, first_separator, parent_entry, AreLevels, Ascends, AllBelow, AllDiffer, IsNoneOf, numbers_of, counts_of}
use Rattle.index_bucket.specs.index_model.Trees.{child_of, leaf_at}
use Rattle.index_bucket.proofs.index_model.TreeLemmas.{bounded_ascend}
use Rattle.load_model.specs.Nodes.{entries_by, nodes_over, all_nodes, numbers_from, numbered, StandFrom}
use Rattle.load_model.specs.Laws.{IsLoadedIndex, IsNode, AreNodes, IsLow}
use Rattle.load_model.proofs.Levels.{index_loads, all_suit, stays_low, levels_size}
use Rattle.load_model.proofs.Groups.{length_entries_by}
use Rattle.index_bucket.specs.Entries.{index_kind, sizes_of, entry_of, IsIndexBucket}
use Rattle.index_bucket.proofs.HandLaws.{fan_out_wide}
use Rattle.index_bucket.proofs.HeldLaws.{packed_laid}
use Rattle.record_files.specs.index_blocks.Buckets.{bucket_at}
use Rattle.record_files.specs.index_blocks.Levels.{entries_in, least_key, leaf_entries, levels_of as index_levels, AllAre, LeadsDown}
use Rattle.record_files.specs.index_blocks.Laws.{ReadsLevels}
use Rattle.record_files.proofs.index_blocks.LevelLaws.{levels_read}
use Rattle.record_files.specs.indexed_file.Chain.{kind_of, slot_of, slots_in, next_in, keeps_record, all_keep, IsLeaf, Leads, first_or}
use Rattle.record_files.proofs.indexed_file.GrownLaws.{ascend_ordered}
use Rattle.record_files.specs.indexed_tree.Rooted.{leaf_numbers, layout_in, IsRooted}
use Rattle.load_laws.specs.Records.{Keyed, texts_of, values_of}
use Rattle.load_laws.specs.Pages.{Page, Slots, Entries, Stand}
use Rattle.load_laws.specs.Chains.{raw_for, packed, next_for, chain_pages}
use Rattle.load_laws.specs.Keys.{first_raw_key, lowest_keys, entry_pages, index_pages}
use Rattle.load_laws.specs.Loads.{loaded_tree}
use Rattle.load_laws.proofs.ChainLemmas.{all_in, packed_all, packed_some}
use Rattle.load_laws.proofs.RawLemmas.{AllTexts, slots_are, raws_keep, raws_long, filled_same, texts_ordered, texts_load}

-- Numbers in a row.

pub length_numbers : (n count : ℕ) → length (numbers_from n count) ≡ count
length_numbers n zero = refl
length_numbers n (suc count) = ap suc (length_numbers (suc n) count)

pub numbers_entries : (n : ℕ) (ks : List (List ℕ)) → map child_of (entries_by n ks) ≡ numbers_from n (length ks)
numbers_entries n [] = refl
numbers_entries n (k ∷ ks) = ap (λ x. n ∷ x) (numbers_entries (suc n) ks)

numbers_both : (n a b : ℕ) → numbers_from n a ++ numbers_from (n + a) b ≡ numbers_from n (a + b)
numbers_both n zero b = (λ i. let same : n + 0 ≡ n = omega arith in numbers_from (same i) b) ∙ (λ i. let same : b ≡ 0 + b = omega arith in numbers_from n (same i))
numbers_both n (suc a) b =
    (λ i. n ∷ (numbers_from (suc n) a ++ (let same : n + suc a ≡ suc n + a = omega arith in numbers_from (same i) b)))
    ∙ ap (λ x. n ∷ x) (numbers_both (suc n) a b) ∙ (λ i. let same : suc (a + b) ≡ suc a + b = omega arith in numbers_from n (same i))

none_lower : (m n count : ℕ) → m < n → IsNoneOf m (numbers_from n count)
none_lower m n zero less = tt
none_lower m n (suc count) less = ((λ same. omega (arith, less, same)), none_lower m (suc n) count (omega (arith, less)))

all_differ : (n count : ℕ) → AllDiffer (numbers_from n count)
all_differ n zero = tt
all_differ n (suc count) = (none_lower n (suc n) count (omega arith), all_differ (suc n) count)

-- Pages behind each other.

stand_parts : (h : FileHead) (b : List (List ℕ)) (n : ℕ) (xs ys : List Page) → Stand h b n (xs ++ ys) → Stand h b n xs × Stand h b (n + length xs) ys
stand_parts h b n [] ys stand = (tt, subst (λ m. Stand h b m ys) (let same : n ≡ n + 0 = omega arith in same) stand)
stand_parts h b n (x ∷ xs) ys stand =
    let rest = stand_parts h b (suc n) xs ys stand.1 in
    ((stand.0, rest.0), subst (λ m. Stand h b m ys) (let same : suc n + length xs ≡ n + suc (length xs) = omega arith in same) rest.1)

pub length_chain : (h : FileHead) (n : ℕ) (parts : List (List (List ℕ))) → length (chain_pages (kind_of h) n parts) ≡ length parts
length_chain h n [] = refl
length_chain h n (p ∷ ps) = ap suc (length_chain h (suc n) ps)

-- The index.

nodes_stand : (h : FileHead) (b : List (List ℕ)) (n : ℕ) (gs : List (List Entry)) → Stand h b n (entry_pages gs) → StandFrom (entries_in h b) n gs
nodes_stand h b n [] stand = tt
nodes_stand h b n (g ∷ gs) stand = (stand.0.are, nodes_stand h b (suc n) gs stand.1)

nodes_laid : (h : FileHead) (b : List (List ℕ)) (fan n : ℕ) (gs : List (List Entry)) → Stand h b n (entry_pages gs) → AreNodes fan h.used gs → AllAre (λ m. IsIndexBucket h (bucket_at h b m)) (numbers_from n (length gs))
nodes_laid h b fan n [] stand nodes = tt
nodes_laid h b fan n (g ∷ gs) stand nodes =
    let is = stand.0 in
    let node = nodes.0 in (
      record {
        bucket = packed_laid h (slots_of (index_kind h) (bucket_at h b n)) no_next (bucket_at h b n) g (record { packed = is.packed; slots_are = refl; next_is = is.none }) is.are node.ascend refl;
        some = subst (λ (es : List Entry). 1 ≤ length es) (sym is.are) node.some;
        used = subst (λ (es : List Entry). AllBelow h.used (map child_of es)) (sym is.are) node.below;
      },
      nodes_laid h b fan (suc n) gs stand.1 nodes.1,
    )

all_same : (f : ℕ → List Entry) (ns : List ℕ) → AllAre (λ n. f n ≡ f n) ns
all_same f [] = tt
all_same f (n ∷ ns) = (refl, all_same f ns)

length_numbered : (n : ℕ) (levels : List (List (List Entry))) → length (numbered n levels) ≡ length levels
length_numbered n [] = refl
length_numbered n (level ∷ above) = ap suc (length_numbered (n + length level) above)

-- The leaves.

-- the slots of a part ascend and keep records
abbrev AllGood : FileHead → List (List (List ℕ)) → Type 0
AllGood h [] = Unit {0}
AllGood h (p ∷ ps) = (IsOrdered (map (slot_of h) p) × (all_keep h p ≡ true)) × AllGood h ps

map_both : (h : FileHead) (a b : List (List ℕ)) → map (slot_of h) (a ++ b) ≡ map (slot_of h) a ++ map (slot_of h) b
map_both h [] b = refl
map_both h (s ∷ ss) b = ap (λ x. slot_of h s ∷ x) (map_both h ss b)

and_true : (a b : Bool) → (a && b) ≡ true → (a ≡ true) × (b ≡ true)
and_true true b is = (refl, is)
and_true false b is = cc

and_both : (a b : Bool) → a ≡ true → b ≡ true → (a && b) ≡ true
and_both true b first second = second
and_both false b first second = cc

keep_parts : (h : FileHead) (a b : List (List ℕ)) → all_keep h (a ++ b) ≡ true → (all_keep h a ≡ true) × (all_keep h b ≡ true)
keep_parts h [] b is = (refl, is)
keep_parts h (s ∷ ss) b is =
    let both = and_true (keeps_record h s) (all_keep h (ss ++ b)) is in
    let rest = keep_parts h ss b both.1 in (and_both (keeps_record h s) (all_keep h ss) both.0 rest.0, rest.1)

all_good : (h : FileHead) (parts : List (List (List ℕ))) → IsOrdered (map (slot_of h) (all_in parts)) → all_keep h (all_in parts) ≡ true → AllGood h parts
all_good h [] ordered kept = tt
all_good h (p ∷ ps) ordered kept =
    let slots = ordered_parts (map (slot_of h) p) (map (slot_of h) (all_in ps)) (subst IsOrdered (map_both h p (all_in ps)) ordered) in
    let keeps = keep_parts h p (all_in ps) kept in
    ((slots.0, keeps.0), all_good h ps slots.1 keeps.1)

some_more : (count : ℕ) → nat_lt 0 (suc count) ≡ true
some_more count = grind (arith, nat_tests)

leaf_leads : (h : FileHead) (n count : ℕ) → suc n + count ≤ h.used → (next_for (kind_of h) (nat_lt 0 count) n < h.used) ⊎ (next_for (kind_of h) (nat_lt 0 count) n ≡ no_next)
leaf_leads h n zero fits = inr refl
leaf_leads h n (suc count) fits = subst (λ t. (next_for (kind_of h) t n < h.used) ⊎ (next_for (kind_of h) t n ≡ no_next)) (sym (some_more count)) (inl (omega (arith, fits)))

leaves_laid : (h : FileHead) (b : List (List ℕ)) (n : ℕ) (parts : List (List (List ℕ))) → Stand h b n (chain_pages (kind_of h) n parts) → AllGood h parts → n + length parts ≤ h.used
    → AllAre (λ m. IsLeaf h (bucket_at h b m)) (numbers_from n (length parts))
leaves_laid h b n [] stand good fits = tt
leaves_laid h b n (p ∷ ps) stand good fits =
    let is = stand.0 in
    let leads = leaf_leads h n (length ps) (omega (arith, fits)) in (
      record {
        bucket = record {
          packed = is.packed;
          order = ap (λ (ss : List (List ℕ)). ascend (kind_of h) ss) is.slots_are ∙ ascend_ordered h p good.0.0;
          number = refl;
          next = refl;
        };
        kept = ap (all_keep h) is.slots_are ∙ good.0.1;
        leads = subst (λ m. (m < h.used) ⊎ (m ≡ no_next)) (sym is.next_is) leads;
      },
      leaves_laid h b (suc n) ps stand.1 good.1 (omega (arith, fits)),
    )

first_next : (h : FileHead) (n count : ℕ) → next_for (kind_of h) (nat_lt 0 count) n ≡ first_or (numbers_from (suc n) count) no_next
first_next h n zero = refl
first_next h n (suc count) = ap (λ t. next_for (kind_of h) t n) (some_more count)

leaves_lead : (h : FileHead) (b : List (List ℕ)) (n : ℕ) (parts : List (List (List ℕ))) → Stand h b n (chain_pages (kind_of h) n parts) → Leads h b (numbers_from n (length parts)) no_next
leaves_lead h b n [] stand = tt
leaves_lead h b n (p ∷ ps) stand = (stand.0.next_is ∙ first_next h n (length ps), leaves_lead h b (suc n) ps stand.1)

first_same : (h : FileHead) (p : List (List ℕ)) → first_raw_key h p ≡ first_key (map (slot_of h) p)
first_same h [] = refl
first_same h (s ∷ ss) = refl

new_same : (h : FileHead) (b : List (List ℕ)) (n : ℕ) (parts : List (List (List ℕ))) → Stand h b n (chain_pages (kind_of h) n parts)
    → map (leaf_at (slots_in h b)) (entries_by n (map (first_raw_key h) parts)) ≡ new_leaves (map (map (slot_of h)) parts)
new_same h b n [] stand = refl
new_same h b n (p ∷ ps) stand = λ i. record { lowest = first_same h p i; slots = map (slot_of h) (stand.0.slots_are i) } ∷ new_same h b (suc n) ps stand.1 i

leaves_same : (h : FileHead) (b : List (List ℕ)) (n : ℕ) (parts : List (List (List ℕ))) → Stand h b n (chain_pages (kind_of h) n parts)
    → map (leaf_at (slots_in h b)) (entries_by n (lowest_keys h parts)) ≡ leaves_from (replicate h.key_size 0) (map (map (slot_of h)) parts)
leaves_same h b n [] stand = refl
leaves_same h b n (p ∷ ps) stand = λ i. record { lowest = replicate h.key_size 0; slots = map (slot_of h) (stand.0.slots_are i) } ∷ new_same h b (suc n) ps stand.1 i

pub length_lowest : (h : FileHead) (parts : List (List (List ℕ))) → length (lowest_keys h parts) ≡ length parts
length_lowest h [] = refl
length_lowest h (p ∷ ps) = ap suc (length-map ps (first_raw_key h))

first_least : (h : FileHead) (parts : List (List (List ℕ))) → 1 ≤ length parts → first_separator (entries_by 0 (lowest_keys h parts)) ≡ least_key h
first_least h [] some = absurd (omega (arith, some))
first_least h (p ∷ ps) some = refl

pub record TreeLoaded (h : FileHead) (b : List (List ℕ)) (es : List Keyed) : Type 0 where
  pub rooted : IsRooted h b
  pub layout : layout_in h b ≡ loaded_tree h es

-- The whole file.
module _ (h : FileHead) (es : List Keyed) (one : 1 ≤ h.bucket) (short : h.key_size ≤ 64) (key : 1 ≤ h.key_size) (records : h.mrs + 32 ≤ 512 * h.bucket) (all : AllTexts h es) (sorted : is_sorted key_cmp es ≡ true) where
  abbrev cap : ℕ
  cap = 512 * h.bucket - 16

  abbrev raws : List (List ℕ)
  raws = map (raw_for (kind_of h)) (values_of es)

  abbrev parts : List (List (List ℕ))
  parts = packed cap [] raws

  abbrev keys : List (List ℕ)
  keys = lowest_keys h parts

  abbrev fan : ℕ
  fan = (sizes_of h).fan_out

  abbrev nodes : List (List Entry)
  nodes = all_nodes (nodes_over fan (length keys) 0 keys)

  wide : 3 ≤ fan
  wide = fan_out_wide h.bucket h.key_size one short

  is_loaded : HasLoaded (sizes_of h) h.key_size (texts_of es) (loaded_tree h es)
  is_loaded = tree_loads (sizes_of h) h.key_size (texts_of es) (let w = wide in omega (arith, w)) (texts_ordered h es all sorted) (texts_load h es all records)

  pub all_slots_are : slots_along (loaded_tree h es).leaves ≡ map slot_for (texts_of es)
  all_slots_are = is_loaded.slots

  filled_is : filled cap [] (map slot_for (texts_of es)) ≡ map (map (slot_of h)) parts
  filled_is = ap (filled cap []) (sym (slots_are h es key all)) ∙ filled_same h cap [] raws tt (raws_long h (values_of es))

  filled_long : length (filled cap [] (map slot_for (texts_of es))) ≡ length parts
  filled_long = ap (λ (ps : List (List Slot)). length ps) filled_is ∙ length-map parts (map (slot_of h))

  pub used_is : used_of (loaded_tree h es) ≡ length parts + index_size (index_over fan (length parts) (length parts))
  used_is =
      let leaves = length_from (replicate h.key_size 0) (filled cap [] (map slot_for (texts_of es))) in
      let long = filled_long in
      let index = ap (λ n. index_size (index_over fan n n)) filled_long in
      omega (arith, leaves, long, index)

  pub levels_is : levels_of (loaded_tree h es) ≡ suc (length (index_over fan (length parts) (length parts)))
  levels_is = ap (λ n. suc (length (index_over fan n n))) filled_long

  some_parts : 1 ≤ length parts
  some_parts = packed_some cap [] raws

  long_keys : length keys ≡ length parts
  long_keys = length_lowest h parts

  -- as many index buckets as the load counts
  pub nodes_count : length nodes ≡ index_size (index_over fan (length parts) (length parts))
  nodes_count = let long = long_keys in let some = some_parts in levels_size fan wide (length keys) 0 keys (omega (arith, long, some)) (omega arith) ∙ ap (λ n. index_size (index_over fan n n)) long_keys

  pub tree_loaded : (b : List (List ℕ)) → h.used ≡ length parts + length nodes → suc h.root ≡ h.used → h.levels ≡ suc (length (index_over fan (length parts) (length parts)))
      → Stand h b 0 (chain_pages (kind_of h) 0 parts ++ index_pages h 0 keys) → TreeLoaded h b es
  tree_loaded b used root levels stand = record {
    rooted = record {
      index = record {
        buckets = subst (λ (ns : List ℕ). AllAre (λ m. IsIndexBucket h (bucket_at h b m)) ns) (sym numbers_are)
            (nodes_laid h b fan (0 + length keys) nodes index_stand (subst (λ n. AreNodes fan n nodes) (let long = long_keys in let same : 0 + length keys + length nodes ≡ h.used = omega (arith, long, used) in same) (all_suit fan 0 keys wide up)));
        joins = reads.joins;
      };
      leaves = subst (λ (ns : List ℕ). AllAre (λ m. IsLeaf h (bucket_at h b m)) ns) (sym leaves_are) (leaves_laid h b 0 parts leaves_stand good (omega (arith, used)));
      chain = subst (λ (ns : List ℕ). Leads h b ns no_next) (sym leaves_are) (leaves_lead h b 0 parts leaves_stand);
      reached =
          let first = ap (λ (ns : List ℕ). length ns) leaves_are ∙ length_numbers 0 (length parts) in
          let second = ap (λ (ns : List ℕ). length ns) numbers_are ∙ length_numbers (0 + length keys) (length nodes) in omega (arith, first, second, used);
      once = subst AllDiffer (sym ((λ i. leaves_are i ++ numbers_are i) ∙ ap (λ n. numbers_from 0 (length parts) ++ numbers_from n (length nodes)) (let long = long_keys in let same : 0 + length keys ≡ 0 + length parts = omega (arith, long) in same) ∙ numbers_both 0 (length parts) (length nodes)))
          (all_differ 0 (length parts + length nodes));
      tree = subst (IsTree (sizes_of h)) (sym layout_is) is_loaded.tree;
    };
    layout = layout_is;
  }
    where
      halves : Stand h b 0 (chain_pages (kind_of h) 0 parts) × Stand h b (0 + length (chain_pages (kind_of h) 0 parts)) (index_pages h 0 keys)
      halves = stand_parts h b 0 (chain_pages (kind_of h) 0 parts) (index_pages h 0 keys) stand

      leaves_stand : Stand h b 0 (chain_pages (kind_of h) 0 parts)
      leaves_stand = halves.0

      index_stand : Stand h b (0 + length keys) (entry_pages nodes)
      index_stand = subst (λ n. Stand h b (0 + n) (entry_pages nodes)) (length_chain h 0 parts ∙ sym long_keys) halves.1

      loaded_index : IsLoadedIndex (least_key h) fan (entries_in h b) 0 h.root keys
      loaded_index =
          let long = long_keys in let some = some_parts in
          index_loads (least_key h) fan (entries_in h b) 0 h.root keys wide (omega (arith, long, some)) (first_least h parts some_parts) (nodes_stand h b (0 + length keys) nodes index_stand) (omega (arith, long, used, root))

      level_numbers : List (List ℕ)
      level_numbers = numbered (0 + length keys) (nodes_over fan (length keys) 0 keys)

      high : length level_numbers ≡ length (index_over fan (length parts) (length parts))
      high = sym (length-map level_numbers (map (λ n. length (entries_in h b n)))) ∙ ap (λ (x : List (List ℕ)). length x) loaded_index.shape ∙ ap (λ n. length (index_over fan n n)) long_keys

      reads : ReadsLevels h b (entries_by 0 keys) level_numbers
      reads = levels_read h b (entries_in h b) (entries_by 0 keys) level_numbers loaded_index.leads (levels ∙ ap suc (sym high)) (all_same (entries_in h b) (numbers_of level_numbers))

      leaves_are : leaf_numbers h b ≡ numbers_from 0 (length parts)
      leaves_are = ap (map child_of) reads.leaves_are ∙ numbers_entries 0 keys ∙ ap (numbers_from 0) long_keys

      numbers_are : numbers_of (index_levels h b) ≡ numbers_from (0 + length keys) (length nodes)
      numbers_are = ap numbers_of reads.levels_are ∙ loaded_index.numbers

      shown : map (leaf_at (slots_in h b)) (entries_by 0 keys) ≡ (loaded_tree h es).leaves
      shown = leaves_same h b 0 parts leaves_stand ∙ ap (leaves_from (replicate h.key_size 0)) (sym filled_is)

      index_is : counts_of (entries_in h b) (index_levels h b) ≡ (loaded_tree h es).index
      index_is = ap (counts_of (entries_in h b)) reads.levels_are ∙ loaded_index.shape ∙ ap (λ n. index_over fan n n) (long_keys ∙ sym filled_long)

      layout_is : layout_in h b ≡ loaded_tree h es
      layout_is = λ i. record { leaves = (ap (map (leaf_at (slots_in h b))) reads.leaves_are ∙ shown) i; index = index_is i }

      up : Ascends (entries_by 0 keys)
      up = bounded_ascend (slots_in h b) (entries_by 0 keys) (subst AreBounded (sym shown) is_loaded.tree.bounded)

      good : AllGood h parts
      good = all_good h parts (subst IsOrdered (sym (ap (map (slot_of h)) (packed_all cap [] raws) ∙ slots_are h es key all)) (texts_ordered h es all sorted)) (ap (all_keep h) (packed_all cap [] raws) ∙ raws_keep h es key all)
