-- Pages that stand are a file of the records, whatever its organization.
use Rattle.std.proofs.Common.{◌≡◌, ◌<◌, ◌≤◌, ◌+◌, ◌-◌, ◌*◌, ◌/◌, ℕ, zero, suc, Bool, true, false, List, [], ◌∷◌, ◌++◌, length, map, get_or, Option, Some, None, refl, sym, ap, subst, ◌∙◌, length-append, arith}
use Rattle.std.specs.List.{All}
use Rattle.std.specs.FinMap.Entries.{is_sorted}
use Rattle.std.proofs.lemmas.List.{length-map}
use Rattle.std.proofs.lemmas.Nat.{mul-le, le-div}
use Rattle.record_files.specs.block_disk.Disk.{DiskState}
use Rattle.record_files.specs.file_base.declared.head.FileHead.{FileHead}
use Rattle.record_files.specs.file_base.declared.head.Organization.{Organization}
use Rattle.record_files.specs.file_base.declared.head.Organization.TheVariants.{Sequential, Relative, Indexed}
use Rattle.vms_model.specs.Keys.{Key, Number, Text, End}
use Rattle.records_model.specs.Records.{key_cmp}
use Rattle.bucket_page.specs.declared.kind.PageKind.{PageKind}
use Rattle.bucket_page.specs.declared.kind.PageKind.TheVariants.{Seq}
use Rattle.record_files.specs.tree_model.Layouts.{Layout, no_layout, slots_along, used_of, levels_of, index_size}
use Rattle.record_files.specs.tree_model.Loads.{slot_for, index_over}
use Rattle.records_model.specs.Slots.{Slot, lookup}
use Rattle.index_bucket.specs.index_model.Indexes.{Entry}
use Rattle.load_model.specs.Nodes.{nodes_over, all_nodes}
use Rattle.load_model.proofs.Levels.{stays_low}
use Rattle.index_bucket.proofs.HandLaws.{fan_out_wide}
use Rattle.index_bucket.specs.Entries.{sizes_of}
use Rattle.record_files.specs.change_set.Files.{IsPlaced}
use Rattle.record_files.specs.relative_file.Cells.{cells_in}
use Rattle.record_files.specs.seq_file.Layout.{capacity, IsRecord}
use Rattle.record_files.specs.seq_file.Placing.{buckets_for}
use Rattle.record_files.specs.seq_file.Records.{map_of_list, slot_sizes}
use Rattle.record_files.specs.indexed_file.Chain.{HasKeys, kind_of}
use Rattle.record_files.specs.indexed_tree.Files as tree
use Rattle.record_files.specs.indexed_tree.Rooted.{layout_in}
use Rattle.record_files.specs.Any.{FormBy, LaidOutBy, map_by, IsFile, IsLaidOut, map_of, layout_of}
use Rattle.record_files.specs.Any as any
use Rattle.load_laws.specs.Records.{Keyed, what_has, texts_of, values_of}
use Rattle.load_laws.specs.Pages.{Page, Stand}
use Rattle.load_laws.specs.Chains.{raw_for, packed, chain_pages}
use Rattle.load_laws.specs.Cells.{cell_pages}
use Rattle.load_laws.specs.Keys.{lowest_keys, entry_pages, index_pages}
use Rattle.load_laws.specs.Loads.{AreLoadable, AllSuitBy, NumberedBy, HeadBy, IsLoaded, loaded_head, head_by, buckets_by, loaded_buckets, layout_by, loaded_layout, loaded_tree, leaf_parts, pages_by, loaded_pages}
use Rattle.load_laws.specs.Laws.{PagesLoad, HeadLoads, PagesCount}
use Rattle.load_laws.proofs.ChainLemmas.{packed_some}
use Rattle.load_laws.proofs.SeqLaws.{SeqLoaded, seq_loaded, seq_count, list_is}
use Rattle.load_laws.proofs.CellLemmas.{CellsLoaded, cells_loaded, length_cell_pages}
use Rattle.load_laws.proofs.RawLemmas.{slots_are, texts_find, number_none, end_none}
use Rattle.load_laws.proofs.TreeLaws.{TreeLoaded, tree_loaded, used_is, levels_is, nodes_count, length_lowest, all_slots_are}
use Rattle.load_laws.proofs.HeadLemmas.{told, stand_told, lowest_told, cells_told, all_cells_suit, all_texts_suit}

length_chain : (kind : PageKind) (n : ℕ) (parts : List (List (List ℕ))) → length (chain_pages kind n parts) ≡ length parts
length_chain kind n [] = refl
length_chain kind n (p ∷ ps) = ap suc (length_chain kind (suc n) ps)

few_buckets : (h : FileHead) (disk : DiskState) → IsPlaced h disk → h.alloc ≤ 65536
few_buckets h disk placed =
    let product : h.alloc * 1 ≤ h.alloc * h.bucket = mul-le h.alloc 1 h.alloc h.bucket (omega arith) placed.one in
    let to = placed.to in let fits = placed.fits in omega (arith, product, to, fits)

some_cells : (h : FileHead) (disk : DiskState) → IsPlaced h disk → 1 ≤ cells_in h
some_cells h disk placed = let records = placed.records in le-div 1 (512 * h.bucket - 16) (h.mrs + 2) (omega arith) (omega (arith, records))

-- What a load says of a file that is kept so.
pub record LoadsBy (o : Organization) (h : FileHead) (blocks : List (List ℕ)) (es : List Keyed) : Type 0 where
  pub laid : LaidOutBy o (head_by o h es) blocks
  pub map_is : map_by o (head_by o h es) blocks ≡ what_has es
  pub layout : any.layout_by o (head_by o h es) blocks ≡ layout_by o h es

-- Sequential files.

seq_suits : (h : FileHead) (k : Key) (v : List ℕ) → any.SuitsBy Sequential h k (Some v) → IsRecord h.mrs v
seq_suits h (Number n) v suits = suits.1
seq_suits h (Text t) v suits = absurd suits
seq_suits h End v suits = absurd suits

all_records : (h : FileHead) (es : List Keyed) → AllSuitBy Sequential h es → All (IsRecord h.mrs) (values_of es)
all_records h [] all = λ k d below. absurd (omega (arith, below))
all_records h (e ∷ es) all = λ k d below. at (all_records h es all.1) k d below
  where
    at : All (IsRecord h.mrs) (values_of es) → (k : ℕ) (d : List ℕ) → k < length (values_of (e ∷ es)) → IsRecord h.mrs (get_or (values_of (e ∷ es)) k d)
    at again zero d below = seq_suits h e.0 e.1 all.0
    at again (suc k) d below = again k d (omega (arith, below))

seq_loads : (h : FileHead) (blocks : List (List ℕ)) (es : List Keyed) → AllSuitBy Sequential h es → NumberedBy Sequential es → Stand h blocks 0 (pages_by Sequential h es) → LoadsBy Sequential h blocks es
seq_loads h blocks es suit numbered stand =
    let m = head_by Sequential h es in
    let loaded = seq_loaded m blocks (values_of es) (all_records h es suit) (seq_count (capacity h) (values_of es)) (sym (length-map es (λ (e : Keyed). e.1)))
    (stand_told h (buckets_for (capacity h) (slot_sizes (values_of es))) 0 0 (length es) blocks 0 (pages_by Sequential h es) stand) in
    record { laid = loaded.laid; map_is = ap map_of_list loaded.records_are ∙ list_is es numbered; layout = refl }

-- Relative files.

cell_loads : (h : FileHead) (disk : DiskState) (blocks : List (List ℕ)) (es : List Keyed) → IsPlaced h disk → AllSuitBy Relative h es → HeadBy Relative h → Stand h blocks 0 (pages_by Relative h es) → LoadsBy Relative h blocks es
cell_loads h disk blocks es placed suit cells stand =
    let m = head_by Relative h es in
    let loaded = cells_loaded m blocks es cells (some_cells h disk placed) (all_cells_suit h h.alloc 0 0 0 es suit)
    (subst (λ (ps : List Page). Stand m blocks 0 ps) (sym (cells_told h h.alloc 0 0 0 es 0 h.alloc)) (stand_told h h.alloc 0 0 0 blocks 0 (pages_by Relative h es) stand)) in
    record { laid = loaded.laid; map_is = loaded.map_is; layout = refl }

-- Indexed files.

abbrev tree_used : FileHead → List Keyed → ℕ
tree_used h es = used_of (loaded_tree h es)

some_used : (h : FileHead) (disk : DiskState) (es : List Keyed) → IsPlaced h disk → HasKeys h → AllSuitBy Indexed h es → is_sorted key_cmp es ≡ true
    → tree_used h es ≡ length (leaf_parts h es) + index_size (index_over (sizes_of h).fan_out (length (leaf_parts h es)) (length (leaf_parts h es)))
some_used h disk es placed keys suit sorted = used_is h es placed.one keys.short keys.key placed.records suit sorted

tree_loads : (h : FileHead) (disk : DiskState) (blocks : List (List ℕ)) (es : List Keyed) → IsPlaced h disk → HasKeys h → AllSuitBy Indexed h es → is_sorted key_cmp es ≡ true → Stand h blocks 0 (pages_by Indexed h es) → LoadsBy Indexed h blocks es
tree_loads h disk blocks es placed keys suit sorted stand =
    let u = tree_used h es in
    let l = levels_of (loaded_tree h es) in
    let m = head_by Indexed h es in
    let suits = all_texts_suit h u (u - 1) l 0 es suit in
    let used = some_used h disk es placed keys suit sorted in
    let some = packed_some (512 * h.bucket - 16) [] (map (raw_for (kind_of h)) (values_of es)) in
    let count = nodes_count m es placed.one keys.short keys.key placed.records suits sorted in
    let pages : pages_by Indexed m es ≡ pages_by Indexed h es =
    ap (λ (ks : List (List ℕ)). chain_pages (kind_of h) 0 (leaf_parts h es) ++ index_pages h 0 ks) (lowest_told h u (u - 1) l 0 (leaf_parts h es)) in
    let loaded = tree_loaded m es placed.one keys.short keys.key placed.records suits sorted blocks (used ∙ ap (λ n. length (leaf_parts h es) + n) (sym count)) (omega (arith, used, some))
    (levels_is h es placed.one keys.short keys.key placed.records suit sorted)
    (subst (λ (ps : List Page). Stand m blocks 0 ps) (sym pages) (stand_told h u (u - 1) l 0 blocks 0 (pages_by Indexed h es) stand)) in
    record {
      laid = loaded.rooted;
      map_is = λ i key. at_key m suits loaded.layout (all_slots_are m es placed.one keys.short keys.key placed.records suits sorted) key i;
      layout = loaded.layout;
    }
  where
    at_key : (m : FileHead) → AllSuitBy Indexed m es → layout_in m blocks ≡ loaded_tree m es → slots_along (loaded_tree m es).leaves ≡ map slot_for (texts_of es) → (key : Key) → tree.map_of m blocks key ≡ what_has es key
    at_key m suits layout slots (Text t) = ap (λ (x : Layout). lookup (slots_along x.leaves) t) layout ∙ ap (λ (ss : List Slot). lookup ss t) slots ∙ texts_find m es t suits
    at_key m suits layout slots (Number n) = sym (number_none m n es suits)
    at_key m suits layout slots End = sym (end_none m es suits)

-- All files.

loads_by : (o : Organization) (h : FileHead) (disk : DiskState) (blocks : List (List ℕ)) (es : List Keyed) → IsPlaced h disk → is_sorted key_cmp es ≡ true → AllSuitBy o h es → NumberedBy o es → HeadBy o h → Stand h blocks 0 (pages_by o h es) → LoadsBy o h blocks es
loads_by Sequential h disk blocks es placed sorted suit numbered head stand = seq_loads h blocks es suit numbered stand
loads_by Relative h disk blocks es placed sorted suit numbered head stand = cell_loads h disk blocks es placed suit head stand
loads_by Indexed h disk blocks es placed sorted suit numbered head stand = tree_loads h disk blocks es placed head suit sorted stand

same_kept : (o : Organization) (h : FileHead) (es : List Keyed) → (head_by o h es).organization ≡ h.organization
same_kept Sequential h es = refl
same_kept Relative h es = refl
same_kept Indexed h es = refl

head_layout : (o : Organization) (h : FileHead) (es : List Keyed) → layout_by o (head_by o h es) es ≡ layout_by o h es
head_layout Sequential h es = refl
head_layout Relative h es = refl
head_layout Indexed h es = refl

pub pages_load : PagesLoad
pages_load h disk blocks es placed loadable stand =
    let all = loads_by h.organization h disk blocks es placed loadable.ordered loadable.suit loadable.numbered loadable.head stand in
    let m = loaded_head h es in
    let same = sym (same_kept h.organization h es) in
    record {
      laid = subst (λ (o : Organization). LaidOutBy o m blocks) same all.laid;
      map_is = ap (λ (o : Organization). map_by o m blocks) (sym same) ∙ all.map_is;
      layout = ap (λ (o : Organization). any.layout_by o m blocks) (sym same) ∙ all.layout ∙ sym (head_layout h.organization h es) ∙ ap (λ (o : Organization). layout_by o m es) same;
    }

-- The head.

form_by : (o : Organization) (h : FileHead) (disk : DiskState) (es : List Keyed) → h.organization ≡ o → IsPlaced h disk → is_sorted key_cmp es ≡ true → AllSuitBy o h es → HeadBy o h → buckets_by o h es ≤ h.alloc → FormBy o (head_by o h es)
form_by Sequential h disk es is placed sorted suit head fits = record {
  organization = is;
  one = let count = seq_count (capacity h) (values_of es) in let some = packed_some (capacity h) [] (map (raw_for Seq) (values_of es)) in omega (arith, count, some);
  used = fits;
  root = refl;
  levels = refl;
}
form_by Relative h disk es is placed sorted suit head fits = record { organization = is; cells = head; one = some_cells h disk placed; used = refl; root = refl; levels = refl; count = refl }
form_by Indexed h disk es is placed sorted suit head fits =
    let used = some_used h disk es placed head suit sorted in
    let parts = length (leaf_parts h es) in
    let some = packed_some (512 * h.bucket - 16) [] (map (raw_for (kind_of h)) (values_of es)) in
    let low = stays_low (sizes_of h).fan_out parts (fan_out_wide h.bucket h.key_size placed.one head.short) some in
    let few = few_buckets h disk placed in
    let high = low.levels (omega (arith, used, fits, few)) in
    let levels = levels_is h es placed.one head.short head.key placed.records suit sorted in
    record {
      organization = is;
      root = record { some = omega (arith, levels); most = omega (arith, levels, high); root = omega (arith, used, some); within = fits; short = head.short };
      keys = record { key = head.key; short = head.short; holds = head.holds };
      count = refl;
    }

pub head_loads : HeadLoads
head_loads h disk es placed loadable =
    subst (λ (o : Organization). FormBy o (loaded_head h es)) (sym (same_kept h.organization h es)) (form_by h.organization h disk es refl placed loadable.ordered loadable.suit loadable.head loadable.fits)

-- The pages.

length_entries : (gs : List (List Entry)) → length (entry_pages gs) ≡ length gs
length_entries [] = refl
length_entries (g ∷ gs) = ap suc (length_entries gs)

count_by : (o : Organization) (h : FileHead) (disk : DiskState) (es : List Keyed) → IsPlaced h disk → is_sorted key_cmp es ≡ true → AllSuitBy o h es → HeadBy o h → length (pages_by o h es) ≡ buckets_by o h es
count_by Sequential h disk es placed sorted suit head = length_chain Seq 0 (packed (capacity h) [] (map (raw_for Seq) (values_of es))) ∙ sym (seq_count (capacity h) (values_of es))
count_by Relative h disk es placed sorted suit head = length_cell_pages h es 0 h.alloc
count_by Indexed h disk es placed sorted suit head =
    let leaves = length_chain (kind_of h) 0 (leaf_parts h es) in
    let index = length_entries (all_nodes (nodes_over (sizes_of h).fan_out (length (lowest_keys h (leaf_parts h es))) 0 (lowest_keys h (leaf_parts h es)))) in
    let both = length-append (chain_pages (kind_of h) 0 (leaf_parts h es)) (index_pages h 0 (lowest_keys h (leaf_parts h es))) in
    let count = nodes_count h es placed.one head.short head.key placed.records suit sorted in
    let used = some_used h disk es placed head suit sorted in omega (arith, leaves, index, both, count, used)

pub pages_count : PagesCount
pages_count h disk es placed loadable = count_by h.organization h disk es placed loadable.ordered loadable.suit loadable.head
