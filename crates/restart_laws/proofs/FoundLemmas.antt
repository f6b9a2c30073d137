-- What a key has suits its file, so that it can be set back.
use Rattle.std.proofs.Common.{◌≡◌, ℕ, zero, suc, ◌+◌, ◌-◌, ◌*◌, ◌/◌, ◌%◌, ◌≤◌, List, [], ◌∷◌, ◌++◌, length, take, drop, map, Bool, true, false, Some, None, IfSome, nat_le, if◌then◌else◌, refl, sym, subst, arith, length-append, length-drop}
use Rattle.std.specs.Prelude.{◌&&◌, ◌||◌, ◌==◌}
use Rattle.std.specs.List.{All, slice_get}
use Rattle.std.proofs.lemmas.Bool.Decides.{nat_tests}
use Rattle.std.proofs.lemmas.List.{length-take-le}
use Rattle.std.proofs.lemmas.Nat.{mod_below, div-add-mod', mul-le}
use Rattle.std.proofs.lemmas.List.Elements.{All-head, All-tail}
use Rattle.careful_write.specs.block_disk.Blocks.{block_at}
use Rattle.careful_write.specs.State.{EachWhole}
use Rattle.file_base.specs.declared.head.FileHead.{FileHead}
use Rattle.file_base.specs.Bytes.{piece_at}
use Rattle.bucket_page.specs.Pages.{u16_at, key_in}
use Rattle.bucket_page.proofs.Orders.{key_there}
use Rattle.directory_model.specs.change_set.Buckets.{bucket_bytes}
use Rattle.vms_model.specs.Keys.{Number, Text}
use Rattle.index_model.specs.records_model.Slots.{Slot, same_bytes, slot_at, value_in, lookup}
use Rattle.index_model.proofs.records_model.SlotLaws.{same_bytes_are}
use Rattle.directory_model.specs.seq_file.Layout.{IsRecord}
use Rattle.directory_model.specs.seq_file.Records.{record_at}
use Rattle.index_model.specs.tree_model.Layouts.{slots_along}
use Rattle.index_model.specs.Indexes.{Entry}
use Rattle.index_model.specs.Trees.{child_of, leaf_at}
use Rattle.directory_model.specs.index_blocks.Buckets.{bucket_at as leaf_bytes}
use Rattle.directory_model.specs.index_blocks.Levels.{AllAre, leaf_entries}
use Rattle.directory_model.specs.indexed_file.Chain.{kind_of, slot_of, value_of, keeps_record, all_keep, slots_in, IsLeaf}
use Rattle.directory_model.specs.indexed_tree.Files as indexed
use Rattle.directory_model.specs.indexed_tree.Maps.{all_slots}
use Rattle.directory_model.specs.indexed_tree.Rooted.{IsRooted}
use Rattle.directory_model.specs.relative_file.Cells as relative
use Rattle.directory_model.specs.relative_file.Cells.{IsRelative, has_cell, cells_in, cells_end, first_of, place_of, bucket_at, cell_at, record_in, size_in}
use Rattle.directory_model.specs.relative_file.Local.{bucket_within}
use Rattle.directory_model.proofs.relative_file.Places.{place_within, places_fit}
use Rattle.directory_model.proofs.relative_file.ReadLaws.{length-as_read}
use Rattle.directory_model.specs.Files.{IsWithin}

-- Sequential files: a record of the list is one of the file.

got_is : (mrs : ℕ) (rs : List (List ℕ)) (k : ℕ) → All (IsRecord mrs) rs → IfSome (slice_get rs k) (IsRecord mrs)
got_is mrs [] k all = tt
got_is mrs (r ∷ rs) zero all = All-head (IsRecord mrs) r rs all
got_is mrs (r ∷ rs) (suc k) all = got_is mrs rs k (All-tail (IsRecord mrs) r rs all)

pub record_is : (mrs : ℕ) (rs : List (List ℕ)) (p : ℕ) → All (IsRecord mrs) rs → IfSome (record_at rs p) (IsRecord mrs)
record_is mrs rs zero all = tt
record_is mrs rs (suc k) all = got_is mrs rs k all

-- Relative files: a cell has as many bytes as it tells.

bucket_long : (blocks : List (List ℕ)) (first count : ℕ) → EachWhole blocks → first + count ≤ length blocks → length (bucket_bytes blocks first count) ≡ 512 * count
bucket_long blocks first zero whole within = refl
bucket_long blocks first (suc n) whole within =
    let block = whole (first + n) (omega arith) in
    let rest = bucket_long blocks first n whole (omega arith) in
    omega (arith, length-append (bucket_bytes blocks first n) (block_at blocks (first + n)))

cell_long : (bytes : List ℕ) (place size : ℕ) → place + size ≤ length bytes → length (piece_at bytes place size) ≡ size
cell_long bytes place size within = length-take-le size (drop place bytes) (omega (arith, length-drop place bytes))

-- what has a part is not less than one
some_parts : (x w : ℕ) → 1 ≤ w → 1 ≤ x / w → 1 ≤ x
some_parts x w some one =
    let whole = div-add-mod' x w in
    let part : 1 * w ≤ x / w * w = mul-le 1 w (x / w) w one (omega arith) in
    omega (arith, whole, part)

cell_fits : (n b mrs : ℕ) → 1 ≤ (512 * b - 16) / (mrs + 2) → 16 + (n - 1) % ((512 * b - 16) / (mrs + 2)) * (mrs + 2) + (mrs + 2) ≤ 512 * b
cell_fits n b mrs one =
    let c = (512 * b - 16) / (mrs + 2) in
    let some = some_parts (512 * b - 16) (mrs + 2) (omega arith) one in
    place_within ((n - 1) % c) c (mrs + 2) (512 * b) (mod_below (n - 1) c one) (places_fit (512 * b) (mrs + 2) (omega (arith, some)))

if_some : (t : Bool) (x : List ℕ) (P : List ℕ → Type 0) → (t ≡ true → P x) → IfSome (if t then Some x else None) P
if_some true x P h = h refl
if_some false x P h = tt

within_sizes : (size mrs : ℕ) → (nat_le 1 size && nat_le size mrs) ≡ true → (1 ≤ size) × (size ≤ mrs)
within_sizes size mrs is = grind (arith, nat_tests)

-- the record in a cell of that length
record_of_cell : (mrs : ℕ) (cell : List ℕ) → length cell ≡ mrs + 2 → IfSome (record_in mrs cell) (λ r. (1 ≤ length r) × (length r ≤ mrs))
record_of_cell mrs cell long =
    if_some (nat_le 1 (size_in cell) && nat_le (size_in cell) mrs) (take (size_in cell) (drop 2 cell)) (λ r. (1 ≤ length r) × (length r ≤ mrs))
    (λ is. let sizes = within_sizes (size_in cell) mrs is in
    let size = length-take-le (size_in cell) (drop 2 cell) (omega (arith, sizes, length-drop 2 cell)) in
    (omega (arith, sizes), omega (arith, sizes)))

pub cell_suits : (content : List (List ℕ)) (h : FileHead) (n : ℕ) → IsRelative h → IsWithin content h → has_cell h n ≡ true → IfSome (relative.map_of h content (Number n)) (λ r. (1 ≤ length r) × (length r ≤ h.mrs))
cell_suits content h n form within there =
    let lies = bucket_within n h.mrn h.alloc (cells_in h) h.bucket there form.cells form.one in
    let fits = cell_fits n h.bucket h.mrs form.one in
    let long = length-as_read h (bucket_bytes content (first_of h n) h.bucket) (omega (arith, fits)) (bucket_long content (first_of h n) h.bucket within.whole (omega (arith, lies, within.from, within.to))) in
    subst (λ (t : Bool). IfSome (if t then record_in h.mrs (cell_at h content n) else None) (λ r. (1 ≤ length r) × (length r ≤ h.mrs))) (sym there)
    (record_of_cell h.mrs (cell_at h content n) (cell_long (bucket_at h content (first_of h n)) (place_of h n) (h.mrs + 2) (omega (arith, fits, long))))

-- Indexed files: a slot that has a record has its key in it.

-- the key in a record of the slot is the slot's
pub record Keeps (h : FileHead) (key r : List ℕ) : Type 0 where
  pub has : piece_at r h.key_pos h.key_size ≡ key
  pub most : length r ≤ h.mrs

abbrev AllKept : FileHead → List Slot → Type 0
AllKept h [] = Unit {0}
AllKept h (s ∷ ss) = IfSome s.value (Keeps h s.key) × AllKept h ss

kept_sizes : (pos size len mrs : ℕ) → ((len == 0) || (nat_le (pos + size) len && nat_le len mrs)) ≡ true → 1 ≤ len → (pos + size ≤ len) × (len ≤ mrs)
kept_sizes pos size len mrs kept one = grind (arith, nat_tests)

take_most : (n : ℕ) (xs : List ℕ) → length (take n xs) ≤ n
take_most zero xs = omega arith
take_most (suc n) [] = omega arith
take_most (suc n) (x ∷ xs) = let rest = take_most n xs in omega arith

slot_kept : (h : FileHead) (raw : List ℕ) → keeps_record h raw ≡ true → IfSome (value_of h.mrs raw) (Keeps h (key_in (kind_of h) raw))
slot_kept h raw kept =
    if_some (nat_le 1 (u16_at raw 2) && nat_le (u16_at raw 2) h.mrs) (piece_at raw 4 (u16_at raw 2)) (Keeps h (key_in (kind_of h) raw))
    (λ is. let sizes = within_sizes (u16_at raw 2) h.mrs is in
    let key = kept_sizes h.key_pos h.key_size (u16_at raw 2) h.mrs kept sizes.0 in
    record {
      has = key_there raw 4 (u16_at raw 2) h.key_pos h.key_size key.0;
      most = (let few = take_most (u16_at raw 2) (drop 4 raw) in omega (arith, sizes.1));
    })

both_true : (a b : Bool) → (a && b) ≡ true → (a ≡ true) × (b ≡ true)
both_true true b e = (refl, e)
both_true false b e = cc

slots_kept : (h : FileHead) (raws : List (List ℕ)) → all_keep h raws ≡ true → AllKept h (map (slot_of h) raws)
slots_kept h [] all = tt
slots_kept h (raw ∷ raws) all = let both = both_true (keeps_record h raw) (all_keep h raws) all in (slot_kept h raw both.0, slots_kept h raws both.1)

kept_append : (h : FileHead) (a b : List Slot) → AllKept h a → AllKept h b → AllKept h (a ++ b)
kept_append h [] b first second = second
kept_append h (s ∷ ss) b first second = (first.0, kept_append h ss b first.1 second)

along_kept : (h : FileHead) (content : List (List ℕ)) (es : List Entry) → AllAre (λ n. IsLeaf h (leaf_bytes h content n)) (map child_of es) → AllKept h (slots_along (map (leaf_at (slots_in h content)) es))
along_kept h content [] leaves = tt
along_kept h content (e ∷ es) leaves = kept_append h (slots_in h content e.child) (slots_along (map (leaf_at (slots_in h content)) es)) (slots_kept h _ leaves.0.kept) (along_kept h content es leaves.1)

found_kept : (h : FileHead) (slots : List Slot) (k : List ℕ) → AllKept h slots → IfSome (lookup slots k) (Keeps h k)
found_kept h [] k all = tt
found_kept h (s ∷ ss) k all = go (same_bytes k s.key) refl (found_kept h ss k all.1)
  where
    go : (t : Bool) → same_bytes k s.key ≡ t → IfSome (lookup ss k) (Keeps h k) → IfSome (value_in (if t then Some s else slot_at k ss)) (Keeps h k)
    go true is rest = subst (λ (key : List ℕ). IfSome s.value (Keeps h key)) (sym (same_bytes_are k s.key is)) all.0
    go false is rest = rest

pub slot_suits : (content : List (List ℕ)) (h : FileHead) (k : List ℕ) → IsRooted h content → IfSome (indexed.map_of h content (Text k)) (Keeps h k)
slot_suits content h k laid = found_kept h (all_slots h content) k (along_kept h content (leaf_entries h content) laid.leaves)
