-- The entries of a relative and of an indexed file, and how many records there can be.
use Rattle.std.proofs.Common.{◌≡◌, ◌⊎◌, ⊎_elim, ℕ, zero, suc, ◌+◌, ◌*◌, ◌<◌, ◌≤◌, List, [], ◌∷◌, length, map, Bool, true, false, cond, T, Option, Some, None, if◌then◌else◌, nat_le, refl, sym, ap, subst, ◌∙◌, arith, inl, inr, length-append}
use Rattle.std.specs.Prelude.{◌&&◌, ◌==◌}
use Rattle.std.specs.Cmp.{tied_itself}
use Rattle.std.specs.Ordering.{is_eq}
use Rattle.std.specs.FinMap.{get, get-from_sorted, from_sorted, find, is_sorted}
use Rattle.std.specs.FinMap.Entries.{below_all}
use Rattle.std.proofs.lemmas.Bool.{cases_eq, cases_lt}
use Rattle.std.proofs.lemmas.Bool.Decides.{nat_tests}
use Rattle.std.proofs.lemmas.List.{length-map}
use Rattle.extents.specs.file_base.declared.head.FileHead.{FileHead}
use Rattle.extents.specs.file_base.declared.head.Organization.{Organization as Kept}
use Rattle.extents.specs.file_base.declared.head.Organization.TheVariants as kept
use Rattle.file_images.specs.bucket_page.declared.kind.PageKind.{PageKind}
use Rattle.file_images.specs.bucket_page.declared.kind.PageKind.TheVariants.{Seq}
use Rattle.file_images.specs.bucket_page.Pages.{slots_of, joined, front_size, tells_well, suits, all_suit, IsBucket}
use Rattle.file_images.specs.change_set.Maps.{Map, key_before}
use Rattle.file_images.proofs.change_set.NumberKeys.{other_test, number_below}
use Rattle.records_model.specs.vms_model.Keys.{Key, Number, Text, End}
use Rattle.records_model.specs.Records.{Records, key_cmp}
use Rattle.records_model.specs.Slots.{Slot, same_bytes, slot_at, value_in, lookup, AllBehind, IsOrdered}
use Rattle.records_model.specs.History.{current}
use Rattle.records_model.proofs.KeyLemmas.{key_cmp_total}
use Rattle.records_model.proofs.SlotLaws.{same_bytes_are, before_not_same}
use Rattle.file_images.specs.run_model.World.{File}
use Rattle.file_images.specs.run_model.Operations.{in_order}
use Rattle.file_images.specs.record_files.Any as any
use Rattle.file_images.specs.record_files.Any.{map_of, map_by, FormBy, LaidOutBy, IsLaidOut}
use Rattle.file_images.specs.seq_file.Layout as sequential
use Rattle.file_images.specs.seq_file.Layout.{records_in, slots_at, record_of}
use Rattle.file_images.specs.seq_file.Placing.{slots_along}
use Rattle.file_images.specs.tree_model.Layouts.{slots_along as slots_of_leaves}
use Rattle.file_images.specs.index_model.Indexes.{Entry}
use Rattle.file_images.specs.index_model.Trees.{child_of, leaf_at}
use Rattle.file_images.specs.index_blocks.Buckets.{bucket_at}
use Rattle.file_images.specs.index_blocks.Levels.{AllAre, leaf_entries}
use Rattle.file_images.specs.indexed_file.Chain.{slots_in, slot_of, kind_of, IsLeaf}
use Rattle.file_images.specs.indexed_tree.Files as indexed
use Rattle.file_images.specs.indexed_tree.Maps.{all_slots}
use Rattle.file_images.specs.indexed_tree.Rooted.{IsRooted}
use Rattle.file_images.specs.relative_file.Cells as relative
use Rattle.file_images.specs.relative_file.Cells.{has_cell, record_in, cell_at}
use Rattle.directory_model.specs.Files.{IsFile}
use Rattle.directory_model.proofs.ReadingLists.{Entries, listed, numbered, length-numbered, sorted_numbered, find_numbered, as_test, both_tests}

-- One entry more in front, where the key has a record.

abbrev cons_some : Key → Option (List ℕ) → Entries → Entries
cons_some key None es = es
cons_some key (Some v) es = (key, v) ∷ es

below_cons : (x key : Key) (v : Option (List ℕ)) (es : Entries) → key_before x key ≡ true → T (below_all key_cmp x es) → T (below_all key_cmp x (cons_some key v es))
below_cons x key None es first below = below
below_cons x key (Some v) es first below = both_tests (key_before x key) (below_all key_cmp x es) (as_test (key_before x key) first) below

sorted_cons : (key : Key) (v : Option (List ℕ)) (es : Entries) → T (below_all key_cmp key es) → T (is_sorted key_cmp es) → T (is_sorted key_cmp (cons_some key v es))
sorted_cons key None es below sorted = sorted
sorted_cons key (Some v) es below sorted = both_tests (below_all key_cmp key es) (is_sorted key_cmp es) below sorted

find_same : (key : Key) (v : Option (List ℕ)) (es : Entries) → find key_cmp key es ≡ None → find key_cmp key (cons_some key v es) ≡ v
find_same key None es none = none
find_same key (Some v) es none = ap (λ o. cond (is_eq o) (Some v) (find key_cmp key es)) (tied_itself key_cmp_total key)

find_other : (q key : Key) (v : Option (List ℕ)) (es : Entries) → is_eq (key_cmp q key) ≡ false → find key_cmp q (cons_some key v es) ≡ find key_cmp q es
find_other q key None es other = refl
find_other q key (Some v) es other = ap (λ b. cond b (Some v) (find key_cmp q es)) other

length_cons : (key : Key) (v : Option (List ℕ)) (es : Entries) → length (cons_some key v es) ≤ suc (length es)
length_cons key None es = omega arith
length_cons key (Some v) es = omega arith

-- What so many numbers have, from one on.

abbrev by_numbers : (ℕ → Option (List ℕ)) → ℕ → ℕ → Entries
by_numbers has zero n = []
by_numbers has (suc more) n = cons_some (Number n) (has n) (by_numbers has more (suc n))

numbers_below : (has : ℕ → Option (List ℕ)) (more n m : ℕ) → m < n → T (below_all key_cmp (Number m) (by_numbers has more n))
numbers_below has zero n m below = tt
numbers_below has (suc more) n m below = below_cons (Number m) (Number n) (has n) (by_numbers has more (suc n)) (number_below m n below) (numbers_below has more (suc n) m (omega arith))

numbers_sorted : (has : ℕ → Option (List ℕ)) (more n : ℕ) → T (is_sorted key_cmp (by_numbers has more n))
numbers_sorted has zero n = tt
numbers_sorted has (suc more) n = sorted_cons (Number n) (has n) (by_numbers has more (suc n)) (numbers_below has more (suc n) n (omega arith)) (numbers_sorted has more (suc n))

numbers_long : (has : ℕ → Option (List ℕ)) (more n : ℕ) → length (by_numbers has more n) ≤ more
numbers_long has zero n = omega arith
numbers_long has (suc more) n = let rest = numbers_long has more (suc n) in let one = length_cons (Number n) (has n) (by_numbers has more (suc n)) in omega arith

numbers_none : (has : ℕ → Option (List ℕ)) (more n m : ℕ) → (m < n) ⊎ (n + more ≤ m) → find key_cmp (Number m) (by_numbers has more n) ≡ None
numbers_none has zero n m outside = refl
numbers_none has (suc more) n m outside =
    find_other (Number m) (Number n) (has n) (by_numbers has more (suc n)) (other_test m n (λ e. ⊎_elim (λ below. omega arith) (λ above. omega arith) outside))
    ∙ numbers_none has more (suc n) m (⊎_elim (λ below. inl (omega arith)) (λ above. inr (omega arith)) outside)

numbers_find : (has : ℕ → Option (List ℕ)) (more n m : ℕ) → n ≤ m → m < n + more → find key_cmp (Number m) (by_numbers has more n) ≡ has m
numbers_find has zero n m from to = absurd (omega arith)
numbers_find has (suc more) n m from to = ⊎_elim
    (λ same. ap (λ k. find key_cmp (Number k) (by_numbers has (suc more) n)) same ∙ find_same (Number n) (has n) (by_numbers has more (suc n)) (numbers_none has more (suc n) n (inl (omega arith))) ∙ ap has (sym same))
    (λ other. find_other (Number m) (Number n) (has n) (by_numbers has more (suc n)) (other_test m n other) ∙ numbers_find has more (suc n) m (omega arith) (omega arith))
    (cases_eq m n)

numbers_text : (has : ℕ → Option (List ℕ)) (more n : ℕ) (t : List ℕ) → find key_cmp (Text t) (by_numbers has more n) ≡ None
numbers_text has zero n t = refl
numbers_text has (suc more) n t = find_other (Text t) (Number n) (has n) (by_numbers has more (suc n)) refl ∙ numbers_text has more (suc n) t

numbers_end : (has : ℕ → Option (List ℕ)) (more n : ℕ) → find key_cmp End (by_numbers has more n) ≡ None
numbers_end has zero n = refl
numbers_end has (suc more) n = find_other End (Number n) (has n) (by_numbers has more (suc n)) refl ∙ numbers_end has more (suc n)

-- Relative files.

abbrev cell_entries : FileHead → List (List ℕ) → Entries
cell_entries h content = by_numbers (λ n. relative.map_of h content (Number n)) h.mrn 1

no_cell : (n mrn : ℕ) → (n < 1) ⊎ (1 + mrn ≤ n) → (nat_le 1 n && nat_le n mrn) ≡ false
no_cell n mrn outside = grind (arith, nat_tests)

cell_find : (h : FileHead) (content : List (List ℕ)) (key : Key) → find key_cmp key (cell_entries h content) ≡ relative.map_of h content key
cell_find h content (Number n) = ⊎_elim
    (λ below. outside (inl below))
    (λ least. ⊎_elim (λ within. numbers_find (λ k. relative.map_of h content (Number k)) h.mrn 1 n least within) (λ past. outside (inr past)) (cases_lt n (1 + h.mrn)))
    (cases_lt n 1)
  where
    outside : (n < 1) ⊎ (1 + h.mrn ≤ n) → find key_cmp (Number n) (cell_entries h content) ≡ relative.map_of h content (Number n)
    outside off = numbers_none (λ k. relative.map_of h content (Number k)) h.mrn 1 n off ∙ sym (ap (λ t. if t then record_in h.mrs (cell_at h content n) else None) (no_cell n h.mrn off))
cell_find h content (Text t) = numbers_text (λ k. relative.map_of h content (Number k)) h.mrn 1 t
cell_find h content End = numbers_end (λ k. relative.map_of h content (Number k)) h.mrn 1

-- Indexed files.

abbrev slot_entries : List Slot → Entries
slot_entries [] = []
slot_entries (s ∷ ss) = cons_some (Text s.key) s.value (slot_entries ss)

slots_below : (k : List ℕ) (ss : List Slot) → AllBehind k ss → T (below_all key_cmp (Text k) (slot_entries ss))
slots_below k [] behind = tt
slots_below k (s ∷ ss) behind = below_cons (Text k) (Text s.key) s.value (slot_entries ss) behind.0 (slots_below k ss behind.1)

slots_sorted : (ss : List Slot) → IsOrdered ss → T (is_sorted key_cmp (slot_entries ss))
slots_sorted [] ordered = tt
slots_sorted (s ∷ ss) ordered = sorted_cons (Text s.key) s.value (slot_entries ss) (slots_below s.key ss ordered.0) (slots_sorted ss ordered.1)

slots_long : (ss : List Slot) → length (slot_entries ss) ≤ length ss
slots_long [] = omega arith
slots_long (s ∷ ss) = let rest = slots_long ss in let one = length_cons (Text s.key) s.value (slot_entries ss) in omega arith

slots_none : (k : List ℕ) (ss : List Slot) → AllBehind k ss → find key_cmp (Text k) (slot_entries ss) ≡ None
slots_none k [] behind = refl
slots_none k (s ∷ ss) behind = find_other (Text k) (Text s.key) s.value (slot_entries ss) (before_not_same k s.key behind.0) ∙ slots_none k ss behind.1

slots_find : (k : List ℕ) (ss : List Slot) → IsOrdered ss → find key_cmp (Text k) (slot_entries ss) ≡ lookup ss k
slots_find k [] ordered = refl
slots_find k (s ∷ ss) ordered = go (same_bytes k s.key) refl (slots_find k ss ordered.1)
  where
    go : (t : Bool) → same_bytes k s.key ≡ t → find key_cmp (Text k) (slot_entries ss) ≡ lookup ss k → find key_cmp (Text k) (slot_entries (s ∷ ss)) ≡ value_in (if t then Some s else slot_at k ss)
    go true same rest =
        let key : k ≡ s.key = same_bytes_are k s.key same in
        ap (λ q. find key_cmp (Text q) (slot_entries (s ∷ ss))) key ∙ find_same (Text s.key) s.value (slot_entries ss) (slots_none s.key ss ordered.0)
    go false other rest = find_other (Text k) (Text s.key) s.value (slot_entries ss) other ∙ rest

slots_number : (n : ℕ) (ss : List Slot) → find key_cmp (Number n) (slot_entries ss) ≡ None
slots_number n [] = refl
slots_number n (s ∷ ss) = find_other (Number n) (Text s.key) s.value (slot_entries ss) refl ∙ slots_number n ss

slots_end : (ss : List Slot) → find key_cmp End (slot_entries ss) ≡ None
slots_end [] = refl
slots_end (s ∷ ss) = find_other End (Text s.key) s.value (slot_entries ss) refl ∙ slots_end ss

slot_find : (h : FileHead) (content : List (List ℕ)) (key : Key) → IsRooted h content → find key_cmp key (slot_entries (all_slots h content)) ≡ indexed.map_of h content key
slot_find h content (Text k) laid = slots_find k (all_slots h content) laid.tree.ordered
slot_find h content (Number n) laid = slots_number n (all_slots h content)
slot_find h content End laid = slots_end (all_slots h content)

-- There are records that the keys have.

pub record Lists (es : Entries) (keys : Map) : Type 0 where
  sorted : T (is_sorted key_cmp es)
  found : (key : Key) → find key_cmp key es ≡ keys key

-- the entries of a file
abbrev entries_by : Kept → FileHead → List (List ℕ) → Entries
entries_by kept.Sequential h content = numbered 1 (records_in h content)
entries_by kept.Relative h content = cell_entries h content
entries_by kept.Indexed h content = slot_entries (all_slots h content)

lists_by : (o : Kept) (content : List (List ℕ)) (h : FileHead) → FormBy o h → LaidOutBy o h content → Lists (entries_by o h content) (map_by o h content)
lists_by kept.Sequential content h form laid = record { sorted = sorted_numbered 1 (records_in h content); found = λ key. find_numbered key (records_in h content) }
lists_by kept.Relative content h form laid = record { sorted = numbers_sorted (λ n. relative.map_of h content (Number n)) h.mrn 1; found = cell_find h content }
lists_by kept.Indexed content h form laid = record { sorted = slots_sorted (all_slots h content) laid.tree.ordered; found = λ key. slot_find h content key laid }

some_of : (es : Entries) (keys : Map) → Lists es keys → (m : Records) × ((key : Key) → get m key ≡ keys key)
some_of es keys lists = (from_sorted es, λ key. get-from_sorted key_cmp es key lists.sorted ∙ lists.found key)

pub some : (content : List (List ℕ)) (h : FileHead) → any.IsFile h → IsLaidOut h content → (m : Records) × ((key : Key) → get m key ≡ map_of h content key)
some content h form laid = some_of (entries_by h.organization h content) (map_of h content) (lists_by h.organization content h form laid)

-- How many there can be.

-- slots take two bytes at least
twice : (kind : PageKind) (ss : List (List ℕ)) → ((rest : List ℕ) → 2 ≤ front_size kind rest) → all_suit kind ss ≡ true → 2 * length ss ≤ length (joined ss)
twice kind [] two all = omega arith
twice kind (s ∷ ss) two all =
    let parts = both_true (suits kind s) (all_suit kind ss) all in
    let size = same_number (length s) (front_size kind s) (both_true (length s == front_size kind s) (tells_well kind s) parts.0).0 in
    let rest = twice kind ss two parts.1 in
    let least = two s in
    omega (arith, length-append s (joined ss))
  where
    both_true : (a b : Bool) → (a && b) ≡ true → (a ≡ true) × (b ≡ true)
    both_true true b e = (refl, e)
    both_true false b e = cc

    same_number : (a b : ℕ) → (a == b) ≡ true → a ≡ b
    same_number a b e = grind (arith, nat_tests)

few_slots : (kind : PageKind) (b : ℕ) (bytes : List ℕ) → ((rest : List ℕ) → 2 ≤ front_size kind rest) → b ≤ 16 → IsBucket kind (512 * b) bytes → length (slots_of kind bytes) ≤ 4088
few_slots kind b bytes two small bucket = let fits = bucket.packed.fits in let least = twice kind (slots_of kind bytes) two bucket.packed.suit in omega arith

few_along : (S : ℕ → List (List ℕ)) (n : ℕ) → ((i : ℕ) → i < n → length (S i) ≤ 4088) → length (slots_along S n) ≤ n * 4088
few_along S zero each = omega arith
few_along S (suc n) each = let rest = few_along S n (λ i below. each i (omega arith)) in let last = each n (omega arith) in omega (arith, length-append (slots_along S n) (S n))

few_records : (content : List (List ℕ)) (h : FileHead) → sequential.IsLaidOut h content → h.bucket ≤ 16 → h.used ≤ 65536 → length (records_in h content) ≤ 267911168
few_records content h laid small used =
    let slots = few_along (slots_at h content) h.used (λ i below. few_slots Seq h.bucket (sequential.bucket_at h content i) (λ rest. omega arith) small (laid.buckets i below)) in
    let same = length-map (slots_along (slots_at h content) h.used) record_of in omega (arith, slots, same)

few_in_leaves : (content : List (List ℕ)) (h : FileHead) (es : List Entry) → h.bucket ≤ 16 → AllAre (λ n. IsLeaf h (bucket_at h content n)) (map child_of es) → length (slots_of_leaves (map (leaf_at (slots_in h content)) es)) ≤ length es * 4088
few_in_leaves content h [] small leaves = omega arith
few_in_leaves content h (e ∷ es) small leaves =
    let rest = few_in_leaves content h es small leaves.1 in
    let one = few_slots (kind_of h) h.bucket (bucket_at h content e.child) (λ bytes. omega arith) small leaves.0.bucket in
    let same = length-map (slots_of (kind_of h) (bucket_at h content e.child)) (slot_of h) in
    omega (arith, length-append (slots_in h content e.child) (slots_of_leaves (map (leaf_at (slots_in h content)) es)), one, same)

few_by : (o : Kept) (content : List (List ℕ)) (h : FileHead) → FormBy o h → LaidOutBy o h content → h.mrn ≤ 4294967295 → h.bucket ≤ 16 → h.used ≤ 65536 → length (entries_by o h content) ≤ 4294967295
few_by kept.Sequential content h form laid numbers small used = let rs = few_records content h laid small used in let same = length-numbered 1 (records_in h content) in omega arith
few_by kept.Relative content h form laid numbers small used = let most = numbers_long (λ n. relative.map_of h content (Number n)) h.mrn 1 in omega arith
few_by kept.Indexed content h form laid numbers small used =
    let most = slots_long (all_slots h content) in
    let slots = few_in_leaves content h (leaf_entries h content) small laid.leaves in
    let same = length-map (leaf_entries h content) child_of in
    let count = laid.reached in omega (arith, most, slots, same, count)

pub few : (content : List (List ℕ)) (h : FileHead) (file : File) → IsFile content h file → h.mrn ≤ 4294967295 → h.bucket ≤ 16 → h.used ≤ 65536 → length (in_order file) ≤ 4294967295
few content h file of numbers small used =
    let lists = lists_by h.organization content h of.head.form of.laid in
    let same : in_order file ≡ entries_by h.organization h content = listed (current file.history) (entries_by h.organization h content) lists.sorted (λ key. of.records key ∙ sym (lists.found key)) in
    let most = few_by h.organization content h of.head.form of.laid numbers small used in
    omega (arith, ap length same, most)

pub below : (content : List (List ℕ)) (h : FileHead) (file : File) → IsFile content h file → h.organization ≡ kept.Sequential → h.bucket ≤ 16 → h.used ≤ 65536 → h.count < 4294967295
below content h file of is small used =
    let laid : sequential.IsLaidOut h content = subst (λ (o : Kept). LaidOutBy o h content) is of.laid in
    let most = few_records content h laid small used in
    let size = laid.count in omega arith
