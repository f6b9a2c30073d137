-- A relative file of records in the cells of their numbers.
use Rattle.std.proofs.Common.{◌≡◌, ◌<◌, ◌≤◌, ◌+◌, ◌-◌, ◌*◌, ◌/◌, ◌%◌, ◌&&◌, ℕ, zero, suc, Bool, true, false, cond, List, [], ◌∷◌, ◌++◌, length, map, take, drop, Option, Some, None, unwrap_or, if◌then◌else◌, nat_le, refl, sym, ap, subst, ◌∙◌, arith}
use Rattle.std.specs.FinMap.Entries.{find}
use Rattle.std.proofs.lemmas.Bool.Decides.{nat_tests}
use Rattle.std.proofs.lemmas.Nat.{mod_below}
use Rattle.std.proofs.Math.Nat.{mod-add-div}
use Rattle.record_files.specs.file_base.declared.head.FileHead.{FileHead}
use Rattle.record_files.specs.file_base.Bytes.{piece_at}
use Rattle.vms_model.specs.Keys.{Key, Number, Text, End}
use Rattle.records_model.specs.Records.{key_cmp}
use Rattle.record_files.specs.change_set.Maps.{same_key}
use Rattle.record_files.proofs.change_set.NumberKeys.{same_test, other_test}
use Rattle.record_files.specs.index_blocks.Buckets as blocks
use Rattle.record_files.specs.relative_file.Cells.{IsRelative, IsLaidOut, Suits, has_cell, cells_in, cells_end, first_of, place_of, cell_at, cell_of, cell_in, size_in, record_in, as_read, bucket_first, front_of, map_of}
use Rattle.record_files.specs.relative_file.Cells as relative
use Rattle.record_files.proofs.relative_file.CellLaws.{size_in-cell_of, record_in-cell_of, record_in-cell_of_none}
use Rattle.record_files.proofs.relative_file.ReadLaws.{as_read_same}
use Rattle.record_files.specs.relative_file.Local.{bucket_below}
use Rattle.load_laws.specs.Records.{Keyed, what_has}
use Rattle.load_laws.specs.Cells.{number_in, value_at, values_behind, cell_pages, AllTo, AllBehind, Climbs, AllShort, IsTo, IsBehind}
use Rattle.load_laws.specs.Pages.{Stand, HasCells}
use Rattle.load_laws.specs.Loads.{AllSuitBy}
use Rattle.record_files.specs.file_base.declared.head.Organization.TheVariants.{Relative}

-- What a number has.

pub to_key : (n : ℕ) (k : Key) → IsTo n k → k ≡ Number (number_in k)
to_key n (Number m) is = refl
to_key n (Text t) is = absurd is
to_key n End is = absurd is

pub behind_key : (n : ℕ) (k : Key) → IsBehind n k → (k ≡ Number (number_in k)) × (n < number_in k)
behind_key n (Number m) is = (refl, is)
behind_key n (Text t) is = absurd is
behind_key n End is = absurd is

pub to_most : (n : ℕ) (k : Key) → IsTo n k → number_in k ≤ n
to_most n (Number m) is = is
to_most n (Text t) is = absurd is
to_most n End is = absurd is

pub find_other : (n : ℕ) (k : Key) (v : List ℕ) (es : List Keyed) (m : ℕ) → k ≡ Number m → (n ≡ m → ⊥) → find key_cmp (Number n) ((k, v) ∷ es) ≡ find key_cmp (Number n) es
find_other n k v es m is not =
    ap (λ (x : Key). cond (same_key (Number n) x) (Some v) (find key_cmp (Number n) es)) is ∙ ap (λ t. cond t (Some v) (find key_cmp (Number n) es)) (other_test n m not)

pub find_here : (n : ℕ) (k : Key) (v : List ℕ) (es : List Keyed) → k ≡ Number n → find key_cmp (Number n) ((k, v) ∷ es) ≡ Some v
find_here n k v es is =
    ap (λ (x : Key). cond (same_key (Number n) x) (Some v) (find key_cmp (Number n) es)) is ∙ ap (λ t. cond t (Some v) (find key_cmp (Number n) es)) (same_test n n refl)

-- records of lesser numbers stand before it
pub find_passed : (n m : ℕ) (xs ys : List Keyed) → m < n → AllTo m xs → find key_cmp (Number n) (xs ++ ys) ≡ find key_cmp (Number n) ys
find_passed n m [] ys less all = refl
find_passed n m (x ∷ xs) ys less all =
    find_other n x.0 x.1 (xs ++ ys) (number_in x.0) (to_key m x.0 all.0) (λ same. let most = to_most m x.0 all.0 in omega (arith, most, same, less)) ∙ find_passed n m xs ys less all.1

-- and none where all have greater ones
pub find_behind : (n m : ℕ) (es : List Keyed) → n ≤ m → Climbs m es → find key_cmp (Number n) es ≡ None
find_behind n m [] few all = refl
find_behind n m (e ∷ es) few all =
    let behind = behind_key m e.0 all.0 in
    let more = behind.1 in
    find_other n e.0 e.1 es (number_in e.0) behind.0 (λ same. omega (arith, more, same, few)) ∙ find_behind n (number_in e.0) es (omega (arith, more, few)) all.1

pub value_short : (mrs : ℕ) (es : List Keyed) (n : ℕ) → AllShort mrs es → length (value_at es n) ≤ mrs
value_short mrs [] n all = omega arith
value_short mrs (e ∷ es) n all = go (same_key (Number n) e.0) (value_short mrs es n all.1)
  where
    go : (t : Bool) → length (unwrap_or (find key_cmp (Number n) es) []) ≤ mrs → length (unwrap_or (cond t (Some e.1) (find key_cmp (Number n) es)) []) ≤ mrs
    go true later = all.0
    go false later = later

-- Buckets.

pub cells_stand : (h : FileHead) (b : List (List ℕ)) (es : List Keyed) (n count i : ℕ) → Stand h b n (cell_pages h es n count) → i < count → HasCells h (values_behind es ((n + i) * cells_in h)) (blocks.bucket_at h b (n + i))
cells_stand h b es n zero i stand below = absurd (omega (arith, below))
cells_stand h b es n (suc count) zero stand below = subst (λ m. HasCells h (values_behind es (m * cells_in h)) (blocks.bucket_at h b m)) (let same : n ≡ n + 0 = omega arith in same) stand.0
cells_stand h b es n (suc count) (suc i) stand below =
    subst (λ m. HasCells h (values_behind es (m * cells_in h)) (blocks.bucket_at h b m)) (let same : suc n + i ≡ n + suc i = omega arith in same) (cells_stand h b es (suc n) count i stand.1 (omega (arith, below)))

-- each record is one of the file
abbrev pub AllRecords : FileHead → List Keyed → Type 0
AllRecords h es = AllSuitBy Relative h es

suits_number : (h : FileHead) (k : Key) (v : List ℕ) → relative.Suits h k (Some v) → (k ≡ Number (number_in k)) × (has_cell h (number_in k) ≡ true) × (1 ≤ length v) × (length v ≤ h.mrs)
suits_number h (Number n) v suits = (refl, suits.0, suits.1.0, suits.1.1)
suits_number h (Text t) v suits = absurd suits
suits_number h End v suits = absurd suits

pub records_short : (h : FileHead) (es : List Keyed) → AllRecords h es → AllShort h.mrs es
records_short h [] all = tt
records_short h (e ∷ es) all = ((suits_number h e.0 e.1 all.0).3, records_short h es all.1)

-- a record in its cell
cell_has : (h : FileHead) (es : List Keyed) (n : ℕ) → AllRecords h es → record_in h.mrs (cell_of h.mrs (value_at es n)) ≡ what_has es (Number n)
cell_has h [] n all = record_in-cell_of_none h.mrs
cell_has h (e ∷ es) n all = go (same_key (Number n) e.0) (cell_has h es n all.1)
  where
    go : (t : Bool) → record_in h.mrs (cell_of h.mrs (unwrap_or (find key_cmp (Number n) es) [])) ≡ find key_cmp (Number n) es
        → record_in h.mrs (cell_of h.mrs (unwrap_or (cond t (Some e.1) (find key_cmp (Number n) es)) [])) ≡ cond t (Some e.1) (find key_cmp (Number n) es)
    go true later = let suits = suits_number h e.0 e.1 all.0 in record_in-cell_of h.mrs e.1 suits.2 suits.3
    go false later = later

-- a number without a cell has none
none_there : (h : FileHead) (es : List Keyed) (n : ℕ) → AllRecords h es → has_cell h n ≡ false → what_has es (Number n) ≡ None
none_there h [] n all not = refl
none_there h (e ∷ es) n all not =
    let suits = suits_number h e.0 e.1 all.0 in
    find_other n e.0 e.1 es (number_in e.0) suits.0 (λ same. clash (has_cell h n) not (ap (has_cell h) same ∙ suits.1)) ∙ none_there h es n all.1 not
  where
    clash : (t : Bool) → t ≡ false → t ≡ true → ⊥
    clash true isnt is = cc
    clash false isnt is = cc

text_none : (h : FileHead) (t : List ℕ) (es : List Keyed) → AllRecords h es → what_has es (Text t) ≡ None
text_none h t [] all = refl
text_none h t (e ∷ es) all = ap (λ (x : Key). cond (same_key (Text t) x) (Some e.1) (find key_cmp (Text t) es)) (suits_number h e.0 e.1 all.0).0 ∙ text_none h t es all.1

end_none : (h : FileHead) (es : List Keyed) → AllRecords h es → what_has es End ≡ None
end_none h [] all = refl
end_none h (e ∷ es) all = ap (λ (x : Key). cond (same_key End x) (Some e.1) (find key_cmp End es)) (suits_number h e.0 e.1 all.0).0 ∙ end_none h es all.1

pub record CellsLoaded (h : FileHead) (b : List (List ℕ)) (es : List Keyed) : Type 0 where
  pub laid : IsLaidOut h b
  pub map_is : map_of h b ≡ what_has es

-- cells with the records of their numbers are a file of these
pub cells_loaded : (h : FileHead) (b : List (List ℕ)) (es : List Keyed) → h.mrn ≤ h.alloc * cells_in h → 1 ≤ cells_in h → AllRecords h es → Stand h b 0 (cell_pages h es 0 h.alloc) → CellsLoaded h b es
cells_loaded h b es cells one all stand = record {
  laid = record {
    headers = λ i below. (bucket i below).front;
    rests = λ i below. (bucket i below).rest;
    sizes = λ n from to. let is = ap size_in (cell_is n from (bucket_below n h.alloc (cells_in h) from to one)) ∙ size_in-cell_of h.mrs (value_at es n) in
        let short = value_short h.mrs es n (records_short h es all) in omega (arith, is, short);
  };
  map_is = λ i key. at_key key i;
}
  where
    at : (i : ℕ) → 0 + i ≡ i
    at i = omega arith

    bucket : (i : ℕ) → i < h.alloc → HasCells h (values_behind es (i * cells_in h)) (blocks.bucket_at h b i)
    bucket i below = subst (λ m. HasCells h (values_behind es (m * cells_in h)) (blocks.bucket_at h b m)) (at i) (cells_stand h b es 0 h.alloc i stand below)

    cell_is : (n : ℕ) → 1 ≤ n → (n - 1) / cells_in h < h.alloc → cell_at h b n ≡ cell_of h.mrs (value_at es n)
    cell_is n from below =
        let here = bucket ((n - 1) / cells_in h) below in
        let whole = mod-add-div (n - 1) (cells_in h) in
        let number : (n - 1) / cells_in h * cells_in h + (n - 1) % cells_in h + 1 ≡ n = let turned : cells_in h * ((n - 1) / cells_in h) ≡ (n - 1) / cells_in h * cells_in h = omega arith in omega (arith, whole, turned, from) in
        ap (λ x. piece_at x (place_of h n) (h.mrs + 2)) (as_read_same h (blocks.bucket_at h b ((n - 1) / cells_in h)) here.front)
        ∙ here.cells ((n - 1) % cells_in h) (mod_below (n - 1) (cells_in h) one)
        ∙ ap (λ m. cell_of h.mrs (value_at es m)) number

    if_cell : (t : Bool) (x y : Option (List ℕ)) → (t ≡ true → x ≡ y) → (t ≡ false → y ≡ None) → (if t then x else None) ≡ y
    if_cell true x y there gone = there refl
    if_cell false x y there gone = sym (gone refl)

    range : (n mrn : ℕ) → (nat_le 1 n && nat_le n mrn) ≡ true → (1 ≤ n) × (n ≤ mrn)
    range n mrn there = grind (arith, nat_tests)

    at_key : (key : Key) → map_of h b key ≡ what_has es key
    at_key (Number n) = if_cell (has_cell h n) (record_in h.mrs (cell_at h b n)) (what_has es (Number n))
        (λ there. let within = range n h.mrn there in let from = within.0 in let to = within.1 in
        ap (record_in h.mrs) (cell_is n from (bucket_below n h.alloc (cells_in h) from (omega (arith, to, cells)) one)) ∙ cell_has h es n all)
        (λ not. none_there h es n all not)
    at_key (Text t) = sym (text_none h t es all)
    at_key End = sym (end_none h es all)

pub length_cell_pages : (h : FileHead) (es : List Keyed) (n count : ℕ) → length (cell_pages h es n count) ≡ count
length_cell_pages h es n zero = refl
length_cell_pages h es n (suc count) = ap suc (length_cell_pages h es (suc n) count)
