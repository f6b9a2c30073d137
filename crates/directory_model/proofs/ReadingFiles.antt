-- How a file of the world tells what is asked of its records.
use Rattle.std.proofs.Common.{◌≡◌, ℕ, zero, suc, ◌+◌, ◌-◌, ◌*◌, ◌<◌, ◌≤◌, ⊎_elim, List, [], ◌∷◌, length, map, drop, Bool, true, false, if◌then◌else◌, nat_le, Option, Some, None, refl, sym, ap, subst, ◌∙◌, arith}
use Rattle.std.specs.List.{slice_get}
use Rattle.std.specs.FinMap.{get}
use Rattle.std.proofs.lemmas.Bool.{cases_lt}
use Rattle.std.specs.Prelude.{◌==◌}
use Rattle.std.proofs.lemmas.Bool.Decides.{nat_tests}
use Rattle.std.proofs.Common.{length-drop}
use Rattle.file_images.proofs.seq_file.RecordLaws.{record_at_past}
use Rattle.extents.specs.file_base.declared.head.FileHead.{FileHead}
use Rattle.extents.specs.file_base.declared.head.Organization.{Organization as Kept}
use Rattle.extents.specs.file_base.declared.head.Organization.TheVariants as kept
use Rattle.file_images.specs.change_set.Maps.{Map, same_key, Found, applied}
use Rattle.file_images.proofs.change_set.NumberKeys.{same_test, other_test}
use Rattle.records_model.specs.vms_model.Keys.{Key, Number, Text, End}
use Rattle.records_model.specs.Records.{Change}
use Rattle.records_model.specs.Placing.{Filled, filled_by, first_bucket}
use Rattle.file_images.specs.tree_model.Layouts.{used_of, levels_of}
use Rattle.records_model.specs.History.{current}
use Rattle.file_images.specs.run_model.World.{File}
use Rattle.file_images.specs.run_model.Operations.{count_of, in_order, used, used_by, placed, need_of, put_need, update_need, removed}
use Rattle.file_images.specs.script_model.Statements.{Put, Update}
use Rattle.file_images.specs.record_files.Any.{map_of, map_by, FormBy, LaidOutBy, layout_by, asks, asks_by}
use Rattle.file_images.specs.seq_file.Layout.{records_in, capacity, last_bytes}
use Rattle.file_images.specs.seq_file.Records.{record_at, map_of_list, cut_from, slot_sizes}
use Rattle.file_images.specs.indexed_tree.Rooted.{layout_in}
use Rattle.file_images.proofs.indexed_tree.RootLaws.{layout_tells}
use Rattle.directory_model.specs.Files.{IsFile, organized_by}
use Rattle.directory_model.proofs.ReadingLists.{Entries, listed, numbered, length-numbered, sorted_numbered, find_numbered, drop_numbered}
use Rattle.directory_model.proofs.ReadingPlaces.{placed_are}

-- A file of a known organization.

form_as : (o : Kept) (content : List (List ℕ)) (h : FileHead) (file : File) → h.organization ≡ o → IsFile content h file → FormBy o h
form_as o content h file is of = subst (λ (q : Kept). FormBy q h) is of.head.form

laid_as : (o : Kept) (content : List (List ℕ)) (h : FileHead) (file : File) → h.organization ≡ o → IsFile content h file → LaidOutBy o h content
laid_as o content h file is of = subst (λ (q : Kept). LaidOutBy q h content) is of.laid

has_as : (o : Kept) (content : List (List ℕ)) (h : FileHead) (file : File) → h.organization ≡ o → IsFile content h file → (key : Key) → get (current file.history) key ≡ map_by o h content key
has_as o content h file is of key = of.records key ∙ ap (λ q. map_by q h content key) is

-- the entries of a sequential file are its records, numbered
pub order_is : (content : List (List ℕ)) (h : FileHead) (file : File) → IsFile content h file → h.organization ≡ kept.Sequential → in_order file ≡ numbered 1 (records_in h content)
order_is content h file of is =
    listed (current file.history) (numbered 1 (records_in h content)) (sorted_numbered 1 (records_in h content)) (λ key. has_as kept.Sequential content h file is of key ∙ sym (find_numbered key (records_in h content)))

pub count : (content : List (List ℕ)) (h : FileHead) (file : File) → IsFile content h file → h.organization ≡ kept.Sequential → count_of file ≡ h.count
count content h file of is = ap length (order_is content h file of is) ∙ length-numbered 1 (records_in h content) ∙ (laid_as kept.Sequential content h file is of).count

sizes_numbered : (n : ℕ) (rs : List (List ℕ)) → map (λ (e : Key × List ℕ). length e.1 + 2) (numbered n rs) ≡ slot_sizes rs
sizes_numbered n [] = refl
sizes_numbered n (r ∷ rs) = ap (λ l. (length r + 2) ∷ l) (sizes_numbered (suc n) rs)

-- how the world places the records of a sequential file
placed_is : (content : List (List ℕ)) (h : FileHead) (file : File) → IsFile content h file → h.organization ≡ kept.Sequential → placed file ≡ record { buckets = h.used; bytes = last_bytes h content }
placed_is content h file of is =
    ap (λ b. filled_by (512 * b - 16) first_bucket (map (λ (e : Key × List ℕ). length e.1 + 2) (in_order file))) of.head.bucket
    ∙ ap (λ (es : Entries). filled_by (capacity h) first_bucket (map (λ (e : Key × List ℕ). length e.1 + 2) es)) (order_is content h file of is)
    ∙ ap (filled_by (capacity h) first_bucket) (sizes_numbered 1 (records_in h content))
    ∙ placed_are h content (form_as kept.Sequential content h file is of).one (laid_as kept.Sequential content h file is of)

-- the layout of an indexed file tells how many buckets it has, and how many levels
tells : (content : List (List ℕ)) (h : FileHead) (file : File) → IsFile content h file → h.organization ≡ kept.Indexed → (used_of file.layout ≡ h.used) × (levels_of file.layout ≡ h.levels)
tells content h file of is =
    let same : file.layout ≡ layout_in h content = of.layout ∙ ap (λ q. layout_by q h content) is in
    let told = layout_tells h content (form_as kept.Indexed content h file is of).root.some (laid_as kept.Indexed content h file is of) in
    (ap used_of same ∙ told.used, ap levels_of same ∙ told.levels)

pub used_is : (content : List (List ℕ)) (h : FileHead) (file : File) → IsFile content h file → used file ≡ h.used
used_is content h file of = ap (λ o. used_by o file) of.head.organization ∙ go h.organization refl
  where
    go : (o : Kept) → h.organization ≡ o → used_by (organized_by o h) file ≡ h.used
    go kept.Sequential is = ap (λ (f : Filled). f.buckets) (placed_is content h file of is)
    go kept.Relative is = of.head.buckets ∙ sym (form_as kept.Relative content h file is of).used
    go kept.Indexed is = (tells content h file of is).0

-- What a record wants.

level_asks : (levels asked : ℕ) → levels ≡ asked → (if levels == 12 then 65537 else levels + 2) ≡ (if asked == 12 then 65537 else asked + 2)
level_asks levels asked same = ap (λ n. if n == 12 then 65537 else n + 2) same

pub put : (content : List (List ℕ)) (h : FileHead) (file : File) (number : Option ℕ) (bytes : List ℕ) → IsFile content h file → need_of file (Put number bytes) ≡ asks h content (length bytes)
put content h file number bytes of = ap (λ o. put_need o file bytes) of.head.organization ∙ go h.organization refl
  where
    go : (o : Kept) → h.organization ≡ o → put_need (organized_by o h) file bytes ≡ asks h content (length bytes)
    go kept.Sequential is =
        ap (λ (f : Filled). if nat_le (f.bytes + (length bytes + 2)) (512 * file.bucket - 16) then 0 else 1) (placed_is content h file of is)
        ∙ ap (λ b. if nat_le (last_bytes h content + (length bytes + 2)) (512 * b - 16) then 0 else 1) of.head.bucket
        ∙ sym (ap (λ q. asks_by q h content (length bytes)) is)
    go kept.Relative is = sym (ap (λ q. asks_by q h content (length bytes)) is)
    go kept.Indexed is = level_asks (levels_of file.layout) h.levels (tells content h file of is).1 ∙ sym (ap (λ q. asks_by q h content (length bytes)) is)

pub update : (content : List (List ℕ)) (h : FileHead) (file : File) (key : Key) (bytes : List ℕ) → IsFile content h file → h.organization ≡ kept.Indexed → need_of file (Update key bytes) ≡ asks h content (length bytes)
update content h file key bytes of is =
    ap (λ o. update_need o file) (of.head.organization ∙ ap (λ o. organized_by o h) is) ∙ level_asks (levels_of file.layout) h.levels (tells content h file of is).1 ∙ sym (ap (λ q. asks_by q h content (length bytes)) is)

-- Positions.

drop_at : (rs : List (List ℕ)) (k : ℕ) (bytes : List ℕ) → slice_get rs k ≡ Some bytes → drop k rs ≡ bytes ∷ drop (suc k) rs
drop_at [] k bytes at = cc
drop_at (r ∷ rs) zero bytes at = let same : r ≡ bytes = cc in ap (λ x. x ∷ rs) same
drop_at (r ∷ rs) (suc k) bytes at = drop_at rs k bytes at

at_position : (rs : List (List ℕ)) (p : ℕ) (bytes : List ℕ) → 1 ≤ p → record_at rs p ≡ Some bytes → drop (p - 1) rs ≡ bytes ∷ drop p rs
at_position rs zero bytes one at = absurd (omega arith)
at_position rs (suc k) bytes one at = let same : suc k - 1 ≡ k = omega arith in ap (λ m. drop m rs) same ∙ drop_at rs k bytes at

pub position : (content : List (List ℕ)) (h : FileHead) (p : ℕ) (bytes : List ℕ) → h.organization ≡ kept.Sequential → 1 ≤ p → map_of h content (Number p) ≡ Some bytes →
    drop (p - 1) (records_in h content) ≡ bytes ∷ drop p (records_in h content)
position content h p bytes is one has = at_position (records_in h content) p bytes one (sym (ap (λ q. map_by q h content (Number p)) is) ∙ has)

-- What is removed where a sequential file is cut.

if_true : {A : Type 0} (t : Bool) (x y : A) → t ≡ true → (if t then x else y) ≡ x
if_true true x y e = refl
if_true false x y e = cc

if_false : {A : Type 0} (t : Bool) (x y : A) → t ≡ false → (if t then x else y) ≡ y
if_false true x y e = cc
if_false false x y e = refl

-- a lower number is left as it was
applied_lower : (m n : ℕ) (rs : List (List ℕ)) (keys : Map) → m < n → applied (map removed (numbered n rs)) keys (Number m) ≡ keys (Number m)
applied_lower m n [] keys below = refl
applied_lower m n (r ∷ rs) keys below = if_false (same_key (Number m) (Number n)) None _ (other_test m n (λ e. omega arith)) ∙ applied_lower m (suc n) rs keys (omega arith)

-- the keys have these records from a number on
abbrev Has : Map → ℕ → List (List ℕ) → Type 0
Has keys n [] = Unit {0}
Has keys n (r ∷ rs) = (keys (Number n) ≡ Some r) × Has keys (suc n) rs

found_from : (n : ℕ) (rs : List (List ℕ)) (keys : Map) → Has keys n rs → Found (map removed (numbered n rs)) keys
found_from n [] keys has = tt
found_from n (r ∷ rs) keys has = (sym (applied_lower n (suc n) rs keys (omega arith) ∙ has.0), found_from (suc n) rs keys has.1)

has_list : (n : ℕ) (rs : List (List ℕ)) (keys : Map) → ((k : ℕ) → k < length rs → keys (Number (n + k)) ≡ slice_get rs k) → Has keys n rs
has_list n [] keys same = tt
has_list n (r ∷ rs) keys same =
    let first : n ≡ n + 0 = omega arith in
    (ap (λ m. keys (Number m)) first ∙ same 0 (omega arith), has_list (suc n) rs keys (λ k below. let next : suc n + k ≡ n + suc k = omega arith in ap (λ m. keys (Number m)) next ∙ same (suc k) (omega arith)))

-- from a number on, and below so many more, all are gone; behind them what was there stands
applied_gone : (n k : ℕ) (rs : List (List ℕ)) (keys : Map) → k < length rs → applied (map removed (numbered n rs)) keys (Number (n + k)) ≡ None
applied_gone n k [] keys below = absurd (omega arith)
applied_gone n zero (r ∷ rs) keys below = if_true (same_key (Number (n + 0)) (Number n)) None _ (same_test (n + 0) n (omega arith))
applied_gone n (suc k) (r ∷ rs) keys below =
    let next : n + suc k ≡ suc n + k = omega arith in
    if_false (same_key (Number (n + suc k)) (Number n)) None _ (other_test (n + suc k) n (λ e. omega arith)) ∙ ap (λ m. applied (map removed (numbered (suc n) rs)) keys (Number m)) next ∙ applied_gone (suc n) k rs keys (omega arith)

applied_above : (m n : ℕ) (rs : List (List ℕ)) (keys : Map) → n + length rs ≤ m → applied (map removed (numbered n rs)) keys (Number m) ≡ keys (Number m)
applied_above m n [] keys above = refl
applied_above m n (r ∷ rs) keys above = if_false (same_key (Number m) (Number n)) None _ (other_test m n (λ e. omega arith)) ∙ applied_above m (suc n) rs keys (omega arith)

applied_text : (t : List ℕ) (n : ℕ) (rs : List (List ℕ)) (keys : Map) → applied (map removed (numbered n rs)) keys (Text t) ≡ keys (Text t)
applied_text t n [] keys = refl
applied_text t n (r ∷ rs) keys = applied_text t (suc n) rs keys

applied_end : (n : ℕ) (rs : List (List ℕ)) (keys : Map) → applied (map removed (numbered n rs)) keys End ≡ keys End
applied_end n [] keys = refl
applied_end n (r ∷ rs) keys = applied_end (suc n) rs keys

get-drop : (a k : ℕ) (rs : List (List ℕ)) → slice_get (drop a rs) k ≡ slice_get rs (a + k)
get-drop zero k rs = let same : k ≡ 0 + k = omega arith in ap (slice_get rs) same
get-drop (suc a) k [] = refl
get-drop (suc a) k (r ∷ rs) = let next : suc (a + k) ≡ suc a + k = omega arith in get-drop a k rs ∙ ap (slice_get (r ∷ rs)) next

tail_stands : (from k : ℕ) (rs : List (List ℕ)) → 1 ≤ from → record_at rs (from + k) ≡ slice_get (drop (from - 1) rs) k
tail_stands from k rs one =
    let place : from + k ≡ suc (from - 1 + k) = omega arith in
    ap (record_at rs) place ∙ sym (get-drop (from - 1) k rs)

le_true : (a b : ℕ) → a ≤ b → nat_le a b ≡ true
le_true a b le = grind (arith, nat_tests)

le_false : (a b : ℕ) → b < a → nat_le a b ≡ false
le_false a b less = grind (arith, nat_tests)

-- without the records from one on, the keys are those below it
cut_is : (from : ℕ) (rs : List (List ℕ)) → 1 ≤ from → applied (map removed (numbered from (drop (from - 1) rs))) (map_of_list rs) ≡ cut_from from (map_of_list rs)
cut_is from rs one = λ i key. at_key key i
  where
    at_number : (m : ℕ) → applied (map removed (numbered from (drop (from - 1) rs))) (map_of_list rs) (Number m) ≡ cut_from from (map_of_list rs) (Number m)
    at_number m = ⊎_elim
        (λ less. applied_lower m from (drop (from - 1) rs) (map_of_list rs) less ∙ sym (if_false (nat_le from m) None _ (le_false from m less)))
        (λ least. ⊎_elim
        (λ within. let place : m ≡ from + (m - from) = omega arith in
        ap (λ n. applied (map removed (numbered from (drop (from - 1) rs))) (map_of_list rs) (Number n)) place ∙ applied_gone from (m - from) (drop (from - 1) rs) (map_of_list rs) (omega arith))
        (λ past. applied_above m from (drop (from - 1) rs) (map_of_list rs) past ∙ record_at_past rs m (let size = length-drop (from - 1) rs in omega arith))
        (cases_lt m (from + length (drop (from - 1) rs)))
        ∙ sym (if_true (nat_le from m) None _ (le_true from m least)))
        (cases_lt m from)

    at_key : (key : Key) → applied (map removed (numbered from (drop (from - 1) rs))) (map_of_list rs) key ≡ cut_from from (map_of_list rs) key
    at_key (Number m) = at_number m
    at_key (Text t) = applied_text t from (drop (from - 1) rs) (map_of_list rs)
    at_key End = applied_end from (drop (from - 1) rs) (map_of_list rs)

abbrev Removes : ℕ → List Change → Map → Type 0
Removes from cs keys = Found cs keys × (applied cs keys ≡ cut_from from keys)

removes : (from : ℕ) (rs : List (List ℕ)) → 1 ≤ from → Removes from (map removed (numbered from (drop (from - 1) rs))) (map_of_list rs)
removes from rs one = (
  found_from from (drop (from - 1) rs) (map_of_list rs) (has_list from (drop (from - 1) rs) (map_of_list rs) (λ k below. tail_stands from k rs one)),
  cut_is from rs one,
)

pub is_removed : (content : List (List ℕ)) (h : FileHead) (file : File) (from : ℕ) → IsFile content h file → h.organization ≡ kept.Sequential → 1 ≤ from →
    Found (map removed (drop (from - 1) (in_order file))) (map_of h content) × (applied (map removed (drop (from - 1) (in_order file))) (map_of h content) ≡ cut_from from (map_of h content))
is_removed content h file from of is one =
    let rs = records_in h content in
    let place : 1 + (from - 1) ≡ from = omega arith in
    let entries_are : drop (from - 1) (in_order file) ≡ numbered from (drop (from - 1) rs) =
    ap (drop (from - 1)) (order_is content h file of is) ∙ drop_numbered (from - 1) 1 rs ∙ ap (λ n. numbered n (drop (from - 1) rs)) place in
    subst (λ (es : Entries). Removes from (map removed es) (map_of h content)) (sym entries_are)
    (subst (λ (keys : Map). Removes from (map removed (numbered from (drop (from - 1) rs))) keys) (sym (ap (λ q. map_by q h content) is)) (removes from rs one))
