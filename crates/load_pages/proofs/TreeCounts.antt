-- How many buckets, and which head, records of an indexed file give.
use Rattle.std.proofs.Common.{◌≡◌, ◌≤◌, ◌+◌, ◌-◌, ◌*◌, ℕ, suc, Bool, true, false, List, [], ◌∷◌, ◌++◌, length, map, replicate, if◌then◌else◌, nat_le, Some, refl, sym, ap, ◌∙◌, arith}
use Rattle.file_base.specs.declared.head.FileHead.{FileHead}
use Rattle.std.proofs.lemmas.List.{length-map}
use Rattle.std.proofs.lemmas.Nat.{mul-le}
use Rattle.vms_model.specs.Keys.{Key, Number, Text, End}
use Rattle.load_laws.specs.record_files.Any.{SuitsBy}
use Rattle.load_model.proofs.tree_model.Tests.{fits_test}
use Rattle.file_base.specs.declared.head.Organization.{Organization}
use Rattle.file_base.specs.declared.head.Organization.TheVariants.{Sequential, Relative, Indexed}
use Rattle.records_model.specs.Slots.{Slot}
use Rattle.records_model.specs.Parts.{bytes_of}
use Rattle.records_model.specs.Placing.{filled_by}
use Rattle.relative_file.specs.tree_model.Layouts.{used_of, index_size}
use Rattle.relative_file.specs.tree_model.Loads.{slot_for, filled, index_over}
use Rattle.load_model.proofs.tree_model.PartsLemmas.{bytes-append}
use Rattle.load_model.proofs.tree_model.BoundLemmas.{length_from}
use Rattle.index_bucket.specs.Entries.{sizes_of}
use Rattle.load_laws.specs.seq_file.Placing.{buckets_for}
use Rattle.load_laws.specs.seq_file.Records.{slot_sizes}
use Rattle.load_laws.specs.Records.{texts_of, values_of}
use Rattle.load_laws.specs.Loads.{AllSuitBy, loaded_tree, head_by, tree_head}
use Rattle.load_pages.specs.declared.records.KeyedRecord.{KeyedRecord}
use Rattle.load_pages.specs.Given.{keyed}
use Rattle.load_pages.specs.Counts.{AllTell, sizes_behind}

-- so many leaves before, and those that are filled on
filled_on : (cap k : ℕ) (now ss : List Slot) → (filled_by cap (record { buckets = k; bytes = bytes_of now }) (map (λ (s : Slot). 4 + s.room) ss)).buckets + 1 ≡ k + length (filled cap now ss)
filled_on cap k now [] = omega arith
filled_on cap k now (s ∷ ss) =
    go (nat_le (bytes_of now + (4 + s.room)) cap) (nat_le (bytes_of (now ++ s ∷ [])) cap) (ap (λ n. nat_le n cap) (sym more)) (filled_on cap k (now ++ s ∷ []) ss) (filled_on cap (k + 1) (s ∷ []) ss)
  where
    sizes : List ℕ
    sizes = map (λ (r : Slot). 4 + r.room) ss

    more : bytes_of (now ++ s ∷ []) ≡ bytes_of now + (4 + s.room)
    more = let both = bytes-append now (s ∷ []) in omega (arith, both)

    one : bytes_of (s ∷ []) ≡ 4 + s.room
    one = omega arith

    go : (t u : Bool) → t ≡ u
        → (filled_by cap (record { buckets = k; bytes = bytes_of (now ++ s ∷ []) }) sizes).buckets + 1 ≡ k + length (filled cap (now ++ s ∷ []) ss)
        → (filled_by cap (record { buckets = k + 1; bytes = bytes_of (s ∷ []) }) sizes).buckets + 1 ≡ (k + 1) + length (filled cap (s ∷ []) ss)
        → (filled_by cap (record { buckets = if t then k else k + 1; bytes = if t then bytes_of now + (4 + s.room) else 4 + s.room }) sizes).buckets + 1
        ≡ k + length (if u then filled cap (now ++ s ∷ []) ss else now ∷ filled cap (s ∷ []) ss)
    go true true same here next = ap (λ n. (filled_by cap (record { buckets = k; bytes = n }) sizes).buckets + 1) (sym more) ∙ here
    go false false same here next = ap (λ n. (filled_by cap (record { buckets = k + 1; bytes = n }) sizes).buckets + 1) (sym one) ∙ next ∙ omega arith
    go true false same here next = cc
    go false true same here next = cc

slots_sizes : (rs : List KeyedRecord) → map (λ (s : Slot). 4 + s.room) (map slot_for (texts_of (map keyed rs))) ≡ sizes_behind 4 rs
slots_sizes [] = refl
slots_sizes (r ∷ rs) = λ i. (let same : 4 + length r.bytes.items ≡ length r.bytes.items + 4 = omega arith in same i) ∷ slots_sizes rs i

pub seq_sizes : (rs : List KeyedRecord) → sizes_behind 2 rs ≡ slot_sizes (values_of (map keyed rs))
seq_sizes [] = refl
seq_sizes (r ∷ rs) = ap (λ (ns : List ℕ). (length r.bytes.items + 2) ∷ ns) (seq_sizes rs)

-- as many leaves as are counted
pub leaves_counted : (cap : ℕ) (rs : List KeyedRecord) → buckets_for cap (sizes_behind 4 rs) ≡ length (filled cap [] (map slot_for (texts_of (map keyed rs))))
leaves_counted cap rs =
    let is = filled_on cap 1 [] (map slot_for (texts_of (map keyed rs))) in
    let same = ap (λ (ns : List ℕ). buckets_for cap ns) (slots_sizes rs) in omega (arith, is, same)

pub tree_counted : (h : FileHead) (rs : List KeyedRecord) (leaves : ℕ) → leaves ≡ buckets_for (512 * h.bucket - 16) (sizes_behind 4 rs)
    → leaves + index_size (index_over (sizes_of h).fan_out leaves leaves) ≡ used_of (loaded_tree h (map keyed rs))
tree_counted h rs leaves is =
    let all = filled (512 * h.bucket - 16) [] (map slot_for (texts_of (map keyed rs))) in
    let count : leaves ≡ length all = is ∙ leaves_counted (512 * h.bucket - 16) rs in
    let index = ap (λ n. index_size (index_over (sizes_of h).fan_out n n)) count in
    let long = length_from (replicate h.key_size 0) all in omega (arith, count, index, long)

pub tree_told : (h : FileHead) (rs : List KeyedRecord) (leaves : ℕ) → leaves ≡ buckets_for (512 * h.bucket - 16) (sizes_behind 4 rs) → tree_head h leaves ≡ head_by Indexed h (map keyed rs)
tree_told h rs leaves is =
    let all = filled (512 * h.bucket - 16) [] (map slot_for (texts_of (map keyed rs))) in
    let count : leaves ≡ length all = is ∙ leaves_counted (512 * h.bucket - 16) rs in
    let used = tree_counted h rs leaves is in
    λ i. record h { used = used i; root = used i - 1; levels = suc (length (index_over (sizes_of h).fan_out (count i) (count i))); count = 0 }

-- Records that may be loaded are short.

short_by : (o : Organization) (h : FileHead) (k : Key) (v : List ℕ) → SuitsBy o h k (Some v) → length v ≤ h.mrs
short_by Sequential h (Number n) v suits = suits.1.most
short_by Sequential h (Text t) v suits = absurd suits
short_by Sequential h End v suits = absurd suits
short_by Relative h (Number n) v suits = suits.1.1
short_by Relative h (Text t) v suits = absurd suits
short_by Relative h End v suits = absurd suits
short_by Indexed h (Text t) v suits = suits.most
short_by Indexed h (Number n) v suits = absurd suits
short_by Indexed h End v suits = absurd suits

pub tells_by : (o : Organization) (h : FileHead) (rs : List KeyedRecord) → h.mrs ≤ 8160 → AllSuitBy o h (map keyed rs) → AllTell rs
tells_by o h [] most all = tt
tells_by o h (r ∷ rs) most all = let short = short_by o h (keyed r).0 r.bytes.items all.0 in (omega (arith, short, most), tells_by o h rs most all.1)

-- each record has at most so many bytes
abbrev AllMost : ℕ → List KeyedRecord → Type 0
AllMost mrs [] = Unit {0}
AllMost mrs (r ∷ rs) = (length r.bytes.items ≤ mrs) × AllMost mrs rs

-- So many buckets have at least so many records, since each takes some bytes of one.

abbrev AllFit : ℕ → List ℕ → Type 0
AllFit cap [] = Unit {0}
AllFit cap (n ∷ ns) = ((1 ≤ n) × (n ≤ cap)) × AllFit cap ns

few_fit : (cap k bytes base : ℕ) (sizes : List ℕ) → bytes ≤ cap → base + cap ≡ k * cap → AllFit cap sizes → length sizes + base + bytes ≤ (filled_by cap (record { buckets = k; bytes = bytes }) sizes).buckets * cap
few_fit cap k bytes base [] fits is all = omega (arith, fits, is)
few_fit cap k bytes base (n ∷ ns) fits is all =
    go (nat_le (bytes + n) cap) refl (λ here. few_fit cap k (bytes + n) base ns here is all.1) (few_fit cap (k + 1) n (base + cap) ns (let most = all.0.1 in omega (arith, most)) (let more : (k + 1) * cap ≡ k * cap + cap = omega arith in omega (arith, more, is)) all.1)
  where
    go : (t : Bool) → nat_le (bytes + n) cap ≡ t
        → (bytes + n ≤ cap → length ns + base + (bytes + n) ≤ (filled_by cap (record { buckets = k; bytes = bytes + n }) ns).buckets * cap)
        → length ns + (base + cap) + n ≤ (filled_by cap (record { buckets = k + 1; bytes = n }) ns).buckets * cap
        → length (n ∷ ns) + base + bytes ≤ (filled_by cap (record { buckets = if t then k else k + 1; bytes = if t then bytes + n else n }) ns).buckets * cap
    go true same here next = let rest = here (fits_test (bytes + n) cap same) in let some = all.0.0 in omega (arith, rest, some)
    go false same here next = let some = all.0.0 in omega (arith, next, some, fits)

fit_all : (cap beside : ℕ) (rs : List KeyedRecord) (mrs : ℕ) → 1 ≤ beside → mrs + beside ≤ cap → AllMost mrs rs → AllFit cap (sizes_behind beside rs)
fit_all cap beside [] mrs one fits all = tt
fit_all cap beside (r ∷ rs) mrs one fits all = let most = all.0 in ((omega (arith, one), omega (arith, most, fits)), fit_all cap beside rs mrs one fits all.1)

most_by : (o : Organization) (h : FileHead) (rs : List KeyedRecord) → AllSuitBy o h (map keyed rs) → AllMost h.mrs rs
most_by o h [] all = tt
most_by o h (r ∷ rs) all = (short_by o h (keyed r).0 r.bytes.items all.0, most_by o h rs all.1)

-- as many records as stand in so many buckets
pub few_records : (o : Organization) (h : FileHead) (rs : List KeyedRecord) (cap : ℕ) → cap ≤ 8192 → h.mrs + 2 ≤ cap → AllSuitBy o h (map keyed rs) → buckets_for cap (sizes_behind 2 rs) ≤ 65536 → length rs ≤ 536870912
few_records o h rs cap small fits all few =
    let most = few_fit cap 1 0 0 (sizes_behind 2 rs) (omega arith) (omega arith) (fit_all cap 2 rs h.mrs (omega arith) fits (most_by o h rs all)) in
    let product = mul-le (buckets_for cap (sizes_behind 2 rs)) cap 65536 8192 few small in
    let long : length (sizes_behind 2 rs) ≡ length rs = length-map rs (λ (r : KeyedRecord). length r.bytes.items + 2) in
    omega (arith, most, product, long)
