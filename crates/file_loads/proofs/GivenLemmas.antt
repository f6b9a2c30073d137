-- Records that may be loaded, as the bodies of a load want them.
use Rattle.std.proofs.Common.{◌≡◌, ◌<◌, ◌≤◌, ◌+◌, ◌*◌, ◌%◌, ◌/◌, ◌==◌, ◌&&◌, ℕ, Bool, true, false, List, [], ◌∷◌, length, map, nat_le, Some, refl, sym, ap, ◌∙◌, arith}
use Rattle.std.specs.Ordering.{is_lt}
use Rattle.std.specs.FinMap.Entries.{is_sorted, below_all}
use Rattle.std.proofs.lemmas.Bool.Decides.{nat_tests}
use Rattle.file_base.specs.declared.head.FileHead.{FileHead}
use Rattle.file_base.specs.declared.head.Organization.TheVariants.{Sequential, Relative, Indexed}
use Rattle.vms_model.specs.Keys.{Key, Number, Text, End}
use Rattle.records_model.specs.Records.{key_cmp}
use Rattle.bucket_page.specs.declared.kind.PageKind.{PageKind}
use Rattle.bucket_page.specs.declared.kind.PageKind.TheVariants.{Seq}
use Rattle.bucket_page.specs.Pages.{u16_at, suits}
use Rattle.change_set.proofs.NumberKeys.{below_number}
use Rattle.load_pages.specs.record_files.Any.{SuitsBy}
use Rattle.load_pages.specs.indexed_file.Chain.{kind_of}
use Rattle.load_pages.specs.load_laws.Records.{Keyed, values_of}
use Rattle.load_pages.specs.load_laws.Chains.{raw_for}
use Rattle.load_pages.specs.load_laws.Cells.{number_in, Climbs, IsBehind, AllShort}
use Rattle.load_pages.specs.load_laws.Loads.{AllSuitBy}
use Rattle.load_pages.proofs.load_laws.RawLemmas.{is_text, text_long}
use Rattle.load_pages.specs.declared.records.KeyedRecord.{KeyedRecord}
use Rattle.load_pages.specs.Given.{keyed, raw_of, AllRaw}

-- the slots of records
pub raws_same : (kind : PageKind) (rs : List KeyedRecord) → map (raw_of kind) rs ≡ map (raw_for kind) (values_of (map keyed rs))
raws_same kind [] = refl
raws_same kind (r ∷ rs) = ap (λ x. raw_of kind r ∷ x) (raws_same kind rs)

same_true : (a b : ℕ) → a ≡ b → ((a == b) && true) ≡ true
same_true a b is = grind (arith, nat_tests)

seq_raw : (v : List ℕ) → suits Seq (raw_for Seq v) ≡ true
seq_raw v = same_true (length (raw_for Seq v)) (2 + u16_at (raw_for Seq v) 0) (let is : length v % 256 + 256 * (length v / 256) ≡ length v = omega arith in omega (arith, is))

seq_short : (h : FileHead) (k : Key) (v : List ℕ) → SuitsBy Sequential h k (Some v) → length v ≤ h.mrs
seq_short h (Number n) v suits = suits.1.most
seq_short h (Text t) v suits = absurd suits
seq_short h End v suits = absurd suits

pub seq_raws : (h : FileHead) (rs : List KeyedRecord) → h.mrs ≤ 8160 → h.mrs + 32 ≤ 512 * h.bucket → AllSuitBy Sequential h (map keyed rs) → AllRaw Seq (512 * h.bucket) rs
seq_raws h [] most records all = tt
seq_raws h (r ∷ rs) most records all =
    let short = seq_short h (keyed r).0 r.bytes.items all.0 in
    (record { short = omega (arith, short, most); suit = seq_raw r.bytes.items; fits = omega (arith, short, records) }, seq_raws h rs most records all.1)

text_tests : (a b c d e : ℕ) → a ≡ b → c ≤ d → e ≤ d → ((a == b) && (nat_le c d && nat_le e d)) ≡ true
text_tests a b c d e is low high = grind (arith, nat_tests)

text_raw : (h : FileHead) (v : List ℕ) → h.key_pos + h.key_size ≤ length v → suits (kind_of h) (raw_for (kind_of h) v) ≡ true
text_raw h v long =
    let is : length v % 256 + 256 * (length v / 256) ≡ length v = omega arith in
    text_tests (length (raw_for (kind_of h) v)) (4 + u16_at (raw_for (kind_of h) v) 0) (u16_at (raw_for (kind_of h) v) 2) (u16_at (raw_for (kind_of h) v) 0) (h.key_pos + h.key_size) (omega (arith, is)) (omega (arith, is)) (omega (arith, is, long))

pub text_raws : (h : FileHead) (rs : List KeyedRecord) → 1 ≤ h.key_size → h.mrs ≤ 8160 → h.mrs + 32 ≤ 512 * h.bucket → AllSuitBy Indexed h (map keyed rs) → AllRaw (kind_of h) (512 * h.bucket) rs
text_raws h [] key most records all = tt
text_raws h (r ∷ rs) key most records all =
    let is = is_text h (keyed r).0 r.bytes.items all.0 in
    let short = is.most in
    (record { short = omega (arith, short, most); suit = text_raw h r.bytes.items (text_long h (keyed r).0 r.bytes.items key is); fits = omega (arith, short, records) }, text_raws h rs key most records all.1)

-- Numbers that climb.

both_true : (a b : Bool) → (a && b) ≡ true → (a ≡ true) × (b ≡ true)
both_true true b is = (refl, is)
both_true false b is = cc

climbs_from : (h : FileHead) (n : ℕ) (es : List Keyed) → AllSuitBy Relative h es → below_all key_cmp (Number n) es ≡ true → is_sorted key_cmp es ≡ true → Climbs n es
climbs_from h n [] all below sorted = tt
climbs_from h n (e ∷ es) all below sorted =
    let first = both_true (is_lt (key_cmp (Number n) e.0)) (below_all key_cmp (Number n) es) below in
    let rest = both_true (below_all key_cmp e.0 es) (is_sorted key_cmp es) sorted in
    (behind e.0 e.1 all.0 first.0, climbs_from h (number_in e.0) es all.1 (ap (λ (k : Key). below_all key_cmp k es) (sym (is_number e.0 e.1 all.0)) ∙ rest.0) rest.1)
  where
    is_number : (k : Key) (v : List ℕ) → SuitsBy Relative h k (Some v) → k ≡ Number (number_in k)
    is_number (Number m) v suits = refl
    is_number (Text t) v suits = absurd suits
    is_number End v suits = absurd suits

    behind : (k : Key) (v : List ℕ) → SuitsBy Relative h k (Some v) → is_lt (key_cmp (Number n) k) ≡ true → IsBehind n k
    behind (Number m) v suits less = below_number n m less
    behind (Text t) v suits less = absurd suits
    behind End v suits less = absurd suits

pub climbs_all : (h : FileHead) (es : List Keyed) → AllSuitBy Relative h es → is_sorted key_cmp es ≡ true → Climbs 0 es
climbs_all h [] all sorted = tt
climbs_all h (e ∷ es) all sorted =
    let rest = both_true (below_all key_cmp e.0 es) (is_sorted key_cmp es) sorted in
    (some e.0 e.1 all.0, climbs_from h (number_in e.0) es all.1 (ap (λ (k : Key). below_all key_cmp k es) (sym (is_number e.0 e.1 all.0)) ∙ rest.0) rest.1)
  where
    is_number : (k : Key) (v : List ℕ) → SuitsBy Relative h k (Some v) → k ≡ Number (number_in k)
    is_number (Number m) v suits = refl
    is_number (Text t) v suits = absurd suits
    is_number End v suits = absurd suits

    least : (m mrn : ℕ) → (nat_le 1 m && nat_le m mrn) ≡ true → 0 < m
    least m mrn there = grind (arith, nat_tests)

    some : (k : Key) (v : List ℕ) → SuitsBy Relative h k (Some v) → IsBehind 0 k
    some (Number m) v suits = least m h.mrn suits.0
    some (Text t) v suits = absurd suits
    some End v suits = absurd suits

cell_short : (h : FileHead) (k : Key) (v : List ℕ) → SuitsBy Relative h k (Some v) → length v ≤ h.mrs
cell_short h (Number n) v suits = suits.1.1
cell_short h (Text t) v suits = absurd suits
cell_short h End v suits = absurd suits

pub cells_short : (h : FileHead) (es : List Keyed) → AllSuitBy Relative h es → AllShort h.mrs es
cells_short h [] all = tt
cells_short h (e ∷ es) all = (cell_short h e.0 e.1 all.0, cells_short h es all.1)
