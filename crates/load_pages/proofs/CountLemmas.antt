-- How many buckets records take.
use Rattle.std.proofs.Common.{◌≡◌, ◌<◌, ◌≤◌, ◌+◌, ◌-◌, ◌/◌, ℕ, zero, suc, Bool, true, false, List, [], ◌∷◌, length, drop, get_or, if◌then◌else◌, nat_le, refl, sym, ap, ◌∙◌, arith}
use Rattle.std.proofs.lemmas.List.{drop_more, drop_all}
use Rattle.std.proofs.lemmas.Bool.Decides.{nat_tests}
use Rattle.std.proofs.Math.Nat.{div-eq_of_lt, add-div_right}
use Rattle.relative_file.specs.tree_model.Layouts.{index_size}
use Rattle.relative_file.specs.tree_model.Loads.{shared, index_over}
use Rattle.load_model.proofs.tree_model.Tests.{fits_test, over_test, tests_fit}
use Rattle.load_model.proofs.Levels.{shares_few}
use Rattle.records_model.specs.Placing.{filled_by}
use Rattle.load_pages.specs.declared.records.KeyedRecord.{KeyedRecord}
use Rattle.load_pages.specs.Counts.{AllTell, sizes_behind}

pub tells_at : (rs : List KeyedRecord) (i : ℕ) (d : KeyedRecord) → i < length rs → AllTell rs → length (get_or rs i d).bytes.items ≤ 8160
tells_at [] i d below all = absurd (omega (arith, below))
tells_at (r ∷ rs) zero d below all = all.0
tells_at (r ∷ rs) (suc i) d below all = tells_at rs i d (omega (arith, below)) all.1

-- so many buckets of which the last has so many bytes, and the records from one on
abbrev pub counted_from : ℕ → ℕ → List KeyedRecord → ℕ → ℕ → ℕ → ℕ
counted_from cap beside rs i buckets bytes = (filled_by cap (record { buckets = buckets; bytes = bytes }) (sizes_behind beside (drop i rs))).buckets

rest_is : (beside : ℕ) (rs : List KeyedRecord) (i : ℕ) (d : KeyedRecord) → i < length rs → sizes_behind beside (drop i rs) ≡ (length (get_or rs i d).bytes.items + beside) ∷ sizes_behind beside (drop (i + 1) rs)
rest_is beside rs i d below = ap (sizes_behind beside) (drop_more rs i d below)

pub counts_fit : (cap beside : ℕ) (rs : List KeyedRecord) (i buckets bytes : ℕ) (d : KeyedRecord) → i < length rs → bytes + (length (get_or rs i d).bytes.items + beside) ≤ cap
    → counted_from cap beside rs i buckets bytes ≡ counted_from cap beside rs (i + 1) buckets (bytes + (length (get_or rs i d).bytes.items + beside))
counts_fit cap beside rs i buckets bytes d below fits =
    let size = length (get_or rs i d).bytes.items + beside in
    let rest = sizes_behind beside (drop (i + 1) rs) in
    ap (λ (ns : List ℕ). (filled_by cap (record { buckets = buckets; bytes = bytes }) ns).buckets) (rest_is beside rs i d below)
    ∙ ap (λ t. (filled_by cap (record { buckets = if t then buckets else buckets + 1; bytes = if t then bytes + size else size }) rest).buckets) (tests_fit (bytes + size) cap fits)

over_tests : (n cap : ℕ) → cap < n → nat_le n cap ≡ false
over_tests n cap over = grind (arith, nat_tests)

pub counts_over : (cap beside : ℕ) (rs : List KeyedRecord) (i buckets bytes : ℕ) (d : KeyedRecord) → i < length rs → cap < bytes + (length (get_or rs i d).bytes.items + beside)
    → counted_from cap beside rs i buckets bytes ≡ counted_from cap beside rs (i + 1) (buckets + 1) (length (get_or rs i d).bytes.items + beside)
counts_over cap beside rs i buckets bytes d below over =
    let size = length (get_or rs i d).bytes.items + beside in
    let rest = sizes_behind beside (drop (i + 1) rs) in
    ap (λ (ns : List ℕ). (filled_by cap (record { buckets = buckets; bytes = bytes }) ns).buckets) (rest_is beside rs i d below)
    ∙ ap (λ t. (filled_by cap (record { buckets = if t then buckets else buckets + 1; bytes = if t then bytes + size else size }) rest).buckets) (over_tests (bytes + size) cap over)

pub counts_end : (cap beside : ℕ) (rs : List KeyedRecord) (i buckets bytes : ℕ) → length rs ≤ i → counted_from cap beside rs i buckets bytes ≡ buckets
counts_end cap beside rs i buckets bytes most = ap (λ (xs : List KeyedRecord). (filled_by cap (record { buckets = buckets; bytes = bytes }) (sizes_behind beside xs)).buckets) (drop_all i rs most)

-- The index.

-- as many shares as this, whatever the bound on them
pub shares_are : (fan more n : ℕ) → 3 ≤ fan → 1 ≤ n → n ≤ more → length (shared fan more n) ≡ (n - 1) / fan + 1
shares_are fan zero n wide some below = absurd (omega (arith, some, below))
shares_are fan (suc more) n wide some below = go (nat_le n fan) refl (λ over. shares_are fan more (n - fan) wide (omega (arith, over)) (omega (arith, over, below, wide)))
  where
    small : n ≤ fan → (n - 1) / fan ≡ 0
    small fits = div-eq_of_lt (omega (arith, fits, some))

    go : (t : Bool) → nat_le n fan ≡ t → (fan < n → length (shared fan more (n - fan)) ≡ (n - fan - 1) / fan + 1) → length (if t then n ∷ [] else fan ∷ shared fan more (n - fan)) ≡ (n - 1) / fan + 1
    go true is later = let fits = fits_test n fan is in let none = small fits in omega (arith, none)
    go false is later =
        let over = over_test n fan is in
        let rest = later over in
        let one : (n - 1) / fan ≡ (n - fan - 1) / fan + 1 = ap (λ m. m / fan) (let same : n - 1 ≡ (n - fan - 1) + fan = omega (arith, over) in same) ∙ add-div_right (n - fan - 1) (omega (arith, wide)) in
        omega (arith, rest, one)

-- the index does not rest on the bound on its levels
pub same_bound : (fan a b n : ℕ) → 3 ≤ fan → 1 ≤ n → n ≤ a → n ≤ b → index_over fan a n ≡ index_over fan b n
same_bound fan zero b n wide some low high = absurd (omega (arith, some, low))
same_bound fan (suc a) zero n wide some low high = absurd (omega (arith, some, high))
same_bound fan (suc a) (suc b) n wide some low high =
    let shares = shares_few fan n n wide some (omega arith) in
    go (nat_le n 1) refl (λ two. same_bound fan a b (length (shared fan n n)) wide shares.0 (let three = shares.1 in omega (arith, three, two, low)) (let three = shares.1 in omega (arith, three, two, high)))
  where
    go : (t : Bool) → nat_le n 1 ≡ t → (2 ≤ n → index_over fan a (length (shared fan n n)) ≡ index_over fan b (length (shared fan n n)))
        → (if t then [] else shared fan n n ∷ index_over fan a (length (shared fan n n))) ≡ (if t then [] else shared fan n n ∷ index_over fan b (length (shared fan n n)))
    go true is later = refl
    go false is later = let two = over_test n 1 is in ap (λ x. shared fan n n ∷ x) (later (omega (arith, two)))

-- one level and those above it
pub record CountsAbove (fan count above buckets levels : ℕ) : Type 0 where
  pub buckets_are : above + buckets ≡ index_size (index_over fan count count)
  pub levels_are : levels + 1 ≡ length (index_over fan count count)

pub counts_above : (fan count above buckets levels : ℕ) → 3 ≤ fan → 1 < count → above ≡ (count - 1) / fan + 1 → buckets ≡ index_size (index_over fan above above) → levels ≡ length (index_over fan above above) → CountsAbove fan count above buckets levels
counts_above fan zero above buckets levels wide two is size high = absurd (omega (arith, two))
counts_above fan (suc more) above buckets levels wide two is size high = record {
  buckets_are = let here = ap (λ (x : List (List ℕ)). index_size x) opened in let same = shares in let rest = ap (λ (x : List (List ℕ)). index_size x) above_is in omega (arith, here, same, rest, size);
  levels_are = let here = ap (λ (x : List (List ℕ)). length x) opened in let rest = ap (λ (x : List (List ℕ)). length x) above_is in omega (arith, here, rest, high);
}
  where
    n : ℕ
    n = suc more

    shares : length (shared fan n n) ≡ above
    shares = shares_are fan n n wide (omega (arith, two)) (omega arith) ∙ sym is

    opened : index_over fan n n ≡ shared fan n n ∷ index_over fan more (length (shared fan n n))
    opened = ap (λ t. if t then [] else shared fan n n ∷ index_over fan more (length (shared fan n n))) (over_tests n 1 two)

    above_is : index_over fan more (length (shared fan n n)) ≡ index_over fan above above
    above_is =
        let few = shares_few fan n n wide (omega (arith, two)) (omega arith) in
        let least = few.0 in let three = few.1 in let same = shares in
        ap (index_over fan more) shares ∙ same_bound fan more above above wide (omega (arith, least, same)) (omega (arith, three, same, two)) (omega arith)

pub counts_none : (fan count : ℕ) → 1 ≤ count → count ≤ 1 → index_over fan count count ≡ []
counts_none fan zero some most = absurd (omega (arith, some))
counts_none fan (suc more) some most = ap (λ t. if t then [] else shared fan (suc more) (suc more) ∷ index_over fan more (length (shared fan (suc more) (suc more)))) (tests_fit (suc more) 1 most)

-- there are fewer buckets above
pub above_less : (fan n : ℕ) → 3 ≤ fan → 1 < n → (n - 1) / fan + 1 < n
above_less fan n wide two =
    let same = shares_are fan n n wide (omega (arith, two)) (omega arith) in
    let few = (shares_few fan n n wide (omega (arith, two)) (omega arith)).1 in omega (arith, same, few, two)
