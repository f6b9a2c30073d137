-- Where the cells of a file lie.
use Rattle.std.proofs.Common.{◌≡◌, ◌≢◌, ⊎_elim, ℕ, ◌<◌, ◌≤◌, ◌+◌, ◌-◌, ◌*◌, ◌/◌, ◌%◌, ◌&&◌, true, nat_le, sym, ◌∙◌, arith}
use Rattle.std.proofs.lemmas.Bool.{cases_lt}
use Rattle.std.proofs.lemmas.Bool.Decides.{nat_tests}
use Rattle.std.proofs.lemmas.Nat.{div-add-mod', div_below, mod_below, mul-le}
use Rattle.change_set.proofs.Extents.{ranges_apart}

-- a place in a bucket of c places of w bytes
pub place_within : (x c w size : ℕ) → x < c → c * w + 16 ≤ size → 16 + x * w + w ≤ size
place_within x c w size below all =
    let step : (x + 1) * w ≤ c * w = mul-le (x + 1) w c w (omega arith) (omega arith) in
    let grown : (x + 1) * w ≡ x * w + w = omega arith in omega arith

-- c places fit
pub places_fit : (size w : ℕ) → 16 ≤ size → (size - 16) / w * w + 16 ≤ size
places_fit size w least = let e = div-add-mod' (size - 16) w in omega arith

-- where two places of one list of buckets stand: in different buckets, or apart in one
pub data Apart (x y i j : ℕ) : Type 0 where
  lower : x < y → Apart x y i j
  higher : y < x → Apart x y i j
  before : x ≡ y → i < j → Apart x y i j
  behind : x ≡ y → j < i → Apart x y i j

same_number : (m n c : ℕ) → m / c ≡ n / c → m % c ≡ n % c → m ≡ n
same_number m n c d r = sym (div-add-mod' m c) ∙ (λ i. d i * c + r i) ∙ div-add-mod' n c

pub apart : (m n c : ℕ) → m ≢ n → Apart (m / c) (n / c) (m % c) (n % c)
apart m n c not =
    ⊎_elim lower (λ ge. ⊎_elim higher (λ le. let same : m / c ≡ n / c = omega arith in
    ⊎_elim (before same) (λ ge2. ⊎_elim (behind same) (λ le2. absurd (not (same_number m n c same (omega arith)))) (cases_lt (n % c) (m % c))) (cases_lt (m % c) (n % c)))
    (cases_lt (n / c) (m / c))) (cases_lt (m / c) (n / c))

pub in_range : (n mrn : ℕ) → (nat_le 1 n && nat_le n mrn) ≡ true → (1 ≤ n) × (n ≤ mrn)
in_range n mrn there = grind (arith, nat_tests)

-- the bucket of a number lies in the extent
pub bucket_within : (n mrn alloc c b : ℕ) → (nat_le 1 n && nat_le n mrn) ≡ true → mrn ≤ alloc * c → 1 ≤ c → (n - 1) / c * b + b ≤ alloc * b
bucket_within n mrn alloc c b there cells one =
    let range = in_range n mrn there in
    ranges_apart ((n - 1) / c) alloc b (div_below (n - 1) c alloc one (omega (arith, range)))

-- a cell lies in its bucket
pub cell_within : (n b mrs : ℕ) → 1 ≤ (512 * b - 16) / (mrs + 2) → mrs + 32 ≤ 512 * b → 16 + (n - 1) % ((512 * b - 16) / (mrs + 2)) * (mrs + 2) + (mrs + 2) ≤ 512 * b
cell_within n b mrs one records =
    let c = (512 * b - 16) / (mrs + 2) in
    place_within ((n - 1) % c) c (mrs + 2) (512 * b) (mod_below (n - 1) c one) (places_fit (512 * b) (mrs + 2) (omega arith))
