-- How slots are placed into buckets, one after the other.
use Rattle.std.specs.Prelude.{◌≡◌, ◌≤◌, ◌<◌, ℕ, zero, suc, ◌+◌, ◌++◌, List, [], ◌∷◌, length, take, map}
use Rattle.change_set.specs.records_model.Placing.{filled_by, first_bucket}
use Rattle.bucket_page.specs.Pages.{joined}

-- how many buckets the placing of slots of these sizes takes
abbrev pub buckets_for : ℕ → List ℕ → ℕ
buckets_for cap sizes = (filled_by cap first_bucket sizes).buckets

-- the slots of the first buckets, in order
abbrev pub slots_along : (ℕ → List (List ℕ)) → ℕ → List (List ℕ)
slots_along S zero = []
slots_along S (suc n) = slots_along S n ++ S n

-- a bucket begins with a slot that did not fit behind these slots
abbrev pub BeginsAnew : ℕ → List (List ℕ) → List (List ℕ) → Type 0
BeginsAnew cap before [] = ⊥
BeginsAnew cap before (s ∷ ss) = cap < length (joined before) + length s

-- so many buckets were filled in turn: what each has fits, and each next one begins with the slot that did not fit into the one before
pub record IsFilled (cap : ℕ) (S : ℕ → List (List ℕ)) (used : ℕ) : Type 0 where
  pub fits : (i : ℕ) → i < used → length (joined (S i)) ≤ cap
  pub next : (i : ℕ) → suc i < used → BeginsAnew cap (S i) (S (suc i))

-- buckets that were filled in turn are as many as the placing of their slots takes
abbrev pub FilledIsPlaced : Type 0
FilledIsPlaced = (cap : ℕ) (S : ℕ → List (List ℕ)) (used : ℕ) → 1 ≤ used → IsFilled cap S used → buckets_for cap (map length (slots_along S used)) ≡ used

-- the placing of the first slots takes at most as many buckets as that of all
abbrev pub PrefixPlaces : Type 0
PrefixPlaces = (cap : ℕ) (sizes : List ℕ) (n : ℕ) → buckets_for cap (take n sizes) ≤ buckets_for cap sizes
