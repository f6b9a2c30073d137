-- How the places and the order of a table of units hang together.
use Rattle.std.specs.Prelude.{◌≡◌, ℕ, suc, ◌==◌, Bool, true, List, [], ◌∷◌, ◌++◌, Option, Some, None, length, if◌then◌else◌}
use Rattle.vms_base.specs.vms_model.Limits.{branch_limit}
use Rattle.unit_table.specs.Units.{OpenUnit, first_that, unit_at, units_of}

-- how often a number stands in a list
abbrev pub occurrences : ℕ → List ℕ → ℕ
occurrences p [] = 0
occurrences p (q ∷ qs) = if q == p then suc (occurrences p qs) else occurrences p qs

-- one unit or none
abbrev pub count_at : Option OpenUnit → ℕ
count_at None = 0
count_at (Some u) = 1

-- how many places have a unit
abbrev pub taken : List (Option OpenUnit) → ℕ
taken [] = 0
taken (None ∷ us) = taken us
taken (Some u ∷ us) = suc (taken us)

-- each place that has a unit stands in the order once, and no other does
pub record AreInOrder (places : List (Option OpenUnit)) (order : List ℕ) : Type 0 where
  pub whole : length places ≡ branch_limit
  pub each : (p : ℕ) → occurrences p order ≡ count_at (unit_at places p)
  pub many : length order ≡ taken places

-- the first place in an order that has a unit of which this holds
pub record IsFirstPlace (P : OpenUnit → Bool) (places : List (Option OpenUnit)) (order : List ℕ) (p : ℕ) : Type 0 where
  pub front : List ℕ
  pub back : List ℕ
  pub split : order ≡ front ++ p ∷ back
  pub unit : OpenUnit
  pub there : unit_at places p ≡ Some unit
  pub is : P unit ≡ true
  pub before : first_that P (units_of places front) ≡ None
