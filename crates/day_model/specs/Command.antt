-- The words that ask for a day.
use Rattle.std.specs.Prelude.{ℕ, List, [], ◌∷◌, Bool, false, ◌&&◌, ◌==◌, Option, Some, None, codes, if◌then◌else◌}
use Rattle.std.specs.Str.{bytes_eq}
use Rattle.vms_model.specs.Words.{number_from}

-- a day of so many transactions, which draws from this number on
pub record Asked : Type 0 where
  pub count : ℕ
  pub start : ℕ

-- a number of decimal digits without a leading zero, at most the limit
abbrev pub plain_number : (limit : ℕ) → List ℕ → Option ℕ
plain_number limit [] = None
plain_number limit (b ∷ []) = number_from limit 0 (b ∷ [])
plain_number limit (b ∷ c ∷ bs) = if b == 48 then None else number_from limit 0 (b ∷ c ∷ bs)

-- the nodes are A and B
abbrev pub are_a_and_b : List (List ℕ) → Bool
are_a_and_b (a ∷ b ∷ []) = bytes_eq a (codes "A") && bytes_eq b (codes "B")
are_a_and_b _ = false

-- a day has one transaction or more
abbrev pub asked_by : (count start : Option ℕ) → Option Asked
asked_by (Some count) (Some start) = if count == 0 then None else Some (record { count = count; start = start })
asked_by (Some count) None = None
asked_by None start = None

-- Behind the program's name stand MAKE, in capitals, the number of transactions, from 1 to 10,000, and the number of 32 bits from which on the day draws. The nodes
-- are A and B.
abbrev pub day_asked : (nodes words : List (List ℕ)) → Option Asked
day_asked nodes (program ∷ command ∷ count ∷ start ∷ []) = if bytes_eq command (codes "MAKE") && are_a_and_b nodes then asked_by (plain_number 10000 count) (plain_number 4294967295 start) else None
day_asked nodes _ = None
