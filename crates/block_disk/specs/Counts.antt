-- Counts that an answer raises.
use Rattle.std.specs.Prelude.{ℕ, ◌+◌, ◌≤◌, Bool, true, false, min, Result, Ok, Err}

-- a count after an answer: one more where the answer is one that it counts, up to the greatest u64
abbrev pub counted : Bool → ℕ → ℕ
counted true n = min (n + 1) 18446744073709551615
counted false n = n

-- whether an answer is an error
abbrev pub is_err : {T E : Type 0} → Result T E → Bool
is_err (Ok x) = false
is_err (Err e) = true

-- a count rose, or it stands at the greatest u64
abbrev pub Rose : ℕ → ℕ → Type 0
Rose old new = min (old + 1) 18446744073709551615 ≤ new
