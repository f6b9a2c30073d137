-- The bytes of an id, one by one: a node's name with zeros up to 8 bytes, then 8 bytes of numbers.
use Rattle.std.specs.Prelude.{◌≡◌, ℕ, ◌<◌, ◌-◌, ◌==◌, ◌||◌, ◌&&◌, Bool, true, List, length, slice_index, not, nat_lt, nat_le, take, drop, if◌then◌else◌}
use Rattle.std.specs.Int.{w32, from_le_bytes}
use Rattle.vms_base.specs.vms_model.Ids.{Id}
use Rattle.vms_base.specs.Ids.{until_zero}

-- a capital letter
abbrev pub is_letter : ℕ → Bool
is_letter b = nat_le 65 b && nat_le b 90

-- a capital letter or a digit
abbrev pub is_letter_or_digit : ℕ → Bool
is_letter_or_digit b = is_letter b || (nat_le 48 b && nat_le b 57)

-- whether a byte may stand at a place of an id behind the one before it
abbrev pub id_byte : (place before b : ℕ) → Bool
id_byte j before b = if j == 0 then is_letter b else (if nat_lt j 6 then b == 0 || (not (before == 0) && is_letter_or_digit b) else (if nat_lt j 8 then b == 0 else true))

-- the bytes of an id
pub record IsIdForm (x : List ℕ) : Type 0 where
  pub size : length x ≡ 16
  pub bytes : (j : ℕ) → j < 16 → id_byte j (slice_index x (j - 1)) (slice_index x j) ≡ true

-- the id that bytes tell
abbrev pub id_said : List ℕ → Id
id_said x = record { node = until_zero x; boot = from_le_bytes w32 (take 4 (drop 8 x)); seq = from_le_bytes w32 (take 4 (drop 12 x)) }
