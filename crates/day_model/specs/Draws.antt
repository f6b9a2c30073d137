-- The numbers that a day draws, each from the one before it.
use Rattle.std.specs.Prelude.{ℕ, ◌+◌, ◌*◌, ◌/◌, ◌%◌}

-- the next number of 32 bits: those of a linear congruential generator
abbrev pub next : ℕ → ℕ
next x = (x * 1103515245 + 12345) % 4294967296

-- the number below a limit that it stands for
abbrev pub below : ℕ → ℕ → ℕ
below limit x = (x / 65536) % limit
