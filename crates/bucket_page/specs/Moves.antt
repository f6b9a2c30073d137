-- Pieces put in among bytes and taken out.
use Rattle.std.specs.Prelude.{ℕ, ◌+◌, ◌-◌, ◌++◌, List, length, take, drop, replicate}
use Rattle.file_base.specs.Bytes.{piece_at}

-- the bytes with a piece put in at a place, and what stood from there to an end moved behind it
abbrev pub opened : List ℕ → ℕ → ℕ → List ℕ → List ℕ
opened bytes at end piece = take at bytes ++ (piece ++ (piece_at bytes at (end - at) ++ drop (end + length piece) bytes))

-- the bytes with so many taken out at a place, what stood behind them up to an end moved there, and zeros behind it
abbrev pub closed : List ℕ → ℕ → ℕ → ℕ → List ℕ
closed bytes at size end = take at bytes ++ (piece_at bytes (at + size) (end - at - size) ++ (replicate size 0 ++ drop end bytes))
