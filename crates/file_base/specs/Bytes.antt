-- Pieces of lists of bytes.
use Rattle.std.specs.Prelude.{ℕ, ◌+◌, ◌++◌, List, length, take, drop}

-- so many bytes from a place on
abbrev pub piece_at : List ℕ → ℕ → ℕ → List ℕ
piece_at bytes at count = take count (drop at bytes)

-- the bytes with a piece written at a place
abbrev pub spliced : List ℕ → ℕ → List ℕ → List ℕ
spliced bytes at piece = take at bytes ++ piece ++ drop (at + length piece) bytes
