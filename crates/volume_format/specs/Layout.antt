-- Layouts of blocks: tables of fields, each with its place, its width and its bytes.
use Rattle.std.specs.Prelude.{◌≡◌, ℕ, ◌+◌, List, [], ◌∷◌, length, Bool, ◌&&◌, nat_le, ⊤, Option, Some, None, zero, suc}
use Rattle.std.specs.Int.{to_le_bytes, w16, w32, w64}
use Rattle.file_base.specs.Bytes.{piece_at, spliced as bytes_spliced}

-- the bytes with a piece written at a place, closed up, since a table writes many
unfoldable pub spliced : List ℕ → ℕ → List ℕ → List ℕ
spliced bytes at piece = bytes_spliced bytes at piece

-- a field of a layout: at which byte it begins, how many bytes it has, and which
pub record Row : Type 0 where
  pub at : ℕ
  pub wide : ℕ
  pub bytes : List ℕ

abbrev pub row : ℕ → ℕ → List ℕ → Row
row at wide bytes = record { at = at; wide = wide; bytes = bytes }

-- a number in one byte, or in two, four or eight with the low bytes first
abbrev pub number_8 : ℕ → ℕ → Row
number_8 at n = row at 1 (n ∷ [])

abbrev pub number_16 : ℕ → ℕ → Row
number_16 at n = row at 2 (to_le_bytes w16 n)

abbrev pub number_32 : ℕ → ℕ → Row
number_32 at n = row at 4 (to_le_bytes w32 n)

abbrev pub number_64 : ℕ → ℕ → Row
number_64 at n = row at 8 (to_le_bytes w64 n)

-- a block with each field of a table written at its place
abbrev pub laid : List Row → List ℕ → List ℕ
laid [] block = block
laid (r ∷ rows) block = laid rows (spliced block r.at r.bytes)

-- the fields stand one behind the other, from a place on, and end within a block
abbrev pub in_order : ℕ → List Row → Bool
in_order at [] = nat_le at 512
in_order at (r ∷ rows) = nat_le at r.at && in_order (r.at + r.wide) rows

-- each field has as many bytes as it is wide
abbrev pub AllWide : List Row → Type 0
AllWide [] = ⊤
AllWide (r ∷ rows) = (length r.bytes ≡ r.wide) × AllWide rows

-- the field at a place of a table, counted from 0
abbrev pub row_at : ℕ → List Row → Option Row
row_at n [] = None
row_at zero (r ∷ rows) = Some r
row_at (suc n) (r ∷ rows) = row_at n rows

-- each field of a table stands at its place in a block
abbrev pub AllStand : List ℕ → List Row → Type 0
AllStand block [] = ⊤
AllStand block (r ∷ rows) = (piece_at block r.at r.wide ≡ r.bytes) × AllStand block rows
