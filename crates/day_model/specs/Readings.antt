-- What the lines of a day say.
use Rattle.std.specs.Prelude.{◌≡◌, ◌<◌, ◌≤◌, ◌^◌, ℕ, List, ◌∷◌, Bool, true, false, codes}
use Rattle.std.specs.List.{AllByRecursion}
use Rattle.run_model.specs.script_model.Statements.{At, Init, Says, Statement}
use Rattle.run_model.specs.script_model.Grammar.{reading}
use Rattle.day_model.specs.Pieces.{Piece, Words, day, words_of}

-- a piece says a statement, whatever message was sent last
abbrev pub Speaks : Piece → Type 0
Speaks p = (sent : ℕ) → sent < 2 ^ 32 → (s : Statement) × (reading (words_of sent p) ≡ Says s)

abbrev pub AllSpeak : List Piece → Type 0
AllSpeak ps = AllByRecursion Speaks ps

-- each line of a day of at most 10,000 transactions says a statement
abbrev pub DaysSpeak : Type 0
DaysSpeak = (count start : ℕ) → count ≤ 10000 → AllSpeak (day count start)

-- whether a statement makes a volume
abbrev pub makes_volume : Statement → Bool
makes_volume (At node (Init slots journal)) = true
makes_volume s = false

-- a piece says a statement that makes no volume, whatever message was sent last
abbrev pub SpeaksOn : Piece → Type 0
SpeaksOn p = (sent : ℕ) → sent < 2 ^ 32 → (s : Statement) × (reading (words_of sent p) ≡ Says s) × (makes_volume s ≡ false)

abbrev pub AllSpeakOn : List Piece → Type 0
AllSpeakOn ps = AllByRecursion SpeaksOn ps

-- A day makes both volumes by its first two lines, that of A and then that of B, and by no other.
pub record MakesOnce (count start : ℕ) : Type 0 where
  pub rest : List Piece
  pub parts : day count start ≡ Words (codes "A: INIT") ∷ (Words (codes "B: INIT") ∷ rest)
  pub first : reading (codes "A: INIT") ≡ Says (At (codes "A") (Init 128 1024))
  pub second : reading (codes "B: INIT") ≡ Says (At (codes "B") (Init 128 1024))
  pub later : AllSpeakOn rest

abbrev pub DaysMakeOnce : Type 0
DaysMakeOnce = (count start : ℕ) → count ≤ 10000 → MakesOnce count start
