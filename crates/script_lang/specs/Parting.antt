-- The first word of bytes.
use Rattle.std.specs.Prelude.{◌≡◌, ◌≢◌, ℕ, ◌+◌, List, [], ◌∷◌, ◌++◌, take, drop, Bool, false, not, ◌==◌, if◌then◌else◌, Option, Some, None}
use Rattle.script_model.specs.LineWords.{Place, Between, Inside, Quoted, words_from, word_rest}

-- a word begins here, or nothing does
abbrev pub IsAtWord : List ℕ → Type 0
IsAtWord [] = Unit {0}
IsAtWord (b ∷ bytes) = b ≢ 32

-- a word begins here, and so many of its bytes lead to this place
abbrev pub WordStands : ℕ → List ℕ → ℕ → Place → Type 0
WordStands column bytes n place = words_from Between column bytes ≡ record { column = column; text = take n bytes ++ word_rest place (drop n bytes) } ∷ words_from place (column + n) (drop n bytes)

-- where a byte of a word leads: whether into quotes, or out of the word
abbrev pub quoted_next : Bool → ℕ → Option Bool
quoted_next quoted b = if quoted then Some (not (b == 34)) else if b == 32 then None else Some false

abbrev pub place_of : Bool → Place
place_of quoted = if quoted then Quoted else Inside
