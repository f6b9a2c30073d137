-- The script of a day over two nodes, A and B: its lines, piece by piece.
use Rattle.std.specs.Prelude.{ℕ, zero, suc, ◌+◌, ◌/◌, ◌%◌, ◌==◌, List, [], ◌∷◌, ◌++◌, true, decimal, codes, if◌then◌else◌}
use Rattle.run_model.specs.transcript_model.Script.{ScriptLine}
use Rattle.day_model.specs.Draws.{next, below}

-- a line of the script: it has these words; the last message that was sent is delivered; all nodes settle; or a node dumps a file
pub data Piece : Type 0 where
  Words : List ℕ → Piece
  Deliver : Piece
  Settle : Piece
  Dump : (node file : List ℕ) → Piece

-- the words of a piece, where the last message that was sent has this number
abbrev pub words_of : (sent : ℕ) → Piece → List ℕ
words_of sent (Words text) = text
words_of sent Deliver = codes "DELIVER " ++ decimal sent
words_of sent Settle = codes "SETTLE"
words_of sent (Dump node file) = node ++ (codes ": DUMP " ++ file)

-- the line of the script
abbrev pub written : (sent : ℕ) → Piece → ScriptLine
written sent p = record { text = words_of sent p; ended = true }

-- the last decimal digit of a number
abbrev pub last_digit : ℕ → ℕ
last_digit n = 48 + n % 10

-- the last six decimal digits
abbrev pub six_digits : ℕ → List ℕ
six_digits n = last_digit (n / 100000) ∷ last_digit (n / 10000) ∷ last_digit (n / 1000) ∷ last_digit (n / 100) ∷ last_digit (n / 10) ∷ last_digit n ∷ []

-- bytes between quotes
abbrev pub quoted : List ℕ → List ℕ
quoted bytes = 34 ∷ (bytes ++ (34 ∷ []))

-- a node makes a file of each organization, all three for recovery units
abbrev pub makes_files : (node : List ℕ) → List Piece
makes_files node =
    Words (node ++ codes ": CREATE S SEQ 4 200 200")
    ∷ Words (node ++ codes ": CREATE R REL 4 200 200")
    ∷ Words (node ++ codes ": CREATE I IDX 4 200 200 0 6")
    ∷ Words (node ++ codes ": SET_FILE S RU")
    ∷ Words (node ++ codes ": SET_FILE R RU")
    ∷ Words (node ++ codes ": SET_FILE I RU")
    ∷ []

-- both volumes are made, both nodes are booted, and each makes its files
abbrev pub opening : List Piece
opening =
    Words (codes "A: INIT")
    ∷ Words (codes "B: INIT")
    ∷ Words (codes "A: BOOT")
    ∷ Words (codes "B: BOOT")
    ∷ (makes_files (codes "A") ++ makes_files (codes "B"))

-- The transaction of a number begins at A, with a branch at B that joins it.
abbrev pub transaction_start : (number : ℕ) → List Piece
transaction_start i =
    Words (codes "A: START_TRANS T" ++ decimal i)
    ∷ Words (codes "A: ADD_BRANCH T" ++ (decimal i ++ (codes " B U" ++ decimal i)))
    ∷ Words (codes "B: START_BRANCH U" ++ decimal i)
    ∷ Deliver
    ∷ Deliver
    ∷ []

-- It puts its number into the sequential file of A, into the relative file of A at this key, and into the indexed file of B.
abbrev pub changed : (number key : ℕ) → List Piece
changed i key =
    Words (codes "A: PUT T" ++ (decimal i ++ (codes " S " ++ quoted (six_digits i))))
    ∷ Words (codes "A: PUT T" ++ (decimal i ++ (codes " R " ++ (decimal key ++ (32 ∷ quoted (six_digits i))))))
    ∷ Words (codes "B: PUT U" ++ (decimal i ++ (codes " I " ++ quoted (six_digits i ++ (120 ∷ [])))))
    ∷ []

-- both branches are to end
abbrev pub ending : (number : ℕ) → List Piece
ending i = Words (codes "B: END_BRANCH U" ++ decimal i) ∷ Words (codes "A: END_TRANS T" ++ decimal i) ∷ []

-- It is aborted; or A falls before its end, or B behind it; or its messages come one after another.
abbrev pub ended : (number choice : ℕ) → List Piece
ended i choice =
    if choice == 0 then Words (codes "A: ABORT_TRANS T" ++ decimal i) ∷ Settle ∷ []
    else if choice == 1 then Words (codes "CRASH A") ∷ Settle ∷ []
    else if choice == 2 then ending i ++ (Words (codes "CRASH B") ∷ Settle ∷ [])
    else ending i ++ (Deliver ∷ Deliver ∷ Deliver ∷ Deliver ∷ [])

-- a whole transaction
abbrev pub transaction : (number key choice : ℕ) → List Piece
transaction i key choice = transaction_start i ++ (changed i key ++ ended i choice)

-- So many transactions, from this number on. Each draws its key, from 1 to 200, and then how it ends.
abbrev pub transactions : (count number : ℕ) → (drawn : ℕ) → List Piece
transactions zero i x = []
transactions (suc count) i x = transaction i (below 200 (next x) + 1) (below 10 (next (next x))) ++ transactions count (i + 1) (next (next x))

-- all files are dumped
abbrev pub dumps : List Piece
dumps = Dump (codes "A") (codes "S") ∷ Dump (codes "A") (codes "R") ∷ Dump (codes "A") (codes "I") ∷ Dump (codes "B") (codes "S") ∷ Dump (codes "B") (codes "R") ∷ Dump (codes "B") (codes "I") ∷ []

-- the script of a day of so many transactions, which draws from this number on; once all is settled, the files are dumped
abbrev pub day : (count start : ℕ) → List Piece
day count start = opening ++ (transactions count 1 start ++ (Settle ∷ dumps))
