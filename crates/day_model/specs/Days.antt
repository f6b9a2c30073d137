-- What is shown of a day: how its lines were answered, where it stops, and its summary. Entries stand newest first.
use Rattle.std.specs.Prelude.{◌≡◌, ◌⊎◌, ℕ, ◌-◌, List, [], ◌∷◌, ◌++◌, Bool, true, false, ◌||◌, Option, Some, None, decimal, codes}
use Rattle.run_model.specs.transcript_model.Lines as line
use Rattle.run_model.specs.transcript_model.Lines.{Line, line_words}
use Rattle.emitter_model.specs.Tally.{Tally, nothing_tallied, tallied_by}
use Rattle.run_model.specs.Transcript.{Entry}
use Rattle.day_model.specs.Pieces.{Piece, Words, Deliver, Settle, Dump, written, day, dumps}

-- what is counted of the lines of these entries
abbrev pub tally_of : List Entry → Tally
tally_of [] = nothing_tallied
tally_of (e ∷ es) = tallied_by e.lines (tally_of es)

-- memory was missing, or a disk failed or was stopped
abbrev pub is_broken : Option Line → Bool
is_broken (Some line.NoMemory) = true
is_broken (Some (line.Broken cause)) = true
is_broken _ = false

-- a settling that was answered otherwise than that all is settled, and a dump that was answered otherwise than by the count of its records
abbrev pub is_refused : Piece → Option Line → Bool
is_refused Settle (Some line.Normal) = false
is_refused Settle _ = true
is_refused (Dump node file) (Some (line.NormalCount n)) = false
is_refused (Dump node file) _ = true
is_refused (Words text) answer = false
is_refused Deliver answer = false

-- whether the script ends at a line that was answered so
abbrev pub stops : Piece → Option Line → Bool
stops p answer = is_broken answer || is_refused p answer

-- the count that the answer of a dump has
abbrev pub counted : Piece → Option Line → List ℕ
counted (Dump node file) (Some (line.NormalCount n)) = n ∷ []
counted _ _ = []

-- an entry is that of a piece, behind these entries
abbrev pub IsOf : Piece → List Entry → Entry → Type 0
IsOf p es e = e.source ≡ written (tally_of es).sent p

-- what the last line of an entry tells, behind these entries
abbrev pub answer_of : List Entry → Option Line
answer_of es = (tally_of es).last

-- The first pieces of a script were answered by these entries, and it ended at none of them; these pieces are left, and dumps counted so many records.
abbrev pub DayReached : List Piece → List Entry → (left : List Piece) → (counts : List ℕ) → Type 0
DayReached all [] left counts = (left ≡ all) × (counts ≡ [])
DayReached all (e ∷ es) left counts =
    (p : Piece) × (before : List ℕ) × DayReached all es (p ∷ left) before × IsOf p es e × (stops p (answer_of (e ∷ es)) ≡ false) × (counts ≡ before ++ counted p (answer_of (e ∷ es)))

-- The first pieces of a script were answered by these entries, and it ended at the newest.
abbrev pub Stops : List Piece → List Entry → Type 0
Stops all [] = ⊥
Stops all (e ∷ es) = (p : Piece) × (left : List Piece) × (before : List ℕ) × DayReached all es (p ∷ left) before × IsOf p es e × (stops p (answer_of (e ∷ es)) ≡ true)

-- words, a count, and a line feed
abbrev pub counting : List ℕ → ℕ → List ℕ
counting words n = words ++ (decimal n ++ (10 ∷ []))

-- the counts of all files, each behind its node and its name
abbrev pub counts_text : List Piece → List ℕ → List ℕ
counts_text (Dump node file ∷ ps) (n ∷ ns) = counting (node ++ (32 ∷ (file ++ (32 ∷ [])))) n ++ counts_text ps ns
counts_text _ _ = []

-- the numbers of a day's transactions: all, those that were committed, and the others
abbrev pub numbers_text : (count committed : ℕ) → List ℕ
numbers_text count committed = counting (codes "TRANSACTIONS ") count ++ (counting (codes "COMMITTED ") committed ++ counting (codes "ABORTED ") (count - committed))

-- the summary of a day: those numbers, and the records of each file
abbrev pub summary : (count committed : ℕ) → (dumped : List Piece) → (counts : List ℕ) → List ℕ
summary count committed dumped counts = numbers_text count committed ++ counts_text dumped counts

-- an answer without a number, where it is told by itself
abbrev pub answer_text : Option Line → List ℕ
answer_text (Some answer) = line_words answer ++ (10 ∷ [])
answer_text None = []

-- How a day ended of so many transactions, which drew from this number on, and the text for it: its summary, or where it stopped the answer.
abbrev pub DayEnds : (count start : ℕ) → List Entry → (text : List ℕ) → Type 0
DayEnds count start es text =
    ((counts : List ℕ) × DayReached (day count start) es [] counts × (text ≡ summary count (tally_of es).committed dumps counts)) ⊎ (Stops (day count start) es × (text ≡ answer_text (answer_of es)))
