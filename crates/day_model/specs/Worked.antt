-- A worked day.
use Rattle.std.specs.Prelude.{◌≡◌, ◌+◌, [], ◌∷◌, codes, map}
use Rattle.day_model.specs.Draws.{next, below}
use Rattle.day_model.specs.Pieces.{day, words_of}

-- the first draw from 0 on is 12,345, which stands for the key 1; the second is 3,554,416,254, which stands for 6
abbrev pub FirstDayDraws : Type 0
FirstDayDraws = (next 0 ≡ 12345) × (below 200 12345 + 1 ≡ 1) × (next 12345 ≡ 3554416254) × (below 10 3554416254 ≡ 6)

-- the lines of that day, where each DELIVER stands for message 7
abbrev pub FirstDayIsWritten : Type 0
FirstDayIsWritten = map (words_of 7) (day 1 0) ≡
    codes "A: INIT"
    ∷ codes "B: INIT"
    ∷ codes "A: BOOT"
    ∷ codes "B: BOOT"
    ∷ codes "A: CREATE S SEQ 4 200 200"
    ∷ codes "A: CREATE R REL 4 200 200"
    ∷ codes "A: CREATE I IDX 4 200 200 0 6"
    ∷ codes "A: SET_FILE S RU"
    ∷ codes "A: SET_FILE R RU"
    ∷ codes "A: SET_FILE I RU"
    ∷ codes "B: CREATE S SEQ 4 200 200"
    ∷ codes "B: CREATE R REL 4 200 200"
    ∷ codes "B: CREATE I IDX 4 200 200 0 6"
    ∷ codes "B: SET_FILE S RU"
    ∷ codes "B: SET_FILE R RU"
    ∷ codes "B: SET_FILE I RU"
    ∷ codes "A: START_TRANS T1"
    ∷ codes "A: ADD_BRANCH T1 B U1"
    ∷ codes "B: START_BRANCH U1"
    ∷ codes "DELIVER 7"
    ∷ codes "DELIVER 7"
    ∷ codes "A: PUT T1 S \"000001\""
    ∷ codes "A: PUT T1 R 1 \"000001\""
    ∷ codes "B: PUT U1 I \"000001x\""
    ∷ codes "B: END_BRANCH U1"
    ∷ codes "A: END_TRANS T1"
    ∷ codes "DELIVER 7"
    ∷ codes "DELIVER 7"
    ∷ codes "DELIVER 7"
    ∷ codes "DELIVER 7"
    ∷ codes "SETTLE"
    ∷ codes "A: DUMP S"
    ∷ codes "A: DUMP R"
    ∷ codes "A: DUMP I"
    ∷ codes "B: DUMP S"
    ∷ codes "B: DUMP R"
    ∷ codes "B: DUMP I"
    ∷ []
