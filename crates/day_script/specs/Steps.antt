-- What a step stands for in the script of a day.
use Rattle.std.specs.Prelude.{ℕ, List, ◌∷◌, [], ◌++◌, decimal, codes}
use Rattle.day_model.specs.Pieces as model
use Rattle.day_model.specs.Pieces.{Piece, Words, quoted, six_digits}
use Rattle.day_script.specs.declared.steps.Side.{Side}
use Rattle.day_script.specs.declared.steps.Side.TheVariants as side
use Rattle.day_script.specs.declared.steps.File.{File}
use Rattle.day_script.specs.declared.steps.File.TheVariants as file
use Rattle.day_script.specs.declared.steps.Step.{Step}
use Rattle.day_script.specs.declared.steps.Step.TheVariants as step

abbrev pub side_of : Side → List ℕ
side_of side.A = codes "A"
side_of side.B = codes "B"

abbrev pub file_of : File → List ℕ
file_of file.S = codes "S"
file_of file.R = codes "R"
file_of file.I = codes "I"

-- the operands with which a file is made
abbrev pub form_of : File → List ℕ
form_of file.S = codes "S SEQ 4 200 200"
form_of file.R = codes "R REL 4 200 200"
form_of file.I = codes "I IDX 4 200 200 0 6"

-- the transaction of a number puts that number into a file
abbrev pub put_of : (number key : ℕ) → File → List ℕ
put_of i key file.S = codes "A: PUT T" ++ (decimal i ++ (codes " S " ++ quoted (six_digits i)))
put_of i key file.R = codes "A: PUT T" ++ (decimal i ++ (codes " R " ++ (decimal key ++ (32 ∷ quoted (six_digits i)))))
put_of i key file.I = codes "B: PUT U" ++ (decimal i ++ (codes " I " ++ quoted (six_digits i ++ (120 ∷ []))))

-- the piece that a step is, in the transaction of a number, which has this key
abbrev pub piece_of : (number key : ℕ) → Step → Piece
piece_of i key (step.Init s) = Words (side_of s ++ codes ": INIT")
piece_of i key (step.Boot s) = Words (side_of s ++ codes ": BOOT")
piece_of i key (step.Create s f) = Words (side_of s ++ (codes ": CREATE " ++ form_of f))
piece_of i key (step.Mark s f) = Words (side_of s ++ (codes ": SET_FILE " ++ (file_of f ++ codes " RU")))
piece_of i key step.StartTrans = Words (codes "A: START_TRANS T" ++ decimal i)
piece_of i key step.AddBranch = Words (codes "A: ADD_BRANCH T" ++ (decimal i ++ (codes " B U" ++ decimal i)))
piece_of i key step.StartBranch = Words (codes "B: START_BRANCH U" ++ decimal i)
piece_of i key step.Deliver = model.Deliver
piece_of i key (step.Put f) = Words (put_of i key f)
piece_of i key step.AbortTrans = Words (codes "A: ABORT_TRANS T" ++ decimal i)
piece_of i key (step.Crash s) = Words (codes "CRASH " ++ side_of s)
piece_of i key step.EndBranch = Words (codes "B: END_BRANCH U" ++ decimal i)
piece_of i key step.EndTrans = Words (codes "A: END_TRANS T" ++ decimal i)
piece_of i key step.Settle = model.Settle
piece_of i key (step.Dump s f) = model.Dump (side_of s) (file_of f)
