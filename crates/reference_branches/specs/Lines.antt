-- The lines that show branches.
use Rattle.std.specs.Prelude.{List, [], ◌∷◌, Option, Some, None}
use Rattle.reference_index.specs.transcript_model.Lines as line
use Rattle.commit_protocol.specs.Table.{Key}
use Rattle.reference_index.specs.run_model.World as world

-- a settlement as it is shown
abbrev pub settlement_line : world.Settlement → line.Line
settlement_line s = elim s.reason [ Some reason ↦ line.Aborted s.tid s.serial reason s.moment | None ↦ line.Committed s.tid s.serial s.moment ]

-- a prepared branch as it is shown
abbrev pub key_line : Key → line.Line
key_line k = line.Prepared k.tid k.serial

-- what END_TRANS is answered by the first of its lines that settles a branch
abbrev pub answer_shown : List line.Line → Option line.Line
answer_shown [] = None
answer_shown (line.Committed tid serial moment ∷ ls) = Some line.Normal
answer_shown (line.Aborted tid serial reason moment ∷ ls) = Some (line.TransactionAborted reason)
answer_shown (_ ∷ ls) = answer_shown ls

-- an answer, or else this
abbrev pub answer_else : Option line.Line → line.Line → line.Line
answer_else (Some answer) other = answer
answer_else None other = other
