-- What is counted of the lines of a transcript, where its text is not kept.
use Rattle.std.specs.Prelude.{ℕ, ◌+◌, ◌-◌, ◌^◌, List, [], ◌∷◌, Option, Some, None, if◌then◌else◌, min}
use Rattle.transcript_model.specs.commit_protocol.Messages.{same_id}
use Rattle.transcript_model.specs.Lines as line
use Rattle.transcript_model.specs.Lines.{Line}

-- the number of the last message that was sent, or 0 where none was; how many first branches were committed, up to the greatest number of 64 bits; and the last line,
-- where it may be the answer of a settling or of a dump, or a failure
pub record Tally : Type 0 where
  pub sent : ℕ
  pub committed : ℕ
  pub last : Option Line

-- no line was shown yet
abbrev pub nothing_tallied : Tally
nothing_tallied = record { sent = 0; committed = 0; last = None }

-- the number of the last message that was sent, behind a line
abbrev pub sent_behind : Line → ℕ → ℕ
sent_behind (line.Sent number m) before = number
sent_behind _ before = before

-- how many commits of a first branch a line shows: one, where the branch's serial is the id of its transaction
abbrev pub commits_in : Line → ℕ
commits_in (line.Committed tid serial moment) = if same_id tid serial then 1 else 0
commits_in _ = 0

-- a line, where a settling or a dump may be answered so, or where it tells a failure
abbrev pub closing_answer : Line → Option Line
closing_answer line.Normal = Some line.Normal
closing_answer (line.NormalCount n) = Some (line.NormalCount n)
closing_answer line.NoSuchNode = Some line.NoSuchNode
closing_answer line.NodeDown = Some line.NodeDown
closing_answer line.NodeUp = Some line.NodeUp
closing_answer (line.NotInitializedAt node) = Some (line.NotInitializedAt node)
closing_answer line.FileNotFound = Some line.FileNotFound
closing_answer (line.FileLocked serial) = Some (line.FileLocked serial)
closing_answer (line.NoVolume node condition block) = Some (line.NoVolume node condition block)
closing_answer (line.QuotaExceeded quota limit) = Some (line.QuotaExceeded quota limit)
closing_answer (line.InDoubt serial node) = Some (line.InDoubt serial node)
closing_answer line.NoMemory = Some line.NoMemory
closing_answer (line.Broken cause) = Some (line.Broken cause)
closing_answer _ = None

-- what is counted behind one line more
abbrev pub tallied : Line → Tally → Tally
tallied l t = record { sent = sent_behind l t.sent; committed = min (t.committed + commits_in l) (2 ^ 64 - 1); last = closing_answer l }

-- behind these lines
abbrev pub tallied_by : List Line → Tally → Tally
tallied_by [] t = t
tallied_by (l ∷ ls) t = tallied_by ls (tallied l t)
