-- The lines that the answers are by which a day may end.
use Rattle.emitter_model.specs.transcript_model.Lines as model
use Rattle.vms_base.specs.Ids.{serial_of}
use Rattle.transcript.specs.Forms.{cause_of, quota_of}
use Rattle.day_tally.specs.declared.answers.Answer.{Answer}
use Rattle.day_tally.specs.declared.answers.Answer.TheVariants as answer

abbrev pub answer_line : Answer → model.Line
answer_line answer.Normal = model.Normal
answer_line (answer.Count n) = model.NormalCount n
answer_line answer.NoSuchNode = model.NoSuchNode
answer_line answer.NodeDown = model.NodeDown
answer_line answer.NodeUp = model.NodeUp
answer_line (answer.NotInitializedAt node) = model.NotInitializedAt node
answer_line answer.FileNotFound = model.FileNotFound
answer_line (answer.FileLocked serial) = model.FileLocked (serial_of serial)
answer_line (answer.NoVolume node condition block) = model.NoVolume node condition block
answer_line (answer.QuotaExceeded quota limit) = model.QuotaExceeded (quota_of quota) limit
answer_line (answer.InDoubt serial node) = model.InDoubt (serial_of serial) node
answer_line answer.NoMemory = model.NoMemory
answer_line (answer.Broken cause) = model.Broken (cause_of cause)
