-- A veto of a resource manager aborts.
use Rattle.std.specs.Prelude.{◌≡◌, ℕ, List, Some}
use Rattle.vms_model.specs.Ids.{Id}
use Rattle.vms_model.specs.Transactions.{Abort, Commit as ToCommit, Vetoed}
use Rattle.run_said.specs.transcript_model.Lines as line
use Rattle.run_said.specs.transcript_model.Lines.{Line}
use Rattle.run_said.specs.script_model.Statements.{At, AckEvent, Named}
use Rattle.commit_protocol.specs.Messages.{Name, VetoReply}
use Rattle.commit_protocol.specs.Table.{Key, child}
use Rattle.commit_protocol.specs.World.{In}
use Rattle.run_said.specs.run_model.World.{World}
use Rattle.run_said.specs.run_model.Transcript.{Entry, InAllRuns}
use Rattle.run_agreement.specs.Seen.{Resolution}
use Rattle.run_agreement.specs.Laws.{HasOutcome, IsBranch, IsCommitted}
use Rattle.run_laws.specs.Agreed.{AgreedRun}
use Rattle.run_laws.specs.Causes.{Names}
use Rattle.run_laws.specs.Promises.{IsSettledSo}
use Rattle.run_laws.specs.SaidLaws.{SaidThere}

-- An ACK_EVENT that succeeded with a veto showed that the branch which it names is aborted for it, and it is so from then on and for good.
abbrev pub VetoesAbort : List Entry → World → Type 0
VetoesAbort es closing = (before : List Entry) (node : List ℕ) (who : Named) (rm : Name) (events : List Line) → SaidThere es before (At node (AckEvent who rm VetoReply)) events line.Normal →
    (tid : Id) × (serial : Id) × (moment : ℕ) × Names before who tid serial × (serial.node ≡ node) × In (line.Aborted tid serial Vetoed moment) events × IsSettledSo tid serial Abort (Some Vetoed) moment closing

abbrev pub VetoesHold : Type 0
VetoesHold = InAllRuns (λ opening es closing. VetoesAbort es closing)

-- Where the images agree with which a run begins, no branch of its transaction is committed then, whatever turns out of the acts under way: where the branch is the
-- first, or was told to be accepted.
abbrev pub VetoesHoldAll : World → List Entry → World → Type 0
VetoesHoldAll base es closing = (before : List Entry) (node : List ℕ) (who : Named) (rm : Name) (events : List Line) → SaidThere es before (At node (AckEvent who rm VetoReply)) events line.Normal →
    (tid : Id) × (serial : Id) × Names before who tid serial × ((r : Resolution) → IsBranch base closing (child tid serial) → ((j : Key) → j.tid ≡ tid → HasOutcome base r closing j ToCommit → ⊥) × (IsCommitted base r closing tid → ⊥))

abbrev pub VetoesEverywhere : Type 0
VetoesEverywhere = (base : World) (es since : List Entry) (closing : World) → AgreedRun base since closing → VetoesAbort es closing → VetoesHoldAll base es closing
