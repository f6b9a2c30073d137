-- What is promised of a run besides where the images agree with which it begins.
use Rattle.std.specs.Prelude.{◌≡◌, ◌⊎◌, ℕ, List, [], ◌∷◌, ◌++◌, None}
use Rattle.vms_model.specs.Ids.{Id}
use Rattle.vms_model.specs.Transactions.{Commit as ToCommit, Abort as ToAbort}
use Rattle.run_said.specs.transcript_model.Lines.{Line, Ended, Normal}
use Rattle.run_said.specs.script_model.Statements.{At, EndTrans, Reading, Settle}
use Rattle.commit_protocol.specs.Table.{Key, first}
use Rattle.commit_protocol.specs.World.{In}
use Rattle.commit_protocol.specs.Opening.{IsAgreeing}
use Rattle.run_said.specs.run_model.World.{World}
use Rattle.run_said.specs.run_model.Statements.{Step}
use Rattle.run_said.specs.run_model.Transcript.{Entry, Legal}
use Rattle.run_agreement.specs.Seen.{Resolution}
use Rattle.run_agreement.specs.Laws.{EndsFor, HasOutcome, IsAtRest, IsBranch, IsCommitted, IsRun, next_opening}
use Rattle.run_laws.specs.Causes.{WasBegun, WasEnded}
use Rattle.run_laws.specs.Promises.{ShownThere}
use Rattle.run_laws.specs.SaidLaws.{SaidThere}

-- Each accepted branch of a committed transaction is committed or read-only, however the acts turn out that are under way.
abbrev pub AcceptedAreWhole : World → World → Type 0
AcceptedAreWhole base v = (r : Resolution) (k : Key) → IsBranch base v k → (k ≡ first k.tid → ⊥) → IsCommitted base r v k.tid → HasOutcome base r v k ToCommit ⊎ In k v.shared.read_only

-- From a base on entries lead to the closing world. However the acts turn out that are under way there: no transaction has a committed branch and an aborted one, and
-- no branch of a committed transaction is aborted, be it the first, one that was told to be accepted, or one that an image showed accepted; a branch that is committed is
-- of a committed transaction; and the images that are left agree again. Where each node is up and no branch is unsettled, each accepted branch of a committed
-- transaction is committed or read-only.
pub record AgreedRun (base : World) (since : List Entry) (closing : World) : Type 0 where
  pub is_run : IsRun base since closing
  pub alike : (r : Resolution) (k : Key) → IsBranch base closing k → HasOutcome base r closing k ToAbort →
      ((j : Key) → j.tid ≡ k.tid → HasOutcome base r closing j ToCommit → ⊥) × (IsCommitted base r closing k.tid → ⊥)
  pub committed : (r : Resolution) (k : Key) → HasOutcome base r closing k ToCommit → IsCommitted base r closing k.tid
  pub leaves : (r : Resolution) → IsAgreeing (next_opening base r closing)
  pub whole : IsAtRest closing → AcceptedAreWhole base closing

-- An END_TRANS that was answered with its success has committed the transaction of its label, whatever turns out of the acts under way.
abbrev pub EndsHoldAll : World → List Entry → World → Type 0
EndsHoldAll base es closing = (before : List Entry) (node label : List ℕ) (events : List Line) → SaidThere es before (At node (EndTrans label)) events Normal →
    (tid : Id) × WasBegun before node label tid × ((r : Resolution) → IsCommitted base r closing tid)

-- So has one that was answered that votes are missing, or replies, of which a line ENDED tells its success later.
abbrev pub EndedHoldAll : World → List Entry → World → Type 0
EndedHoldAll base es closing = (before : List Entry) (said : Reading) (front behind : List Line) (tid : Id) → ShownThere es before said front (Ended tid None) behind → WasEnded before tid × ((r : Resolution) → IsCommitted base r closing tid)

-- A SETTLE that was answered with its success left each node up and no branch unsettled, and each accepted branch of a transaction that is committed there was committed or
-- read-only; and it is answered so, or ends for a cause that its answer names, in the world that it leaves; a failure of a disk only where its count rose from the world
-- before that SETTLE to the one behind it.
abbrev pub SettlesWhole : World → World → List Entry → World → Type 0
SettlesWhole base opening es closing = (before : List Entry) (events : List Line) (answer : Line) → (there : SaidThere es before Settle events answer) →
    (w : World) × (v : World) × Legal opening before w × Step w Settle (events ++ answer ∷ []) v × Legal v there.after closing × (answer ≡ Normal → IsAtRest v × AcceptedAreWhole base v) × ((answer ≡ Normal) ⊎ EndsFor w v events answer)
