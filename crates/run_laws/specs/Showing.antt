-- What the requests show that end a transaction or are one, line by line.
use Rattle.std.specs.Prelude.{◌≡◌, ◌⊎◌, ℕ, List, [], ◌∷◌, ◌++◌, true, Some}
use Rattle.std.specs.List.{AllByRecursion}
use Rattle.vms_model.specs.Ids.{Id}
use Rattle.vms_model.specs.Transactions.{Aborted, SyncFail}
use Rattle.run_said.specs.transcript_model.Lines as line
use Rattle.run_said.specs.transcript_model.Lines.{Line, Cause}
use Rattle.run_said.specs.script_model.Statements.{At, Direct, EndTrans, AbortTrans, Operation}
use Rattle.commit_protocol.specs.Messages as message
use Rattle.commit_protocol.specs.Messages.{Message, RmEvent}
use Rattle.run_said.specs.run_model.Operations.{is_change}
use Rattle.run_said.specs.run_model.Transcript.{Entry}
use Rattle.run_laws.specs.Naming.{IsNamed}
use Rattle.run_laws.specs.Causes.{HasJoined, WasBegun, WasEnded}
use Rattle.run_laws.specs.SaidLaws.{SaidThere}

-- At most one line is of the one kind, and all others are of the other kind.
abbrev pub OnceAmong : (P Q : Line → Type 0) → List Line → Type 0
OnceAmong P Q [] = Unit {0}
OnceAmong P Q (l ∷ ls) = (P l × OnceAmong P Q ls) ⊎ (Q l × AllByRecursion P ls)

-- The first line, if any, is of the one kind, and all behind it are of the other.
abbrev pub HeadedBy : (Q P : Line → Type 0) → List Line → Type 0
HeadedBy Q P [] = Unit {0}
HeadedBy Q P (l ∷ ls) = Q l × AllByRecursion P ls

-- A request showed lines that are so; or it showed such lines and then, last of all, that its node went down, and was answered that a failure ended it.
abbrev pub ShowsThese : (List Line → Type 0) → List ℕ → List Line → Line → Type 0
ShowsThese Shape node events answer = Shape events ⊎ ((xs : List Line) × (cause : Cause) × (events ≡ xs ++ line.Down node cause ∷ []) × (answer ≡ line.Broken cause) × Shape xs)

-- a message was sent, or was one too many
abbrev pub IsSending : Message → Line → Type 0
IsSending m l = ((number : ℕ) × (l ≡ line.Sent number m)) ⊎ (l ≡ line.Unsent m)

-- a branch is asked for its vote, or is told the outcome
abbrev pub IsOfEnding : message.Kind → Type 0
IsOfEnding message.Prepare = Unit {0}
IsOfEnding message.Commit = Unit {0}
IsOfEnding message.Abort = Unit {0}
IsOfEnding kind = ⊥

-- a line of such a message to a branch that joined this transaction; and of an Abort
abbrev pub IsToBranch : List Entry → Id → Line → Type 0
IsToBranch es tid l = (m : Message) × IsSending m l × IsOfEnding m.kind × (m.tid ≡ tid) × HasJoined es tid m.serial

abbrev pub IsAbortTo : List Entry → Id → Line → Type 0
IsAbortTo es tid l = (m : Message) × IsSending m l × (m.kind ≡ message.Abort) × (m.tid ≡ tid) × HasJoined es tid m.serial

-- that a transaction which was begun with this label was committed, or aborted since a branch is missing
abbrev pub IsItsEnd : List Entry → (node label : List ℕ) → Line → Type 0
IsItsEnd es node label l = (tid : Id) × (moment : ℕ) × WasBegun es node label tid × ((l ≡ line.Committed tid tid moment) ⊎ (l ≡ line.Aborted tid tid SyncFail moment))

-- a line of an event that is told to a resource manager of this branch
abbrev pub IsManagerEvent : RmEvent → (tid serial : Id) → Line → Type 0
IsManagerEvent event tid serial l = (rm : List ℕ) × (l ≡ line.ManagerTold event tid serial rm)

-- a message by which it ends to a branch that joined it, or an event for a resource manager of its first branch
abbrev pub IsToItsBranch : List Entry → (node label : List ℕ) → Line → Type 0
IsToItsBranch es node label l = (tid : Id) × WasBegun es node label tid × (IsToBranch es tid l ⊎ ((event : RmEvent) × IsManagerEvent event tid tid l))

-- An END_TRANS shows at most one settlement, of the transaction that was begun with its label, and besides only messages to branches that joined it, which ask for
-- their votes or tell the outcome, and events for resource managers of its first branch. So it shows the settlement alone where neither joined.
abbrev pub EndsShow : List Entry → Type 0
EndsShow es = (before : List Entry) (node label : List ℕ) (events : List Line) (answer : Line) → SaidThere es before (At node (EndTrans label)) events answer →
    ShowsThese (OnceAmong (IsToItsBranch before node label) (IsItsEnd before node label)) node events answer

-- what it shows that its label names: first that it is aborted, for that was asked
abbrev pub IsItsAbort : List Entry → (node label : List ℕ) → Line → Type 0
IsItsAbort es node label l = (tid : Id) × (serial : Id) × (moment : ℕ) × IsNamed es node label tid serial × (l ≡ line.Aborted tid serial Aborted moment)

-- then, of a transaction, Aborts to branches that joined it, and that it ended where END_TRANS had been answered that something was missing; of another branch, its No;
-- and of either, that it aborts, for its resource managers
abbrev pub IsBehindAbort : List Entry → (node label : List ℕ) → Line → Type 0
IsBehindAbort es node label l = (tid : Id) × (serial : Id) × IsNamed es node label tid serial
    × (((serial ≡ tid) × IsAbortTo es tid l) ⊎ ((serial ≡ tid) × WasEnded es tid × (l ≡ line.Ended tid (Some Aborted))) ⊎ ((m : Message) × IsSending m l × (m.kind ≡ message.No) × (m.serial ≡ serial) × (serial ≡ tid → ⊥)) ⊎ IsManagerEvent message.AbortEvent tid serial l)

-- An ABORT_TRANS shows first that what its label names is aborted.
abbrev pub AbortsShow : List Entry → Type 0
AbortsShow es = (before : List Entry) (node label : List ℕ) (events : List Line) (answer : Line) → SaidThere es before (At node (AbortTrans label)) events answer →
    ShowsThese (HeadedBy (IsItsAbort before node label) (IsBehindAbort before node label)) node events answer

-- A change without a label shows nothing, or that a transaction of its own is committed.
abbrev pub IsOneCommitment : List Line → Type 0
IsOneCommitment events = (events ≡ []) ⊎ ((tid : Id) × (moment : ℕ) × (events ≡ line.Committed tid tid moment ∷ []))

abbrev pub DirectsShow : List Entry → Type 0
DirectsShow es = (before : List Entry) (node file : List ℕ) (op : Operation) (events : List Line) (answer : Line) → SaidThere es before (At node (Direct file op)) events answer → is_change op ≡ true →
    ShowsThese IsOneCommitment node events answer
