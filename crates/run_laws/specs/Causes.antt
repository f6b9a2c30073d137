-- What commits a branch, and what aborts one, as a statement and the entries before it tell.
use Rattle.std.specs.Prelude.{◌≡◌, ◌≤◌, ◌⊎◌, ℕ, ◌+◌, ◌*◌, List, [], ◌∷◌, ◌++◌, false, Option, Some, None, if◌then◌else◌}
use Rattle.std.specs.List.{last_or}
use Rattle.std.specs.Str.{bytes_eq}
use Rattle.vms_model.specs.Ids.{Id}
use Rattle.vms_model.specs.Transactions.{Outcome, Commit, Abort, Reason, Aborted, Vetoed, SyncFail, Timeout, CommFail, SegFail}
use Rattle.run_said.specs.transcript_model.Lines as line
use Rattle.run_said.specs.transcript_model.Lines.{Line}
use Rattle.run_said.specs.script_model.Statements.{Statement, At, Deliver, LinkDown, Settle, Reading, Says, AddBranch, Boot, Clock, StartTrans, StartBranch, Direct, EndTrans, AbortTrans, AckEvent, Named, ByLabel, BySerial, Operation}
use Rattle.run_said.specs.script_model.Grammar.{reading}
use Rattle.commit_protocol.specs.Messages as message
use Rattle.commit_protocol.specs.Messages.{Message, Reply, VetoReply}
use Rattle.commit_protocol.specs.Rows.{is_veto}
use Rattle.commit_protocol.specs.World.{In}
use Rattle.run_said.specs.run_model.Transcript.{Entry}
use Rattle.run_laws.specs.Naming.{ToldLabel, IsNamed, find_told, labels_told}
use Rattle.run_laws.specs.SaidLaws.{SaidThere}

-- What comes before.

-- a START_TRANS at this node made this label, and was answered with this transaction
abbrev pub WasBegun : List Entry → List ℕ → List ℕ → Id → Type 0
WasBegun es node label tid = (before : List Entry) × (seconds : Option ℕ) × SaidThere es before (At node (StartTrans label seconds)) [] (line.NormalId tid)

-- A branch of this transaction began: its first one by a START_TRANS, and another by a START_BRANCH at its node with a label that names the transaction.
abbrev pub HasBegun : List Entry → (tid serial : Id) → Type 0
HasBegun es tid serial =
    ((label : List ℕ) × (serial ≡ tid) × WasBegun es tid.node label tid)
    ⊎ ((before : List Entry) × (label : List ℕ) × (events : List Line) × (l : ToldLabel) × SaidThere es before (At serial.node (StartBranch label)) events (line.Pending (serial ∷ []) []) × (find_told label (labels_told before) ≡ Some l) × (l.tid ≡ tid))

-- an END_TRANS of this transaction was answered that votes are missing, or replies of resource managers
abbrev pub WasEnded : List Entry → Id → Type 0
WasEnded es tid = (before : List Entry) × (label : List ℕ) × (events : List Line) × (serials : List Id) × (rms : List (List ℕ)) × SaidThere es before (At tid.node (EndTrans label)) events (line.Pending serials rms) × WasBegun before tid.node label tid

-- this message was sent under this number
abbrev pub WasSent : List Entry → ℕ → Message → Type 0
WasSent es number m = (e : Entry) × In e es × In (line.Sent number m) e.lines

-- a branch was told to have joined this transaction
abbrev pub HasJoined : List Entry → (tid serial : Id) → Type 0
HasJoined es tid serial = (e : Entry) × In e es × In (line.Joined tid serial) e.lines

-- an ADD_BRANCH with a label of this transaction was answered with this identifier, by which a branch may join it
abbrev pub WasAuthorised : List Entry → (tid bid : Id) → Type 0
WasAuthorised es tid bid = (before : List Entry) × (label : List ℕ) × (other : List ℕ) × (new : List ℕ) × (l : ToldLabel) × SaidThere es before (At tid.node (AddBranch label other new)) [] (line.NormalId bid) × (find_told label (labels_told before) ≡ Some l) × (l.tid ≡ tid)

-- this statement delivers the Join of a branch that names this identifier
abbrev pub JoinsBy : List Entry → Statement → (tid serial bid : Id) → Type 0
JoinsBy es s tid serial bid = (number : ℕ) × (m : Message) × (s ≡ Deliver number) × WasSent es number m × (m.kind ≡ message.Join) × (m.tid ≡ tid) × (m.serial ≡ serial) × (m.bid ≡ Some bid)

-- An identifier was authorised for this transaction by which no branch joined it: each that was told to join it did so by another.
abbrev pub IsMissing : List Entry → Id → Type 0
IsMissing es tid = (bid : Id) × WasAuthorised es tid bid
    × ((before : List Entry) (s : Statement) (events : List Line) (answer : Line) (serial : Id) → SaidThere es before s events answer → In (line.Joined tid serial) events → (given : Id) × JoinsBy before s tid serial given × (given ≡ bid → ⊥))

-- a branch was told to have joined this transaction, at the delivery of its Join with this identifier
abbrev pub HasJoinedBy : List Entry → (tid bid : Id) → Type 0
HasJoinedBy es tid bid = (before : List Entry) × (s : Statement) × (events : List Line) × (answer : Line) × (serial : Id) × SaidThere es before s events answer × In (line.Joined tid serial) events × JoinsBy before s tid serial bid

-- None is missing: by each identifier that was authorised for it one joined this transaction.
abbrev pub IsWhole : List Entry → Id → Type 0
IsWhole es tid = (bid : Id) → WasAuthorised es tid bid → HasJoinedBy es tid bid

-- the clock of a node, which the last CLOCK of it set; at first it is 0
abbrev pub clock_here : List ℕ → Reading → Option Line → ℕ → ℕ
clock_here node (Says (At n (Clock now))) (Some line.Normal) clock = if bytes_eq node n then now else clock
clock_here node said answer clock = clock

abbrev pub clock_told : List ℕ → List Entry → ℕ
clock_told node [] = 0
clock_told node (e ∷ es) = clock_here node (reading e.source.text) (last_or None e.lines) (clock_told node es)

-- a transaction was begun with so many seconds that its time is over now
abbrev pub WasDue : List Entry → Id → (now : ℕ) → Type 0
WasDue es tid now = (before : List Entry) × (label : List ℕ) × (seconds : ℕ) × SaidThere es before (At tid.node (StartTrans label (Some seconds))) [] (line.NormalId tid) × (clock_told tid.node before + 100 * seconds ≤ now)

-- Deliveries.

-- a message of this kind is delivered to a branch of a transaction
abbrev pub DeliversTo : List Entry → Reading → message.Kind → (tid serial : Id) → Type 0
DeliversTo es said kind tid serial = (number : ℕ) × (m : Message) × (said ≡ Says (Deliver number)) × WasSent es number m × (m.kind ≡ kind) × (m.tid ≡ tid) × (m.serial ≡ serial)

-- so is one of a branch that joined, to its transaction
abbrev pub Votes : List Entry → Reading → message.Kind → (tid : Id) → Type 0
Votes es said kind tid = (serial : Id) × DeliversTo es said kind tid serial × HasJoined es tid serial

-- a settling asked for a branch, and was told this outcome, in the line before
abbrev pub WasAsked : Reading → (front : List Line) → (tid serial : Id) → Outcome → Type 0
WasAsked said front tid serial outcome = (said ≡ Says Settle) × (earlier : List Line) × (front ≡ earlier ++ line.Asked tid serial outcome ∷ [])

-- Replies of resource managers.

-- a label or a serial names a branch of this transaction at its node
abbrev pub Names : List Entry → Named → (tid serial : Id) → Type 0
Names es (ByLabel label) tid serial = IsNamed es serial.node label tid serial
Names es (BySerial named) tid serial = named ≡ serial

-- a resource manager replies so for this branch
abbrev pub Replies : List Entry → Reading → (tid serial : Id) → Reply → Type 0
Replies es said tid serial reply = (who : Named) × (rm : List ℕ) × (said ≡ Says (At serial.node (AckEvent who rm reply))) × Names es who tid serial

-- Causes.

-- What commits a branch, as the statement tells that shows it: an END_TRANS of its transaction where no branch is missing, or the last vote or the last reply that was
-- missing since then, for the first branch; for another, that it was told so.
abbrev pub CommitCause : List Entry → Reading → (front : List Line) → (tid serial : Id) → Type 0
CommitCause es said front tid serial =
    ((label : List ℕ) × (said ≡ Says (At tid.node (EndTrans label))) × WasBegun es tid.node label tid × (serial ≡ tid) × IsWhole es tid)
    ⊎ ((Votes es said message.Yes tid ⊎ Votes es said message.ReadOnly tid) × WasEnded es tid × (serial ≡ tid))
    ⊎ ((reply : Reply) × Replies es said tid serial reply × (is_veto reply ≡ false) × WasEnded es tid × (serial ≡ tid))
    ⊎ DeliversTo es said message.Commit tid serial
    ⊎ WasAsked said front tid serial Commit

-- a change without a label is a transaction of its own
abbrev pub IsDirect : Reading → (tid serial : Id) → Type 0
IsDirect said tid serial = (file : List ℕ) × (op : Operation) × (said ≡ Says (At serial.node (Direct file op))) × (serial ≡ tid)

-- a failed link to this node cuts a branch off: a branch joined its transaction from there, or its coordinator is there
abbrev pub IsCutOff : List Entry → (tid serial : Id) → (other : List ℕ) → Type 0
IsCutOff es tid serial other = ((serial ≡ tid) × (s : Id) × HasJoined es tid s × (s.node ≡ other)) ⊎ (tid.node ≡ other)

-- What aborts a branch for this reason: a request to abort it, or a delivered or heard Abort; a delivered No of a branch that joined, or a veto of a resource
-- manager; an END_TRANS where a branch is missing, or a delivered refusal to join; its node's clock, once its time is over; a link that failed between its node and one
-- that it needs; or a settling, or a boot of its node. A veto, a refusal to join and a link that failed abort only a branch that began.
abbrev pub AbortCause : List Entry → Reading → (front : List Line) → Reason → (tid serial : Id) → Type 0
AbortCause es said front Aborted tid serial =
    ((label : List ℕ) × (said ≡ Says (At serial.node (AbortTrans label))) × IsNamed es serial.node label tid serial) ⊎ DeliversTo es said message.Abort tid serial ⊎ WasAsked said front tid serial Abort
AbortCause es said front Vetoed tid serial = (Votes es said message.No tid × (serial ≡ tid)) ⊎ (Replies es said tid serial VetoReply × HasBegun es tid serial)
AbortCause es said front SyncFail tid serial =
    ((label : List ℕ) × (said ≡ Says (At serial.node (EndTrans label))) × WasBegun es serial.node label tid × (serial ≡ tid) × IsMissing es tid) ⊎ (DeliversTo es said message.JoinNo tid serial × HasBegun es tid serial)
AbortCause es said front Timeout tid serial = (now : ℕ) × (said ≡ Says (At serial.node (Clock now))) × WasDue es tid now × (serial ≡ tid)
AbortCause es said front CommFail tid serial = (a : List ℕ) × (b : List ℕ) × (said ≡ Says (LinkDown a b)) × HasBegun es tid serial × (((serial.node ≡ a) × IsCutOff es tid serial b) ⊎ ((serial.node ≡ b) × IsCutOff es tid serial a))
AbortCause es said front SegFail tid serial = (said ≡ Says Settle) ⊎ (said ≡ Says (At serial.node Boot))
