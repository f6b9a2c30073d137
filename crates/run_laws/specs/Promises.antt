-- What a run promises of its transcript, in the words of those who keep records in its files.
use Rattle.std.specs.Prelude.{◌≡◌, ℕ, ◌≤◌, ◌<◌, ◌⊎◌, List, [], ◌∷◌, ◌++◌, Bool, true, false, not, ◌&&◌, ◌||◌, Option, Some, None, if◌then◌else◌, map, length}
use Rattle.std.specs.List.{list_any}
use Rattle.std.specs.Option.{option_map}
use Rattle.std.specs.Str.{bytes_eq}
use Rattle.std.specs.FinMap.{entries}
use Rattle.vms_model.specs.Ids.{Id}
use Rattle.vms_model.specs.Transactions.{Outcome, Commit, Abort, Reason, Aborted, Vetoed, SyncFail, Timeout, CommFail, SegFail}
use Rattle.run_said.specs.transcript_model.Lines as line
use Rattle.run_said.specs.transcript_model.Lines.{Line, Cause}
use Rattle.run_said.specs.script_model.Statements.{Statement, At, Deliver, LinkDown, Settle, Reading, Says, Boot, Clock, Records, Direct, EndBranch, EndTrans, AbortTrans, AckEvent, Dump, Named, Operation}
use Rattle.run_said.specs.script_model.Grammar.{reading}
use Rattle.unit_laws.specs.records_model.Records as base
use Rattle.unit_laws.specs.records_model.History.{same_id}
use Rattle.unit_laws.specs.Journal.{RecoveryUnit, find_unit, units_in}
use Rattle.unit_laws.specs.JournalLaws.{is_unit}
use Rattle.commit_protocol.specs.Messages as message
use Rattle.commit_protocol.specs.Messages.{LogRecord, Message, Reply, VetoReply}
use Rattle.commit_protocol.specs.Rows.{is_veto}
use Rattle.commit_protocol.specs.Table.{Key as BranchKey, Settles}
use Rattle.commit_protocol.specs.World.{In}
use Rattle.run_said.specs.log_laws.Slots.{prepared_of, records_in}
use Rattle.run_said.specs.run_model.World.{World, Node, Settlement, Tables, find_node, prepared_left}
use Rattle.run_said.specs.run_model.Operations.{is_change}
use Rattle.run_said.specs.run_model.Answers.{last_lines}
use Rattle.run_said.specs.run_model.Statements.{RoseAt, Step}
use Rattle.run_said.specs.run_model.Transcript.{Entry, Legal, Turn}
use Rattle.run_laws.specs.Accounts.{Account, HasAccount, MayHave, account_behind, broken_id, committed_in, is_up_in, made_anew}
use Rattle.run_laws.specs.Naming.{IdsDiffer, IsNamed, ids_told}
use Rattle.run_laws.specs.Causes.{AbortCause, CommitCause, DeliversTo, HasBegun, HasJoined, IsDirect, IsMissing, IsWhole, Replies, WasAsked, WasBegun, WasEnded, WasSent}
use Rattle.run_laws.specs.SaidLaws.{SaidThere}
use Rattle.run_laws.specs.Showing.{AbortsShow, DirectsShow, EndsShow}

-- an entry of a transcript, between those after it and those before it, read so, and this line was shown for it, between those before and behind it
pub record ShownThere (es : List Entry) (before : List Entry) (said : Reading) (front : List Line) (this : Line) (behind : List Line) : Type 0 where
  pub after : List Entry
  pub entry : Entry
  pub stands : es ≡ after ++ entry ∷ before
  pub read : reading entry.source.text ≡ said
  pub shown : entry.lines ≡ front ++ this ∷ behind

-- Settlements.

-- the settlements of a node, the newest first
abbrev pub settlements_of : List ℕ → World → List Settlement
settlements_of node w = elim (find_node node w.nodes) [ Some n ↦ n.settled | None ↦ [] ]

-- a branch was settled so at its node, at this moment
abbrev pub IsSettledSo : (tid serial : Id) → Outcome → Option Reason → ℕ → World → Type 0
IsSettledSo tid serial outcome reason moment w = (s : Settlement) × In s (settlements_of serial.node w) × (s ≡ record { tid = tid; serial = serial; outcome = outcome; reason = reason; moment = moment })

-- no settlement of its node commits this branch
abbrev pub IsNeverCommitted : Id → World → Type 0
IsNeverCommitted serial w = (s : Settlement) → In s (settlements_of serial.node w) → s.serial ≡ serial → s.outcome ≡ Abort

-- how a commitment is settled, and how an abort
abbrev pub commitment : (tid serial : Id) → ℕ → Settlement
commitment tid serial moment = record { tid = tid; serial = serial; outcome = Commit; reason = None; moment = moment }

abbrev pub abort : (tid serial : Id) → Reason → ℕ → Settlement
abort tid serial reason moment = record { tid = tid; serial = serial; outcome = Abort; reason = Some reason; moment = moment }

-- the settlement that a line shows as the last of a disk, where it is such a line
abbrev pub last_in : Line → Option Settlement
last_in (line.LastCommitted tid serial moment) = Some (commitment tid serial moment)
last_in (line.LastAborted tid serial reason moment) = Some (abort tid serial reason moment)
last_in other = None

-- the settlement that a line shows in its statement
abbrev pub shown_in : Line → Option Settlement
shown_in (line.Committed tid serial moment) = Some (commitment tid serial moment)
shown_in (line.Aborted tid serial reason moment) = Some (abort tid serial reason moment)
shown_in other = None

-- the settlement that a line shows, in its statement or as the last of a disk: its transaction, branch, outcome, reason and moment
abbrev pub settlement_in : Line → Option Settlement
settlement_in (line.LastCommitted tid serial moment) = last_in (line.LastCommitted tid serial moment)
settlement_in (line.LastAborted tid serial reason moment) = last_in (line.LastAborted tid serial reason moment)
settlement_in other = shown_in other

-- a line of these entries shows it
abbrev pub IsShown : Settlement → List Entry → Type 0
IsShown s es = (e : Entry) × (l : Line) × In e es × In l e.lines × (settlement_in l ≡ Some s)

-- a line of these entries shows it in its statement, or one of these lines
abbrev pub WasShownSo : Settlement → List Entry → (front : List Line) → Type 0
WasShownSo s es front = ((e : Entry) × (l : Line) × In e es × In l e.lines × (shown_in l ≡ Some s)) ⊎ ((l : Line) × In l front × (shown_in l ≡ Some s))

-- whether a line shows that a branch is committed, be it as the last settlement of its disk; and whether one of these entries has such a line
abbrev pub is_commitment_of : Id → Line → Bool
is_commitment_of serial (line.Committed t s moment) = same_id serial s
is_commitment_of serial (line.LastCommitted t s moment) = same_id serial s
is_commitment_of serial other = false

abbrev pub is_shown_committed : Id → List Entry → Bool
is_shown_committed serial es = list_any (λ (e : Entry). list_any (is_commitment_of serial) e.lines) es

-- of settlements, the newest first, each comes at a later moment than all that are older
abbrev pub Descends : List Settlement → Type 0
Descends [] = Unit {0}
Descends (s ∷ ss) = ((t : Settlement) → In t ss → t.moment < s.moment) × Descends ss

-- no two settlements are of one branch
abbrev pub SettledOnce : List Settlement → Type 0
SettledOnce [] = Unit {0}
SettledOnce (s ∷ ss) = ((t : Settlement) → In t ss → t.serial ≡ s.serial → ⊥) × SettledOnce ss

-- By the statement alone: with which ones a reason may come.
abbrev pub ReasonFits : Reason → Reading → Type 0
ReasonFits Aborted said = ((node : List ℕ) × (label : List ℕ) × (said ≡ Says (At node (AbortTrans label)))) ⊎ ((number : ℕ) × (said ≡ Says (Deliver number))) ⊎ (said ≡ Says Settle)
ReasonFits Vetoed said = ((number : ℕ) × (said ≡ Says (Deliver number))) ⊎ ((node : List ℕ) × (who : Named) × (rm : List ℕ) × (said ≡ Says (At node (AckEvent who rm VetoReply))))
ReasonFits SyncFail said = ((node : List ℕ) × (label : List ℕ) × (said ≡ Says (At node (EndTrans label)))) ⊎ ((number : ℕ) × (said ≡ Says (Deliver number)))
ReasonFits Timeout said = (node : List ℕ) × (now : ℕ) × (said ≡ Says (At node (Clock now)))
ReasonFits CommFail said = (a : List ℕ) × (b : List ℕ) × (said ≡ Says (LinkDown a b))
ReasonFits SegFail said = (said ≡ Says Settle) ⊎ ((node : List ℕ) × (said ≡ Says (At node Boot)))

-- the node of this name at the opening, unless one of these entries made its volume anew
abbrev pub left_at : List ℕ → List Entry → World → Option Node
left_at node [] opening = find_node node opening.nodes
left_at node (e ∷ es) opening = if made_anew node (reading e.source.text) e.lines then None else left_at node es opening

-- this is the line of the last settlement that the disk of this node had at the opening, and none of these entries made its volume anew
abbrev pub WasLast : List ℕ → Line → World → List Entry → Type 0
WasLast node this opening es = (n : Node) × (left_at node es opening ≡ Some n) × (last_lines n ≡ this ∷ [])

-- A failure of the disk of this branch's node ended a statement that was to commit it, or a settling right behind the line that it is told so. The lines of the
-- statement need not tell it otherwise; what it asks for does.
abbrev pub WasEnding : List Entry → (tid serial : Id) → Type 0
WasEnding es tid serial = (before : List Entry) × (s : Statement) × (front : List Line) × (cause : Cause) × SaidThere es before s (front ++ line.Down serial.node cause ∷ []) (line.Broken cause) × CommitCause before (Says s) front tid serial

-- a failure of the disk ended a change without a label, which was to have this id
abbrev pub WasChanging : World → List Entry → Id → Type 0
WasChanging opening es serial = (before : List Entry) × (file : List ℕ) × (op : Operation) × (events : List Line) × (cause : Cause) × (w : World) ×
    SaidThere es before (At serial.node (Direct file op)) events (line.Broken cause) × (is_change op ≡ true) × Legal opening before w × (broken_id serial.node w ≡ Some serial)

-- it is the last of its node's disk, and the node is down
abbrev pub IsLastWhileDown : List ℕ → Settlement → World → Type 0
IsLastWhileDown node s w = (n : Node) × (find_node node w.nodes ≡ Some n) × (n.durable.last ≡ Some s) × (n.up ≡ false)

-- Boots.

-- Whether a line is one of a boot of this node, behind the moment at which it raised the boot count: the last settlement of its disk, a branch that it undid, one that
-- it found prepared, or that the node is up.
abbrev pub is_of_boot : List ℕ → Line → Bool
is_of_boot node (line.LastCommitted t s moment) = bytes_eq s.node node
is_of_boot node (line.LastAborted t s reason moment) = bytes_eq s.node node
is_of_boot node (line.Aborted t s reason moment) = bytes_eq s.node node
is_of_boot node (line.Prepared t s) = bytes_eq s.node node
is_of_boot node (line.Booted other count) = bytes_eq other node
is_of_boot node (line.NormalCount count) = true
is_of_boot node other = false

-- a BOOT of this node, or a settling, came past raising its boot count, as its lines tell
abbrev pub came_past : List ℕ → Reading → List Line → Bool
came_past node (Says (At n Boot)) lines = bytes_eq n node && list_any (is_of_boot node) lines
came_past node (Says Settle) lines = list_any (is_of_boot node) lines
came_past node reading lines = false

-- none of these entries did
abbrev pub NoneCamePast : List ℕ → List Entry → Type 0
NoneCamePast node [] = Unit {0}
NoneCamePast node (e ∷ es) = (came_past node (reading e.source.text) e.lines ≡ false) × NoneCamePast node es

-- a BOOT of this node succeeded, or a settling booted it
abbrev pub Boots : List ℕ → Statement → List Line → Line → Type 0
Boots node s shown answer = (count : ℕ) × (((s ≡ At node Boot) × (answer ≡ line.NormalCount count)) ⊎ ((s ≡ Settle) × In (line.Booted node count) shown))

-- Lines that were shown tell what became of a transaction: they show as the last settlement that its first branch is committed, and so it is for good; or they do
-- not, and it is never committed.
abbrev pub IsDecided : Id → List Line → World → Type 0
IsDecided tid shown closing =
    ((moment : ℕ) × In (line.LastCommitted tid tid moment) shown × IsSettledSo tid tid Commit None moment closing)
    ⊎ (IsNeverCommitted tid closing × ((moment : ℕ) → In (line.LastCommitted tid tid moment) shown → ⊥))

-- The promises.

-- an answer that a change of records is done, perhaps with a position
abbrev pub IsDoneAnswer : Line → Type 0
IsDoneAnswer answer = (answer ≡ line.RecordNormal) ⊎ ((position : ℕ) × (answer ≡ line.RecordPosition position))

-- these lines and this number are those of just these records, in the order of their keys
abbrev pub Shows : List Line → ℕ → base.Records → Type 0
Shows events count m = (events ≡ map (λ e. line.Record e.0 e.1) (entries m)) × (count ≡ length (entries m))

-- An END_TRANS that succeeded showed that the transaction which its label names is committed, and it is so from then on and for good; one that was answered with a
-- reason showed that it is aborted so.
abbrev pub EndsCommit : List Entry → World → Type 0
EndsCommit es closing = (before : List Entry) (node label : List ℕ) (events : List Line) → SaidThere es before (At node (EndTrans label)) events line.Normal →
    (tid : Id) × (moment : ℕ) × WasBegun before node label tid × (tid.node ≡ node) × In (line.Committed tid tid moment) events × IsSettledSo tid tid Commit None moment closing

abbrev pub EndsAbort : List Entry → World → Type 0
EndsAbort es closing = (before : List Entry) (node label : List ℕ) (events : List Line) (reason : Reason) → SaidThere es before (At node (EndTrans label)) events (line.TransactionAborted reason) →
    (tid : Id) × (moment : ℕ) × WasBegun before node label tid × (tid.node ≡ node) × (reason ≡ SyncFail) × In (line.Aborted tid tid reason moment) events × IsSettledSo tid tid Abort (Some reason) moment closing

-- It was answered so where a branch is missing: an identifier was authorised for the transaction that was aborted, by which none joined it.
abbrev pub FailsAreMissing : List Entry → Type 0
FailsAreMissing es = (before : List Entry) (node label : List ℕ) (events : List Line) (reason : Reason) → SaidThere es before (At node (EndTrans label)) events (line.TransactionAborted reason) →
    (tid : Id) × (moment : ℕ) × WasBegun before node label tid × In (line.Aborted tid tid reason moment) events × IsMissing before tid

-- One that was answered that votes are missing, or replies, found no branch missing: by each identifier that was authorised one had joined.
abbrev pub WaitsAreWhole : List Entry → Type 0
WaitsAreWhole es = (before : List Entry) (node label : List ℕ) (events : List Line) (serials : List Id) (rms : List (List ℕ)) → SaidThere es before (At node (EndTrans label)) events (line.Pending serials rms) →
    (tid : Id) × WasBegun before node label tid × IsWhole before tid

-- The answer names just the branches that joined the transaction, of all of which it waits for the votes; and where none did, it names a resource manager.
abbrev pub PendingIsExact : List Entry → Type 0
PendingIsExact es = (before : List Entry) (node label : List ℕ) (events : List Line) (serials : List Id) (rms : List (List ℕ)) → SaidThere es before (At node (EndTrans label)) events (line.Pending serials rms) →
    (tid : Id) × WasBegun before node label tid × ((serial : Id) → In serial serials → HasJoined before tid serial) × ((serial : Id) → HasJoined before tid serial → In serial serials) × (serials ≡ [] → rms ≡ [] → ⊥)

-- these lines show how a transaction ended, and it is so for good
abbrev pub EndsSo : Id → Option Reason → List Line → World → Type 0
EndsSo tid None lines closing = (moment : ℕ) × In (line.Committed tid tid moment) lines × IsSettledSo tid tid Commit None moment closing
EndsSo tid (Some reason) lines closing = (moment : ℕ) × In (line.Aborted tid tid reason moment) lines × IsSettledSo tid tid Abort (Some reason) moment closing

-- So did the line ENDED that comes later, behind the line of the settlement, where END_TRANS was answered that something was missing.
abbrev pub EndedSo : List Entry → World → Type 0
EndedSo es closing = (before : List Entry) (said : Reading) (front behind : List Line) (tid : Id) (ended : Option Reason) → ShownThere es before said front (line.Ended tid ended) behind → WasEnded before tid × EndsSo tid ended front closing

-- the line that shows how the first branch of a transaction is settled: for no reason where it is committed
abbrev pub ended_line : Id → Option Reason → ℕ → Line
ended_line tid None moment = line.Committed tid tid moment
ended_line tid (Some reason) moment = line.Aborted tid tid reason moment

-- a boot undoes it: a BOOT of its node, or a settling that boots the node
abbrev pub IsUndoneByBoot : Reading → (behind : List Line) → Id → Option Reason → Type 0
IsUndoneByBoot said behind tid ended = (ended ≡ Some SegFail) × ((said ≡ Says (At tid.node Boot)) ⊎ ((said ≡ Says Settle) × (count : ℕ) × In (line.Booted tid.node count) behind))

-- And where END_TRANS was answered so, ENDED comes, behind the line that shows how the first branch is settled and in its statement, unless a boot undoes the branch or
-- a failure puts its node down before.
abbrev pub EndedComes : List Entry → Type 0
EndedComes es = (before : List Entry) (said : Reading) (front behind : List Line) (tid : Id) (ended : Option Reason) (moment : ℕ) → ShownThere es before said front (ended_line tid ended moment) behind → WasEnded before tid →
    In (line.Ended tid ended) behind ⊎ (IsUndoneByBoot said behind tid ended ⊎ ((cause : Cause) × In (line.Down tid.node cause) behind))

-- An ABORT_TRANS that succeeded showed that the branch which its label names is aborted, for that was asked, and it is so from then on and for good.
abbrev pub AbortsAbort : List Entry → World → Type 0
AbortsAbort es closing = (before : List Entry) (node label : List ℕ) (events : List Line) → SaidThere es before (At node (AbortTrans label)) events line.Normal →
    (tid : Id) × (serial : Id) × (moment : ℕ) × IsNamed before node label tid serial × (serial.node ≡ node) × In (line.Aborted tid serial Aborted moment) events × IsSettledSo tid serial Abort (Some Aborted) moment closing

-- A change without a label that was done showed that a transaction of its own is committed, whose id no entry before told, and nothing besides; and it is so from
-- then on and for good.
abbrev pub DirectsCommit : List Entry → World → Type 0
DirectsCommit es closing = (before : List Entry) (node file : List ℕ) (op : Operation) (events : List Line) (answer : Line) → SaidThere es before (At node (Direct file op)) events answer → is_change op ≡ true → IsDoneAnswer answer →
    (tid : Id) × (moment : ℕ) × (tid.node ≡ node) × (In tid (ids_told before) → ⊥) × (events ≡ line.Committed tid tid moment ∷ []) × IsSettledSo tid tid Commit None moment closing

-- No id is told twice: each transaction, each identifier of a branch, each branch and each change without a label has one of its own.
abbrev pub IdsAreNew : List Entry → Type 0
IdsAreNew es = IdsDiffer (ids_told es)

-- The line of a commitment has a cause, and is so from then on and for good, also where the node goes down behind it; no restart undoes it.
abbrev pub CommitsAreKept : List Entry → World → Type 0
CommitsAreKept es closing = (before : List Entry) (said : Reading) (front behind : List Line) (tid serial : Id) (moment : ℕ) → ShownThere es before said front (line.Committed tid serial moment) behind →
    (CommitCause before said front tid serial ⊎ IsDirect said tid serial) × IsSettledSo tid serial Commit None moment closing

-- So has the line of an abort, by its reason.
abbrev pub AbortsAreKept : List Entry → World → Type 0
AbortsAreKept es closing = (before : List Entry) (said : Reading) (front behind : List Line) (tid serial : Id) (reason : Reason) (moment : ℕ) → ShownThere es before said front (line.Aborted tid serial reason moment) behind →
    AbortCause before said front reason tid serial × IsSettledSo tid serial Abort (Some reason) moment closing

-- An abort for a fall is of a branch that began before, or that stood unsettled at the opening: a unit of it that is not prepared stood in the journal of its node's disk.
abbrev pub WasLeft : (tid serial : Id) → World → Type 0
WasLeft tid serial opening = (n : Node) × (find_node serial.node opening.nodes ≡ Some n) × (u : RecoveryUnit) × (find_unit serial (units_in n.durable.units.entries) ≡ Some u) × (u.tid ≡ tid) × (u.prepared ≡ false)

abbrev pub FallsWereBegun : World → List Entry → Type 0
FallsWereBegun opening es = (before : List Entry) (said : Reading) (front behind : List Line) (tid serial : Id) (moment : ℕ) → ShownThere es before said front (line.Aborted tid serial SegFail moment) behind →
    HasBegun before tid serial ⊎ WasLeft tid serial opening

-- So is one that a boot shows as the last settlement of its disk, unless the disk had it so at the opening.
abbrev pub LastFallsWereBegun : World → List Entry → Type 0
LastFallsWereBegun opening es = (before : List Entry) (said : Reading) (front behind : List Line) (tid serial : Id) (moment : ℕ) → ShownThere es before said front (line.LastAborted tid serial SegFail moment) behind →
    HasBegun before tid serial ⊎ WasLeft tid serial opening ⊎ WasLast serial.node (line.LastAborted tid serial SegFail moment) opening before

-- The nodes that a statement may put down: a request its own, a link that fails one of its two, and a delivery the one that its message goes to. Of a settling nothing
-- is said here.
abbrev pub MayPutDown : List Entry → Reading → List ℕ → Type 0
MayPutDown es (Says (At here request)) node = node ≡ here
MayPutDown es (Says (LinkDown a b)) node = (node ≡ a) ⊎ (node ≡ b)
MayPutDown es (Says (Deliver number)) node = (m : Message) × WasSent es number m × (m.to ≡ node)
MayPutDown es said node = Unit {0}

-- A line shows that a node is down only where its disk failed in that statement, or was stopped: between whichever worlds the entries lead, one before the statement
-- and one behind it, the count of the cause rose at the node's disk; behind it the node is down; and it is one that the statement may put down.
abbrev pub DownsHaveCauses : World → List Entry → Type 0
DownsHaveCauses opening es = (before : List Entry) (said : Reading) (front behind : List Line) (node : List ℕ) (cause : Cause) → ShownThere es before said front (line.Down node cause) behind →
    (w v : World) → Legal opening before w → Turn w said (front ++ line.Down node cause ∷ behind) v → RoseAt w node cause v.disks × (option_map (λ n. n.up) (find_node node v.nodes) ≡ Some false) × MayPutDown before said node

-- A statement is answered that a disk failed, or was stopped, only where it showed last before that answer that a node is down for that cause.
abbrev pub FailuresShowDown : List Entry → Type 0
FailuresShowDown es = (before : List Entry) (s : Statement) (events : List Line) (cause : Cause) → SaidThere es before s events (line.Broken cause) →
    (node : List ℕ) × (front : List Line) × (events ≡ front ++ line.Down node cause ∷ [])

-- whether a statement continues where a disk fails in it: a clock that is set, and a link that fails
abbrev pub continues : Statement → Bool
continues (At node (Clock now)) = true
continues (LinkDown a b) = true
continues s = false

-- Any other that shows so that a node is down shows it last, and is answered with that failure: it never succeeds, and is not refused for another cause.
abbrev pub DownsEnd : List Entry → Type 0
DownsEnd es = (before : List Entry) (s : Statement) (events : List Line) (answer : Line) (node : List ℕ) (cause : Cause) → SaidThere es before s events answer → continues s ≡ false → In (line.Down node cause) events →
    (answer ≡ line.Broken cause) × ((front : List Line) × (events ≡ front ++ line.Down node cause ∷ []))

-- Branches that are prepared.

-- whether a branch is told to be prepared, once a line was shown: PREPARED tells it, until a line shows how the branch ended
abbrev pub prepared_here : Id → Line → Bool → Bool
prepared_here serial (line.Prepared t s) was = was || same_id serial s
prepared_here serial (line.Committed t s moment) was = was && not (same_id serial s)
prepared_here serial (line.Aborted t s reason moment) was = was && not (same_id serial s)
prepared_here serial (line.LastCommitted t s moment) was = was && not (same_id serial s)
prepared_here serial (line.LastAborted t s reason moment) was = was && not (same_id serial s)
prepared_here serial other was = was

-- and once these lines were
abbrev pub prepared_by : Id → List Line → Bool → Bool
prepared_by serial [] was = was
prepared_by serial (l ∷ ls) was = prepared_by serial ls (prepared_here serial l was)

-- whether the disk of its node tells it at the opening
abbrev pub is_left_prepared : Id → World → Bool
is_left_prepared serial opening = elim (find_node serial.node opening.nodes) [ Some n ↦ list_any (λ (r : LogRecord). same_id serial r.serial) (prepared_left n.durable) | None ↦ false ]

-- and whether these entries do: the disk at the opening and their lines, unless one of them made the volume of its node anew since
abbrev pub is_told_prepared : Id → World → List Entry → Bool
is_told_prepared serial opening [] = is_left_prepared serial opening
is_told_prepared serial opening (e ∷ es) = not (made_anew serial.node (reading e.source.text) e.lines) && prepared_by serial e.lines (is_told_prepared serial opening es)

-- a branch is told this outcome: by a message that is delivered, or in a settling
abbrev pub IsTold : List Entry → Reading → (front : List Line) → (tid serial : Id) → Outcome → Type 0
IsTold es said front tid serial Commit = DeliversTo es said message.Commit tid serial ⊎ WasAsked said front tid serial Commit
IsTold es said front tid serial Abort = DeliversTo es said message.Abort tid serial ⊎ WasAsked said front tid serial Abort

-- A branch that is prepared is settled only as it is told: no restart, no clock, no link and no request settles it.
abbrev pub PreparedAreTold : World → List Entry → Type 0
PreparedAreTold opening es = (before : List Entry) (said : Reading) (front behind : List Line) (this : Line) (s : Settlement) → ShownThere es before said front this behind → shown_in this ≡ Some s →
    prepared_by s.serial front (is_told_prepared s.serial opening before) ≡ true → IsTold before said front s.tid s.serial s.outcome

-- A branch that is not the first of its transaction is committed only where it is told to be prepared.
abbrev pub OthersWerePrepared : World → List Entry → Type 0
OthersWerePrepared opening es = (before : List Entry) (said : Reading) (front behind : List Line) (tid serial : Id) (moment : ℕ) → ShownThere es before said front (line.Committed tid serial moment) behind → (serial ≡ tid → ⊥) →
    prepared_by serial front (is_told_prepared serial opening before) ≡ true

-- What prepares a branch: a delivery of the message that asks for its vote, an END_BRANCH of it, or a reply of a resource manager that is no veto.
abbrev pub IsPreparing : List Entry → Statement → (tid serial : Id) → Type 0
IsPreparing es s tid serial = DeliversTo es (Says s) message.Prepare tid serial ⊎ ((label : List ℕ) × (s ≡ At serial.node (EndBranch label)) × IsNamed es serial.node label tid serial)
    ⊎ ((reply : Reply) × Replies es (Says s) tid serial reply × (is_veto reply ≡ false))

-- A branch is shown to be prepared only where that is so, or by a boot of its node, or in a settling.
abbrev pub VotesWereCaused : List Entry → Type 0
VotesWereCaused es = (before : List Entry) (said : Reading) (front behind : List Line) (tid serial : Id) → ShownThere es before said front (line.Prepared tid serial) behind →
    (said ≡ Says (At serial.node Boot)) ⊎ (said ≡ Says Settle) ⊎ ((s : Statement) × (said ≡ Says s) × IsPreparing before s tid serial)

-- One leaves as read-only only where it might have been prepared.
abbrev pub LeavesWereCaused : List Entry → Type 0
LeavesWereCaused es = (before : List Entry) (said : Reading) (front behind : List Line) (tid serial : Id) → ShownThere es before said front (line.ReadOnly tid serial) behind →
    (s : Statement) × (said ≡ Says s) × IsPreparing before s tid serial

-- it is shown to be prepared, or as the last settlement of its disk
abbrev pub ShowsPrepared : Id → List Line → Type 0
ShowsPrepared serial shown = ((tid : Id) × In (line.Prepared tid serial) shown) ⊎ ((l : Line) × (t : Settlement) × In l shown × (last_in l ≡ Some t) × (t.serial ≡ serial))

-- A failure cut short what was to prepare it.
abbrev pub WasPreparing : List Entry → (tid serial : Id) → Type 0
WasPreparing es tid serial = (before : List Entry) × (s : Statement) × (events : List Line) × (cause : Cause) × SaidThere es before s events (line.Broken cause) × IsPreparing before s tid serial

-- its disk had it as its last settlement at the opening
abbrev pub WasItsLast : Id → World → Type 0
WasItsLast serial opening = (n : Node) × (find_node serial.node opening.nodes ≡ Some n) × (s : Settlement) × (n.durable.last ≡ Some s) × (s.serial ≡ serial)

-- A boot that succeeded showed each branch of its node that was told to be prepared: it is prepared still, or it is the last that its disk settled. And it showed none
-- as prepared that was not told to be so, but where a failure cut short what was to prepare it, or the disk had it as its last settlement at the opening.
abbrev pub BootsShowPrepared : World → List Entry → Type 0
BootsShowPrepared opening es = (before : List Entry) (node : List ℕ) (s : Statement) (shown : List Line) (answer : Line) → SaidThere es before s shown answer → Boots node s shown answer → (serial : Id) → serial.node ≡ node →
    (is_told_prepared serial opening before ≡ true → ShowsPrepared serial shown)
    × ((tid : Id) → In (line.Prepared tid serial) shown → (is_told_prepared serial opening before ≡ true) ⊎ WasPreparing before tid serial ⊎ WasItsLast serial opening)

-- A branch that left as read-only has changed nothing: no change of records was done before with a label that named it then.
abbrev pub ReadOnlyChangedNothing : List Entry → Type 0
ReadOnlyChangedNothing es = (before : List Entry) (said : Reading) (front behind : List Line) (tid serial : Id) → ShownThere es before said front (line.ReadOnly tid serial) behind →
    (earlier : List Entry) (node label file : List ℕ) (op : Operation) (events : List Line) (answer : Line) → SaidThere before earlier (At node (Records label file op)) events answer → is_change op ≡ true → IsDoneAnswer answer → IsNamed earlier node label tid serial → ⊥

-- Where a failure ended an END_TRANS, the first later BOOT of its node, or settling, that comes past raising its boot count tells what became of the transaction
-- which its label names.
abbrev pub FailuresAreDecided : List Entry → World → Type 0
FailuresAreDecided es closing = (before : List Entry) (node label : List ℕ) (events : List Line) (cause : Cause) → (there : SaidThere es before (At node (EndTrans label)) events (line.Broken cause)) →
    (between : List Entry) (s : Statement) (shown : List Line) (answer : Line) → SaidThere there.after between s shown answer → came_past node (Says s) (shown ++ answer ∷ []) ≡ true → NoneCamePast node between →
    (tid : Id) × WasBegun before node label tid × IsDecided tid shown closing

-- A boot that succeeded decides each transaction that was begun at its node before: where a line has shown by then that its first branch is committed, it is so for
-- good, and else it never is.
abbrev pub RestartsDecide : List Entry → World → Type 0
RestartsDecide es closing = (before : List Entry) (node : List ℕ) (s : Statement) (shown : List Line) (answer : Line) → (there : SaidThere es before s shown answer) → Boots node s shown answer →
    (label : List ℕ) (tid : Id) → WasBegun before node label tid →
    ((is_shown_committed tid (there.entry ∷ before) ≡ true) × (moment : ℕ) × IsSettledSo tid tid Commit None moment closing)
    ⊎ ((is_shown_committed tid (there.entry ∷ before) ≡ false) × IsNeverCommitted tid closing)

-- Each settlement is of a branch of its node, and is shown as it is, in its statement or by a later boot as the last; but for the last of a node that is down, which
-- its next boot shows.
abbrev pub AllAreShown : List Entry → World → Type 0
AllAreShown es closing = (node : List ℕ) (s : Settlement) → In s (settlements_of node closing) → (s.serial.node ≡ node) × (IsShown s es ⊎ IsLastWhileDown node s closing)

-- The line of a last settlement is shown by a BOOT of its node, or by a settling. It is a settlement of that node, and is so from then on and for good; or the last
-- one that the disk had at the opening, where no INIT made its volume anew before. None of that node is later that was shown in its statement before.
abbrev pub LastsAreKept : World → List Entry → World → Type 0
LastsAreKept opening es closing = (before : List Entry) (said : Reading) (front behind : List Line) (this : Line) (s : Settlement) → ShownThere es before said front this behind → last_in this ≡ Some s →
    ((said ≡ Says (At s.serial.node Boot)) ⊎ (said ≡ Says Settle)) × (In s (settlements_of s.serial.node closing) ⊎ WasLast s.serial.node this opening before)
    × ((t : Settlement) → WasShownSo t before front → t.serial.node ≡ s.serial.node → t.moment ≤ s.moment)

-- A BOOT shows it before all else.
abbrev pub LastsFirst : List Entry → Type 0
LastsFirst es = (before : List Entry) (node : List ℕ) (front behind : List Line) (this : Line) (s : Settlement) → ShownThere es before (Says (At node Boot)) front this behind → last_in this ≡ Some s → front ≡ []

-- A boot that succeeded showed a last settlement of its node, where one of it was shown in its statement before.
abbrev pub BootsShowLast : List Entry → Type 0
BootsShowLast es = (before : List Entry) (node : List ℕ) (s : Statement) (shown : List Line) (answer : Line) → SaidThere es before s shown answer → Boots node s shown answer → (t : Settlement) → WasShownSo t before [] → t.serial.node ≡ node →
    (l : Line) × (x : Settlement) × In l shown × (last_in l ≡ Some x) × (x.serial.node ≡ node)

-- What a boot shows to be committed was asked for: it was shown before, or a failure ended the statement that was to commit it, or the change without a label that
-- was to make it; or the disk had it as its last at the opening.
abbrev pub LastsWereAsked : World → List Entry → Type 0
LastsWereAsked opening es = (before : List Entry) (said : Reading) (front behind : List Line) (tid serial : Id) (moment : ℕ) → ShownThere es before said front (line.LastCommitted tid serial moment) behind →
    WasLast serial.node (line.LastCommitted tid serial moment) opening before ⊎ IsShown (commitment tid serial moment) before ⊎ WasEnding before tid serial ⊎ WasChanging opening before serial

-- A failure of the disk of this branch's node came in a statement that was to abort it for this reason.
abbrev pub WasAborting : List Entry → Reason → (tid serial : Id) → Type 0
WasAborting es reason tid serial = (before : List Entry) × (said : Reading) × (front : List Line) × (behind : List Line) × (cause : Cause) × ShownThere es before said front (line.Down serial.node cause) behind × AbortCause before said front reason tid serial

-- What a boot shows to be aborted has its cause too: it was shown before, or a failure came in the statement that was to abort it; or the disk had it as its last at
-- the opening.
abbrev pub LastsWereCaused : World → List Entry → Type 0
LastsWereCaused opening es = (before : List Entry) (said : Reading) (front behind : List Line) (tid serial : Id) (reason : Reason) (moment : ℕ) → ShownThere es before said front (line.LastAborted tid serial reason moment) behind →
    WasLast serial.node (line.LastAborted tid serial reason moment) opening before ⊎ IsShown (abort tid serial reason moment) before ⊎ WasAborting before reason tid serial

-- What dumps show of records needs more of a run than its transcript: that no branch is committed whose abort was begun; so it is where the volumes agree with
-- which the run begins. And that no last settlement of a disk at the opening is of a
-- branch that stands unsettled there.

-- An abort that a fall found under way stands: its branch is never committed, whatever the entries lead to.
abbrev pub AbortsStand : World → List Entry → Type 0
AbortsStand opening es = (later after before : List Entry) (w closing : World) (n : Node) (k : BranchKey) (reason : Reason) (r : Option LogRecord) (moment : ℕ) →
    es ≡ later ++ (after ++ before) → Legal opening before w → Legal w after closing → find_node k.serial.node w.nodes ≡ Some n → n.under_way ≡ Some (Tables (Settles k Abort reason r) moment) → IsNeverCommitted k.serial closing

-- the last settlement that a disk has is of a branch that is no unit of its journal and has no prepared record in its log
abbrev pub IsLastApart : Node → Type 0
IsLastApart n = (s : Settlement) → n.durable.last ≡ Some s → (is_unit s.serial n.durable.units ≡ false) × ((r : LogRecord) → In r (prepared_of (records_in n.durable.log)) → r.serial ≡ s.serial → ⊥)

-- so it is of each node
abbrev pub AreLastApart : List Node → Type 0
AreLastApart [] = Unit {0}
AreLastApart (n ∷ ns) = IsLastApart n × AreLastApart ns

-- Each dump that succeeded showed just the records that the entries before it tell of the file, in the order of their keys, and their number, over all restarts:
-- what was committed is there, and nothing else is;
abbrev pub DumpsShow : World → List Entry → Type 0
DumpsShow opening es = (before : List Entry) (node file : List ℕ) (events : List Line) (count : ℕ) → SaidThere es before (At node (Dump file)) events (line.NormalCount count) →
    (mid : World) × (a : Account) × HasAccount node file opening before mid a × Shows events count a.records

-- and so by every path of worlds by which those entries lead to one in which the dump may show this.
abbrev pub DumpsShowByAll : World → List Entry → Type 0
DumpsShowByAll opening es = (before : List Entry) (node file : List ℕ) (events : List Line) (count : ℕ) → SaidThere es before (At node (Dump file)) events (line.NormalCount count) →
    (mid new : World) (a : Account) → HasAccount node file opening before mid a → Step mid (At node (Dump file)) (events ++ line.NormalCount count ∷ []) new → Shows events count a.records

-- A recovery in which the disk failed has happened whole or not at all. Behind each entry that leaves the node of a file up, the records that are committed of the file
-- are those that are told of it; or, where such a recovery is in doubt, just those that it was to give. So it is by every path of worlds by which these entries lead on.
abbrev pub RecoveriesAreWhole : World → List Entry → Type 0
RecoveriesAreWhole opening es = (later before : List Entry) (e : Entry) → es ≡ later ++ e ∷ before → (node file : List ℕ) (mid new closing : World) (a : Account) → HasAccount node file opening before mid a → Turn mid (reading e.source.text) e.lines new →
    Legal new later closing → is_up_in node new ≡ true → MayHave (account_behind node file before mid (reading e.source.text) e.lines a) (committed_in node file new)

-- What is kept by the entries of a legal transcript, which lead from the opening world to the closing one, whatever its volumes have.
pub record KeptPromises (opening : World) (es : List Entry) (closing : World) : Type 0 where
  -- Statements that end a transaction, and the lines that show how one ended.
  pub ends : EndsCommit es closing
  pub fails : EndsAbort es closing
  pub missing : FailsAreMissing es
  pub waits : WaitsAreWhole es
  pub pending : PendingIsExact es
  pub ended : EndedSo es closing
  pub ended_comes : EndedComes es
  pub aborts : AbortsAbort es closing
  pub directs : DirectsCommit es closing
  pub end_shows : EndsShow es
  pub abort_shows : AbortsShow es
  pub direct_shows : DirectsShow es
  pub new : IdsAreNew es
  pub commits : CommitsAreKept es closing
  pub undoes : AbortsAreKept es closing
  pub falls : FallsWereBegun opening es
  pub last_falls : LastFallsWereBegun opening es
  -- What becomes of a transaction where its node fails, and what a restart tells of it.
  pub interrupted : FailuresAreDecided es closing
  pub restarts : RestartsDecide es closing
  pub shown : AllAreShown es closing
  pub lasts : LastsAreKept opening es closing
  pub lasts_first : LastsFirst es
  pub show_last : BootsShowLast es
  pub asked : LastsWereAsked opening es
  pub caused : LastsWereCaused opening es
  -- A failure of a disk is shown only where the count of its cause rose, and ends its statement, but for CLOCK and LINKDOWN.
  pub downs : DownsHaveCauses opening es
  pub broken : FailuresShowDown es
  pub ending : DownsEnd es
  -- Branches that are prepared, and branches that changed nothing.
  pub prepared : PreparedAreTold opening es
  pub others : OthersWerePrepared opening es
  pub votes : VotesWereCaused es
  pub leaves : LeavesWereCaused es
  pub booted : BootsShowPrepared opening es
  pub read_only : ReadOnlyChangedNothing es
  -- No branch is settled twice, so none is both committed and aborted, and moments ascend.
  pub once : (node : List ℕ) → SettledOnce (settlements_of node closing) × Descends (settlements_of node closing)

-- and besides where aborts stand
pub record DumpPromises (opening : World) (es : List Entry) : Type 0 where
  pub shows : DumpsShow opening es
  pub by_all : DumpsShowByAll opening es
  pub recoveries : RecoveriesAreWhole opening es
