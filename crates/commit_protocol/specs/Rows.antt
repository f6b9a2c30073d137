-- The rows of the protocol table: what one node does at an event. Where no row speaks of an event, nothing happens.
use Rattle.std.specs.Prelude.{ℕ, ◌&&◌, ◌||◌, Bool, true, false, List, [], ◌∷◌, ◌++◌, Option, Some, None, if◌then◌else◌, not, nat_le}
use Rattle.std.specs.List.{list_any}
use Rattle.vms_model.specs.Ids.{Id}
use Rattle.vms_model.specs.Transactions.{Commit as ToCommit, Abort as ToAbort, Reason, Aborted, Vetoed, SyncFail, Timeout, CommFail, SegFail}
use Rattle.commit_protocol.specs.Messages.{Name, Kind, Join, JoinOk, JoinNo, Prepare, Yes, ReadOnly, No, Commit, Abort, Ack, Inquire, Message, RmEvent, PrepareEvent, CommitEvent, AbortEvent, OnePhaseEvent, Reply, ForgetReply, VetoReply, LogRecord, CommittedRecord, same_name, same_id}
use Rattle.commit_protocol.specs.Table.{Key, Branch, State, Joining, Active, Ending, Voting, Prepared, Child, Manager, Act, Notes, Accepts, Prepares, Settles, Leaves, Acknowledges, Releases, Sends, Prints, Started, Ended, Told, Tm, first, key_of, child, coordinator_of, home_of, is_first, find, find_serial, waits_for, holds, holding}

-- what a node is told: statements, a message, the clock, a lost link, and the run-down before a settling
pub data Event : Type 0 where
  Start : (tid : Id) (due : Option ℕ) → Event
  Authorise : (tid bid : Id) → Event
  Begin : (tid serial bid : Id) → Event
  JoinRm : (serial : Id) (rm : Name) → Event
  Changed : (serial : Id) → Event
  EndTrans : (tid : Id) → Event
  EndBranch : (serial : Id) → Event
  AbortBranch : (serial : Id) (reason : Reason) → Event
  Replied : (serial : Id) (rm : Name) (reply : Reply) → Event
  Got : (m : Message) → Event
  Clock : (now : ℕ) → Event
  LinkDown : (other : Name) → Event
  RunDown : Event
  InquireBranch : (serial : Id) → Event

-- a branch as it begins
abbrev pub blank : Id → Id → Option Id → State → Option ℕ → Branch
blank t s bid state due = record { key = child t s; bid = bid; state = state; changed = false; ended = false; asked = false; bids = []; accepted = []; managers = []; due = due }

-- a message of a branch
abbrev pub message : Kind → Name → Name → Key → Option Id → Message
message kind from to k bid = record { kind = kind; from = from; to = to; tid = k.tid; serial = k.serial; bid = bid }

-- a message to the branch's node, and one to its coordinator
abbrev pub down : Kind → Key → Message
down kind k = message kind (coordinator_of k) (home_of k) k None

-- a message of this kind from the branch to its coordinator
abbrev pub up : Kind → Key → Message
up kind k = message kind (home_of k) (coordinator_of k) k None

-- all these messages are sent
abbrev pub sends_all : List Message → List Act
sends_all [] = []
sends_all (m ∷ ms) = Sends m ∷ sends_all ms

-- the same message to each serial
abbrev pub to_each : Kind → Id → List Id → List Message
to_each kind t [] = []
to_each kind t (s ∷ ss) = down kind (child t s) ∷ to_each kind t ss

-- an event to each manager
abbrev pub tells : RmEvent → Key → List Name → List Act
tells e k [] = []
tells e k (x ∷ xs) = Prints (Told e k x) ∷ tells e k xs

-- the managers that joined, in order of joining
abbrev pub joined : List Manager → List Name
joined [] = []
joined (m ∷ ms) = m.rm ∷ joined ms

-- a manager that replied forget or veto hears of no abort
abbrev pub has_left : Option Reply → Bool
has_left (Some ForgetReply) = true
has_left (Some VetoReply) = true
has_left _ = false

-- the managers that hear of an abort, in order of joining
abbrev pub interested : List Manager → List Name
interested [] = []
interested (m ∷ ms) = if has_left m.reply then interested ms else m.rm ∷ interested ms

-- each manager is asked, and its reply is waited for
abbrev pub asks : RmEvent → List Manager → List Manager
asks e [] = []
asks e (m ∷ ms) = record m { event = Some e; reply = None } ∷ asks e ms

-- the vote is Yes
abbrev pub is_yes : Option Kind → Bool
is_yes (Some Yes) = true
is_yes _ = false

-- a vote is noted
abbrev pub is_noted : Option Kind → Bool
is_noted None = false
is_noted (Some k) = true

-- the accepted serials, and those of them that voted Yes, in order of acceptance
abbrev pub serials : List Child → List Id
serials [] = []
serials (c ∷ cs) = c.serial ∷ serials cs

-- the serials that voted Yes, in order of acceptance
abbrev pub yes_of : List Child → List Id
yes_of [] = []
yes_of (c ∷ cs) = if is_yes c.vote then c.serial ∷ yes_of cs else yes_of cs

-- each accepted serial has voted
abbrev pub all_voted : List Child → Bool
all_voted [] = true
all_voted (c ∷ cs) = is_noted c.vote && all_voted cs

-- a reply is noted
abbrev pub is_replied : Option Reply → Bool
is_replied None = false
is_replied (Some r) = true

-- each manager has replied
abbrev pub all_replied : List Manager → Bool
all_replied [] = true
all_replied (m ∷ ms) = is_replied m.reply && all_replied ms

-- one of the serials came by this identifier
abbrev pub has_bid : Id → List Child → Bool
has_bid bid cs = list_any (λ c. same_id c.bid bid) cs

-- this serial is among the accepted ones
abbrev pub has_serial : Id → List Child → Bool
has_serial s cs = list_any (λ c. same_id c.serial s) cs

-- the accepted serials but this one
abbrev pub others : Id → List Child → List Child
others s [] = []
others s (c ∷ cs) = if same_id c.serial s then others s cs else c ∷ others s cs

-- each identifier has a serial
abbrev pub all_taken : List Id → List Child → Bool
all_taken [] cs = true
all_taken (x ∷ xs) cs = has_bid x cs && all_taken xs cs

-- the identifier has this very serial
abbrev pub joined_as : Id → Id → List Child → Bool
joined_as bid s cs = list_any (λ c. same_id c.bid bid && same_id c.serial s) cs

-- END_TRANS was pending where the branch was ending: its outcome is shown
abbrev pub ended : Branch → State → Option Reason → List Act
ended b Ending reason = Prints (Ended b.key.tid reason) ∷ []
ended b _ reason = []

-- this message and the rest, but not where the vote is ReadOnly
abbrev pub unless_read_only : Option Kind → Message → List Message → List Message
unless_read_only (Some ReadOnly) m rest = rest
unless_read_only _ m rest = m ∷ rest

-- Abort to each of these serials that did not send ReadOnly
abbrev pub told_abort : Id → List Child → List Message
told_abort t [] = []
told_abort t (c ∷ cs) = unless_read_only c.vote (down Abort (child t c.serial)) (told_abort t cs)

-- The transaction is aborted: the first branch is settled, Abort goes to each accepted serial that sent neither ReadOnly nor No, managers hear of it,
-- and the outcome is shown where END_TRANS was pending.
abbrev pub aborts_telling : List Child → Reason → Branch → List Act
aborts_telling cs reason b = Settles b.key ToAbort reason None ∷ (sends_all (told_abort b.key.tid cs) ++ (tells AbortEvent b.key (interested b.managers) ++ ended b b.state (Some reason)))

-- the transaction is aborted, and each accepted serial may be told
abbrev pub aborts : Reason → Branch → List Act
aborts reason b = aborts_telling b.accepted reason b

-- another branch is aborted and sends no message
abbrev pub undone_quietly : Reason → Branch → List Act
undone_quietly reason b = Settles b.key ToAbort reason None ∷ tells AbortEvent b.key (interested b.managers)

-- a branch is aborted by its own node before it is prepared: it sends No
abbrev pub refuses : Reason → Branch → List Act
refuses reason b = Settles b.key ToAbort reason None ∷ (Sends (up No b.key) ∷ tells AbortEvent b.key (interested b.managers))

-- the committed record of a branch of which these serials and managers are still to hear, if any
abbrev pub owing : Key → List Id → List Name → Option LogRecord
owing k [] [] = None
owing k [] (x ∷ xs) = Some (record { kind = CommittedRecord; tid = k.tid; serial = k.serial; waiting = []; rms = x ∷ xs })
owing k (s ∷ ss) xs = Some (record { kind = CommittedRecord; tid = k.tid; serial = k.serial; waiting = s ∷ ss; rms = xs })

-- All votes are in: the first branch is committed, with a record of the serials that voted Yes and the managers that replied prepared; Commit to each of
-- these serials; the event COMMIT to each of these managers; and the outcome is shown where END_TRANS was pending.
abbrev pub commits : Branch → List Act → List Act
commits b shown = Settles b.key ToCommit Aborted (owing b.key (yes_of b.accepted) (holding b.managers)) ∷ (sends_all (to_each Commit b.key.tid (yes_of b.accepted)) ++ (tells CommitEvent b.key (holding b.managers) ++ shown))

-- the transaction is committed where no vote and no reply is missing
abbrev pub commits_if_all : Branch → List Act → List Act
commits_if_all b shown = if all_voted b.accepted && all_replied b.managers then commits b shown else []

-- A Join: the branch is accepted, or is answered again, or is refused.

-- the answer JoinNo
abbrev pub refuses_join : Message → List Act
refuses_join m = Sends (down JoinNo (key_of m)) ∷ []

-- the answer JoinOk
abbrev pub grants_join : Message → List Act
grants_join m = Sends (down JoinOk (key_of m)) ∷ []

-- a Join with an authorised identifier that no serial has; with one that this serial has; any other
abbrev pub join_state : Message → Branch → State → Option Id → List Act
join_state m b Active (Some bid) =
    if joined_as bid m.serial b.accepted then grants_join m
    else (if list_any (λ x. same_id x bid) b.bids && not (has_bid bid b.accepted)
    then Accepts b (record { bid = bid; serial = m.serial; vote = None }) ∷ grants_join m
    else refuses_join m)
join_state m b Ending (Some bid) = if joined_as bid m.serial b.accepted then grants_join m else refuses_join m
join_state m b _ _ = refuses_join m

-- a Join, at the first branch of its transaction
abbrev pub join_row : Message → Option Branch → List Act
join_row m None = refuses_join m
join_row m (Some b) = join_state m b b.state m.bid

-- the answer to a Join: the branch starts
abbrev pub join_ok_state : Branch → State → List Act
join_ok_state b Joining = Notes (record b { state = Active }) ∷ (Prints (Started b.key) ∷ [])
join_ok_state b _ = []

-- JoinOk, at the branch
abbrev pub join_ok_row : Option Branch → List Act
join_ok_row None = []
join_ok_row (Some b) = join_ok_state b b.state

-- a refused Join aborts the branch, which sends no message
abbrev pub join_no_state : Branch → State → List Act
join_no_state b Joining = undone_quietly SyncFail b
join_no_state b Active = undone_quietly SyncFail b
join_no_state b Voting = undone_quietly SyncFail b
join_no_state b _ = []

-- JoinNo, at the branch
abbrev pub join_no_row : Option Branch → List Act
join_no_row None = []
join_no_row (Some b) = join_no_state b b.state

-- END_TRANS of an active transaction. Where an identifier has no serial, it is aborted. Else it is ending: one phase serves where no serial was accepted,
-- nothing was changed and one manager joined; else Prepare goes to each accepted serial, and the event PREPARE to each manager. With none of both it is
-- committed at once.

-- what managers are told at END_TRANS: one phase serves where nothing was changed or accepted and one manager joined
abbrev pub which_event : Bool → List Child → List Manager → RmEvent
which_event false [] (m ∷ []) = OnePhaseEvent
which_event _ _ _ = PrepareEvent

-- the first branch as it is when it begins to end
abbrev pub ending : Branch → Branch
ending b = record b { state = Ending; managers = asks (which_event b.changed b.accepted b.managers) b.managers }

-- the transaction begins to end
abbrev pub begins_ending : Branch → List Act
begins_ending b = Notes (ending b) ∷ (sends_all (to_each Prepare b.key.tid (serials b.accepted)) ++ (tells (which_event b.changed b.accepted b.managers) b.key (joined b.managers) ++ commits_if_all (ending b) []))

-- END_TRANS, by the state of the first branch
abbrev pub end_trans_state : Branch → State → List Act
end_trans_state b Active = if all_taken b.bids b.accepted then begins_ending b else aborts SyncFail b
end_trans_state b _ = []

-- END_TRANS
abbrev pub end_trans_row : Option Branch → List Act
end_trans_row None = []
end_trans_row (Some b) = end_trans_state b b.state

-- An abort of an undecided transaction, or of another branch that is not prepared.

-- a branch that is not prepared is aborted: of a first branch the transaction is
abbrev pub abort_running : Reason → Branch → List Act
abort_running reason b = if is_first b then aborts reason b else refuses reason b

-- a prepared branch is not aborted so
abbrev pub abort_by_state : Reason → Branch → State → List Act
abort_by_state reason b Prepared = []
abort_by_state reason b _ = abort_running reason b

-- an abort of the branch for this reason
abbrev pub abort_branch_row : Reason → Option Branch → List Act
abort_branch_row reason None = []
abort_branch_row reason (Some b) = abort_by_state reason b b.state

-- a further branch is authorised
abbrev pub authorise_state : Id → Branch → State → List Act
authorise_state bid b Active = Notes (record b { bids = b.bids ++ bid ∷ [] }) ∷ []
authorise_state bid b _ = []

-- ADD_BRANCH, at the first branch
abbrev pub authorise_row : Id → Option Branch → List Act
authorise_row bid None = []
authorise_row bid (Some b) = authorise_state bid b b.state

-- A vote of an accepted serial that has none: it is noted, and when none is missing the transaction is committed.

-- it is this serial, and its vote is not noted
abbrev pub lacks_vote : Id → Child → Bool
lacks_vote s c = same_id c.serial s && not (is_noted c.vote)

-- the vote is noted of the first that lacks it
abbrev pub note_vote : Id → Kind → List Child → List Child
note_vote s v [] = []
note_vote s v (c ∷ cs) = if lacks_vote s c then record c { vote = Some v } ∷ cs else c ∷ note_vote s v cs

-- the first branch with that vote noted
abbrev pub with_vote : Id → Kind → Branch → Branch
with_vote s v b = record b { accepted = note_vote s v b.accepted }

-- a vote, by the state of the first branch
abbrev pub vote_state : Id → Kind → Branch → State → List Act
vote_state s v b Ending =
    if list_any (λ c. lacks_vote s c) b.accepted
    then Notes (with_vote s v b) ∷ commits_if_all (with_vote s v b) (ended b b.state None)
    else []
vote_state s v b _ = []

-- a vote of this serial, at the first branch
abbrev pub vote_row : Id → Kind → Option Branch → List Act
vote_row s v None = []
vote_row s v (Some b) = vote_state s v b b.state

-- a No of an accepted serial aborts an undecided transaction; that serial is sent no Abort
abbrev pub refused : Id → Branch → List Act
refused s b = if has_serial s b.accepted then aborts_telling (others s b.accepted) Vetoed b else []

-- a No, by the state of the first branch
abbrev pub no_state : Id → Branch → State → List Act
no_state s b Active = refused s b
no_state s b Ending = refused s b
no_state s b _ = []

-- a No of this serial, at the first branch
abbrev pub no_row : Id → Option Branch → List Act
no_row s None = []
no_row s (Some b) = no_state s b b.state

-- an Ack of a serial that a committed record waits for
abbrev pub ack_row : Key → List LogRecord → List Act
ack_row k rs = if list_any (λ r. waits_for k r) rs then Acknowledges k ∷ [] else []

-- An Inquire: Commit where a committed record of the transaction stands, nothing while it is undecided, else Abort. A coordinator without a record
-- presumes abort.

-- the answer where the first branch is there
abbrev pub answer_state : Message → Branch → State → List Act
answer_state m b Prepared = Sends (down Abort (key_of m)) ∷ []
answer_state m b _ = []

-- the answer where no record stands
abbrev pub answer : Message → Option Branch → List Act
answer m None = Sends (down Abort (key_of m)) ∷ []
answer m (Some b) = answer_state m b b.state

-- an Inquire, at the coordinator
abbrev pub inquire_row : Message → Option Branch → List LogRecord → List Act
inquire_row m found rs = if list_any (λ r. same_id r.tid m.tid) rs then Sends (down Commit (key_of m)) ∷ [] else answer m found

-- The vote of a branch: without a change and without a manager that replied prepared it is read-only, and the branch is not there any more; else the
-- branch is prepared and votes Yes.

-- there is no such manager
abbrev pub is_empty : List Name → Bool
is_empty [] = true
is_empty (x ∷ xs) = false

-- the branch votes
abbrev pub casts : Branch → List Act
casts b = if b.changed || not (is_empty (holding b.managers)) then Prepares b ∷ (Sends (up Yes b.key) ∷ []) else Leaves b.key ∷ (Sends (up ReadOnly b.key) ∷ [])

-- the branch votes where no reply is missing
abbrev pub casts_if_all : Branch → List Act
casts_if_all b = if all_replied b.managers then casts b else []

-- a branch that is ended and asked: its managers are asked, and when all have replied, or where there are none, it votes
abbrev pub voting : Branch → Branch
voting b = record b { state = Voting; managers = asks PrepareEvent b.managers }

-- the branch comes to its vote
abbrev pub begins_vote : Branch → List Act
begins_vote b = Notes (voting b) ∷ (tells PrepareEvent b.key (joined b.managers) ++ casts_if_all (voting b))

-- A Prepare: a joining branch starts first; an active one is asked, and votes where it is ended too. A prepared branch votes Yes again. A branch that is
-- not there votes No.

-- the branch as it is when it was asked
abbrev pub asked_branch : Branch → Branch
asked_branch b = record b { state = Active; asked = true }

-- it comes to its vote where it is ended too
abbrev pub votes_if_ended : Branch → List Act
votes_if_ended b = if b.ended then begins_vote (asked_branch b) else []

-- a Prepare, by the state of the branch
abbrev pub prepare_state : Branch → State → List Act
prepare_state b Joining = Notes (asked_branch b) ∷ (Prints (Started b.key) ∷ votes_if_ended b)
prepare_state b Active = Notes (asked_branch b) ∷ votes_if_ended b
prepare_state b Prepared = Sends (up Yes b.key) ∷ []
prepare_state b _ = []

-- a Prepare, at the branch
abbrev pub prepare_row : Message → Option Branch → List Act
prepare_row m None = Sends (up No (key_of m)) ∷ []
prepare_row m (Some b) = prepare_state b b.state

-- END_BRANCH: the branch votes where it was asked
abbrev pub ended_branch : Branch → Branch
ended_branch b = record b { ended = true }

-- END_BRANCH, by the state of the branch
abbrev pub end_branch_state : Branch → State → List Act
end_branch_state b Active = Notes (ended_branch b) ∷ (if b.asked then begins_vote (ended_branch b) else [])
end_branch_state b _ = []

-- END_BRANCH
abbrev pub end_branch_row : Option Branch → List Act
end_branch_row None = []
end_branch_row (Some b) = end_branch_state b b.state

-- A Commit: a prepared branch is committed, with a committed record where managers replied prepared; then Ack, and the event COMMIT to these managers. A
-- branch that is not there sends Ack again.

-- a Commit, by the state of the branch
abbrev pub commit_state : Branch → State → List Act
commit_state b Prepared = Settles b.key ToCommit Aborted (owing b.key [] (holding b.managers)) ∷ (Sends (up Ack b.key) ∷ tells CommitEvent b.key (holding b.managers))
commit_state b _ = []

-- a Commit, at the branch
abbrev pub commit_row : Message → Option Branch → List Act
commit_row m None = Sends (up Ack (key_of m)) ∷ []
commit_row m (Some b) = commit_state b b.state

-- an Abort: the branch is aborted, prepared or not, and sends no message
abbrev pub abort_state : Branch → State → List Act
abort_state b Ending = []
abort_state b _ = undone_quietly Aborted b

-- an Abort, at the branch
abbrev pub abort_row : Option Branch → List Act
abort_row None = []
abort_row (Some b) = abort_state b b.state

-- A manager's reply. To an event that it waits for it is noted, and counts as a vote; a veto aborts. Of a committed record that waits for the manager, the
-- reply forget takes it out.

-- the reply is noted of the first manager of this name, and no event waits for it any more
abbrev pub note_reply : Name → Reply → List Manager → List Manager
note_reply x r [] = []
note_reply x r (m ∷ ms) = if same_name m.rm x then record m { event = None; reply = Some r } ∷ ms else m ∷ note_reply x r ms

-- the branch with that reply noted
abbrev pub with_reply : Name → Reply → Branch → Branch
with_reply x r b = record b { managers = note_reply x r b.managers }

-- the reply is a veto
abbrev pub is_veto : Reply → Bool
is_veto VetoReply = true
is_veto _ = false

-- the reply is forget
abbrev pub is_forget : Reply → Bool
is_forget ForgetReply = true
is_forget _ = false

-- a reply to an event of the first branch
abbrev pub first_reply : Name → Reply → Branch → List Act
first_reply x r b = if is_veto r then aborts Vetoed (with_reply x r b) else Notes (with_reply x r b) ∷ commits_if_all (with_reply x r b) (ended b b.state None)

-- a reply to an event of another branch
abbrev pub branch_reply : Name → Reply → Branch → List Act
branch_reply x r b = if is_veto r then refuses Vetoed (with_reply x r b) else Notes (with_reply x r b) ∷ casts_if_all (with_reply x r b)

-- a reply, by the state of the branch
abbrev pub reply_state : Name → Reply → Branch → State → List Act
reply_state x r b Ending = if is_first b then first_reply x r b else []
reply_state x r b Voting = if b.asked then branch_reply x r b else []
reply_state x r b _ = []

-- a reply: of an unsettled branch with this serial, or else of a committed record
abbrev pub reply_row : Id → Name → Reply → Option Branch → List LogRecord → List Act
reply_row s x r None rs = if is_forget r && list_any (λ q. holds s x q) rs then Releases s x ∷ [] else []
reply_row s x r (Some b) rs = reply_state x r b b.state

-- an active branch notes a change, or a manager that joins
abbrev pub note_state : (Branch → Branch) → Branch → State → List Act
note_state f b Active = Notes (f b) ∷ []
note_state f b _ = []

-- the branch notes it where it is active
abbrev pub note_row : (Branch → Branch) → Option Branch → List Act
note_row f None = []
note_row f (Some b) = note_state f b b.state

-- the branch has changed something
abbrev pub has_changed : Branch → Branch
has_changed b = record b { changed = true }

-- the manager has joined the branch
abbrev pub with_manager : Name → Branch → Branch
with_manager x b = record b { managers = b.managers ++ record { rm = x; event = None; reply = None } ∷ [] }

-- a prepared branch asks its coordinator
abbrev pub asks_state : Branch → State → List Act
asks_state b Prepared = Sends (up Inquire b.key) ∷ []
asks_state b _ = []

-- INQUIRE, at the branch
abbrev pub asks_row : Option Branch → List Act
asks_row None = []
asks_row (Some b) = asks_state b b.state

-- Several branches are aborted, in order of start: each that is chosen, of those that stand there at the start.

-- the branch is aborted where it is chosen
abbrev pub aborted_if : Bool → Reason → Branch → List Act
aborted_if true reason b = abort_by_state reason b b.state
aborted_if false reason b = []

-- each chosen one of these branches is aborted, in order of start
abbrev pub sweep : Reason → (Branch → Bool) → List Branch → List Act
sweep reason chosen [] = []
sweep reason chosen (b ∷ bs) = aborted_if (chosen b) reason b ++ sweep reason chosen bs

-- there is a time, and it is over
abbrev pub is_late : ℕ → Option ℕ → Bool
is_late now None = false
is_late now (Some due) = nat_le due now

-- an undecided transaction whose time is over
abbrev pub is_due : ℕ → Branch → Bool
is_due now b = is_first b && is_late now b.due

-- an undecided transaction with an accepted branch at the other node that has not voted
abbrev pub is_cut_off : Name → Branch → Bool
is_cut_off x b = is_first b && list_any (λ c. same_name c.serial.node x && not (is_noted c.vote)) b.accepted

-- another branch, whose coordinator is that node
abbrev pub is_under : Name → Branch → Bool
is_under x b = not (is_first b) && same_name (coordinator_of b.key) x

-- a branch that is no first branch
abbrev pub is_other : Branch → Bool
is_other b = not (is_first b)

-- a message, by its kind
abbrev pub got : Tm → Message → Kind → List Act
got tm m Join = join_row m (find (first m.tid) tm.table)
got tm m JoinOk = join_ok_row (find (key_of m) tm.table)
got tm m JoinNo = join_no_row (find (key_of m) tm.table)
got tm m Prepare = prepare_row m (find (key_of m) tm.table)
got tm m Yes = vote_row m.serial Yes (find (first m.tid) tm.table)
got tm m ReadOnly = vote_row m.serial ReadOnly (find (first m.tid) tm.table)
got tm m No = no_row m.serial (find (first m.tid) tm.table)
got tm m Commit = commit_row m (find (key_of m) tm.table)
got tm m Abort = abort_row (find (key_of m) tm.table)
got tm m Ack = ack_row (key_of m) tm.records
got tm m Inquire = inquire_row m (find (first m.tid) tm.table) tm.records

-- what the node does at an event
abbrev pub row : Tm → Event → List Act
row tm (Start t due) = Notes (blank t t None Active due) ∷ []
row tm (Authorise t bid) = authorise_row bid (find (first t) tm.table)
row tm (Begin t s bid) = Notes (blank t s (Some bid) Joining None) ∷ (Sends (message Join (home_of (child t s)) (coordinator_of (child t s)) (child t s) (Some bid)) ∷ [])
row tm (JoinRm s x) = note_row (with_manager x) (find_serial s tm.table)
row tm (Changed s) = note_row has_changed (find_serial s tm.table)
row tm (EndTrans t) = end_trans_row (find (first t) tm.table)
row tm (EndBranch s) = end_branch_row (find_serial s tm.table)
row tm (AbortBranch s reason) = abort_branch_row reason (find_serial s tm.table)
row tm (Replied s x r) = reply_row s x r (find_serial s tm.table) tm.records
row tm (Got m) = got tm m m.kind
row tm (Clock now) = sweep Timeout (is_due now) tm.table
row tm (LinkDown x) = sweep CommFail (is_cut_off x) tm.table ++ sweep CommFail (is_under x) tm.table
row tm RunDown = sweep SegFail is_first tm.table ++ sweep SegFail is_other tm.table
row tm (InquireBranch s) = asks_row (find_serial s tm.table)
