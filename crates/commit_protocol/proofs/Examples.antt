-- Worked runs of one node each, event by event: what it hands on, in order.
use Rattle.std.specs.Prelude.{◌≡◌, refl, ℕ, Bool, true, false, List, [], ◌∷◌, Some, None}
use Rattle.vms_model.specs.Ids.{Id}
use Rattle.vms_model.specs.Transactions.{Commit as ToCommit, Abort as ToAbort, Aborted, Vetoed, SyncFail, Timeout, CommFail, SegFail}
use Rattle.commit_protocol.specs.Messages.{Name, Kind, Join, JoinOk, JoinNo, Prepare, Yes, ReadOnly, No, Commit, Abort, Ack, Inquire, Message, PrepareEvent, CommitEvent, AbortEvent, OnePhaseEvent, PreparedReply, ForgetReply, VetoReply, RememberReply, NormalReply, LogRecord, CommittedRecord, PreparedRecord, same_name, same_id}
use Rattle.commit_protocol.specs.Table.{Tm, restarted, after, same_key}
use Rattle.commit_protocol.specs.Rows.{Event, Start, Authorise, Begin, JoinRm, Changed, EndTrans, EndBranch, AbortBranch, Replied, Got, Clock, LinkDown, RunDown, InquireBranch, row}
use Rattle.commit_protocol.specs.Allowed.{allowed}
use Rattle.commit_protocol.specs.Effects.{Effect, PrepareEffect, SettleEffect, KeepEffect, ForgetEffect, SendEffect, TellEffect, JoinedEffect, StartedEffect, ReadOnlyEffect, EndedEffect, effects_of}

-- whether each event is allowed, and its effects
abbrev shows : Tm → List Event → List (Bool × List Effect)
shows tm [] = []
shows tm (e ∷ es) = (allowed tm e, effects_of (row tm e) tm.records) ∷ shows (after (row tm e) tm) es

-- whether the last of these events is allowed
abbrev last_allowed : Tm → List Event → Bool
last_allowed tm [] = true
last_allowed tm (e ∷ []) = allowed tm e
last_allowed tm (e ∷ f ∷ es) = last_allowed (after (row tm e) tm) (f ∷ es)

abbrev a : Name
a = 65 ∷ []

abbrev b : Name
b = 66 ∷ []

abbrev r : Name
r = 82 ∷ []

abbrev q : Name
q = 81 ∷ []

abbrev id : Name → ℕ → Id
id node seq = record { node = node; boot = 1; seq = seq }

-- the transaction, its identifiers, and the branches at the other node
abbrev t : Id
t = id a 1

abbrev bid : Id
bid = id a 2

abbrev other_bid : Id
other_bid = id a 3

abbrev s : Id
s = id b 1

abbrev u : Id
u = id b 2

abbrev node_a : Tm
node_a = restarted a [] []

abbrev node_b : Tm
node_b = restarted b [] []

abbrev to_b_of : Id → Kind → Message
to_b_of serial kind = record { kind = kind; from = a; to = b; tid = t; serial = serial; bid = None }

abbrev to_a_of : Id → Kind → Message
to_a_of serial kind = record { kind = kind; from = b; to = a; tid = t; serial = serial; bid = None }

abbrev to_b : Kind → Message
to_b = to_b_of s

abbrev to_a : Kind → Message
to_a = to_a_of s

abbrev join_of : Id → Id → Message
join_of serial by = record { kind = Join; from = b; to = a; tid = t; serial = serial; bid = Some by }

abbrev join : Message
join = join_of s bid

abbrev committed : Id → List Id → List Name → LogRecord
committed serial waiting rms = record { kind = CommittedRecord; tid = t; serial = serial; waiting = waiting; rms = rms }

abbrev prepared : List Name → LogRecord
prepared rms = record { kind = PreparedRecord; tid = t; serial = s; waiting = []; rms = rms }

abbrev quiet : Bool × List Effect
quiet = (true, [])

-- two nodes commit: the coordinator
coordinator_commits : shows (node_a) (Start t None ∷ Authorise t bid ∷ Got join ∷ Changed t ∷ EndTrans t ∷ Got (to_a Yes) ∷ Got (to_a Ack) ∷ [])
    ≡ quiet
    ∷ quiet
    ∷ (true, JoinedEffect s ∷ SendEffect (to_b JoinOk) ∷ [])
    ∷ quiet
    ∷ (true, SendEffect (to_b Prepare) ∷ [])
    ∷ (true, SettleEffect t ToCommit Aborted (Some (committed t (s ∷ []) [])) ∷ SendEffect (to_b Commit) ∷ EndedEffect t None ∷ [])
    ∷ (true, ForgetEffect t ∷ []) ∷ []
unfolding same_id same_key same_name
coordinator_commits = refl

-- and the subordinate
subordinate_commits : shows (node_b) (Begin t s bid ∷ Got (to_b JoinOk) ∷ Changed s ∷ EndBranch s ∷ Got (to_b Prepare) ∷ Got (to_b Commit) ∷ Got (to_b Commit) ∷ [])
    ≡ (true, SendEffect join ∷ [])
    ∷ (true, StartedEffect s ∷ [])
    ∷ quiet
    ∷ quiet
    ∷ (true, PrepareEffect s [] ∷ SendEffect (to_a Yes) ∷ [])
    ∷ (true, SettleEffect s ToCommit Aborted None ∷ SendEffect (to_a Ack) ∷ [])
    ∷ (true, SendEffect (to_a Ack) ∷ []) ∷ []
unfolding same_id same_key same_name
subordinate_commits = refl

-- the subordinate is restarted while it is prepared, asks, and commits
restarted_subordinate : shows (restarted b (prepared [] ∷ []) []) (InquireBranch s ∷ RunDown ∷ Got (to_b Prepare) ∷ Got (to_b Commit) ∷ [])
    ≡ (true, SendEffect (to_a Inquire) ∷ [])
    ∷ quiet
    ∷ (true, SendEffect (to_a Yes) ∷ [])
    ∷ (true, SettleEffect s ToCommit Aborted None ∷ SendEffect (to_a Ack) ∷ []) ∷ []
unfolding same_id same_key same_name
restarted_subordinate = refl

-- the coordinator answers from its record; when that is gone it answers abort
coordinator_answers : shows (restarted a [] (committed t (s ∷ []) [] ∷ [])) (RunDown ∷ Got (to_a Inquire) ∷ Got (to_a Ack) ∷ Got (to_a Inquire) ∷ Got (to_a No) ∷ Got (to_a Ack) ∷ [])
    ≡ quiet
    ∷ (true, SendEffect (to_b Commit) ∷ [])
    ∷ (true, ForgetEffect t ∷ [])
    ∷ (true, SendEffect (to_b Abort) ∷ [])
    ∷ quiet
    ∷ quiet ∷ []
unfolding same_id same_key same_name
coordinator_answers = refl

-- while the transaction is undecided it answers nothing
undecided_answers_nothing : shows (node_a) (Start t None ∷ Authorise t bid ∷ Got join ∷ Got (to_a Inquire) ∷ EndTrans t ∷ Got (to_a Inquire) ∷ [])
    ≡ quiet
    ∷ quiet
    ∷ (true, JoinedEffect s ∷ SendEffect (to_b JoinOk) ∷ [])
    ∷ quiet
    ∷ (true, SendEffect (to_b Prepare) ∷ [])
    ∷ quiet ∷ []
unfolding same_id same_key same_name
undecided_answers_nothing = refl

-- a coordinator that was restarted before it decided knows nothing, and answers abort; the prepared branch is aborted and sends no message
presumed_abort : shows (node_a) (Got (to_a Inquire) ∷ [])
    ≡ (true, SendEffect (to_b Abort) ∷ []) ∷ []
unfolding same_id same_key same_name
presumed_abort = refl

prepared_aborts : shows (restarted b (prepared [] ∷ []) []) (Got (to_b Abort) ∷ Got (to_b Abort) ∷ Got (to_b Prepare) ∷ [])
    ≡ (true, SettleEffect s ToAbort Aborted None ∷ [])
    ∷ quiet
    ∷ (true, SendEffect (to_a No) ∷ []) ∷ []
unfolding same_id same_key same_name
prepared_aborts = refl

-- an identifier without a serial: END_TRANS aborts, and nothing was pending
identifier_without_serial : shows (node_a) (Start t None ∷ Authorise t bid ∷ EndTrans t ∷ [])
    ≡ quiet
    ∷ quiet
    ∷ (true, SettleEffect t ToAbort SyncFail None ∷ []) ∷ []
unfolding same_id same_key same_name
identifier_without_serial = refl

-- one manager, no change and no branch: one phase
one_phase : shows (node_a) (Start t None ∷ JoinRm t r ∷ EndTrans t ∷ Replied t r NormalReply ∷ [])
    ≡ quiet
    ∷ quiet
    ∷ (true, TellEffect OnePhaseEvent t t r ∷ [])
    ∷ (true, SettleEffect t ToCommit Aborted None ∷ EndedEffect t None ∷ []) ∷ []
unfolding same_id same_key same_name
one_phase = refl

-- it may reply prepared, and is then owed the outcome
one_phase_prepared : shows (node_a) (Start t None ∷ JoinRm t r ∷ EndTrans t ∷ Replied t r PreparedReply ∷ Replied t r RememberReply ∷ Replied t r ForgetReply ∷ [])
    ≡ quiet
    ∷ quiet
    ∷ (true, TellEffect OnePhaseEvent t t r ∷ [])
    ∷ (true, SettleEffect t ToCommit Aborted (Some (committed t [] (r ∷ []))) ∷ TellEffect CommitEvent t t r ∷ EndedEffect t None ∷ [])
    ∷ quiet
    ∷ (true, ForgetEffect t ∷ []) ∷ []
unfolding same_id same_key same_name
one_phase_prepared = refl

-- or veto, and hears no more
one_phase_veto : shows (node_a) (Start t None ∷ JoinRm t r ∷ EndTrans t ∷ Replied t r VetoReply ∷ [])
    ≡ quiet
    ∷ quiet
    ∷ (true, TellEffect OnePhaseEvent t t r ∷ [])
    ∷ (true, SettleEffect t ToAbort Vetoed None ∷ EndedEffect t (Some Vetoed) ∷ []) ∷ []
unfolding same_id same_key same_name
one_phase_veto = refl

-- while its reply is waited for the transaction may be aborted, and it hears of that
one_phase_aborted : shows (node_a) (Start t None ∷ JoinRm t r ∷ EndTrans t ∷ AbortBranch t Aborted ∷ [])
    ≡ quiet
    ∷ quiet
    ∷ (true, TellEffect OnePhaseEvent t t r ∷ [])
    ∷ (true, SettleEffect t ToAbort Aborted None ∷ TellEffect AbortEvent t t r ∷ EndedEffect t (Some Aborted) ∷ []) ∷ []
unfolding same_id same_key same_name
one_phase_aborted = refl

-- a transaction whose time is over
timeout : shows (node_a) (Start t (Some 1000) ∷ Clock 999 ∷ Clock 1000 ∷ [])
    ≡ quiet
    ∷ quiet
    ∷ (true, SettleEffect t ToAbort Timeout None ∷ []) ∷ []
unfolding same_id same_key same_name
timeout = refl

-- a lost link, at the coordinator
link_down_coordinator : shows (node_a) (Start t None ∷ Authorise t bid ∷ Got join ∷ LinkDown b ∷ [])
    ≡ quiet
    ∷ quiet
    ∷ (true, JoinedEffect s ∷ SendEffect (to_b JoinOk) ∷ [])
    ∷ (true, SettleEffect t ToAbort CommFail None ∷ SendEffect (to_b Abort) ∷ []) ∷ []
unfolding same_id same_key same_name
link_down_coordinator = refl

-- and at the subordinate
link_down_subordinate : shows (node_b) (Begin t s bid ∷ Got (to_b JoinOk) ∷ Changed s ∷ LinkDown a ∷ [])
    ≡ (true, SendEffect join ∷ [])
    ∷ (true, StartedEffect s ∷ [])
    ∷ quiet
    ∷ (true, SettleEffect s ToAbort CommFail None ∷ SendEffect (to_a No) ∷ []) ∷ []
unfolding same_id same_key same_name
link_down_subordinate = refl

-- a manager is asked and owed the outcome
managers : shows (node_a) (Start t None ∷ JoinRm t r ∷ Changed t ∷ EndTrans t ∷ Replied t r PreparedReply ∷ Replied t r ForgetReply ∷ [])
    ≡ quiet
    ∷ quiet
    ∷ quiet
    ∷ (true, TellEffect PrepareEvent t t r ∷ [])
    ∷ (true, SettleEffect t ToCommit Aborted (Some (committed t [] (r ∷ []))) ∷ TellEffect CommitEvent t t r ∷ EndedEffect t None ∷ [])
    ∷ (true, ForgetEffect t ∷ []) ∷ []
unfolding same_id same_key same_name
managers = refl

-- of two managers one has no interest: it is in no record and gets no event; of two replies the first decides nothing
two_managers : shows (node_a) (Start t None ∷ JoinRm t r ∷ JoinRm t q ∷ EndTrans t ∷ Replied t r ForgetReply ∷ Replied t q PreparedReply ∷ [])
    ≡ quiet
    ∷ quiet
    ∷ quiet
    ∷ (true, TellEffect PrepareEvent t t r ∷ TellEffect PrepareEvent t t q ∷ [])
    ∷ quiet
    ∷ (true, SettleEffect t ToCommit Aborted (Some (committed t [] (q ∷ []))) ∷ TellEffect CommitEvent t t q ∷ EndedEffect t None ∷ []) ∷ []
unfolding same_id same_key same_name
two_managers = refl

-- a veto aborts; the others hear of it
veto_of_one : shows (node_a) (Start t None ∷ JoinRm t r ∷ JoinRm t q ∷ EndTrans t ∷ Replied t q VetoReply ∷ [])
    ≡ quiet
    ∷ quiet
    ∷ quiet
    ∷ (true, TellEffect PrepareEvent t t r ∷ TellEffect PrepareEvent t t q ∷ [])
    ∷ (true, SettleEffect t ToAbort Vetoed None ∷ TellEffect AbortEvent t t r ∷ EndedEffect t (Some Vetoed) ∷ []) ∷ []
unfolding same_id same_key same_name
veto_of_one = refl

-- a branch with a manager votes when it has replied; it is committed with a record of its own serial
branch_with_managers : shows (node_b) (Begin t s bid ∷ Got (to_b JoinOk) ∷ JoinRm s r ∷ Got (to_b Prepare) ∷ EndBranch s ∷ Replied s r PreparedReply ∷ Got (to_b Commit) ∷ Replied s r ForgetReply ∷ [])
    ≡ (true, SendEffect join ∷ [])
    ∷ (true, StartedEffect s ∷ [])
    ∷ quiet
    ∷ quiet
    ∷ (true, TellEffect PrepareEvent t s r ∷ [])
    ∷ (true, PrepareEffect s (r ∷ []) ∷ SendEffect (to_a Yes) ∷ [])
    ∷ (true, SettleEffect s ToCommit Aborted (Some (committed s [] (r ∷ []))) ∷ SendEffect (to_a Ack) ∷ TellEffect CommitEvent t s r ∷ [])
    ∷ (true, ForgetEffect s ∷ []) ∷ []
unfolding same_id same_key same_name
branch_with_managers = refl

-- its manager vetoes: No stands between the settlement and the event to the others
branch_with_veto : shows (node_b) (Begin t s bid ∷ Got (to_b JoinOk) ∷ JoinRm s r ∷ JoinRm s q ∷ Got (to_b Prepare) ∷ EndBranch s ∷ Replied s r VetoReply ∷ [])
    ≡ (true, SendEffect join ∷ [])
    ∷ (true, StartedEffect s ∷ [])
    ∷ quiet
    ∷ quiet
    ∷ quiet
    ∷ (true, TellEffect PrepareEvent t s r ∷ TellEffect PrepareEvent t s q ∷ [])
    ∷ (true, SettleEffect s ToAbort Vetoed None ∷ SendEffect (to_a No) ∷ TellEffect AbortEvent t s q ∷ []) ∷ []
unfolding same_id same_key same_name
branch_with_veto = refl

-- without a change and without interest it is read-only
branch_read_only : shows (node_b) (Begin t s bid ∷ Got (to_b JoinOk) ∷ JoinRm s r ∷ EndBranch s ∷ Got (to_b Prepare) ∷ Replied s r ForgetReply ∷ Got (to_b Commit) ∷ [])
    ≡ (true, SendEffect join ∷ [])
    ∷ (true, StartedEffect s ∷ [])
    ∷ quiet
    ∷ quiet
    ∷ (true, TellEffect PrepareEvent t s r ∷ [])
    ∷ (true, ReadOnlyEffect s ∷ SendEffect (to_a ReadOnly) ∷ [])
    ∷ (true, SendEffect (to_a Ack) ∷ []) ∷ []
unfolding same_id same_key same_name
branch_read_only = refl

-- a Prepare that comes before the answer to the Join starts the branch
asked_while_joining : shows (node_b) (Begin t s bid ∷ Got (to_b Prepare) ∷ Got (to_b JoinOk) ∷ EndBranch s ∷ [])
    ≡ (true, SendEffect join ∷ [])
    ∷ (true, StartedEffect s ∷ [])
    ∷ quiet
    ∷ (true, ReadOnlyEffect s ∷ SendEffect (to_a ReadOnly) ∷ []) ∷ []
unfolding same_id same_key same_name
asked_while_joining = refl

-- a refused Join
join_refused : shows (node_b) (Begin t s bid ∷ Got (to_b JoinNo) ∷ Got (to_b JoinOk) ∷ [])
    ≡ (true, SendEffect join ∷ [])
    ∷ (true, SettleEffect s ToAbort SyncFail None ∷ [])
    ∷ quiet ∷ []
unfolding same_id same_key same_name
join_refused = refl

-- a Join again, one of another serial by the same identifier, one by an identifier that was not authorised, and one that comes when the transaction is ending
joins : shows (node_a) (Start t None ∷ Authorise t bid ∷ Got join ∷ Got join ∷ Got (join_of u bid) ∷ Got (join_of u other_bid) ∷ EndTrans t ∷ Got join ∷ Got (join_of u bid) ∷ [])
    ≡ quiet
    ∷ quiet
    ∷ (true, JoinedEffect s ∷ SendEffect (to_b JoinOk) ∷ [])
    ∷ (true, SendEffect (to_b JoinOk) ∷ [])
    ∷ (true, SendEffect (to_b_of u JoinNo) ∷ [])
    ∷ (true, SendEffect (to_b_of u JoinNo) ∷ [])
    ∷ (true, SendEffect (to_b Prepare) ∷ [])
    ∷ (true, SendEffect (to_b JoinOk) ∷ [])
    ∷ (true, SendEffect (to_b_of u JoinNo) ∷ []) ∷ []
unfolding same_id same_key same_name
joins = refl

-- two branches, one read-only: only the other is owed a Commit
two_branches : shows (node_a) (Start t None ∷ Authorise t bid ∷ Authorise t other_bid ∷ Got join ∷ Got (join_of u other_bid) ∷ EndTrans t ∷ Got (to_a ReadOnly) ∷ Got (to_a ReadOnly) ∷ Got (to_a_of u Yes) ∷ [])
    ≡ quiet
    ∷ quiet
    ∷ quiet
    ∷ (true, JoinedEffect s ∷ SendEffect (to_b JoinOk) ∷ [])
    ∷ (true, JoinedEffect u ∷ SendEffect (to_b_of u JoinOk) ∷ [])
    ∷ (true, SendEffect (to_b Prepare) ∷ SendEffect (to_b_of u Prepare) ∷ [])
    ∷ quiet
    ∷ quiet
    ∷ (true, SettleEffect t ToCommit Aborted (Some (committed t (u ∷ []) [])) ∷ SendEffect (to_b_of u Commit) ∷ EndedEffect t None ∷ []) ∷ []
unfolding same_id same_key same_name
two_branches = refl

-- both are owed it, and acknowledge one by one
both_yes : shows (node_a) (Start t None ∷ Authorise t bid ∷ Authorise t other_bid ∷ Got join ∷ Got (join_of u other_bid) ∷ EndTrans t ∷ Got (to_a_of u Yes) ∷ Got (to_a Yes) ∷ Got (to_a_of u Ack) ∷ Got (to_a_of u Ack) ∷ Got (to_a Ack) ∷ [])
    ≡ quiet
    ∷ quiet
    ∷ quiet
    ∷ (true, JoinedEffect s ∷ SendEffect (to_b JoinOk) ∷ [])
    ∷ (true, JoinedEffect u ∷ SendEffect (to_b_of u JoinOk) ∷ [])
    ∷ (true, SendEffect (to_b Prepare) ∷ SendEffect (to_b_of u Prepare) ∷ [])
    ∷ quiet
    ∷ (true, SettleEffect t ToCommit Aborted (Some (committed t (s ∷ u ∷ []) [])) ∷ SendEffect (to_b Commit) ∷ SendEffect (to_b_of u Commit) ∷ EndedEffect t None ∷ [])
    ∷ (true, KeepEffect (committed t (s ∷ []) []) ∷ [])
    ∷ quiet
    ∷ (true, ForgetEffect t ∷ []) ∷ []
unfolding same_id same_key same_name
both_yes = refl

-- one says No: Abort goes to the other alone
one_says_no : shows (node_a) (Start t None ∷ Authorise t bid ∷ Authorise t other_bid ∷ Got join ∷ Got (join_of u other_bid) ∷ EndTrans t ∷ Got (to_a Yes) ∷ Got (to_a_of u No) ∷ [])
    ≡ quiet
    ∷ quiet
    ∷ quiet
    ∷ (true, JoinedEffect s ∷ SendEffect (to_b JoinOk) ∷ [])
    ∷ (true, JoinedEffect u ∷ SendEffect (to_b_of u JoinOk) ∷ [])
    ∷ (true, SendEffect (to_b Prepare) ∷ SendEffect (to_b_of u Prepare) ∷ [])
    ∷ quiet
    ∷ (true, SettleEffect t ToAbort Vetoed None ∷ SendEffect (to_b Abort) ∷ EndedEffect t (Some Vetoed) ∷ []) ∷ []
unfolding same_id same_key same_name
one_says_no = refl

-- an abort while END_TRANS is pending: one that was read-only hears nothing
aborted_while_ending : shows (node_a) (Start t None ∷ Authorise t bid ∷ Authorise t other_bid ∷ Got join ∷ Got (join_of u other_bid) ∷ EndTrans t ∷ Got (to_a ReadOnly) ∷ AbortBranch t Aborted ∷ [])
    ≡ quiet
    ∷ quiet
    ∷ quiet
    ∷ (true, JoinedEffect s ∷ SendEffect (to_b JoinOk) ∷ [])
    ∷ (true, JoinedEffect u ∷ SendEffect (to_b_of u JoinOk) ∷ [])
    ∷ (true, SendEffect (to_b Prepare) ∷ SendEffect (to_b_of u Prepare) ∷ [])
    ∷ quiet
    ∷ (true, SettleEffect t ToAbort Aborted None ∷ SendEffect (to_b_of u Abort) ∷ EndedEffect t (Some Aborted) ∷ []) ∷ []
unfolding same_id same_key same_name
aborted_while_ending = refl

-- another branch is aborted alone
branch_aborted : shows (node_b) (Begin t s bid ∷ Got (to_b JoinOk) ∷ AbortBranch s Aborted ∷ [])
    ≡ (true, SendEffect join ∷ [])
    ∷ (true, StartedEffect s ∷ [])
    ∷ (true, SettleEffect s ToAbort Aborted None ∷ SendEffect (to_a No) ∷ []) ∷ []
unfolding same_id same_key same_name
branch_aborted = refl

-- the run-down aborts undecided transactions, then unprepared branches
run_down : shows (node_b) (Begin t s bid ∷ Got (to_b JoinOk) ∷ Start u None ∷ RunDown ∷ [])
    ≡ (true, SendEffect join ∷ [])
    ∷ (true, StartedEffect s ∷ [])
    ∷ quiet
    ∷ (true, SettleEffect u ToAbort SegFail None ∷ SettleEffect s ToAbort SegFail None ∷ SendEffect (to_a No) ∷ []) ∷ []
unfolding same_id same_key same_name
run_down = refl

-- refused: END_TRANS twice
no_second_end : last_allowed (node_a) (Start t None ∷ Authorise t bid ∷ Authorise t other_bid ∷ Got join ∷ Got (join_of u other_bid) ∷ EndTrans t ∷ EndTrans t ∷ []) ≡ false
unfolding same_id same_key same_name
no_second_end = refl

-- a branch is authorised after END_TRANS
no_late_branch : last_allowed (node_a) (Start t None ∷ Authorise t bid ∷ Authorise t other_bid ∷ Got join ∷ Got (join_of u other_bid) ∷ EndTrans t ∷ Authorise t bid ∷ []) ≡ false
unfolding same_id same_key same_name
no_late_branch = refl

-- a manager joins twice
no_late_manager : last_allowed (node_a) (Start t None ∷ JoinRm t r ∷ JoinRm t r ∷ []) ≡ false
unfolding same_id same_key same_name
no_late_manager = refl

-- a change before the branch has joined
no_early_change : last_allowed (node_b) (Begin t s bid ∷ Changed s ∷ []) ≡ false
unfolding same_id same_key same_name
no_early_change = refl

-- a change after END_BRANCH
no_late_change : last_allowed (node_b) (Begin t s bid ∷ Got (to_b JoinOk) ∷ EndBranch s ∷ Changed s ∷ []) ≡ false
unfolding same_id same_key same_name
no_late_change = refl

-- END_BRANCH of a first branch
no_end_of_first : last_allowed (node_a) (Start t None ∷ EndBranch t ∷ []) ≡ false
unfolding same_id same_key same_name
no_end_of_first = refl

-- ABORT_TRANS of a prepared branch
no_abort_of_prepared : last_allowed (restarted b (prepared [] ∷ []) []) (AbortBranch s Aborted ∷ []) ≡ false
unfolding same_id same_key same_name
no_abort_of_prepared = refl

-- INQUIRE of an active branch
no_inquiry_of_active : last_allowed (node_b) (Begin t s bid ∷ Got (to_b JoinOk) ∷ InquireBranch s ∷ []) ≡ false
unfolding same_id same_key same_name
no_inquiry_of_active = refl

-- a reply that no event waits for
no_reply_unasked : last_allowed (node_a) (Start t None ∷ JoinRm t r ∷ Replied t r PreparedReply ∷ []) ≡ false
unfolding same_id same_key same_name
no_reply_unasked = refl

-- a reply that is none of the event's
no_other_reply : last_allowed (node_a) (Start t None ∷ JoinRm t r ∷ Changed t ∷ EndTrans t ∷ Replied t r NormalReply ∷ []) ≡ false
unfolding same_id same_key same_name
no_other_reply = refl

-- a reply of a manager that no record waits for
no_manager : last_allowed (restarted a [] (committed t (s ∷ []) [] ∷ [])) (Replied t r ForgetReply ∷ []) ≡ false
unfolding same_id same_key same_name
no_manager = refl
