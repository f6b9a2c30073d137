-- Worked scripts with resource managers, by their statements, and what they show.
use Rattle.std.specs.Prelude.{◌≡◌, ℕ, List, [], ◌∷◌, ◌++◌, Some, None, codes}
use Rattle.transcript_model.specs.vms_model.Ids.{Id}
use Rattle.transcript_model.specs.vms_model.Transactions.{Vetoed, Aborted as ByRequest}
use Rattle.transcript_model.specs.Lines as line
use Rattle.transcript_model.specs.Lines.{Line}
use Rattle.script_model.specs.Statements.{At, Deliver, Request, Boot, StartTrans, StartBranch, Records, EndBranch, EndTrans, AbortTrans, DeclareRm, JoinRm, AckEvent, ForgetRm, GetDti, LmcpShow, LmcpDump, Crash, ByLabel, BySerial, Put}
use Rattle.transcript_model.specs.commit_protocol.Messages as message
use Rattle.transcript_model.specs.commit_protocol.Messages.{RmEvent, PrepareEvent, CommitEvent, AbortEvent, OnePhaseEvent, Reply, PreparedReply, ForgetReply, VetoReply, RememberReply, NormalReply, LogRecord, PreparedRecord, CommittedRecord}
use Rattle.run_model.specs.Rows.{Move, Plays, Pairs, says, tells_b, does, id, id_b, to_a, to_b}

-- the manager R replies so to an event of T, or another manager does
abbrev pub replies_as : List ℕ → Reply → Move
replies_as rm reply = says (AckEvent (ByLabel (codes "T")) rm reply)

abbrev pub replies : Reply → Move
replies reply = replies_as (codes "R") reply

-- it is told an event of T
abbrev pub told : RmEvent → List ℕ → Line
told event rm = line.ManagerTold event (id 1 1) (id 1 1) rm

-- T is committed, at the first moment
abbrev pub committed : Line
committed = line.Committed (id 1 1) (id 1 1) 1

-- a record of a branch of T that waits for R alone
abbrev pub record_of : message.RecordKind → Id → LogRecord
record_of kind serial = record { kind = kind; tid = id 1 1; serial = serial; waiting = []; rms = codes "R" ∷ [] }

-- R is declared, T begins, and R joins it
abbrev pub manager_moves : List Move
manager_moves = says (DeclareRm (codes "R")) ∷ says (StartTrans (codes "T") None) ∷ says (JoinRm (codes "T") (codes "R")) ∷ []

abbrev pub manager_lines : List (List Line)
manager_lines = (line.Normal ∷ []) ∷ (line.NormalId (id 1 1) ∷ []) ∷ (line.Normal ∷ []) ∷ []

-- T ends, where R alone has joined it: in one phase
abbrev pub one_phase_moves : List Move
one_phase_moves = manager_moves ++ says (EndTrans (codes "T")) ∷ []

abbrev pub one_phase_lines : List (List Line)
one_phase_lines = manager_lines ++ (told OnePhaseEvent (codes "R") ∷ line.Pending [] (codes "R" ∷ []) ∷ []) ∷ []

-- The manager decides alone: to its reply the transaction is committed, and no record is left.
abbrev pub OnePhaseCommits : Type 0
OnePhaseCommits = Plays (one_phase_moves ++ replies ForgetReply ∷ replies RememberReply ∷ replies NormalReply ∷ says LmcpShow ∷ [])
    (one_phase_lines ++ (line.WrongState ∷ []) ∷ (line.WrongState ∷ []) ∷ (committed ∷ line.Ended (id 1 1) None ∷ line.Normal ∷ []) ∷ (line.NormalLog 0 0 64 ∷ []) ∷ [])

-- To its veto it is aborted.
abbrev pub OnePhaseIsVetoed : Type 0
OnePhaseIsVetoed = Plays (one_phase_moves ++ replies VetoReply ∷ [])
    (one_phase_lines ++ (line.Aborted (id 1 1) (id 1 1) Vetoed 1 ∷ line.Ended (id 1 1) (Some Vetoed) ∷ line.Normal ∷ []) ∷ [])

-- A manager that is prepared is told of the commitment, and a record stands until it forgets.
abbrev pub PreparedManagerIsTold : Type 0
PreparedManagerIsTold = Plays (manager_moves ++ says (Records (codes "T") (codes "F") (Put (Some 1) (codes "a"))) ∷ says (EndTrans (codes "T")) ∷ says (GetDti (ByLabel (codes "T")))
    ∷ replies PreparedReply ∷ says LmcpDump ∷ replies ForgetReply ∷ says (ForgetRm (codes "R")) ∷ [])
    (manager_lines ++ (line.RecordNormal ∷ []) ∷ (told PrepareEvent (codes "R") ∷ line.Pending [] (codes "R" ∷ []) ∷ []) ∷ (line.NormalStanding line.EndingBranch ∷ [])
    ∷ (committed ∷ told CommitEvent (codes "R") ∷ line.Ended (id 1 1) None ∷ line.Normal ∷ [])
    ∷ (line.LogEntry 0 (record_of CommittedRecord (id 1 1)) ∷ line.NormalCount 1 ∷ []) ∷ (line.Forgot (id 1 1) (id 1 1) ∷ line.Normal ∷ []) ∷ (line.Normal ∷ []) ∷ [])

-- A node that falls before the manager has forgotten declares none when it is booted. Once the manager is declared again it is told of the commitment, each time.
abbrev pub CommitWaitsForManager : Type 0
CommitWaitsForManager = Plays (one_phase_moves ++ replies PreparedReply ∷ says Crash ∷ says Boot ∷ replies ForgetReply ∷ says (GetDti (BySerial (id 1 1))) ∷ says LmcpShow
    ∷ says (DeclareRm (codes "R")) ∷ replies RememberReply ∷ says (ForgetRm (codes "R")) ∷ says (DeclareRm (codes "R")) ∷ replies ForgetReply ∷ says (GetDti (ByLabel (codes "T"))) ∷ replies ForgetReply ∷ [])
    (one_phase_lines ++ (committed ∷ told CommitEvent (codes "R") ∷ line.Ended (id 1 1) None ∷ line.Normal ∷ []) ∷ (line.Crashed (codes "A") ∷ line.Normal ∷ [])
    ∷ (line.LastCommitted (id 1 1) (id 1 1) 1 ∷ line.NormalCount 2 ∷ []) ∷ (line.NoSuchManager ∷ []) ∷ (line.NormalStanding line.CommittedBranch ∷ []) ∷ (line.NormalLog 1 0 63 ∷ [])
    ∷ (told CommitEvent (codes "R") ∷ line.Normal ∷ []) ∷ (line.Normal ∷ []) ∷ (line.Normal ∷ []) ∷ (told CommitEvent (codes "R") ∷ line.Normal ∷ [])
    ∷ (line.Forgot (id 1 1) (id 1 1) ∷ line.Normal ∷ []) ∷ (line.NormalStanding line.UnknownBranch ∷ []) ∷ (line.NoSuchTransaction ∷ []) ∷ [])

-- Each reply to each event: before any, R's and Q's to PREPARE, and then R's to COMMIT. A manager that has no interest in the outcome is not waited for.
abbrev pub RepliesFitEvents : Type 0
RepliesFitEvents = Plays (manager_moves ++ says (JoinRm (codes "T") (codes "Q")) ∷ says (DeclareRm (codes "Q")) ∷ says (DeclareRm (codes "Q")) ∷ replies_as (codes "Q") ForgetReply
    ∷ says (JoinRm (codes "T") (codes "Q")) ∷ says (JoinRm (codes "T") (codes "Q")) ∷ replies PreparedReply ∷ says (ForgetRm (codes "R")) ∷ says (EndTrans (codes "T"))
    ∷ replies RememberReply ∷ replies NormalReply ∷ replies PreparedReply ∷ replies PreparedReply ∷ says (JoinRm (codes "T") (codes "R")) ∷ replies_as (codes "Q") ForgetReply
    ∷ replies_as (codes "Q") ForgetReply ∷ replies PreparedReply ∷ replies VetoReply ∷ replies NormalReply ∷ replies RememberReply ∷ replies ForgetReply ∷ [])
    (manager_lines ++ (line.NoSuchManager ∷ []) ∷ (line.Normal ∷ []) ∷ (line.WrongState ∷ []) ∷ (line.NoSuchManager ∷ [])
    ∷ (line.Normal ∷ []) ∷ (line.WrongState ∷ []) ∷ (line.WrongState ∷ []) ∷ (line.WrongState ∷ [])
    ∷ (told PrepareEvent (codes "R") ∷ told PrepareEvent (codes "Q") ∷ line.Pending [] (codes "R" ∷ codes "Q" ∷ []) ∷ [])
    ∷ (line.WrongState ∷ []) ∷ (line.WrongState ∷ []) ∷ (line.Normal ∷ []) ∷ (line.WrongState ∷ []) ∷ (line.WrongState ∷ [])
    ∷ (committed ∷ told CommitEvent (codes "R") ∷ line.Ended (id 1 1) None ∷ line.Normal ∷ [])
    ∷ (line.NoSuchManager ∷ []) ∷ (line.WrongState ∷ []) ∷ (line.WrongState ∷ []) ∷ (line.WrongState ∷ []) ∷ (line.Normal ∷ []) ∷ (line.Forgot (id 1 1) (id 1 1) ∷ line.Normal ∷ []) ∷ [])

-- An abort is told to the managers that have joined and have neither no interest nor vetoed it, and waits for no reply.
abbrev pub AbortIsToldToManagers : Type 0
AbortIsToldToManagers = Plays (manager_moves ++ says (DeclareRm (codes "Q")) ∷ says (JoinRm (codes "T") (codes "Q")) ∷ says (EndTrans (codes "T")) ∷ replies_as (codes "Q") ForgetReply
    ∷ says (AbortTrans (codes "T")) ∷ replies ForgetReply ∷ says (ForgetRm (codes "R")) ∷ says (ForgetRm (codes "R")) ∷ [])
    (manager_lines ++ (line.Normal ∷ []) ∷ (line.Normal ∷ []) ∷ (told PrepareEvent (codes "R") ∷ told PrepareEvent (codes "Q") ∷ line.Pending [] (codes "R" ∷ codes "Q" ∷ []) ∷ []) ∷ (line.Normal ∷ [])
    ∷ (line.Aborted (id 1 1) (id 1 1) ByRequest 1 ∷ told AbortEvent (codes "R") ∷ line.Ended (id 1 1) (Some ByRequest) ∷ line.Normal ∷ []) ∷ (line.NoSuchTransaction ∷ []) ∷ (line.Normal ∷ []) ∷ (line.NoSuchManager ∷ []) ∷ [])

-- nine managers
abbrev pub nine : List (List ℕ)
nine = codes "R1" ∷ codes "R2" ∷ codes "R3" ∷ codes "R4" ∷ codes "R5" ∷ codes "R6" ∷ codes "R7" ∷ codes "R8" ∷ codes "R9" ∷ []

abbrev pub each : (List ℕ → Request) → List (List ℕ) → List Move
each request [] = []
each request (rm ∷ rms) = says (request rm) ∷ each request rms

abbrev pub normal_lines : List (List ℕ) → List (List Line)
normal_lines [] = []
normal_lines (rm ∷ rms) = (line.Normal ∷ []) ∷ normal_lines rms

-- eight of them join a branch, and the ninth is refused
abbrev pub EightManagersJoin : Type 0
EightManagersJoin = Plays (each DeclareRm nine ++ says (StartTrans (codes "T") None) ∷ each (JoinRm (codes "T")) nine)
    (normal_lines nine ++ (line.NormalId (id 1 1) ∷ []) ∷ (line.Normal ∷ []) ∷ (line.Normal ∷ []) ∷ (line.Normal ∷ []) ∷ (line.Normal ∷ []) ∷ (line.Normal ∷ []) ∷ (line.Normal ∷ []) ∷ (line.Normal ∷ []) ∷ (line.Normal ∷ [])
    ∷ (line.QuotaExceeded line.Managers 8 ∷ []) ∷ [])

-- Two nodes: R has joined the branch at B, and its vote is the branch's. B falls before it is told the outcome; its prepared record keeps R, and then its committed
-- record does, though R is declared nowhere.

-- what is asked of the manager of the branch U
abbrev pub branch_replies : Reply → Move
branch_replies reply = tells_b (AckEvent (ByLabel (codes "U")) (codes "R") reply)

-- an event of the branch
abbrev pub branch_told : RmEvent → Line
branch_told event = line.ManagerTold event (id 1 1) (id_b 1 1) (codes "R")

abbrev pub BranchManagerIsTold : Type 0
BranchManagerIsTold = Pairs (tells_b (StartBranch (codes "U")) ∷ does (Deliver 1) ∷ tells_b (DeclareRm (codes "R")) ∷ tells_b (JoinRm (codes "U") (codes "R")) ∷ tells_b (GetDti (ByLabel (codes "U"))) ∷ does (Deliver 2)
    ∷ tells_b (JoinRm (codes "U") (codes "R")) ∷ tells_b (EndBranch (codes "U")) ∷ says (EndTrans (codes "T")) ∷ does (Deliver 3) ∷ tells_b (GetDti (ByLabel (codes "U"))) ∷ branch_replies PreparedReply
    ∷ tells_b (GetDti (ByLabel (codes "U"))) ∷ tells_b LmcpDump ∷ does (At (codes "B") Crash) ∷ tells_b Boot ∷ does (Deliver 4) ∷ does (Deliver 5) ∷ tells_b LmcpDump
    ∷ tells_b (DeclareRm (codes "R")) ∷ branch_replies ForgetReply ∷ [])
    ((line.Sent 1 (record (to_a message.Join) { bid = Some (id 1 2) }) ∷ line.Pending (id_b 1 1 ∷ []) [] ∷ []) ∷ (line.Joined (id 1 1) (id_b 1 1) ∷ line.Sent 2 (to_b message.JoinOk) ∷ line.Normal ∷ [])
    ∷ (line.Normal ∷ []) ∷ (line.WrongState ∷ []) ∷ (line.NormalStanding line.ActiveBranch ∷ []) ∷ (line.Started (id 1 1) (id_b 1 1) ∷ line.Normal ∷ [])
    ∷ (line.Normal ∷ []) ∷ (line.Normal ∷ []) ∷ (line.Sent 3 (to_b message.Prepare) ∷ line.Pending (id_b 1 1 ∷ []) [] ∷ []) ∷ (branch_told PrepareEvent ∷ line.Normal ∷ []) ∷ (line.NormalStanding line.EndingBranch ∷ [])
    ∷ (line.Prepared (id 1 1) (id_b 1 1) ∷ line.Sent 4 (to_a message.Yes) ∷ line.Normal ∷ [])
    ∷ (line.NormalStanding line.PreparedBranch ∷ []) ∷ (line.LogEntry 0 (record_of PreparedRecord (id_b 1 1)) ∷ line.NormalCount 1 ∷ []) ∷ (line.Crashed (codes "B") ∷ line.Normal ∷ []) ∷ (line.Prepared (id 1 1) (id_b 1 1) ∷ line.NormalCount 2 ∷ [])
    ∷ (committed ∷ line.Sent 5 (to_b message.Commit) ∷ line.Ended (id 1 1) None ∷ line.Normal ∷ []) ∷ (line.Committed (id 1 1) (id_b 1 1) 1 ∷ line.Sent 6 (to_a message.Ack) ∷ line.Normal ∷ [])
    ∷ (line.LogEntry 0 (record_of CommittedRecord (id_b 1 1)) ∷ line.NormalCount 1 ∷ []) ∷ (branch_told CommitEvent ∷ line.Normal ∷ []) ∷ (line.Forgot (id 1 1) (id_b 1 1) ∷ line.Normal ∷ []) ∷ [])

-- the manager has no interest in the outcome, and the branch has changed nothing: it leaves without a vote on the log
abbrev pub BranchManagerLeaves : Type 0
BranchManagerLeaves = Pairs (tells_b (StartBranch (codes "U")) ∷ does (Deliver 1) ∷ does (Deliver 2) ∷ tells_b (DeclareRm (codes "R")) ∷ tells_b (JoinRm (codes "U") (codes "R")) ∷ tells_b (EndBranch (codes "U"))
    ∷ says (EndTrans (codes "T")) ∷ does (Deliver 3) ∷ branch_replies ForgetReply ∷ tells_b LmcpShow ∷ does (Deliver 4) ∷ [])
    ((line.Sent 1 (record (to_a message.Join) { bid = Some (id 1 2) }) ∷ line.Pending (id_b 1 1 ∷ []) [] ∷ []) ∷ (line.Joined (id 1 1) (id_b 1 1) ∷ line.Sent 2 (to_b message.JoinOk) ∷ line.Normal ∷ [])
    ∷ (line.Started (id 1 1) (id_b 1 1) ∷ line.Normal ∷ []) ∷ (line.Normal ∷ []) ∷ (line.Normal ∷ []) ∷ (line.Normal ∷ [])
    ∷ (line.Sent 3 (to_b message.Prepare) ∷ line.Pending (id_b 1 1 ∷ []) [] ∷ []) ∷ (branch_told PrepareEvent ∷ line.Normal ∷ []) ∷ (line.ReadOnly (id 1 1) (id_b 1 1) ∷ line.Sent 4 (to_a message.ReadOnly) ∷ line.Normal ∷ [])
    ∷ (line.NormalLog 0 0 64 ∷ []) ∷ (committed ∷ line.Ended (id 1 1) None ∷ line.Normal ∷ []) ∷ [])

-- the manager vetoes, so that the branch is aborted and the transaction with it
abbrev pub BranchIsVetoed : Type 0
BranchIsVetoed = Pairs (tells_b (StartBranch (codes "U")) ∷ does (Deliver 1) ∷ does (Deliver 2) ∷ tells_b (DeclareRm (codes "R")) ∷ tells_b (JoinRm (codes "U") (codes "R")) ∷ tells_b (EndBranch (codes "U"))
    ∷ says (EndTrans (codes "T")) ∷ does (Deliver 3) ∷ branch_replies VetoReply ∷ does (Deliver 4) ∷ [])
    ((line.Sent 1 (record (to_a message.Join) { bid = Some (id 1 2) }) ∷ line.Pending (id_b 1 1 ∷ []) [] ∷ []) ∷ (line.Joined (id 1 1) (id_b 1 1) ∷ line.Sent 2 (to_b message.JoinOk) ∷ line.Normal ∷ [])
    ∷ (line.Started (id 1 1) (id_b 1 1) ∷ line.Normal ∷ []) ∷ (line.Normal ∷ []) ∷ (line.Normal ∷ []) ∷ (line.Normal ∷ [])
    ∷ (line.Sent 3 (to_b message.Prepare) ∷ line.Pending (id_b 1 1 ∷ []) [] ∷ []) ∷ (branch_told PrepareEvent ∷ line.Normal ∷ []) ∷ (line.Aborted (id 1 1) (id_b 1 1) Vetoed 1 ∷ line.Sent 4 (to_a message.No) ∷ line.Normal ∷ [])
    ∷ (line.Aborted (id 1 1) (id 1 1) Vetoed 1 ∷ line.Ended (id 1 1) (Some Vetoed) ∷ line.Normal ∷ []) ∷ [])
