-- Worked scripts, by their statements, and what they show. How each ends is said with it: whole, or with a failure of the disk.
use Rattle.std.specs.Prelude.{◌≡◌, ℕ, List, [], ◌∷◌, ◌++◌, Bool, true, false, Option, Some, None, if◌then◌else◌, codes, drop, length}
use Rattle.transcript_model.specs.vms_model.Ids.{Id}
use Rattle.transcript_model.specs.vms_model.Keys.{Number}
use Rattle.transcript_model.specs.vms_model.Transactions.{Commit as ToCommit, SegFail, SyncFail, Timeout, CommFail, Aborted as ByRequest}
use Rattle.transcript_model.specs.Lines as line
use Rattle.transcript_model.specs.Lines.{Line, Stopped}
use Rattle.script_model.specs.Statements as said
use Rattle.script_model.specs.Statements.{Statement, At, Deliver, LinkDown, Settle, Request, Init, Boot, Create, SetFile, StartTrans, AddBranch, StartBranch, Records, Direct, EndBranch, EndTrans, Inquire, Dump, DumpJournal, Fuse, Crash, Clock, ByLabel, RecoveryUnits, Put, Get, Next, Delete}
use Rattle.transcript_model.specs.commit_protocol.Messages as message
use Rattle.transcript_model.specs.commit_protocol.Messages.{Message}
use Rattle.run_model.specs.World.{World, Node, Faulty, Outturn, Lost, Taken, made_volume, nothing_volatile, opened}
use Rattle.run_model.specs.Steps.{Choice, Whole, Cut}
use Rattle.run_model.specs.Statements.{Part, Phase, part_effect, phases_of, refused_at_once, begun_with}

-- a statement, and how its parts end, one after another; those for which nothing is said are done whole, where no act was under way
pub record Move : Type 0 where
  pub statement : Statement
  pub choices : List Choice

-- what was shown so far, the last answer, whether the statement ended with it, the world then, and how the parts to come end
pub record Played : Type 0 where
  pub lines : List Line
  pub answer : Line
  pub over : Bool
  pub world : World
  pub left : List Choice

-- how the next part ends
abbrev pub next_of : List Choice → Choice
next_of [] = Whole Lost
next_of (c ∷ cs) = c

-- one part more, unless the statement has ended
abbrev pub with_part : Part → Played → Played
with_part p q = if q.over then q else
    let e = part_effect q.world p (next_of q.left) in record { lines = q.lines ++ e.lines; answer = e.answer; over = e.ends; world = e.world; left = drop 1 q.left }

-- these parts, and these phases
abbrev pub with_parts : List Part → Played → Played
with_parts [] q = q
with_parts (p ∷ ps) q = with_parts ps (with_part p q)

abbrev pub with_phases : List Phase → Played → Played
with_phases [] q = q
with_phases (p ∷ ps) q = with_phases ps (with_parts (p q.world) q)

-- a statement, unless it is refused at once
abbrev pub begun_so : Option Line → World → Move → Played
begun_so (Some refusal) w m = record { lines = []; answer = refusal; over = true; world = w; left = [] }
begun_so None w m = with_phases (phases_of m.statement) (record { lines = []; answer = line.Normal; over = false; world = begun_with m.statement w; left = m.choices })

abbrev pub move_played : World → Move → Played
move_played w m = begun_so (refused_at_once w m.statement) w m

-- what a statement shows, its answer last, and the world after it
pub record Shown : Type 0 where
  pub lines : List Line
  pub world : World

abbrev pub shown : World → Move → Shown
shown w m = record { lines = (move_played w m).lines ++ (move_played w m).answer ∷ []; world = (move_played w m).world }

-- what moves show, one after another
abbrev pub played : World → List Move → List (List Line)
played w [] = []
played w (m ∷ ms) = (shown w m).lines ∷ played (shown w m).world ms

-- a node, which is down, and whose disk has so many blocks, all of zeros: the first condition of a volume fails at block 518
abbrev pub zeros : (name : List ℕ) → (blocks : ℕ) → Node
zeros name blocks = record {
  name = name;
  blocks = blocks;
  durable = record (made_volume 0 0) { volume = Faulty 1 518; directory = [] };
  volatile = nothing_volatile;
  unmade = false;
  up = false;
  was_up = false;
  clock = 0;
  settled = [];
  calls = [];
  under_way = None;
}

-- a rack of A alone
abbrev pub zero_world : (blocks : ℕ) → World
zero_world blocks = opened (zeros (codes "A") blocks ∷ []) (record { faults = 0; stops = 0 } ∷ [])

-- a request to A that is done whole, where no act was under way
abbrev pub says : Request → Move
says request = record { statement = At (codes "A") request; choices = [] }

-- the id that A draws in this boot as this one
abbrev pub id : (boot seq : ℕ) → Id
id boot seq = record { node = codes "A"; boot = boot; seq = seq }

-- the moves that make the node and its file F, of ten records in cells of 100 bytes, and what they show
abbrev pub base_moves : List Move
base_moves = says (Init 64 64) ∷ says Boot ∷ says (Create (codes "F") 1 100 (said.Relative 10)) ∷ says (SetFile (codes "F") RecoveryUnits) ∷ []

abbrev pub base_lines : List (List Line)
base_lines = (line.Normal ∷ []) ∷ (line.NormalCount 1 ∷ []) ∷ (line.Normal ∷ []) ∷ (line.Normal ∷ []) ∷ []

-- T begins, and puts the record "a" at number 1 of F
abbrev pub put_moves : List Move
put_moves = says (StartTrans (codes "T") None) ∷ says (Records (codes "T") (codes "F") (Put (Some 1) (codes "a"))) ∷ []

abbrev pub put_lines : List (List Line)
put_lines = (line.NormalId (id 1 1) ∷ []) ∷ (line.RecordNormal ∷ []) ∷ []

-- on a disk of 720 blocks the base, and behind it these moves, show these lines
abbrev pub Plays : List Move → List (List Line) → Type 0
Plays moves lines = played (zero_world 720) (base_moves ++ moves) ≡ base_lines ++ lines

-- A change is in the journal with what it found, from the beginning on; once its branch is committed nothing is.
abbrev pub ChangeIsInJournal : Type 0
ChangeIsInJournal = Plays (put_moves ++ says DumpJournal ∷ says (EndTrans (codes "T")) ∷ says DumpJournal ∷ [])
    (put_lines ++ (line.ChangeEntry 0 (id 1 1) (id 1 1) (codes "F") (Number 1) None ∷ line.NormalSpan 0 52 ∷ [])
    ∷ (line.Committed (id 1 1) (id 1 1) 1 ∷ line.Normal ∷ []) ∷ (line.NormalSpan 100 100 ∷ []) ∷ [])

-- A restart undoes a branch that was not settled, and says so; its record is gone.
abbrev pub RestartUndoes : Type 0
RestartUndoes = Plays (put_moves ++ says Crash ∷ says Boot ∷ says (Dump (codes "F")) ∷ [])
    (put_lines ++ (line.Crashed (codes "A") ∷ line.Normal ∷ []) ∷ (line.Aborted (id 1 1) (id 1 1) SegFail 1 ∷ line.NormalCount 2 ∷ []) ∷ (line.NormalCount 0 ∷ []) ∷ [])

-- What one branch has put another does not read before it is committed.
abbrev pub LockedRecordIsRefused : Type 0
LockedRecordIsRefused = Plays (put_moves ++ says (StartTrans (codes "U") None) ∷ says (Records (codes "U") (codes "F") (Get (Number 1))) ∷ says (EndTrans (codes "T"))
    ∷ says (Records (codes "U") (codes "F") (Get (Number 1))) ∷ says (Records (codes "U") (codes "F") (Next (Some (Number 1)))) ∷ says (Records (codes "U") (codes "F") (Delete (Number 2))) ∷ [])
    (put_lines ++ (line.NormalId (id 1 2) ∷ []) ∷ (line.RecordLocked (id 1 1) ∷ []) ∷ (line.Committed (id 1 1) (id 1 1) 1 ∷ line.Normal ∷ [])
    ∷ (line.RecordFound (codes "a") ∷ []) ∷ (line.EndOfFile ∷ []) ∷ (line.RecordNotFound ∷ []) ∷ [])

-- A change without a label is a transaction of its own. It is made of a file that is not marked, and a label's of one that is. The longest record has 8,160 bytes.
abbrev pub direct_moves : (bytes longer : List ℕ) → List Move
direct_moves bytes longer = says (Create (codes "G") 16 8160 (said.Relative 4)) ∷ says (Direct (codes "G") (Put (Some 4) bytes)) ∷ says (Direct (codes "G") (Put (Some 4) longer))
    ∷ says (StartTrans (codes "T") None) ∷ says (Records (codes "T") (codes "G") (Get (Number 4))) ∷ says (Direct (codes "F") (Put (Some 1) (codes "a"))) ∷ []

abbrev pub direct_lines : List (List Line)
direct_lines = (line.Normal ∷ []) ∷ (line.Committed (id 1 1) (id 1 1) 1 ∷ line.RecordNormal ∷ []) ∷ (line.BadRecordSize ∷ []) ∷ (line.NormalId (id 1 2) ∷ []) ∷ (line.NotForUnits ∷ []) ∷ (line.NeedsUnit ∷ []) ∷ []

abbrev pub ChangeWithoutLabel : Type 0
ChangeWithoutLabel = (bytes longer : List ℕ) → length bytes ≡ 8160 → length longer ≡ 8161 → played (zero_world 784) (base_moves ++ direct_moves bytes longer) ≡ base_lines ++ direct_lines

-- The disk is stopped in a change, and its act was under way or was not; it was taken, or was not, once the disk runs again. In each case the record is gone
-- after the restart, which undoes the branch where the change was taken.
abbrev pub stopped_moves : (begun : Bool) → Outturn → List Move
stopped_moves begun taken = says (StartTrans (codes "T") None) ∷ says (Fuse 0 0)
    ∷ record { statement = At (codes "A") (Records (codes "T") (codes "F") (Put (Some 1) (codes "a"))); choices = Cut Lost 0 begun Stopped ∷ [] }
    ∷ says (Dump (codes "F")) ∷ record { statement = At (codes "A") Boot; choices = Whole taken ∷ [] } ∷ says (Dump (codes "F")) ∷ []

abbrev pub stopped_lines : List Line → List (List Line)
stopped_lines booted = (line.NormalId (id 1 1) ∷ []) ∷ (line.Normal ∷ []) ∷ (line.Down (codes "A") Stopped ∷ line.Broken Stopped ∷ []) ∷ (line.NodeDown ∷ []) ∷ booted ∷ (line.NormalCount 0 ∷ []) ∷ []

abbrev pub StoppedChangeIsGone : Type 0
StoppedChangeIsGone = Plays (stopped_moves true Lost) (stopped_lines (line.NormalCount 2 ∷ []))

abbrev pub TakenChangeIsUndone : Type 0
TakenChangeIsUndone = Plays (stopped_moves true Taken) (stopped_lines (line.Aborted (id 1 1) (id 1 1) SegFail 1 ∷ line.NormalCount 2 ∷ []))

-- The disk is stopped in a commitment, and the restart tells whether it was taken: by the last settlement, or by undoing the branch.
abbrev pub commit_moves : Outturn → List Move
commit_moves taken = put_moves ++ record { statement = At (codes "A") (EndTrans (codes "T")); choices = Cut Lost 1 true Stopped ∷ [] } ∷ record { statement = At (codes "A") Boot; choices = Whole taken ∷ [] } ∷ says (Dump (codes "F")) ∷ []

abbrev pub commit_lines : (booted dumped : List Line) → List (List Line)
commit_lines booted dumped = put_lines ++ (line.Down (codes "A") Stopped ∷ line.Broken Stopped ∷ []) ∷ booted ∷ dumped ∷ []

abbrev pub TakenCommitIsTold : Type 0
TakenCommitIsTold = Plays (commit_moves Taken) (commit_lines (line.LastCommitted (id 1 1) (id 1 1) 1 ∷ line.NormalCount 2 ∷ []) (line.Record (Number 1) (codes "a") ∷ line.NormalCount 1 ∷ []))

abbrev pub LostCommitIsUndone : Type 0
LostCommitIsUndone = Plays (commit_moves Lost) (commit_lines (line.Aborted (id 1 1) (id 1 1) SegFail 1 ∷ line.NormalCount 2 ∷ []) (line.NormalCount 0 ∷ []))

-- An indexed file of two buckets has one free, and a record asks for three.
abbrev pub FileIsFull : Type 0
FileIsFull = Plays (says (Create (codes "I") 1 40 (said.Indexed 2 0 2)) ∷ says (Direct (codes "I") (Put None (codes "aa"))) ∷ [])
    ((line.Normal ∷ []) ∷ (line.FileFull 1 3 ∷ []) ∷ [])

-- Two nodes.

-- a rack of A and B
abbrev pub two_zeros : World
two_zeros = opened (zeros (codes "A") 720 ∷ zeros (codes "B") 720 ∷ []) (record { faults = 0; stops = 0 } ∷ record { faults = 0; stops = 0 } ∷ [])

-- a request to B, and a statement that is done whole
abbrev pub tells_b : Request → Move
tells_b request = record { statement = At (codes "B") request; choices = [] }

abbrev pub does : Statement → Move
does statement = record { statement = statement; choices = [] }

-- the id that B draws in this boot as this one
abbrev pub id_b : (boot seq : ℕ) → Id
id_b boot seq = record { node = codes "B"; boot = boot; seq = seq }

-- the message of this kind from A to B, or from B to A, of the transaction A.1.1 and its branch B.1.1
abbrev pub to_b : message.Kind → Message
to_b kind = record { kind = kind; from = codes "A"; to = codes "B"; tid = id 1 1; serial = id_b 1 1; bid = None }

abbrev pub to_a : message.Kind → Message
to_a kind = record { kind = kind; from = codes "B"; to = codes "A"; tid = id 1 1; serial = id_b 1 1; bid = None }

-- the moves that make both nodes with a file each, and begin a transaction that is to have a branch at B
abbrev pub pair_moves : List Move
pair_moves = says (Init 64 64) ∷ tells_b (Init 64 64) ∷ says Boot ∷ tells_b Boot ∷ says (Create (codes "F") 1 100 (said.Relative 10)) ∷ tells_b (Create (codes "G") 1 100 (said.Relative 10))
    ∷ says (SetFile (codes "F") RecoveryUnits) ∷ tells_b (SetFile (codes "G") RecoveryUnits) ∷ says (StartTrans (codes "T") None) ∷ says (AddBranch (codes "T") (codes "B") (codes "U")) ∷ []

abbrev pub pair_lines : List (List Line)
pair_lines = (line.Normal ∷ []) ∷ (line.Normal ∷ []) ∷ (line.NormalCount 1 ∷ []) ∷ (line.NormalCount 1 ∷ []) ∷ (line.Normal ∷ []) ∷ (line.Normal ∷ [])
    ∷ (line.Normal ∷ []) ∷ (line.Normal ∷ []) ∷ (line.NormalId (id 1 1) ∷ []) ∷ (line.NormalId (id 1 2) ∷ []) ∷ []

-- the branch joins, and a record is put at both nodes
abbrev pub join_moves : List Move
join_moves = tells_b (StartBranch (codes "U")) ∷ does (Deliver 1) ∷ does (Deliver 2)
    ∷ says (Records (codes "T") (codes "F") (Put (Some 1) (codes "a"))) ∷ tells_b (Records (codes "U") (codes "G") (Put (Some 1) (codes "b"))) ∷ []

abbrev pub join_lines : List (List Line)
join_lines = (line.Sent 1 (record (to_a message.Join) { bid = Some (id 1 2) }) ∷ line.Pending (id_b 1 1 ∷ []) [] ∷ [])
    ∷ (line.Joined (id 1 1) (id_b 1 1) ∷ line.Sent 2 (to_b message.JoinOk) ∷ line.Normal ∷ []) ∷ (line.Started (id 1 1) (id_b 1 1) ∷ line.Normal ∷ [])
    ∷ (line.RecordNormal ∷ []) ∷ (line.RecordNormal ∷ []) ∷ []

-- it is ended, asked and prepared,
abbrev pub prepare_moves : List Move
prepare_moves = tells_b (EndBranch (codes "U")) ∷ says (EndTrans (codes "T")) ∷ does (Deliver 3) ∷ []

abbrev pub prepare_lines : List (List Line)
prepare_lines = (line.Normal ∷ []) ∷ (line.Sent 3 (to_b message.Prepare) ∷ line.Pending (id_b 1 1 ∷ []) [] ∷ [])
    ∷ (line.Prepared (id 1 1) (id_b 1 1) ∷ line.Sent 4 (to_a message.Yes) ∷ line.Normal ∷ []) ∷ []

-- and its vote comes, so that the transaction is committed
abbrev pub vote_moves : List Move
vote_moves = does (Deliver 4) ∷ []

abbrev pub vote_lines : List (List Line)
vote_lines = (line.Committed (id 1 1) (id 1 1) 1 ∷ line.Sent 5 (to_b message.Commit) ∷ line.Ended (id 1 1) None ∷ line.Normal ∷ []) ∷ []

-- the pair shows these lines behind those
abbrev pub Pairs : List Move → List (List Line) → Type 0
Pairs moves lines = played two_zeros (pair_moves ++ moves) ≡ pair_lines ++ lines

-- The branch is told to commit and acknowledges; then the coordinator forgets the transaction.
abbrev pub BothCommit : Type 0
BothCommit = Pairs (join_moves ++ prepare_moves ++ vote_moves ++ does (Deliver 5) ∷ does (Deliver 6) ∷ tells_b (Dump (codes "G")) ∷ [])
    (join_lines ++ prepare_lines ++ vote_lines ++ (line.Committed (id 1 1) (id_b 1 1) 1 ∷ line.Sent 6 (to_a message.Ack) ∷ line.Normal ∷ []) ∷ (line.Forgot (id 1 1) (id 1 1) ∷ line.Normal ∷ [])
    ∷ (line.Record (Number 1) (codes "b") ∷ line.NormalCount 1 ∷ []) ∷ [])

-- A prepared branch that fell holds its keys after the boot, asks, and is committed; what comes late or twice changes nothing any more.
abbrev pub DoubtIsResolved : Type 0
DoubtIsResolved = Pairs (join_moves ++ prepare_moves ++ vote_moves ++ does (At (codes "B") Crash) ∷ tells_b Boot ∷ tells_b (Direct (codes "G") (Get (Number 1))) ∷ tells_b (Inquire (ByLabel (codes "U"))) ∷ does (Deliver 6) ∷ does (Deliver 7)
    ∷ tells_b (Direct (codes "G") (Get (Number 1))) ∷ does (Deliver 8) ∷ does (Deliver 3) ∷ does (Deliver 6) ∷ does (Deliver 9) ∷ does (Deliver 10) ∷ tells_b (Dump (codes "G")) ∷ [])
    (join_lines ++ prepare_lines ++ vote_lines ++ (line.Crashed (codes "B") ∷ line.Normal ∷ []) ∷ (line.Prepared (id 1 1) (id_b 1 1) ∷ line.NormalCount 2 ∷ []) ∷ (line.RecordLocked (id_b 1 1) ∷ [])
    ∷ (line.Sent 6 (to_a message.Inquire) ∷ line.Normal ∷ []) ∷ (line.Sent 7 (to_b message.Commit) ∷ line.Normal ∷ []) ∷ (line.Committed (id 1 1) (id_b 1 1) 1 ∷ line.Sent 8 (to_a message.Ack) ∷ line.Normal ∷ [])
    ∷ (line.RecordFound (codes "b") ∷ []) ∷ (line.Forgot (id 1 1) (id 1 1) ∷ line.Normal ∷ []) ∷ (line.Sent 9 (to_a message.No) ∷ line.Normal ∷ []) ∷ (line.Sent 10 (to_b message.Abort) ∷ line.Normal ∷ [])
    ∷ (line.Normal ∷ []) ∷ (line.Normal ∷ []) ∷ (line.Record (Number 1) (codes "b") ∷ line.NormalCount 1 ∷ []) ∷ [])

-- A coordinator that fell before it committed has no record, and answers that its transaction is aborted.
abbrev pub AbortIsPresumed : Type 0
AbortIsPresumed = Pairs (join_moves ++ prepare_moves ++ says Crash ∷ says Boot ∷ tells_b (Inquire (ByLabel (codes "U"))) ∷ does (Deliver 5) ∷ does (Deliver 6) ∷ [])
    (join_lines ++ prepare_lines ++ (line.Crashed (codes "A") ∷ line.Normal ∷ []) ∷ (line.Aborted (id 1 1) (id 1 1) SegFail 1 ∷ line.NormalCount 2 ∷ [])
    ∷ (line.Sent 5 (to_a message.Inquire) ∷ line.Normal ∷ []) ∷ (line.Sent 6 (to_b message.Abort) ∷ line.Normal ∷ []) ∷ (line.Aborted (id 1 1) (id_b 1 1) ByRequest 1 ∷ line.Normal ∷ []) ∷ [])

-- A transaction with a branch that never joined cannot end.
abbrev pub MissingBranchAborts : Type 0
MissingBranchAborts = Pairs (says (EndTrans (codes "T")) ∷ []) ((line.Aborted (id 1 1) (id 1 1) SyncFail 1 ∷ line.TransactionAborted SyncFail ∷ []) ∷ [])

-- A transaction is aborted by the clock that reaches its time.
abbrev pub TimeRunsOut : Type 0
TimeRunsOut = Plays (says (StartTrans (codes "T") (Some 10)) ∷ says (Clock 999) ∷ says (Clock 1000) ∷ [])
    ((line.NormalId (id 1 1) ∷ []) ∷ (line.Normal ∷ []) ∷ (line.Aborted (id 1 1) (id 1 1) Timeout 1000 ∷ line.Normal ∷ []) ∷ [])

-- A link that fails aborts what was to go over it, at both nodes.
abbrev pub LostLinkAborts : Type 0
LostLinkAborts = Pairs (join_moves ++ does (LinkDown (codes "A") (codes "B")) ∷ [])
    (join_lines ++ (line.Aborted (id 1 1) (id 1 1) CommFail 1 ∷ line.Sent 3 (to_b message.Abort) ∷ line.Aborted (id 1 1) (id_b 1 1) CommFail 1 ∷ line.Sent 4 (to_a message.No) ∷ line.Normal ∷ []) ∷ [])

-- A settling asks for each prepared branch, and tells it the outcome.
abbrev pub SettlingAsks : Type 0
SettlingAsks = Pairs (join_moves ++ prepare_moves ++ vote_moves ++ does Settle ∷ [])
    (join_lines ++ prepare_lines ++ vote_lines ++ (line.Asked (id 1 1) (id_b 1 1) ToCommit ∷ line.Committed (id 1 1) (id_b 1 1) 1 ∷ line.Sent 6 (to_a message.Ack) ∷ line.Normal ∷ []) ∷ [])

-- A settling boots a node that is down; then no volume is made any more.
abbrev pub SettlingBoots : Type 0
SettlingBoots = played (zero_world 720) (says (Init 64 64) ∷ does Settle ∷ says (Init 64 64) ∷ []) ≡ (line.Normal ∷ []) ∷ (line.Booted (codes "A") 1 ∷ line.Normal ∷ []) ∷ (line.VolumeInUse ∷ []) ∷ []
