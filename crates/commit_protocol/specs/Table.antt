-- The table of one node: its unsettled branches and its committed records, and the acts that change it.
use Rattle.std.specs.Prelude.{ℕ, ◌&&◌, Bool, true, false, List, [], ◌∷◌, ◌++◌, Option, Some, None, if◌then◌else◌}
use Rattle.std.specs.List.{list_any}
use Rattle.vms_model.specs.Ids.{Id}
use Rattle.vms_model.specs.Transactions.{Outcome, Reason}
use Rattle.commit_protocol.specs.Messages.{Name, Kind, Message, RmEvent, Reply, PreparedReply, LogRecord, PreparedRecord, same_name, same_id}

-- a branch is a transaction and a serial
pub record Key : Type 0 where
  pub tid : Id
  pub serial : Id

-- A first branch is active or ending; another is joining, active or voting; either may be prepared. A branch that is settled or read-only is not there.
pub data State : Type 0 where
  Joining : State
  Active : State
  Ending : State
  Voting : State
  Prepared : State

-- a serial that the first branch has accepted, by which identifier, and its vote once it is noted: Yes or ReadOnly
pub record Child : Type 0 where
  pub bid : Id
  pub serial : Id
  pub vote : Option Kind

-- a resource manager that joined: the event that waits for its reply, and the reply that was noted last
pub record Manager : Type 0 where
  pub rm : Name
  pub event : Option RmEvent
  pub reply : Option Reply

-- an unsettled branch, as its node knows it
pub record Branch : Type 0 where
  pub key : Key
  pub bid : Option Id
  pub state : State
  pub changed : Bool
  pub ended : Bool
  pub asked : Bool
  pub bids : List Id
  pub accepted : List Child
  pub managers : List Manager
  pub due : Option ℕ

-- it is the same branch
unfoldable pub same_key : Key → Key → Bool
same_key a b = same_id a.tid b.tid && same_id a.serial b.serial

-- the first branch of a transaction is the transaction itself
abbrev pub first : Id → Key
first t = record { tid = t; serial = t }

-- a branch of the transaction that the parent accepted under this serial
abbrev pub child : Id → Id → Key
child t s = record { tid = t; serial = s }

-- the node that decides a branch, and the node that the branch is at
abbrev pub coordinator_of : Key → Name
coordinator_of k = k.tid.node

-- the node that the branch is at
abbrev pub home_of : Key → Name
home_of k = k.serial.node

-- the branch is the first of its transaction
abbrev pub is_first : Branch → Bool
is_first b = same_key b.key (first b.key.tid)

-- the branch that a message speaks of
abbrev pub key_of : Message → Key
key_of m = record { tid = m.tid; serial = m.serial }

-- the branch with this key, and the first one with this serial
abbrev pub find : Key → List Branch → Option Branch
find k [] = None
find k (b ∷ bs) = if same_key b.key k then Some b else find k bs

-- the first branch with this serial
abbrev pub find_serial : Id → List Branch → Option Branch
find_serial s [] = None
find_serial s (b ∷ bs) = if same_id b.key.serial s then Some b else find_serial s bs

-- the branch takes the place of the one with its key, or comes last: branches stand in order of start
abbrev pub put : Branch → List Branch → List Branch
put b [] = b ∷ []
put b (x ∷ xs) = if same_key x.key b.key then b ∷ xs else x ∷ put b xs

-- the branches but this one
abbrev pub cut : Key → List Branch → List Branch
cut k [] = []
cut k (b ∷ bs) = if same_key b.key k then cut k bs else b ∷ cut k bs

-- the keys but this one
abbrev pub cut_keys : Key → List Key → List Key
cut_keys k [] = []
cut_keys k (j ∷ js) = if same_key j k then cut_keys k js else j ∷ cut_keys k js

-- the serials of branches, and of records, in their order
abbrev pub branch_serials : List Branch → List Id
branch_serials [] = []
branch_serials (b ∷ bs) = b.key.serial ∷ branch_serials bs

-- the serials of records
abbrev pub record_serials : List LogRecord → List Id
record_serials [] = []
record_serials (r ∷ rs) = r.serial ∷ record_serials rs

-- the serials but this one
abbrev pub without : Id → List Id → List Id
without s [] = []
without s (x ∷ xs) = if same_id x s then without s xs else x ∷ without s xs

-- the managers but this one
abbrev pub without_rm : Name → List Name → List Name
without_rm x [] = []
without_rm x (y ∷ ys) = if same_name y x then without_rm x ys else y ∷ without_rm x ys

-- neither a serial nor a manager is waited for
abbrev pub nothing_left : List Id → List Name → Bool
nothing_left [] [] = true
nothing_left [] (y ∷ ys) = false
nothing_left (x ∷ xs) ys = false

-- a record in front of the others, unless it waits for nothing any more
abbrev pub keep_record : LogRecord → List LogRecord → List LogRecord
keep_record r rest = if nothing_left r.waiting r.rms then rest else r ∷ rest

-- a committed record of the branch's transaction waits for its serial
abbrev pub waits_for : Key → LogRecord → Bool
waits_for k r = same_id r.tid k.tid && list_any (λ s. same_id s k.serial) r.waiting

-- a committed record of this serial waits for the manager
abbrev pub holds : Id → Name → LogRecord → Bool
holds s x r = same_id r.serial s && list_any (λ y. same_name y x) r.rms

-- the record waits for the serial no more
abbrev pub acknowledged : Key → LogRecord → LogRecord
acknowledged k r = record r { waiting = without k.serial r.waiting }

-- the record waits for the manager no more
abbrev pub released : Name → LogRecord → LogRecord
released x r = record r { rms = without_rm x r.rms }

-- the first record that waits for the serial waits for it no more
abbrev pub acknowledge : Key → List LogRecord → List LogRecord
acknowledge k [] = []
acknowledge k (r ∷ rs) = if waits_for k r then keep_record (acknowledged k r) rs else r ∷ acknowledge k rs

-- likewise of a manager
abbrev pub release : Id → Name → List LogRecord → List LogRecord
release s x [] = []
release s x (r ∷ rs) = if holds s x r then keep_record (released x r) rs else r ∷ release s x rs

-- the managers that replied prepared, in order of joining
abbrev pub replied_prepared : Option Reply → Bool
replied_prepared (Some PreparedReply) = true
replied_prepared _ = false

-- the managers whose outcome is owed to them
abbrev pub holding : List Manager → List Name
holding [] = []
holding (m ∷ ms) = if replied_prepared m.reply then m.rm ∷ holding ms else holding ms

-- the record that a prepared branch has in the log
abbrev pub prepared_record : Branch → LogRecord
prepared_record b = record { kind = PreparedRecord; tid = b.key.tid; serial = b.key.serial; waiting = []; rms = holding b.managers }

-- the record of a branch that is prepared, in front of the rest
abbrev pub prepared_state : Branch → State → List LogRecord → List LogRecord
prepared_state b Prepared rest = prepared_record b ∷ rest
prepared_state b _ rest = rest

-- the prepared records of a node with these branches
abbrev pub prepared_records : List Branch → List LogRecord
prepared_records [] = []
prepared_records (b ∷ bs) = prepared_state b b.state (prepared_records bs)

-- a prepared branch after a restart, as its record tells it
abbrev pub managers_of : List Name → List Manager
managers_of [] = []
managers_of (x ∷ xs) = record { rm = x; event = None; reply = Some PreparedReply } ∷ managers_of xs

-- the branch of a record
abbrev pub record_key : LogRecord → Key
record_key r = record { tid = r.tid; serial = r.serial }

-- the branch of a prepared record
abbrev pub branch_of : LogRecord → Branch
branch_of r = record { key = record_key r; bid = None; state = Prepared; changed = false; ended = true; asked = true; bids = []; accepted = []; managers = managers_of r.rms; due = None }

-- the branches of prepared records
abbrev pub branches_of : List LogRecord → List Branch
branches_of [] = []
branches_of (r ∷ rs) = branch_of r ∷ branches_of rs

-- what one node knows: its unsettled branches in order of start, and its committed records
pub record Tm : Type 0 where
  pub node : Name
  pub table : List Branch
  pub records : List LogRecord

-- after a restart it knows the records of its log: the prepared ones as its branches, and the committed ones
abbrev pub restarted : Name → List LogRecord → List LogRecord → Tm
restarted n prepared committed = record { node = n; table = branches_of prepared; records = committed }

-- lines that change nothing: a branch has started, the outcome of an END_TRANS that was pending, an event to a manager that joined. Whether the manager is
-- declared is not the table's matter: who shows the lines leaves out the events of those that are not.
pub data Line : Type 0 where
  Started : (k : Key) → Line
  Ended : (t : Id) (reason : Option Reason) → Line
  Told : (e : RmEvent) (k : Key) (rm : Name) → Line

-- What a row does, in order. Each act is one change, which is done whole or not at all.
pub data Act : Type 0 where
  -- the node notes this of the branch; nothing of it lasts
  Notes : (b : Branch) → Act
  -- the serial is accepted, and comes last among those of the branch
  Accepts : (b : Branch) (c : Child) → Act
  -- the branch has its Prepared entry and its prepared record
  Prepares : (b : Branch) → Act
  -- the branch is settled, and its committed record is written where there is one; the reason counts for aborts alone
  Settles : (k : Key) (o : Outcome) (reason : Reason) (r : Option LogRecord) → Act
  -- the branch votes read-only and is not there any more
  Leaves : (k : Key) → Act
  -- the first committed record that waits for the serial waits for it no more
  Acknowledges : (k : Key) → Act
  -- likewise of a manager
  Releases : (s : Id) (rm : Name) → Act
  -- a boot undoes and settles a unit that the node's fall left
  Undoes : (k : Key) → Act
  Sends : (m : Message) → Act
  Prints : (l : Line) → Act

-- the branches after an act
abbrev pub table_after : Act → List Branch → List Branch
table_after (Notes b) bs = put b bs
table_after (Accepts b c) bs = put (record b { accepted = b.accepted ++ c ∷ [] }) bs
table_after (Prepares b) bs = put (record b { state = Prepared }) bs
table_after (Settles k o reason r) bs = cut k bs
table_after (Leaves k) bs = cut k bs
table_after (Acknowledges k) bs = bs
table_after (Releases s x) bs = bs
table_after (Undoes k) bs = cut k bs
table_after (Sends m) bs = bs
table_after (Prints l) bs = bs

-- a new record comes last
abbrev pub add_record : Option LogRecord → List LogRecord → List LogRecord
add_record None rs = rs
add_record (Some r) rs = rs ++ r ∷ []

-- the committed records after it
abbrev pub records_after : Act → List LogRecord → List LogRecord
records_after (Notes b) rs = rs
records_after (Accepts b c) rs = rs
records_after (Prepares b) rs = rs
records_after (Settles k o reason r) rs = add_record r rs
records_after (Leaves k) rs = rs
records_after (Acknowledges k) rs = acknowledge k rs
records_after (Releases s x) rs = release s x rs
records_after (Undoes k) rs = rs
records_after (Sends m) rs = rs
records_after (Prints l) rs = rs

-- what the node knows after an act
abbrev pub after_act : Act → Tm → Tm
after_act a tm = record { node = tm.node; table = table_after a tm.table; records = records_after a tm.records }

-- what the node knows after a list of acts
abbrev pub after : List Act → Tm → Tm
after [] tm = tm
after (a ∷ acts) tm = after acts (after_act a tm)
