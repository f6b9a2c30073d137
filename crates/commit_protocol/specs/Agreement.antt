-- What agreement is.
use Rattle.std.specs.Prelude.{ℕ, ◌≡◌, ◌≢◌, ◌≤◌, Bool, true, List, [], ◌∷◌, Option, Some, None, ◌⊎◌}
use Rattle.vms_model.specs.Ids.{Id}
use Rattle.vms_model.specs.Transactions.{Outcome, Commit as ToCommit, Abort as ToAbort}
use Rattle.commit_protocol.specs.Messages.{Name, Kind, Prepare, Yes, ReadOnly, Commit, Abort, Ack, Inquire, Message, LogRecord}
use Rattle.commit_protocol.specs.Table.{Key, Branch, State, Joining, Active, Ending, Voting, Prepared, Child, first, key_of, child, coordinator_of, home_of, find}
use Rattle.commit_protocol.specs.World.{World, In}

-- where a branch stands at its node: not there, unprepared, or prepared
pub data Phase : Type 0 where
  Gone : Phase
  Running : Phase
  Ready : Phase

-- the phase of a state
abbrev pub phase_of : State → Phase
phase_of Joining = Running
phase_of Active = Running
phase_of Ending = Running
phase_of Voting = Running
phase_of Prepared = Ready

-- the phase of what a node knows of a branch
abbrev pub phase : Option Branch → Phase
phase None = Gone
phase (Some b) = phase_of b.state

-- whether a node is up, its boot count, and the last sequence of this boot
pub record Status : Type 0 where
  pub up : Bool
  pub boot : ℕ
  pub seq : ℕ

-- what agreement sees of a world
pub record View : Type 0 where
  pub there : Name → Bool
  -- what its node knows of a branch
  pub at : Key → Option Branch
  pub records : Name → List LogRecord
  pub status : Name → Status
  pub sent : List Message
  pub accepted : List Key
  pub read_only : List Key
  pub settled : List (Key × Outcome)
  pub shown : List Id
  pub lost : Name → List Key
  pub made : List Id

-- the view of a world: each branch is looked up at its own node
abbrev pub view : World → View
view w = record {
  there = w.rack;
  at = λ k. find k (w.nodes (home_of k)).table;
  records = λ n. (w.nodes n).records;
  status = λ n. record { up = (w.nodes n).up; boot = (w.nodes n).boot; seq = (w.nodes n).seq };
  sent = w.sent;
  accepted = w.accepted;
  read_only = w.read_only;
  settled = w.settled;
  shown = w.shown;
  lost = λ n. (w.nodes n).lost;
  made = w.made;
}

-- the branch is there and unprepared; of a first branch: the transaction is undecided
abbrev pub IsRunning : View → Key → Type 0
IsRunning w k = phase (w.at k) ≡ Running

-- the branch is prepared at its node
abbrev pub IsReady : View → Key → Type 0
IsReady w k = phase (w.at k) ≡ Ready

-- the branch was settled by commit
abbrev pub IsCommitted : View → Key → Type 0
IsCommitted w k = In (k, ToCommit) w.settled

-- the branch was settled by abort
abbrev pub IsAborted : View → Key → Type 0
IsAborted w k = In (k, ToAbort) w.settled

-- the branch was settled, one way or the other
abbrev pub IsSettled : View → Key → Type 0
IsSettled w k = (o : Outcome) × In (k, o) w.settled

-- the branch voted read-only
abbrev pub IsReadOnly : View → Key → Type 0
IsReadOnly w k = In k w.read_only

-- the branch was accepted
abbrev pub IsAccepted : View → Key → Type 0
IsAccepted w k = In k w.accepted

-- the transaction is committed: its first branch is, or an opening image shows a commit of it
abbrev pub Commits : View → Id → Type 0
Commits w t = IsCommitted w (first t) ⊎ In t w.shown

-- the id's boot was reached by its node, and in the current boot its sequence was drawn
pub record IsOld (w : View) (i : Id) : Type 0 where
  pub boot : w.there i.node ≡ true → i.boot ≤ (w.status i.node).boot
  pub seq : (w.status i.node).up ≡ true → i.boot ≡ (w.status i.node).boot → i.seq ≤ (w.status i.node).seq

-- the transaction is old, and neither undecided nor committed
pub record IsDead (w : View) (t : Id) : Type 0 where
  pub old : IsOld w t
  pub undecided : phase (w.at (first t)) ≢ Running
  pub commits : Commits w t → ⊥

-- a committed record of this node waits for the branch
abbrev pub Waits : View → Name → Key → Type 0
Waits w n k = (r : LogRecord) × In r (w.records n) × (r.tid ≡ k.tid) × In k.serial r.waiting

-- prepared or committed
abbrev pub IsHeld : View → Key → Type 0
IsHeld w k = IsReady w k ⊎ IsCommitted w k

-- prepared or committed, or the transaction is dead
abbrev pub IsSure : View → Key → Type 0
IsSure w k = IsReady w k ⊎ (IsCommitted w k ⊎ IsDead w k.tid)

-- a message of this kind was sent of the branch
abbrev pub WasSent : View → Kind → Key → Type 0
WasSent w v k = (m : Message) × In m w.sent × (m.kind ≡ v) × (key_of m ≡ k)

-- no branch is settled twice
abbrev pub Once : List (Key × Outcome) → Type 0
Once [] = Unit {0}
Once (s ∷ ss) = ((o : Outcome) → In (s.0, o) ss → ⊥) × Once ss

-- no id stands twice
abbrev pub Distinct : List Id → Type 0
Distinct [] = Unit {0}
Distinct (x ∷ xs) = (In x xs → ⊥) × Distinct xs

-- no identifier has two of these serials
abbrev pub DistinctBids : List Child → Type 0
DistinctBids [] = Unit {0}
DistinctBids (c ∷ cs) = ((d : Child) → In d cs → d.bid ≡ c.bid → ⊥) × DistinctBids cs

-- what stands behind a commit: a Commit that was sent, a committed record, and a committed branch
pub record CommitsFollow (w : View) : Type 0 where
  pub sent : (k : Key) → WasSent w Commit k → Commits w k.tid × IsAccepted w k × IsHeld w k
  pub waiting : (n : Name) (k : Key) → Waits w n k → Commits w k.tid × IsAccepted w k × IsHeld w k
  pub recorded : (n : Name) (r : LogRecord) → In r (w.records n) → Commits w r.tid
  pub branch : (k : Key) → IsCommitted w k → Commits w k.tid

-- what was asked is accepted: it was sent a Prepare, was asked, or is prepared; and one that inquires is besides prepared or committed, or its transaction dead
pub record AskedAreAccepted (w : View) : Type 0 where
  pub sent : (k : Key) → WasSent w Prepare k → IsAccepted w k
  pub asked : (k : Key) (b : Branch) → w.at k ≡ Some b → phase_of b.state ≡ Running → b.asked ≡ true → IsAccepted w k
  pub prepared : (k : Key) → IsReady w k → IsAccepted w k
  pub inquires : (k : Key) → WasSent w Inquire k → IsAccepted w k × IsSure w k

-- an undecided transaction is of its coordinator's current boot, and is committed nowhere
pub record UndecidedAreCurrent (w : View) : Type 0 where
  pub up : (t : Id) → IsRunning w (first t) → (w.status t.node).up ≡ true
  pub boot : (t : Id) → IsRunning w (first t) → t.boot ≡ (w.status t.node).boot
  pub unrecorded : (t : Id) → IsRunning w (first t) → (n : Name) (r : LogRecord) → In r (w.records n) → r.tid ≡ t → ⊥
  pub uncommitted : (t : Id) → IsRunning w (first t) → Commits w t → ⊥
  pub voted : (k : Key) (b : Branch) → w.at k ≡ Some b → phase_of b.state ≡ Running → (c : Child) → In c b.accepted → (v : Kind) → c.vote ≡ Some v
      → ((v ≡ Yes) ⊎ (v ≡ ReadOnly)) × WasSent w v (child k.tid c.serial)

-- the branch's two ids are old
pub record AreOld (w : View) (k : Key) : Type 0 where
  pub tid : IsOld w k.tid
  pub serial : IsOld w k.serial

-- each id that occurs is old, none was drawn twice, and no branch has accepted two serials by one identifier
pub record IdsAreOld (w : View) : Type 0 where
  pub at : (k : Key) → phase (w.at k) ≢ Gone → AreOld w k
  pub accepted : (k : Key) → IsAccepted w k → AreOld w k
  pub read_only : (k : Key) → IsReadOnly w k → AreOld w k
  pub settled : (k : Key) → IsSettled w k → AreOld w k
  pub sent : (m : Message) → In m w.sent → AreOld w (key_of m)
  pub made : (i : Id) → In i w.made → IsOld w i
  pub distinct : Distinct w.made
  pub identifiers : (k : Key) (b : Branch) → w.at k ≡ Some b → phase_of b.state ≡ Running → DistinctBids b.accepted

-- The eleven parts of agreement.
pub record Agrees (w : View) : Type 0 where
  -- each accepted serial of a committed transaction is prepared, committed or read-only
  pub accepted : (k : Key) → IsAccepted w k → Commits w k.tid → IsReady w k ⊎ (IsCommitted w k ⊎ IsReadOnly w k)
  -- where the transaction is committed and the branch prepared, a committed record of the coordinator waits for it
  pub owed : (k : Key) → IsReady w k → Commits w k.tid → w.there (coordinator_of k) ≡ true → Waits w (coordinator_of k) k
  -- where an Abort was sent to a branch, its transaction is dead, or it is committed or read-only
  pub aborts : (k : Key) → WasSent w Abort k → IsDead w k.tid ⊎ (IsCommitted w k ⊎ IsReadOnly w k)
  -- where a Commit was sent or a committed record waits, the transaction is committed, and the branch is accepted and is prepared or committed; a committed
  -- record or a committed branch is of a committed transaction
  pub commits : CommitsFollow w
  -- where a branch sent Yes, it is accepted, and is prepared or committed, or its transaction is dead
  pub yes : (k : Key) → WasSent w Yes k → IsAccepted w k × IsSure w k
  -- where a branch sent ReadOnly, it is read-only
  pub read_only : (k : Key) → WasSent w ReadOnly k → IsReadOnly w k
  -- where a branch sent Ack, it is committed
  pub acks : (k : Key) → WasSent w Ack k → IsCommitted w k
  -- what was sent a Prepare, was asked, is prepared or inquires is accepted
  pub asked : AskedAreAccepted w
  -- an undecided transaction is of the current boot of its coordinator, which is up, and has no committed record; a noted vote was sent
  pub undecided : UndecidedAreCurrent w
  -- each id has a boot that its node has reached and a sequence that was drawn; none was drawn twice, and no identifier has two serials. That a dead transaction stays dead is a law of runs
  pub ids : IdsAreOld w
  -- a branch has at most one settlement
  pub once : Once w.settled

-- a branch of its transaction: the first one, or an accepted one
abbrev pub IsBranch : View → Key → Type 0
IsBranch w k = (k ≡ first k.tid) ⊎ IsAccepted w k

-- no branch of a committed transaction is aborted
abbrev pub NoneAborted : View → Type 0
NoneAborted w = (k : Key) → IsBranch w k → Commits w k.tid → IsAborted w k → ⊥

-- no transaction has a committed branch and an aborted one
abbrev pub SettlesAlike : View → Type 0
SettlesAlike w = (j k : Key) → j.tid ≡ k.tid → IsBranch w k → IsCommitted w j → IsAborted w k → ⊥
