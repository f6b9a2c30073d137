-- What holds of every world, and what a message says stays said.
use Rattle.std.proofs.Common.{◌≡◌, ◌≢◌, true, List, Some, ◌⊎◌, inl, inr}
use Rattle.vms_model.specs.Ids.{Id}
use Rattle.vms_model.specs.Transactions.{Outcome, Commit as ToCommit, Abort as ToAbort}
use Rattle.commit_protocol.specs.Messages.{Name, Kind, Join, JoinOk, JoinNo, Prepare, Yes, ReadOnly, No, Commit, Abort, Ack, Inquire, Message, LogRecord}
use Rattle.commit_protocol.specs.Table.{Key, Branch, Child, first, key_of, coordinator_of, home_of}
use Rattle.commit_protocol.specs.World.{In}
use Rattle.commit_protocol.specs.Agreement.{Gone, Running, phase_of, phase, View, IsRunning, IsReady, IsCommitted, IsSettled, IsReadOnly, IsAccepted, Commits, IsOld, IsDead, Waits, IsHeld, IsSure, WasSent, Once, Distinct, DistinctBids, AreOld}

-- what a message of this kind, sent to this node, says of a branch
abbrev pub Says : View → Kind → Name → Key → Type 0
Says w Join to k = Unit {0}
Says w JoinOk to k = Unit {0}
Says w JoinNo to k = Unit {0}
Says w Prepare to k = IsAccepted w k
Says w Yes to k = IsAccepted w k × IsSure w k
Says w ReadOnly to k = IsReadOnly w k
Says w No to k = Unit {0}
Says w Commit to k = Commits w k.tid × IsAccepted w k × IsHeld w k × (to ≡ home_of k)
Says w Abort to k = IsDead w k.tid ⊎ (IsCommitted w k ⊎ IsReadOnly w k)
Says w Ack to k = IsCommitted w k
Says w Inquire to k = IsAccepted w k × IsSure w k × (to ≡ coordinator_of k)

-- of these children no other one than the branch's own has the identifier
abbrev pub LacksBid : Id → List Child → Type 0
LacksBid bid cs = (c : Child) → In c cs → c.bid ≡ bid → ⊥

-- what a node notes of an unprepared branch
pub record Noted (v : View) (b : Branch) : Type 0 where
  pub asked : b.asked ≡ true → IsAccepted v b.key
  pub voted : (c : Child) → In c b.accepted → (k : Kind) → c.vote ≡ Some k → ((k ≡ Yes) ⊎ (k ≡ ReadOnly)) × WasSent v k (record { tid = b.key.tid; serial = c.serial })
  pub taken : (c : Child) → In c b.accepted → IsAccepted v (record { tid = b.key.tid; serial = c.serial })
  pub single : DistinctBids b.accepted
  pub all : b.key ≡ first b.key.tid → (s : Id) → IsAccepted v (record { tid = b.key.tid; serial = s }) → (c : Child) × In c b.accepted × (c.serial ≡ s)

-- a unit that waits to be undone
pub record IsLost (v : View) (k : Key) : Type 0 where
  pub gone : phase (v.at k) ≡ Gone
  pub unsettled : (o : Outcome) → In (k, o) v.settled → ⊥
  pub unread : IsReadOnly v k → ⊥
  pub old : AreOld v k

pub record Inv (v : View) : Type 0 where
  pub says : (m : Message) → In m v.sent → Says v m.kind m.to (key_of m)
  pub whole : (k : Key) → IsAccepted v k → Commits v k.tid → IsReady v k ⊎ (IsCommitted v k ⊎ IsReadOnly v k)
  pub owed : (k : Key) → IsReady v k → Commits v k.tid → v.there k.tid.node ≡ true → Waits v k.tid.node k
  pub waits : (n : Name) (k : Key) → Waits v n k → Commits v k.tid × IsAccepted v k × (IsReady v k ⊎ IsCommitted v k)
  pub recorded : (n : Name) (r : LogRecord) → In r (v.records n) → Commits v r.tid
  pub upward : (k : Key) → IsCommitted v k → Commits v k.tid
  pub accepted : (k : Key) → IsReady v k → IsAccepted v k
  -- a branch that its node has is not settled and not read-only
  pub unsettled : (k : Key) → phase (v.at k) ≢ Gone → (o : Outcome) → In (k, o) v.settled → ⊥
  pub unread : (k : Key) → phase (v.at k) ≢ Gone → IsReadOnly v k → ⊥
  pub undecided : (t : Id) → IsRunning v (first t) → Commits v t → ⊥
  pub apart : (k : Key) → IsReadOnly v k → (o : Outcome) → In (k, o) v.settled → ⊥
  pub once : Once v.settled
  pub keyed : (k : Key) (b : Branch) → v.at k ≡ Some b → b.key ≡ k
  pub noted : (k : Key) (b : Branch) → v.at k ≡ Some b → phase_of b.state ≡ Running → Noted v b
  pub old_at : (k : Key) → phase (v.at k) ≢ Gone → AreOld v k
  pub old_accepted : (k : Key) → IsAccepted v k → AreOld v k
  pub old_read : (k : Key) → IsReadOnly v k → AreOld v k
  pub old_settled : (k : Key) → IsSettled v k → AreOld v k
  pub old_shown : (t : Id) → In t v.shown → IsOld v t
  pub old_sent : (m : Message) → In m v.sent → AreOld v (key_of m)
  pub old_made : (t : Id) → In t v.made → IsOld v t
  pub distinct : Distinct v.made
  pub current : (k : Key) → IsRunning v k → ((v.status k.serial.node).up ≡ true) × (k.serial.boot ≡ (v.status k.serial.node).boot)
  pub lost : (n : Name) (k : Key) → In k (v.lost n) → IsLost v k
  -- the first branch of a transaction that an opening image shows committed is not aborted, and no boot undoes it
  pub shown_first : (t : Id) → In t v.shown → In (first t, ToAbort) v.settled → ⊥
  pub shown_lost : (t : Id) → In t v.shown → (n : Name) → In (first t) (v.lost n) → ⊥

-- the transaction is old and not undecided, and will never be undecided again
pub record IsIdle (v : View) (t : Id) : Type 0 where
  pub old : IsOld v t
  pub undecided : phase (v.at (first t)) ≢ Running

pub idle_dead : (v : View) (t : Id) → IsDead v t → IsIdle v t
idle_dead v t h = record { old = h.old; undecided = h.undecided }

-- the second view is later: what was said stays said
pub record Later (v w : View) : Type 0 where
  pub sent : (m : Message) → In m v.sent → In m w.sent
  pub accepted : (k : Key) → IsAccepted v k → IsAccepted w k
  pub settled : (k : Key) (o : Outcome) → In (k, o) v.settled → In (k, o) w.settled
  pub read : (k : Key) → IsReadOnly v k → IsReadOnly w k
  pub shown : (t : Id) → In t v.shown → In t w.shown
  pub ready : (k : Key) → IsReady v k → IsSure w k
  pub dead : (t : Id) → IsDead v t → IsDead w t
  pub idle : (t : Id) → IsIdle v t → IsIdle w t
  -- no further branch of an idle transaction is waited for
  pub waits : (n : Name) (k : Key) → IsIdle v k.tid → Waits w n k → Waits v n k
  pub old : (i : Id) → IsOld v i → IsOld w i

-- the second view keeps what must hold, and is later
pub record Kept (v w : View) : Type 0 where
  pub inv : Inv w
  pub later : Later v w

pub later_commits : (v w : View) → Later v w → (t : Id) → Commits v t → Commits w t
later_commits v w l t (inl h) = inl (l.settled (first t) ToCommit h)
later_commits v w l t (inr h) = inr (l.shown t h)

pub later_sure : (v w : View) → Later v w → (k : Key) → IsSure v k → IsSure w k
later_sure v w l k (inl h) = l.ready k h
later_sure v w l k (inr (inl h)) = inr (inl (l.settled k ToCommit h))
later_sure v w l k (inr (inr h)) = inr (inr (l.dead k.tid h))

pub held_sure : (v : View) (k : Key) → Commits v k.tid → IsSure v k → IsReady v k ⊎ IsCommitted v k
held_sure v k c (inl h) = inl h
held_sure v k c (inr (inl h)) = inr h
held_sure v k c (inr (inr h)) = absurd (h.commits c)

pub later_held : (v w : View) → Later v w → (k : Key) → Commits v k.tid → IsReady v k ⊎ IsCommitted v k → IsReady w k ⊎ IsCommitted w k
later_held v w l k c (inl h) = held_sure w k (later_commits v w l k.tid c) (l.ready k h)
later_held v w l k c (inr h) = inr (l.settled k ToCommit h)

pub later_says : (v w : View) → Later v w → (d : Kind) (to : Name) (k : Key) → Says v d to k → Says w d to k
later_says v w l Join to k h = tt
later_says v w l JoinOk to k h = tt
later_says v w l JoinNo to k h = tt
later_says v w l Prepare to k h = l.accepted k h
later_says v w l Yes to k h = (l.accepted k h.0, later_sure v w l k h.1)
later_says v w l ReadOnly to k h = l.read k h
later_says v w l No to k h = tt
later_says v w l Commit to k h = (later_commits v w l k.tid h.0, l.accepted k h.1, later_held v w l k h.0 h.2, h.3)
later_says v w l Abort to k (inl h) = inl (l.dead k.tid h)
later_says v w l Abort to k (inr (inl h)) = inr (inl (l.settled k ToCommit h))
later_says v w l Abort to k (inr (inr h)) = inr (inr (l.read k h))
later_says v w l Ack to k h = l.settled k ToCommit h
later_says v w l Inquire to k h = (l.accepted k h.0, later_sure v w l k h.1, h.2)

-- the clocks moved on
pub later_when : (v w : View)
    → ((m : Message) → In m v.sent → In m w.sent)
    → ((k : Key) → IsAccepted v k → IsAccepted w k)
    → ((k : Key) (o : Outcome) → In (k, o) v.settled → In (k, o) w.settled)
    → ((k : Key) → IsReadOnly v k → IsReadOnly w k)
    → v.shown ≡ w.shown → ((i : Id) → IsOld v i → IsOld w i)
    → ((k : Key) → IsReady v k → IsSure w k)
    → ((t : Id) → IsIdle v t → IsRunning w (first t) → ⊥)
    → ((t : Id) → IsDead v t → Commits w t → ⊥)
    → ((n : Name) (k : Key) → IsIdle v k.tid → Waits w n k → Waits v n k)
    → Later v w
later_when v w sent acc settled read shown old ready undecided uncommitted waits = record {
  sent = sent;
  accepted = acc;
  settled = settled;
  read = read;
  shown = λ t h. rw (← shown) h;
  ready = ready;
  dead = λ t h. record { old = old t h.old; undecided = undecided t (idle_dead v t h); commits = uncommitted t h };
  idle = λ t h. record { old = old t h.old; undecided = undecided t h };
  waits = waits;
  old = old;
}

pub later_by : (v w : View)
    → ((m : Message) → In m v.sent → In m w.sent)
    → ((k : Key) → IsAccepted v k → IsAccepted w k)
    → ((k : Key) (o : Outcome) → In (k, o) v.settled → In (k, o) w.settled)
    → ((k : Key) → IsReadOnly v k → IsReadOnly w k)
    → v.shown ≡ w.shown → v.status ≡ w.status → v.there ≡ w.there
    → ((k : Key) → IsReady v k → IsSure w k)
    → ((t : Id) → IsIdle v t → IsRunning w (first t) → ⊥)
    → ((t : Id) → IsDead v t → Commits w t → ⊥)
    → ((n : Name) (k : Key) → IsIdle v k.tid → Waits w n k → Waits v n k)
    → Later v w
later_by v w sent acc settled read shown clock there ready undecided uncommitted waits =
    later_when v w sent acc settled read shown (λ i h. record { boot = rw (← clock, ← there) h.boot; seq = rw (← clock) h.seq }) ready undecided uncommitted waits

pub later_old : (v w : View) → Later v w → (k : Key) → AreOld v k → AreOld w k
later_old v w l k h = record { tid = l.old k.tid h.tid; serial = l.old k.serial h.serial }

pub later_was : (v w : View) → Later v w → (d : Kind) (k : Key) → WasSent v d k → WasSent w d k
later_was v w l d k h = (h.0, l.sent h.0 h.1, h.2, h.3)

-- a note stays right where no other serial of the transaction was accepted
pub later_noted : (v w : View) → Later v w → (b : Branch) → ((s : Id) → b.key ≡ first b.key.tid → IsAccepted w (record { tid = b.key.tid; serial = s }) → IsAccepted v (record { tid = b.key.tid; serial = s })) → Noted v b → Noted w b
later_noted v w l b same n = record {
  asked = λ h. l.accepted b.key (n.asked h);
  voted = λ c i k h. (let r = n.voted c i k h in r.0, later_was v w l k (record { tid = b.key.tid; serial = c.serial }) (n.voted c i k h).1);
  taken = λ c i. l.accepted (record { tid = b.key.tid; serial = c.serial }) (n.taken c i);
  single = n.single;
  all = λ f s h. n.all f s (same s f h);
}

pub later_trans : (u v w : View) → Later u v → Later v w → Later u w
later_trans u v w a b = record {
  sent = λ m h. b.sent m (a.sent m h);
  accepted = λ k h. b.accepted k (a.accepted k h);
  settled = λ k o h. b.settled k o (a.settled k o h);
  read = λ k h. b.read k (a.read k h);
  shown = λ t h. b.shown t (a.shown t h);
  ready = λ k h. later_sure v w b k (a.ready k h);
  dead = λ t h. b.dead t (a.dead t h);
  idle = λ t h. b.idle t (a.idle t h);
  waits = λ n k i h. a.waits n k i (b.waits n k (a.idle k.tid i) h);
  old = λ i h. b.old i (a.old i h);
}
